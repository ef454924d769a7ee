-- A page with its order, beside the pieces that are over.
use Rattle.std.specs.Prelude.{◌≡◌, ◌≢◌, ℕ, ◌+◌, ◌-◌, ◌*◌, ◌<◌, true, List, [], ◌∷◌, ◌++◌, take, Some, slice_get, if◌then◌else◌, ⊤}
use Rattle.zr_base.specs.declared.op.Tag.{Tag}
use Rattle.zr_base.specs.Sectors.{page_sector}
use Rattle.zr_base.specs.declared.op.Op.{Op}
use Rattle.zr_base.specs.declared.op.Op.TheVariants.{Read}
use Rattle.zr_base.specs.Plain.{Look, start_from, sector_after}
use Rattle.plain_disk.specs.Phases.{Given, held_after, found_in}
use Rattle.call_history.specs.declared.part.Part.{Part}
use Rattle.call_history.specs.declared.part.Done.{Done}
use Rattle.call_history.specs.Parts.{is_carried, is_on, noted_on, ops_of, got_by}

-- the tag of an actor's piece
abbrev pub tag_by : ℕ → Part → Tag
tag_by actor p = record { actor = actor; op = p.nr }

-- the piece of the actor stands in the order, and what it read is what it finds after the calls before
-- it
abbrev pub IsTold : Given → ℕ → Done → List Tag → Type 0
IsTold g a d order =
    (at : ℕ) × (slice_get order at ≡ Some (tag_by a d.part))
    × (d.got ≡ (if is_carried d.end then got_by d.part.op d.part.page
    (found_in g d.part.page (tag_by a d.part) (take at order)) else []))

-- The page is what the calls of its order leave, the order has each actor's noted pieces in turn,
-- and each of them that is over has read what it finds after the calls before it.
pub record ShowsPage (g : Given) (done : ℕ → List Done) (p : ℕ) (page : List ℕ)
    (order : List Tag) : Type 0 where
  pub holds : (k : ℕ) → k < 8 → page_sector page k ≡ held_after g p order (8 * p + k)
  pub turns : (a : ℕ) → ops_of a order ≡ noted_on p (done a)
  pub reads : (a i : ℕ) (d : Done) → slice_get (done a) i ≡ Some d → is_on p d ≡ true
      → IsTold g a d order

-- The piece of the actor, which finds this, is carried out on a page with its order.
pub record Carries (actor : ℕ) (p : Part) (look : Look) (page : List ℕ) (order : List Tag)
    (page' : List ℕ) (order' : List Tag) : Type 0 where
  pub notes : order' ≡ order ++ tag_by actor p ∷ []
  pub holds : (k : ℕ) → k < 8 → page_sector page' k
      ≡ sector_after p.op (8 * p.page + k)
      (start_from p.op look (8 * p.page + k) (page_sector page k))

-- These are the bytes that a call sees of page p: in each sector what it finds there.
pub record Sees (look : Look) (p : ℕ) (page seen : List ℕ) : Type 0 where
  pub each : (k : ℕ) → k < 8 → page_sector seen k ≡ look (8 * p + k) (page_sector page k)

-- where a piece is a read, it sees these
abbrev pub SeesSo : Op → Look → ℕ → List ℕ → List ℕ → Type 0
SeesSo (Read start count) look p page seen = Sees look p page seen
SeesSo _ look p page seen = ⊤

-- what a piece reads, where it sees this page
abbrev pub got_from : List ℕ → Part → List (List ℕ)
got_from page p = got_by p.op p.page (λ s. page_sector page (s - 8 * p.page))

-- One actor has one more piece that is over.
pub record Grown (D D' : ℕ → List Done) (a : ℕ) (d : Done) : Type 0 where
  pub here : D' a ≡ D a ++ d ∷ []
  pub others : (b : ℕ) → b ≢ a → D' b ≡ D b
