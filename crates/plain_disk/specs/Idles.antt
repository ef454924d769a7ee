-- Idle pages: what the operations of a phase's only actor say of them, and what any phase leaves of
-- them.
use Rattle.std.specs.Prelude.{◌≡◌, ℕ, ◌+◌, ◌<◌, Bool, true, false, ◌&&◌, ◌||◌, not, List, [], ◌∷◌, Option, Some, sum_by, if◌then◌else◌, ⊤}
use Rattle.std.specs.List.{range_with_len}
use Rattle.zr_base.specs.declared.op.Tag.{Tag}
use Rattle.zr_base.specs.declared.op.Op.{Op}
use Rattle.zr_base.specs.declared.op.Op.TheVariants.{Idle}
use Rattle.zr_base.specs.declared.op.OpEnd.{OpEnd}
use Rattle.zr_base.specs.declared.op.OpEnd.TheVariants as ends
use Rattle.zr_base.specs.Plain.{Look, Finds, is_older, is_marking, is_writeback, stands_on}
use Rattle.mem_account.specs.declared.weight.Weight.{Weight}
use Rattle.plain_disk.specs.Forms.{is_pooled}
use Rattle.plain_disk.specs.Calls.{Found, kept_as, after, leaves_page}
use Rattle.plain_disk.specs.Rests.{Rest, page_of, kept_at}

-- ---- the pages of a phase's only actor

-- A page between two operations: what calls find there, whether it is on the device, when it was
-- touched last, and whether it is idle.
pub record Aged : Type 0 where
  pub found : Found
  pub back : Bool
  pub touched : ℕ
  pub idle : Bool

-- whether page p may be marked: it is in the pool, and its last access is more than so many seconds ago
abbrev pub may_mark : (List ℕ → Weight) → ℕ → ℕ → Option ℕ → Aged → Bool
may_mark form clock p age s =
    is_pooled (kept_as form p s.found) && (not s.back && is_older clock age s.touched)

-- 1 where the mark is new
abbrev pub new_mark : (List ℕ → Weight) → ℕ → ℕ → Option ℕ → Aged → ℕ
new_mark form clock p age s = if may_mark form clock p age s && not s.idle then 1 else 0

-- the tag of an operation of the only actor
abbrev pub only_tag : ℕ → Tag
only_tag nr = record { actor = 0; op = nr }

-- the page after a call that stands in its order and finds this
abbrev pub accessed : ℕ → Op → Look → Aged → Aged
accessed clock op look s = record {
  found = after (Some op) look s.found;
  back = s.back && leaves_page (Some op);
  touched = clock;
  idle = false;
}

-- the page after an operation that doesn't: it may be marked
abbrev pub passed : (List ℕ → Weight) → ℕ → ℕ → Op → Aged → Aged
passed form clock p (Idle age) s = record s { idle = s.idle || may_mark form clock p age s }
passed form clock p _ s = s

-- the page after an operation with this end, which finds this
abbrev pub aged_by : (List ℕ → Weight) → ℕ → Op → OpEnd → Look → ℕ → Aged → Aged
aged_by form clock op end look p s =
    if stands_on op end p then accessed clock op look s else passed form clock p op s

-- all pages after an operation, which is the nr-th
abbrev pub each_by : (List ℕ → Weight) → ℕ → (ℕ → Finds) → ℕ → Op → OpEnd → (ℕ → Aged) → ℕ → Aged
each_by form clock finds nr op end pages p =
    aged_by form clock op end (finds p (only_tag nr)) p (pages p)

-- the pages after some operations, of which the first is the nr-th
abbrev pub pages_after : (List ℕ → Weight) → Rest → (ℕ → Finds) → ℕ → (ℕ → Aged) → List Op
    → List OpEnd → ℕ → Aged
pages_after form r finds nr pages [] es p = pages p
pages_after form r finds nr pages (op ∷ ops) [] p = pages p
pages_after form r finds nr pages (op ∷ ops) (end ∷ es) p = pages_after form r finds (nr + 1)
    (each_by form r.set.clock finds nr op end pages) ops es p

-- an operation that marks has counted the marks that are new, on a disk of so many pages
abbrev pub IsMarked : (List ℕ → Weight) → ℕ → ℕ → (ℕ → Aged) → Op → OpEnd → Type 0
IsMarked form clock size pages (Idle age) (ends.Marked n) =
    n ≡ sum_by (λ p. new_mark form clock p age (pages p)) (range_with_len 0 size)
IsMarked form clock size pages op end = ⊤

-- and so has each
abbrev pub AreMarked : (List ℕ → Weight) → Rest → (ℕ → Finds) → ℕ → (ℕ → Aged) → List Op
    → List OpEnd → Type 0
AreMarked form r finds nr pages [] es = ⊤
AreMarked form r finds nr pages (op ∷ ops) [] = ⊤
AreMarked form r finds nr pages (op ∷ ops) (end ∷ es) =
    IsMarked form r.set.clock r.size pages op end
    × AreMarked form r finds (nr + 1) (each_by form r.set.clock finds nr op end pages) ops es

-- the pages as a phase finds them
abbrev pub pages_at : Rest → ℕ → Aged
pages_at r p =
    record { found = page_of r p; back = r.back p; touched = r.touched p; idle = r.idle p }

-- ---- any phase

-- whether some operation of an actor marks pages
abbrev pub marks_some : List Op → Bool
marks_some [] = false
marks_some (op ∷ ops) = is_marking op || marks_some ops

-- whether some actor's does
abbrev pub is_marked_in : List (List Op) → Bool
is_marked_in [] = false
is_marked_in (ops ∷ more) = marks_some ops || is_marked_in more

-- whether some operation of an actor writes pages back
abbrev pub writes_some : List Op → Bool
writes_some [] = false
writes_some (op ∷ ops) = is_writeback op || writes_some ops

-- whether some actor's does
abbrev pub is_written_in : List (List Op) → Bool
is_written_in [] = false
is_written_in (ops ∷ more) = writes_some ops || is_written_in more

-- whether pages may be written back: the disk has a backing, and some actor does so
abbrev pub may_write : Bool → List (List Op) → Bool
may_write backed actors = backed && is_written_in actors

-- What a page's mark may be after a phase with this order: only a page of the pool is idle; a page
-- that was idle stays so where no call stands in its order, or it is on the device; and where no
-- operation marks pages, no other page is idle.
pub record KeepsMark (pooled was marks back : Bool) (order : List Tag) (is : Bool) : Type 0 where
  pub pooled_one : is ≡ true → pooled ≡ true
  pub stays : order ≡ [] → was ≡ true → back ≡ false → is ≡ true
  pub only : marks ≡ false → is ≡ true → (order ≡ []) × (was ≡ true)
