-- A taking leaves what a writeback carries, has and has counted as it was.
use Rattle.std.proofs.Common.{◌≡◌, ◌+◌, ◌∷◌, ◌∙◌, ℕ, Bool, true, false, cond, is_none, List, [], Option, Some, None, refl, sym, ap, inl, inr, if◌then◌else◌}
use Rattle.call_history.specs.Parts.{done_sum}
use Rattle.call_history.specs.declared.part.Part.{Part}
use Rattle.call_history.specs.declared.part.PartEnd.{PartEnd}
use Rattle.joint_rule.proofs.Trips.{NoTrip, plain_entered}
use Rattle.joint_rule.specs.Weights.{BlockWeigh, block_uses, carried_at, carried_by, carries, carries_at, reserves_in, reserves_told, use_in, writes_in, writes_told, written_at, written_by, wrote_in, wrote_told}
use Rattle.lock_row.specs.declared.names.At.{At}
use Rattle.lock_row.specs.declared.names.At.TheVariants.{Start, Visiting}
use Rattle.lock_row.specs.declared.names.Step.{Step}
use Rattle.lock_row.specs.declared.names.Step.TheVariants as step
use Rattle.lock_row.specs.declared.names.Trip.{Trip}
use Rattle.page_steps.specs.Steps.{DiskHeld, Here, Terms, after_take, arrived_at, begun_at, entry_in, entry_or, first_at, first_trip, is_mark_of, landed_at, taken_at, took, visited_at, mode_of}
use Rattle.plain_disk.specs.Ends.{left_back, tried, written}
use Rattle.page_steps.specs.Pages.{next_form}
use Rattle.slot_entry.specs.Entries.{EntryState, is_eligible}
use Rattle.slot_entry.specs.Forms.{PageForm}
use Rattle.std.proofs.lemmas.Bool.{cases_Bool}
use Rattle.zr_base.specs.Plain.{is_beyond, is_maintenance}
use Rattle.zr_base.specs.declared.op.Op.{Op}
use Rattle.zr_base.specs.declared.op.Op.TheVariants.{Compact, Discard, Idle, Read, Write, Writeback}

-- The second stage says what the first does.
pub record AlikeAt (was now : At) : Type 0 where
  pub uses : (f : BlockWeigh) → use_in f now ≡ use_in f was
  pub written : (b : ℕ) (bytes : List ℕ) (page : Option (List ℕ))
      → written_by b bytes now page ≡ written_by b bytes was page
  pub carries : carries_at now ≡ carries_at was
  pub carried : (s b : ℕ) (bytes : List ℕ) (page : Option (List ℕ))
      → carried_by s b bytes now page ≡ carried_by s b bytes was page
  pub wrote : wrote_in now ≡ wrote_in was
  pub writes : (fail : Option PartEnd) → writes_in now fail ≡ writes_in was fail
  pub reserves : reserves_in now ≡ reserves_in was

same_alike : (at : At) → AlikeAt at at
same_alike at = record {
  uses = λ f. refl;
  written = λ b bytes page. refl;
  carries = refl;
  carried = λ s b bytes page. refl;
  wrote = refl;
  writes = λ fail. refl;
  reserves = refl;
}

from_start : (at : At) → NoTrip at → AlikeAt Start at
from_start (Visiting s x) i = absurd i
from_start at i = record {
  uses = λ f. refl;
  written = λ b bytes page. refl;
  carries = refl;
  carried = λ s b bytes page. refl;
  wrote = refl;
  writes = λ fail. refl;
  reserves = refl;
}

plain_alike : (was now : At) → NoTrip was → NoTrip now → AlikeAt was now
plain_alike was now i k = let x = from_start was i in let y = from_start now k in record {
  uses = λ f. y.uses f ∙ sym (x.uses f);
  written = λ b bytes page. y.written b bytes page ∙ sym (x.written b bytes page);
  carries = y.carries ∙ sym x.carries;
  carried = λ s b bytes page. y.carried s b bytes page ∙ sym (x.carried s b bytes page);
  wrote = y.wrote ∙ sym x.wrote;
  writes = λ fail. y.writes fail ∙ sym (x.writes fail);
  reserves = y.reserves ∙ sym x.reserves;
}

arrived_alike : (b : Bool) (x : Trip) → AlikeAt (Visiting step.Arriving x) (arrived_at b x)
arrived_alike true x = record {
  uses = λ f. refl;
  written = λ b bytes page. refl;
  carries = refl;
  carried = λ s b bytes page. refl;
  wrote = refl;
  writes = λ fail. refl;
  reserves = refl;
}
arrived_alike false x = record {
  uses = λ f. refl;
  written = λ b bytes page. refl;
  carries = refl;
  carried = λ s b bytes page. refl;
  wrote = refl;
  writes = λ fail. refl;
  reserves = refl;
}

landed_alike : (fail : Option PartEnd) (x : Trip) (e : EntryState)
    → AlikeAt (Visiting step.Landing x) (landed_at fail x e)
landed_alike None x e = elim (cases_Bool (is_mark_of x.block e.under)) [
  | inl on ↦ rw on (record {
    uses = λ f. refl;
    written = λ b bytes page. refl;
    carries = refl;
    carried = λ s b bytes page. refl;
    wrote = refl;
    writes = λ fail. refl;
    reserves = refl;
  })
  | inr off ↦ rw off (record {
    uses = λ f. refl;
    written = λ b bytes page. refl;
    carries = refl;
    carried = λ s b bytes page. refl;
    wrote = refl;
    writes = λ fail. refl;
    reserves = refl;
  })
]
landed_alike (Some end) x e = record {
  uses = λ f. refl;
  written = λ b bytes page. refl;
  carries = refl;
  carried = λ s b bytes page. refl;
  wrote = refl;
  writes = λ fail. refl;
  reserves = refl;
}

visited_alike : (s : Step) (x : Trip) (op : Op) (e : EntryState) (fail : Option PartEnd)
    → AlikeAt (Visiting s x) (visited_at s x op e fail)
visited_alike step.Arriving x op e fail = arrived_alike _ x
visited_alike step.Landing x op e fail = landed_alike fail x e
visited_alike s x op e fail = record {
  uses = λ f. refl;
  written = λ b bytes page. refl;
  carries = refl;
  carried = λ s b bytes page. refl;
  wrote = refl;
  writes = λ fail. refl;
  reserves = refl;
}

-- a writeback begins with nothing
first_trip_alike : (b : Bool) → AlikeAt Start (arrived_at b first_trip)
first_trip_alike true = record {
  uses = λ f. refl;
  written = λ b bytes page. refl;
  carries = refl;
  carried = λ s b bytes page. refl;
  wrote = refl;
  writes = no_writes;
  reserves = refl;
} where
  no_writes : (fail : Option PartEnd)
      → writes_in (arrived_at true first_trip) fail ≡ writes_in Start fail
  no_writes None = refl
  no_writes (Some end) = refl
first_trip_alike false = record {
  uses = λ f. refl;
  written = λ b bytes page. refl;
  carries = refl;
  carried = λ s b bytes page. refl;
  wrote = refl;
  writes = no_writes;
  reserves = refl;
} where
  no_writes : (fail : Option PartEnd)
      → writes_in (arrived_at false first_trip) fail ≡ writes_in Start fail
  no_writes None = refl
  no_writes (Some end) = refl

-- ---- a writeback stays one

pub arrived_is : (b : Bool) (x : Trip) → (s : Step) × (y : Trip) × (arrived_at b x ≡ Visiting s y)
arrived_is true x = (step.Asking, x, refl)
arrived_is false x = (step.Passing, x, refl)

landed_is : (fail : Option PartEnd) (x : Trip) (e : EntryState)
    → (s : Step) × (y : Trip) × (landed_at fail x e ≡ Visiting s y)
landed_is None x e = by_mark (is_mark_of x.block e.under) where
  by_mark : (b : Bool) → (s : Step) × (y : Trip)
      × ((if b then Visiting step.Won x else Visiting step.Losing x) ≡ Visiting s y)
  by_mark true = (step.Won, x, refl)
  by_mark false = (step.Losing, x, refl)
landed_is (Some end) x e = (step.Losing, x, refl)

pub visited_is : (s : Step) (x : Trip) (op : Op) (e : EntryState) (fail : Option PartEnd)
    → (t : Step) × (y : Trip) × (visited_at s x op e fail ≡ Visiting t y)
visited_is step.Arriving x op e fail = arrived_is (is_eligible (mode_of op) e) x
visited_is step.Asking x op e fail = (step.Reserving, x, refl)
visited_is step.Seen x op e fail = (step.Pinning, x, refl)
visited_is step.Pinned x op e fail = (step.Unpinning, x, refl)
visited_is step.Flying x op e fail = (step.Storing, x, refl)
visited_is step.Landing x op e fail = landed_is fail x e
visited_is step.Won x op e fail = (step.Freeing, x, refl)
visited_is step.Backing x op e fail = (step.Committing, x, refl)
visited_is step.Owing x op e fail = (step.Paying, x, refl)
visited_is step.Undoing x op e fail = (step.Releasing, x, refl)
visited_is s x op e fail = (s, x, refl)

first_alike : (op : Op) (e : EntryState) → AlikeAt Start (first_at op e)
first_alike (Writeback mode) e = first_trip_alike (is_eligible mode e)
first_alike (Write start count stuff) e = plain_alike Start _ tt tt
first_alike (Read start count) e = plain_alike Start _ tt tt
first_alike (Discard start count) e = plain_alike Start _ tt tt
first_alike (Idle age) e = plain_alike Start _ tt tt
first_alike Compact e = plain_alike Start _ tt tt

begun_alike : (a b : Bool) (p : Part) (f : PageForm) (e : EntryState)
    → AlikeAt Start (begun_at a b p f e)
begun_alike true b p f e = first_alike p.op e
begun_alike false true p f e = plain_alike Start _ tt tt
begun_alike false false p f e = plain_alike Start _ tt (plain_entered p.op p.page f e.kept)

after_alike : (size : ℕ) (at : At) (p : Part) (f : PageForm) (e : EntryState)
    (fail : Option PartEnd) → AlikeAt at (after_take size at p f e fail)
after_alike size Start p f e fail =
    begun_alike (is_maintenance p.op) (is_beyond size p.op) p f e
after_alike size (Visiting s x) p f e fail = visited_alike s x p.op e fail
after_alike size at p f e fail = plain_alike at _ tt tt

taken_alike : (size : ℕ) (todo : List Part) (at : At) (page : Option (List ℕ)) (e : EntryState)
    (fail : Option PartEnd) → AlikeAt at (taken_at size todo at page e fail)
taken_alike size [] at page e fail = same_alike at
taken_alike size (p ∷ ps) at page e fail =
    after_alike size at p (next_form p page e.kept) e fail

-- What the second local says of blocks, of what it carries and of its writes, the first does.
pub record Alike (l m : Here) : Type 0 where
  pub uses : (f : BlockWeigh) → block_uses f m ≡ block_uses f l
  pub written : (b : ℕ) (bytes : List ℕ) → written_at b bytes m ≡ written_at b bytes l
  pub carries : carries m ≡ carries l
  pub carried : (s b : ℕ) (bytes : List ℕ) → carried_at s b bytes m ≡ carried_at s b bytes l
  pub wrote : wrote_told m ≡ wrote_told l
  pub writes : writes_told m ≡ writes_told l
  pub reserves : reserves_told m ≡ reserves_told l

pub take_alike : (t : Terms) (l : Here) (v : DiskHeld) → Alike l (took t l v)
take_alike t l v =
    let x = taken_alike t.size l.todo l.at l.page (entry_or v (entry_in l.held)) l.fail in record {
      uses = x.uses;
      written = λ b bytes. ap (λ (n : ℕ). cond (is_none l.fail) n 0) (x.written b bytes l.page);
      carries = x.carries;
      carried = λ s b bytes. x.carried s b bytes l.page;
      wrote = ap (λ (n : ℕ). done_sum left_back l.done + n) x.wrote;
      writes = ap (λ (n : ℕ). done_sum written l.done + n) (x.writes l.fail);
      reserves = ap (λ (n : ℕ). done_sum tried l.done + n) x.reserves;
    }
