-- Where a call that writes pages back goes on: at a page whose slot it has taken, and at the next page.
use Rattle.std.proofs.Common.{◌≡◌, ℕ, ◌+◌, ◌≤◌, ◌&&◌, Bool, true, false, List, [], Option, Some, None, refl, sym, ap, ◌∙◌, subst, inl, inr, arith}
use Rattle.std.proofs.lemmas.Bool.{ne_eqb, eq-eqb, cases_eq, false≢true}
use Rattle.std.specs.Prelude.{is_none, if◌then◌else◌}
use Rattle.zr_base.specs.declared.op.Mode.{Mode}
use Rattle.zr_base.specs.declared.op.Op.TheVariants.{Writeback}
use Rattle.lock_row.specs.declared.names.LockNo.{LockNo}
use Rattle.lock_row.specs.declared.names.At.TheVariants as at
use Rattle.lock_row.specs.declared.names.Step.TheVariants as step
use Rattle.lock_row.specs.declared.names.Held.TheVariants as holds
use Rattle.lock_row.specs.declared.names.Plan.TheVariants.{Give}
use Rattle.lock_row.specs.declared.names.Trip.{Trip}
use Rattle.slot_entry.specs.declared.kept.Kept.{Kept}
use Rattle.slot_entry.specs.declared.kept.Kept.TheVariants as kept
use Rattle.slot_entry.specs.Entries.{EntryState, is_obj, is_meant, is_eligible}
use Rattle.page_steps.specs.Steps.{DiskHeld, slot, on, with_lock, took, arrived_at, landed_at, is_mark_of, mode_of, entry_or, entry_in}
use Rattle.page_steps.specs.Nexts.{Next, tail_of}
use Rattle.page_steps.specs.Visits.{onward, onward_by}
use Rattle.page_steps.specs.Calls.{Frame, ends_of}
use Rattle.page_steps.specs.declared.stage.PieceEnd.{PieceEnd}
use Rattle.page_steps.specs.declared.stage.PieceEnd.TheVariants as ends
use Rattle.page_steps.specs.declared.stage.Progress.{Progress}
use Rattle.page_steps.specs.declared.stage.Progress.TheVariants as progress
use Rattle.page_steps.specs.declared.stage.Scratch.{Scratch}
use Rattle.post_steps.specs.Turns.{GivesAs}
use Rattle.post_steps.specs.Writeback.{IsWork, IsFit, IsGoing, IsReady, HasAdvanced, HasRoom, HasBlock, AreStops, here, held_of, next_event, arrived_with, landed_with}
use Rattle.post_steps.specs.declared.writeback.WritebackHead.{WritebackHead}
use Rattle.post_steps.specs.declared.writeback.WritebackStage.{WritebackStage}
use Rattle.post_steps.specs.declared.writeback.WritebackStage.TheVariants as stage
use Rattle.post_steps.proofs.VisitTurns.{gives_it, told_so}
use Rattle.post_steps.proofs.Writebacks.{AnyDevice}

-- ---- a slot is taken

module _ (D : Type 0) (x : Frame) (r : Scratch) where
  -- a page is in the pool where it is to be written back
  pub arrived_here : (y : Trip) (e : EntryState) (meant : Bool) (k : Kept)
      → (meant ≡ true → is_obj k ≡ true)
      → here {D = D} x r (arrived_with meant y e k)
      ≡ with_lock (here {D = D} x r (stage.Arriving y)) (arrived_at meant y) (slot y.page) (holds.Slot e)
  arrived_here y e true (kept.Obj o) some = refl
  arrived_here y e true kept.Empty some = absurd (false≢true (some refl))
  arrived_here y e true (kept.Same u) some = absurd (false≢true (some refl))
  arrived_here y e true (kept.Wb b) some = absurd (false≢true (some refl))
  arrived_here y e false k some = refl

pub arrived_fit : (D : Type 0) (c : WritebackHead) (y : Trip) (e : EntryState) (meant : Bool) (k : Kept)
    → e.kept ≡ k → HasRoom c y → IsFit {D = D} c (arrived_with meant y e k)
arrived_fit D c y e true (kept.Obj o) is room = (room, is)
arrived_fit D c y e true kept.Empty is room = room
arrived_fit D c y e true (kept.Same u) is room = room
arrived_fit D c y e true (kept.Wb b) is room = room
arrived_fit D c y e false k is room = room

pub arrived_going : (D : Type 0) (y : Trip) (e : EntryState) (meant : Bool) (k : Kept)
    → IsGoing {D = D} (arrived_with meant y e k)
arrived_going D y e true (kept.Obj o) = tt
arrived_going D y e true kept.Empty = tt
arrived_going D y e true (kept.Same u) = tt
arrived_going D y e true (kept.Wb b) = tt
arrived_going D y e false k = tt

-- only a page in the pool is to be written back
pub meant_obj : (m : Mode) (e : EntryState) → is_eligible m e ≡ true → is_obj e.kept ≡ true
meant_obj m e meant = by (is_obj e.kept) refl where
  by : (b : Bool) → is_obj e.kept ≡ b → is_obj e.kept ≡ true
  by true is = is
  by false is = absurd (false≢true
      (sym (ap (λ (b : Bool). b && (is_none e.under && is_meant m e.kept e.idle)) is) ∙ meant))

-- the slot of the page that it is at was taken
pub took_page : (x : Frame) (r : Scratch) (y : Trip) (e : EntryState) (v : DiskHeld)
    (m : Mode) → x.part.op ≡ Writeback m → v ≡ holds.Slot e
    → with_lock (here {D = AnyDevice} x r (stage.Arriving y)) (arrived_at (is_eligible m e) y) (slot y.page)
    (holds.Slot e)
    ≡ took x.terms (here {D = AnyDevice} x r (stage.Arriving y)) v
took_page x r y e v m is v_is =
    λ i. with_lock (here {D = AnyDevice} x r (stage.Arriving y))
    (arrived_at (is_eligible (mode_of (sym is i)) (entry_or (sym v_is i) (entry_in []))) y)
    (slot y.page) (sym v_is i)

-- ---- the slot is taken again

module _ (D : Type 0) (x : Frame) (r : Scratch) where
  -- a page is in the pool where the mark still stands
  pub landed_here : (y : Trip) (e : EntryState) (end : Option PieceEnd) (mark : Bool) (k : Kept)
      → is_mark_of y.block e.under ≡ mark → (mark ≡ true → is_obj k ≡ true)
      → here {D = D} x r (landed_with end mark y e k)
      ≡ with_lock (here {D = D} x r (stage.Landing y end)) (landed_at (ends_of end) y e) (slot y.page)
      (holds.Slot e)
  landed_here y e None true (kept.Obj o) is some =
      ap (λ (b : Bool). with_lock (here {D = D} x r (stage.Landing y None))
      (if b then at.Visiting step.Won y else at.Visiting step.Losing y) (slot y.page) (holds.Slot e))
      (sym is)
  landed_here y e None true kept.Empty is some = absurd (false≢true (some refl))
  landed_here y e None true (kept.Same u) is some = absurd (false≢true (some refl))
  landed_here y e None true (kept.Wb b) is some = absurd (false≢true (some refl))
  landed_here y e None false k is some =
      ap (λ (b : Bool). with_lock (here {D = D} x r (stage.Landing y None))
      (if b then at.Visiting step.Won y else at.Visiting step.Losing y) (slot y.page) (holds.Slot e))
      (sym is)
  landed_here y e (Some end) mark k is some = refl

pub landed_fit : (D : Type 0) (c : WritebackHead) (y : Trip) (e : EntryState) (end : Option PieceEnd)
    (mark : Bool) (k : Kept) → e.kept ≡ k → HasBlock c y → AreStops end
    → IsFit {D = D} c (landed_with end mark y e k)
landed_fit D c y e None true (kept.Obj o) is has stops = (has, is)
landed_fit D c y e None true kept.Empty is has stops = (has, stops)
landed_fit D c y e None true (kept.Same u) is has stops = (has, stops)
landed_fit D c y e None true (kept.Wb b) is has stops = (has, stops)
landed_fit D c y e None false k is has stops = (has, stops)
landed_fit D c y e (Some end) mark k is has stops = (has, stops)

pub landed_going : (D : Type 0) (y : Trip) (e : EntryState) (end : Option PieceEnd) (mark : Bool)
    (k : Kept) → IsGoing {D = D} (landed_with end mark y e k)
landed_going D y e None true (kept.Obj o) = tt
landed_going D y e None true kept.Empty = tt
landed_going D y e None true (kept.Same u) = tt
landed_going D y e None true (kept.Wb b) = tt
landed_going D y e None false k = tt
landed_going D y e (Some end) mark k = tt

-- the slot of its page was taken again
pub took_again : (x : Frame) (r : Scratch) (y : Trip) (e : EntryState)
    (end : Option PieceEnd) (v : DiskHeld) → v ≡ holds.Slot e
    → with_lock (here {D = AnyDevice} x r (stage.Landing y end)) (landed_at (ends_of end) y e) (slot y.page)
    (holds.Slot e)
    ≡ took x.terms (here {D = AnyDevice} x r (stage.Landing y end)) v
took_again x r y e end v v_is =
    λ i. with_lock (here {D = AnyDevice} x r (stage.Landing y end))
    (landed_at (ends_of end) y (entry_or (sym v_is i) (entry_in []))) (slot y.page) (sym v_is i)

-- ---- the next page

module _ {X : Type 0} {can_take : X → LockNo → Next → Type 0}
    {takes : X → LockNo → Next → DiskHeld → X → Type 0} {misses : X → LockNo → X → Type 0}
    {can_give : X → LockNo → Next → DiskHeld → Type 0}
    {gives : X → LockNo → Next → DiskHeld → X → Type 0}
    {D : Type 0} {c : WritebackHead} {r : Scratch} {s : WritebackStage D} {h g : X} {k : LockNo} where
  -- the visit of a page is over, and z is the next one
  pub goes_onward : (f : Next) (z : Trip) {v : DiskHeld} {s' : WritebackStage D} {p : Progress}
      → IsReady can_take takes can_give c r s h → IsGoing s → next_event s ≡ Give k
      → GivesAs (IsWork c) (λ x. here x r s) f v → gives h k f v g
      → tail_of (held_of s) ≡ [] → z.page ≤ c.pages → z.wrote + z.lost ≤ z.page
      → ((x : Frame) → f (here x r s) v ≡ onward c.pages z (here x r s) v)
      → (z.page ≡ c.pages → (s' ≡ stage.Over) × (p ≡ progress.Done (ends.Written z.wrote z.lost)))
      → ((z.page ≡ c.pages → ⊥) → (s' ≡ stage.Arriving z) × (p ≡ progress.Moved))
      → HasAdvanced takes misses gives c r s h r s' g p
  goes_onward f z {v} {s'} {p} ready going what so give one page few is over next =
      elim (cases_eq z.page c.pages) [
        | inl last ↦ told_so (over last).0 (over last).1
            (gives_it f ready going what so give tt refl refl (λ x. tt)
            (λ x w. is x ∙ ap (λ (b : Bool). onward_by z b (here x r s) v) (eq-eqb z.page c.pages last)))
        | inr other ↦ told_so (next other).0 (next other).1
            (gives_it f ready going what so give
            (record { page = omega (arith, page, other); few = few }) tt refl (λ x. tt)
            (λ x w. is x
            ∙ ap (λ (b : Bool). onward_by z b (here x r s) v) (ne_eqb z.page c.pages other)
            ∙ ap (λ (held : List (LockNo × DiskHeld)). on (here x r s) (at.Visiting step.Arriving z) held
            None None 0 None None None None) one))
      ]
