-- The events of a call that marks pages: what a taken value is, which local an event may name, and
-- where it leads.
use Rattle.std.proofs.Common.{◌≡◌, ℕ, ◌+◌, ◌≤◌, Bool, true, false, cond, [], None, refl, sym, ap, ◌∙◌, subst, arith}
use Rattle.std.proofs.lemmas.Bool.{ne_eqb, eq-eqb}
use Rattle.zr_base.specs.declared.op.Op.{Op}
use Rattle.zr_base.specs.Plain.{is_beyond, is_maintenance}
use Rattle.lock_row.specs.declared.names.Held.TheVariants as holds
use Rattle.lock_row.specs.declared.names.Scan.{Scan}
use Rattle.slot_entry.specs.Entries.{EntryState, marked, is_new_mark}
use Rattle.page_steps.specs.Pages.{next_form}
use Rattle.page_steps.specs.Steps.{DiskHeld, with_lock, begun_at, entry_or, entry_in, lock_of, start_plan}
use Rattle.page_steps.specs.Givings.{marks}
use Rattle.page_steps.specs.Scans.{with_page, marking_by, marking, scans}
use Rattle.page_steps.specs.Fits.{AsSlot, StartFits}
use Rattle.page_steps.specs.Calls.{Frame}
use Rattle.page_steps.specs.declared.stage.Progress.TheVariants as progress
use Rattle.page_steps.specs.declared.stage.PieceEnd.TheVariants as ends
use Rattle.post_steps.specs.Turns.{TakesAs, GivesAs, FitsSome, after}
use Rattle.post_steps.specs.Idle.{IsWork, HasRoom, here, entering}
use Rattle.post_steps.specs.declared.idle.IdleHead.{IdleHead}
use Rattle.post_steps.specs.declared.idle.IdleStage.TheVariants as stage

-- ---- what a taken value is

pub slot_in : (P : EntryState → Type 0) {v : DiskHeld} → AsSlot P v
    → (e : EntryState) × (v ≡ holds.Slot e)
slot_in P {v = holds.Slot e} fits = (e, refl)
slot_in P {v = v} fits = absurd fits

module _ (c : IdleHead) where
  pub fits_start : (v : DiskHeld) → FitsSome (IsWork c) (λ x. here x stage.Start) v
      → AsSlot (λ e. e.touched ≤ c.now) v
  fits_start v (x, w, fits) =
      subst (λ (n : ℕ). AsSlot (λ e. e.touched ≤ n) v) (sym w.clock)
      (subst (λ (op : Op).
      StartFits x.terms op (is_maintenance op) (is_beyond x.terms.size x.part.op) v) w.op fits)

  pub fits_scanning : (y : Scan) (v : DiskHeld)
      → FitsSome (IsWork c) (λ x. here x (stage.Scanning y)) v
      → AsSlot (λ e. e.touched ≤ c.now) v
  fits_scanning y v (x, w, fits) =
      subst (λ (n : ℕ). AsSlot (λ e. e.touched ≤ n) v) (sym w.clock) fits

  -- ---- which local an event may name

  pub enters : TakesAs (IsWork c) (λ x. here x stage.Start) entering
  enters x v w =
      ap (λ (op : Op). with_lock (here x stage.Start)
      (begun_at (is_maintenance op) (is_beyond x.terms.size x.part.op) (record x.part { op = op })
      (next_form x.part None (entry_or v (entry_in [])).kept)
      (entry_or v (entry_in [])))
      (lock_of (start_plan (is_maintenance op) (is_beyond x.terms.size x.part.op)
      (record x.part { op = op }))) v) (sym w.op)

  pub can_mark : (y : Scan) (e f : EntryState) (new : Bool) → f ≡ marked c.now c.age e
      → new ≡ is_new_mark c.now c.age e
      → GivesAs (IsWork c) (λ x. here x (stage.Marking y e)) (marking c.pages new) (holds.Slot f)
  can_mark y e f new is told x w =
      let l = here x (stage.Marking y e) in
      marks (scans x.part x.rest c.age y e refl w.op refl refl
      (ap (λ z. holds.Slot z) is ∙ ap (λ n. holds.Slot (marked n c.age e)) w.clock)
      (ap (λ n. marking n new l (holds.Slot f)) w.pages
      ∙ ap (λ b. marking x.terms.size b l (holds.Slot f))
      (told ∙ ap (λ n. is_new_mark n c.age e) w.clock)))

  -- ---- where a giving leads

  pub scanned_here : (x : Frame) (y : Scan) (e : EntryState) (new : Bool) (v : DiskHeld)
      → (y.page + 1 ≡ c.pages → ⊥)
      → marking c.pages new (here x (stage.Marking y e)) v
      ≡ here x (stage.Scanning (with_page y new))
  scanned_here x y e new v other =
      ap (λ b. marking_by (with_page y new) b (here x (stage.Marking y e)) v)
      (ne_eqb (y.page + 1) c.pages other)

  pub ended_here : (x : Frame) (y : Scan) (e : EntryState) (new : Bool) (v : DiskHeld)
      → y.page + 1 ≡ c.pages
      → marking c.pages new (here x (stage.Marking y e)) v
      ≡ after (here x (stage.Marking y e)) (here x stage.Over)
      (progress.Done (ends.Marked (with_page y new).marked))
  ended_here x y e new v last =
      ap (λ b. marking_by (with_page y new) b (here x (stage.Marking y e)) v)
      (eq-eqb (y.page + 1) c.pages last)

  -- ---- numbers

  one_more : (new : Bool) (marked page : ℕ) → marked ≤ page → marked + cond new 1 0 ≤ page + 1
  one_more true marked page few = omega arith
  one_more false marked page few = omega arith

  -- another page is left
  pub next_room : (y : Scan) (new : Bool) → HasRoom c y → (y.page + 1 ≡ c.pages → ⊥)
      → HasRoom c (with_page y new)
  next_room y new room other = record {
    page = omega (arith, room.page, other);
    marked = one_more new y.marked y.page room.marked;
  }
