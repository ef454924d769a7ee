-- Where nothing is written back in a phase, no actor is at a writeback, and no page is marked for one.
use Rattle.std.proofs.Common.{◌≡◌, ◌∷◌, ◌∙◌, ℕ, zero, suc, true, false, List, [], Option, Some, None, slice_get, refl, sym, ap, subst, arith}
use Rattle.call_history.specs.Parts.{EndsSo}
use Rattle.call_history.specs.declared.part.Part.{Part}
use Rattle.joint_rule.proofs.Facts.{Known}
use Rattle.joint_rule.proofs.Gifts.{fit, next, stage}
use Rattle.joint_rule.proofs.Pools.{list_self}
use Rattle.joint_rule.proofs.Stages.{is_backed}
use Rattle.joint_rule.proofs.Sums.{locals_le}
use Rattle.joint_rule.proofs.Trips.{Carrier, mark_carried}
use Rattle.joint_rule.specs.Begins.{Begin, content, ground_of}
use Rattle.joint_rule.specs.Joint.{Joint}
use Rattle.joint_rule.specs.Stages.{StageBy}
use Rattle.joint_rule.specs.Weights.{mark_at, mark_by, none}
use Rattle.lock_row.specs.Totals.{held_sum, mass}
use Rattle.lock_row.specs.declared.names.At.TheVariants.{Start, Visiting}
use Rattle.lock_row.specs.declared.names.State.{State}
use Rattle.page_steps.specs.Steps.{DiskHeld, Here, entry_in, slot, spot}
use Rattle.plain_disk.specs.Idles.{is_written_in, may_write, writes_some}
use Rattle.slot_entry.specs.Entries.{EntryState}
use Rattle.std.proofs.lemmas.Bool.{and_from, eq-eqb, or_left, or_right}
use Rattle.zr_base.specs.Plain.{is_writeback}
use Rattle.zr_base.specs.declared.op.Op.{Op}
use Rattle.lock_row.specs.declared.names.Held.TheVariants as holds

writes_here : (ops : List Op) (i : ℕ) (op : Op) → slice_get ops i ≡ Some op
    → is_writeback op ≡ true → writes_some ops ≡ true
writes_here [] i op e on = absurd (cc)
writes_here (x ∷ xs) zero op e on = let q : x ≡ op = cc in
    or_left (is_writeback x) (writes_some xs) (ap is_writeback q ∙ on)
writes_here (x ∷ xs) (suc i) op e on =
    or_right (is_writeback x) (writes_some xs) (writes_here xs i op e on)

written_here : (actors : List (List Op)) (a : ℕ) (ops : List Op) → slice_get actors a ≡ Some ops
    → writes_some ops ≡ true → is_written_in actors ≡ true
written_here [] a ops e on = absurd (cc)
written_here (x ∷ xs) zero ops e on = let q : x ≡ ops = cc in
    or_left (writes_some x) (is_written_in xs) (ap writes_some q ∙ on)
written_here (x ∷ xs) (suc a) ops e on =
    or_right (writes_some x) (is_written_in xs) (written_here xs a ops e on)

module _ (g : Begin) (ok : Known g) (w : State DiskHeld) (j : Joint g w) where
  -- an actor at a writeback is of a phase that writes back
  pub writes_on : (a : ℕ) (l : Here) → slice_get w.locals a ≡ Some l → (p : Part) (rest : List Part)
      → l.todo ≡ p ∷ rest → is_writeback p.op ≡ true
      → may_write g.given.backed g.given.actors ≡ true
  writes_on a l who p rest todo wb =
      let f = fit g ok w j a l who p rest todo in
      let n = next g ok w j a l who p rest todo in
      and_from g.given.backed (is_written_in g.given.actors)
      (is_backed (EndsSo (ground_of g)) g.given.size g.given.backed f.ops l.done p rest n wb)
      (written_here g.given.actors a f.ops f.named (writes_here f.ops p.nr p.op
      (ok.facts.named (ground_of g) g.given.size g.given.backed f.ops l.done p rest n) wb))

  carrier_writes : (a : ℕ) (l : Here) → slice_get w.locals a ≡ Some l → (s b : ℕ)
      → Carrier l.at s b → may_write g.given.backed g.given.actors ≡ true
  carrier_writes a l who s b c = by_todo l.todo refl where
    by_todo : (ps : List Part) → l.todo ≡ ps → may_write g.given.backed g.given.actors ≡ true
    by_todo [] todo = absurd (
        let q = subst (λ (ts : List Part). StageBy g ts (entry_in l.held) l.at l.fresh l.pin l.owed
        l.ahead l.behind l.page l.fail) todo (j.each.in_local a l who).stage in
        let z : Start ≡ Visiting c.step c.trip = sym q.begun ∙ c.is in cc)
    by_todo (p ∷ rest) todo = writes_on a l who p rest todo
        (stage g ok w j a l who p rest todo l.held (Visiting c.step c.trip) refl c.is).begun

  -- so no page in hand is marked where it doesn't
  pub under_none : may_write g.given.backed g.given.actors ≡ false → (a : ℕ) (l : Here)
      → slice_get w.locals a ≡ Some l → (s : ℕ) (e : EntryState)
      → l.held ≡ (slot s, holds.Slot e) ∷ [] → e.under ≡ None
  under_none off a l who s e held = by_under e.under refl where
    by_under : (u : Option ℕ) → e.under ≡ u → u ≡ None
    by_under None is = refl
    by_under (Some b) is = absurd (
        let bytes = content g s e.order in
        let r = ap (held_sum (spot g.given.size) (mark_at g s b bytes)) held in
        let one : mark_by s b bytes s e.under bytes ≡ 1 =
        ap (λ (u : Option ℕ). mark_by s b bytes s u bytes) is
        ∙ rw (eq-eqb s s refl, eq-eqb b b refl, list_self bytes) refl in
        let z = locals_le g.given.size (mass (spot g.given.size) (mark_at g s b bytes) none)
        w.locals a l who in
        let c = mark_carried g w j s b bytes (omega arith) in
        let on = carrier_writes c.0 c.1 c.2 s b c.3 in
        let q : true ≡ false = sym on ∙ off in cc)
