-- Which pages a phase's only actor leaves idle.
use Rattle.std.proofs.Common.{◌≡◌, ◌<◌, ◌∷◌, ◌∙◌, ℕ, List, [], Some, None, slice_get, ap, arith, false}
use Rattle.call_history.specs.declared.part.Part.{Part}
use Rattle.joint_rule.proofs.Places.{IsEntry, entry_kind}
use Rattle.joint_rule.proofs.Rests.{at_rest, over}
use Rattle.joint_rule.specs.Alone.{IsAged, aged_done, scanned_by}
use Rattle.joint_rule.specs.Begins.{Begin}
use Rattle.joint_rule.specs.Ends.{AllFinished, idle_in, value_at}
use Rattle.joint_rule.specs.Rule.{Ruled}
use Rattle.lock_row.specs.declared.names.State.{State}
use Rattle.page_steps.specs.Steps.{DiskHeld, Here}
use Rattle.plain_disk.specs.Idles.{Aged, may_write}
use Rattle.std.proofs.lemmas.Option.{get_or_from_slice_get}
use Rattle.lock_row.specs.declared.names.Held.TheVariants as holds

module _ (g : Begin) (l : Here) (over_now : l.todo ≡ []) where
  idle_is : (p : ℕ) (v : DiskHeld) → IsEntry v → IsAged g l p v
      → idle_in (Some v) ≡ (aged_done g l.done p).idle
  idle_is p (holds.Slot e) kind is = ap (λ (s : Aged). s.idle) (is
      ∙ ap (λ (ps : List Part). scanned_by g ps l.at p (aged_done g l.done p)) over_now)
  idle_is p (holds.Class x) kind is = absurd kind
  idle_is p (holds.Account x) kind is = absurd kind
  idle_is p (holds.Blocks x) kind is = absurd kind
  idle_is p (holds.Device x) kind is = absurd kind

pub ages_end : (g : Begin) (w : State DiskHeld) → Ruled g w → AllFinished g w → (l : Here)
    → w.locals ≡ l ∷ [] → may_write g.given.backed g.given.actors ≡ false → (p : ℕ)
    → p < g.given.size
    → idle_in (value_at w.row p) ≡ (aged_done g l.done p).idle
ages_end g w r fin l only off p lt =
    let rest = at_rest g w r fin in
    let size = rest.size in
    let v = rest.whole p (omega arith) in
    let home = rest.home p v.0 v.1 in
    let todo = over g w r fin 0 l (ap (λ (ls : List Here). slice_get ls 0) only) in
    ap idle_in (get_or_from_slice_get w.row p (Some v.0) None v.1)
    ∙ idle_is g l todo p v.0 (entry_kind g p lt v.0 home.sound)
    (((r.alone l only).ages off).home p v.0 v.1)
