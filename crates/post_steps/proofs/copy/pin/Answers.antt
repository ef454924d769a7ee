use Rattle.std.proofs.Common.{Some, refl, sym, ap}
use Rattle.lock_row.specs.declared.names.Held.TheVariants as holds
use Rattle.page_steps.specs.Visits.{copying}
use Rattle.page_steps.specs.declared.stage.Scratch.{Scratch}
use Rattle.post_steps.specs.Writeback.{here}
use Rattle.post_steps.specs.declared.writeback.WritebackStage.TheVariants as stage
use Rattle.post_steps.proofs.VisitTurns.{gives_it}
use Rattle.post_steps.proofs.Writebacks.{AnyDevice, can_pin}
use Rattle.post_steps.proofs.copy.pin.Goals as goal

pub give_by-requires : goal.give_by-requires
give_by-requires g c =
    let a = c.args in
    c.requires.allows.give _ _ _ refl
    (can_pin a.head a.scratch.now a.x a.entry a.object a.pool c.pin_object-cell.new.pool
    c.pin_object-cell.result c.requires.fit.1 c.pin_object-cell.ensures.lends)

pub read_cell-requires : goal.read_cell-requires
read_cell-requires g c = c.pin_object-cell.ensures.read

pub returns : goal.returns
returns g c =
    let a = c.args in
    gives_it (copying a.object c.pin_object-cell.result) c.requires tt refl
    (can_pin a.head a.scratch.now a.x a.entry a.object a.pool c.pin_object-cell.new.pool
    c.pin_object-cell.result c.requires.fit.1 c.pin_object-cell.ensures.lends)
    c.give_by.ensures (c.requires.fit.0, c.requires.fit.1) tt refl (λ x. tt)
    (λ x w. ap (λ page. record (copying a.object c.pin_object-cell.result
    (here {D = AnyDevice} x a.scratch.now (stage.Pinning a.x a.entry a.object a.pool))
    (holds.Class c.pin_object-cell.new.pool)) { page = Some page }) (sym c.read_cell.ensures))
