use Rattle.std.proofs.Common.{Some, refl, sym, ap}
use Rattle.page_steps.specs.Visits.{refraining}
use Rattle.post_steps.specs.Writeback.{here, without_block}
use Rattle.post_steps.specs.declared.writeback.WritebackStage.TheVariants as stage
use Rattle.post_steps.proofs.VisitTurns.{goes_on}
use Rattle.post_steps.proofs.Writebacks.{AnyDevice, can_refrain}
use Rattle.post_steps.proofs.visit.refrain.Goals as goal

pub give_by-requires : goal.give_by-requires
give_by-requires g c =
    let a = c.args in
    c.requires.ready.allows.give _ _ _ refl
    (can_refrain a.head a.scratch.now a.x a.entry a.object a.map a.answer c.requires.answer
    c.requires.none)

pub returns : goal.returns
returns g c =
    let a = c.args in
    goes_on (refraining (without_block a.answer a.x)) c.requires.ready tt refl
    (can_refrain a.head a.scratch.now a.x a.entry a.object a.map a.answer c.requires.answer
    c.requires.none)
    c.give_by.ensures (c.requires.ready.fit.0, c.refused.ensures.stop) tt
    (λ x w. ap (λ f. record (here {D = AnyDevice} x a.scratch.now (stage.Quitting a.x a.entry c.refused.result)) {
      fail = Some f;
    }) (sym c.refused.ensures.end))
