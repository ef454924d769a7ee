use Rattle.std.proofs.Common.{refl}
use Rattle.page_steps.specs.Visits.{flying}
use Rattle.post_steps.proofs.VisitTurns.{goes_on}
use Rattle.post_steps.proofs.Writebacks.{can_mark}
use Rattle.post_steps.proofs.copy.mark.Goals as goal

pub give-requires : goal.give-requires
give-requires g c =
    let a = c.args in
    c.requires.allows.give _ _ _ refl
    (can_mark a.head a.scratch.now a.x a.entry c.set_under.new.self c.requires.fit.block
    c.set_under.ensures)

pub returns : goal.returns
returns g c =
    let a = c.args in
    goes_on flying c.requires tt refl
    (can_mark a.head a.scratch.now a.x a.entry c.set_under.new.self c.requires.fit.block
    c.set_under.ensures)
    c.give.ensures c.requires.fit tt (λ x w. refl)
