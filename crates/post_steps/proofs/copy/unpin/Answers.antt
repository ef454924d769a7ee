use Rattle.std.proofs.Common.{refl}
use Rattle.page_steps.specs.Visits.{copied}
use Rattle.post_steps.proofs.VisitTurns.{goes_on}
use Rattle.post_steps.proofs.Writebacks.{can_unpin}
use Rattle.post_steps.proofs.copy.unpin.Goals as goal

pub give-requires : goal.give-requires
give-requires g c =
    let a = c.args in
    c.requires.allows.give _ _ _ refl
    (can_unpin a.head a.scratch.now a.x a.entry a.lent a.pool c.unpin_object.new.pool
    c.requires.fit.1 c.unpin_object.ensures)

pub returns : goal.returns
returns g c =
    let a = c.args in
    goes_on copied c.requires tt refl
    (can_unpin a.head a.scratch.now a.x a.entry a.lent a.pool c.unpin_object.new.pool
    c.requires.fit.1 c.unpin_object.ensures)
    c.give.ensures c.requires.fit.0 tt (λ x w. refl)
