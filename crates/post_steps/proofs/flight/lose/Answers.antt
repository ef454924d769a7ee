use Rattle.std.proofs.Common.{refl}
use Rattle.page_steps.specs.Visits.{losing}
use Rattle.post_steps.proofs.VisitTurns.{goes_on}
use Rattle.post_steps.proofs.Writebacks.{can_lose}
use Rattle.post_steps.proofs.flight.lose.Goals as goal

pub give-requires : goal.give-requires
give-requires g c =
    let a = c.args in
    c.requires.allows.give _ _ _ refl
    (can_lose a.head a.scratch.now a.x a.entry c.without_mark.result a.end c.without_mark.ensures)

pub returns : goal.returns
returns g c =
    let a = c.args in
    goes_on losing c.requires tt refl
    (can_lose a.head a.scratch.now a.x a.entry c.without_mark.result a.end c.without_mark.ensures)
    c.give.ensures c.requires.fit tt (λ x w. refl)
