use Rattle.std.proofs.Common.{refl}
use Rattle.page_steps.specs.Visits.{leaving_all}
use Rattle.post_steps.proofs.VisitTurns.{gives_it}
use Rattle.post_steps.proofs.Writebacks.{can_quit, stop_placed}
use Rattle.post_steps.proofs.visit.quit.Goals as goal

pub give-requires : goal.give-requires
give-requires g c =
    let a = c.args in
    c.requires.allows.give _ _ _ refl (can_quit a.head a.scratch.now a.x a.entry a.end)

pub returns : goal.returns
returns g c =
    let a = c.args in
    gives_it leaving_all c.requires tt refl (can_quit a.head a.scratch.now a.x a.entry a.end)
    c.give.ensures tt refl refl (λ x. stop_placed a.end _ c.requires.fit.1) (λ x w. refl)
