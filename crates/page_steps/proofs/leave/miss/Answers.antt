use Rattle.std.proofs.Common.{refl}
use Rattle.page_steps.specs.Nexts.{failing}
use Rattle.page_steps.proofs.Moves.{ends}
use Rattle.page_steps.proofs.Backed.{can_end_missed}
use Rattle.page_steps.proofs.leave.miss.Goals as goal

pub give-requires : goal.give-requires
give-requires g c =
    let a = c.args in
    c.requires.allows.give _ _ _ refl
    (can_end_missed a.head a.scratch.now a.entry c.missed.result a.fault c.requires.fit.0
    c.missed.ensures.reads c.missed.ensures.others)

pub returns : goal.returns
returns g c =
    let a = c.args in
    ends failing c.requires tt refl
    (can_end_missed a.head a.scratch.now a.entry c.missed.result a.fault c.requires.fit.0
    c.missed.ensures.reads c.missed.ensures.others)
    c.give.ensures tt refl (λ x w. w) refl (λ x. tt) (λ x w. refl)
