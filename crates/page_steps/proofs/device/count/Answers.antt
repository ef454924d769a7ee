use Rattle.std.proofs.Common.{refl}
use Rattle.page_steps.specs.Nexts.{counting_failure}
use Rattle.page_steps.proofs.Moves.{gives_it}
use Rattle.page_steps.proofs.Backed.{can_count}
use Rattle.page_steps.proofs.device.count.Goals as goal

pub give-requires : goal.give-requires
give-requires g c =
    let a = c.args in
    c.requires.allows.give _ _ _ refl
    (can_count a.head a.scratch.now a.entry a.fault a.account c.failed.result c.requires.fit.0
    c.failed.ensures)

pub returns : goal.returns
returns g c =
    let a = c.args in
    gives_it counting_failure c.requires tt refl
    (can_count a.head a.scratch.now a.entry a.fault a.account c.failed.result c.requires.fit.0
    c.failed.ensures)
    c.give.ensures c.requires.fit tt (λ x w. refl)
