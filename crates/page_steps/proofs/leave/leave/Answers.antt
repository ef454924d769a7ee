use Rattle.std.proofs.Common.{refl, ap, arith}
use Rattle.std.specs.Prelude.{length}
use Rattle.page_steps.specs.Nexts.{reading}
use Rattle.page_steps.proofs.Moves.{ends}
use Rattle.page_steps.proofs.Given.{can_leave}
use Rattle.page_steps.proofs.leave.leave.Goals as goal

pub overflow_cast-at : goal.overflow_cast-at
overflow_cast-at g c =
    let few = c.requires.fit.1.few in
    let same = ap length c.order.ensures in
    omega arith

pub give-requires : goal.give-requires
give-requires g c =
    c.requires.allows.give _ _ _ refl
    (can_leave c.args.head c.args.scratch.now c.args.entry c.noted.result c.requires.fit.0 c.noted.ensures)

pub returns : goal.returns
returns g c =
    let a = c.args in
    ends reading c.requires tt refl
    (can_leave a.head a.scratch.now a.entry c.noted.result c.requires.fit.0 c.noted.ensures)
    c.give.ensures tt refl (λ x w. w) refl (λ x. ap length c.order.ensures) (λ x w. refl)
