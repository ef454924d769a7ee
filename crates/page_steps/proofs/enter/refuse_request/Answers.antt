use Rattle.std.proofs.Common.{refl}
use Rattle.page_steps.specs.Nexts.{refusing}
use Rattle.page_steps.proofs.Moves.{ends}
use Rattle.page_steps.proofs.Given.{can_refuse}
use Rattle.page_steps.proofs.enter.refuse_request.Goals as goal

pub give-requires : goal.give-requires
give-requires g c =
    c.requires.allows.give _ _ _ refl
    (can_refuse c.args.head c.args.scratch.now c.args.account c.count.new.self c.count.ensures.counted)

pub returns : goal.returns
returns g c =
    ends refusing c.requires tt refl
    (can_refuse c.args.head c.args.scratch.now c.args.account c.count.new.self c.count.ensures.counted)
    c.give.ensures tt refl (λ x w. w) refl (λ x. tt) (λ x w. refl)
