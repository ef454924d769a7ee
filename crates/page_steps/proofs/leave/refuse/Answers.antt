use Rattle.std.proofs.Common.{refl}
use Rattle.lock_row.specs.declared.names.Held.TheVariants as holds
use Rattle.page_steps.specs.Nexts.{failing}
use Rattle.page_steps.proofs.Moves.{ends}
use Rattle.page_steps.proofs.Given.{can_fail, failed, refusal_moves}
use Rattle.page_steps.proofs.leave.refuse.Goals as goal

pub give-requires : goal.give-requires
give-requires g c =
    c.requires.allows.give _ _ _ refl
    (can_fail c.args.head c.args.scratch.now c.args.entry c.args.read c.args.end)

pub returns : goal.returns
returns g c =
    let a = c.args in
    ends failing c.requires tt refl (can_fail a.head a.scratch.now a.entry a.read a.end)
    c.give.ensures tt refl (λ x w. w) refl (λ x. refusal_moves a.end _ c.requires.fit.1)
    (λ x w. failed x a.scratch.now a.entry a.read a.end (holds.Slot a.entry) c.requires.fit.1)
