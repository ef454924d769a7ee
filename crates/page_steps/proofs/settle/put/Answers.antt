use Rattle.std.proofs.Common.{refl, sym, ap, subst}
use Rattle.std.specs.Prelude.{length}
use Rattle.page_steps.specs.Steps.{piece_over}
use Rattle.page_steps.specs.Nexts.{putting}
use Rattle.page_steps.specs.Calls.{here, IsPlaced}
use Rattle.page_steps.specs.declared.stage.Stage.TheVariants as stage
use Rattle.page_steps.proofs.Plans.{AnyDevice}
use Rattle.page_steps.proofs.Moves.{ends}
use Rattle.page_steps.proofs.Given.{can_put}
use Rattle.page_steps.proofs.settle.put.Goals as goal

pub give-requires : goal.give-requires
give-requires g c =
    let a = c.args in
    c.requires.allows.give _ _ _ refl
    (can_put a.head a.scratch.now a.due a.ahead a.behind c.changed.result c.requires.fit c.changed.ensures)

pub returns : goal.returns
returns g c =
    let a = c.args in
    ends putting c.requires tt refl
    (can_put a.head a.scratch.now a.due a.ahead a.behind c.changed.result c.requires.fit c.changed.ensures)
    c.give.ensures tt refl (λ x w. w) refl
    (λ x. subst (IsPlaced c.end_at-end.result) (ap length c.order.ensures) c.end_at-end.ensures.place)
    (λ x w i. piece_over (here {D = AnyDevice} x a.scratch.now (stage.Ready a.due a.ahead a.behind)) x.part
    (sym c.end_at-end.ensures.carried i)
    (sym (c.end_at-end.ensures.nothing a.scratch.now.page x.part) i) x.rest)
