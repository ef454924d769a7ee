use Rattle.std.proofs.Common.{◌+◌, ◌∙◌, sym, ap, cond, Bool, arith}
use Rattle.call_history.specs.Parts.{without}
use Rattle.actor_steps.specs.Places.{todo_at, behind}
use Rattle.actor_steps.proofs.Places.{there_is, low_page, few_pages, on_here, has_settled, without_rest}
use Rattle.actor_steps.proofs.place.next_place.Goals as goal

pub returns-then-not-goes_on-clause-todo : goal.returns-then-not-goes_on-clause-todo
returns-then-not-goes_on-clause-todo c =
    let pl = c.args.place in
    let ops = c.args.ops.now in
    let op = there_is ops pl.nr c.requires.more in
    let rest = todo_at c.args.size c.args.backed ops (behind pl) in
    c.settled.ensures.same ∙ c.first_piece.ensures.todo c.args.backed
    ∙ without_rest c.args.size c.args.backed ops pl.nr op.0 op.1 (pl.page + 1) (behind pl).left
    ∙ sym (ap (λ (b : Bool). cond b rest (without pl.nr rest)) c.if-not-goes_on.true)

pub overflow_add-behind : goal.overflow_add-behind
overflow_add-behind c =
    let op = there_is c.args.ops.now c.args.place.nr c.requires.more in
    let r = c.requires.requests c.args.place.nr op.0 op.1 in
    let on = (on_here c.args.size c.args.backed c.args.ops.now c.args.place.nr op.0 op.1 c.args.place.page
    c.args.place.left c.requires.place).last in
    let low = low_page op.0 r in let few = few_pages op.0 r in omega arith

pub overflow_sub-behind : goal.overflow_sub-behind
overflow_sub-behind c =
    let op = there_is c.args.ops.now c.args.place.nr c.requires.more in
    (has_settled c.args.size c.args.backed c.args.ops.now c.args.place.nr op.0 op.1 c.args.place.page
    c.args.place.left c.requires.settled).0
