use Rattle.std.proofs.Common.{ℕ, sym, ap, ◌∙◌, arith}
use Rattle.actor_steps.specs.Places.{todo_at}
use Rattle.actor_steps.proofs.Places.{there_is, low_page, few_pages, on_here, last_todo, pass_todo}
use Rattle.actor_steps.proofs.place.passed.Goals as goal

pub returns-then-place-eq0-clause-same : goal.returns-then-place-eq0-clause-same
returns-then-place-eq0-clause-same c =
    let op = there_is c.args.ops.now c.args.place.nr c.requires.more in
    c.first_piece.ensures.todo c.args.backed
    ∙ last_todo c.args.size c.args.backed c.args.ops.now c.args.place.nr op.0 op.1 c.args.place.page
    ∙ ap (λ (n : ℕ). todo_at c.args.size c.args.backed c.args.ops.now
    (record { nr = c.args.place.nr; page = c.args.place.page; left = n }))
    (sym c.if-place-eq0.true)

pub overflow_add-result : goal.overflow_add-result
overflow_add-result c =
    let op = there_is c.args.ops.now c.args.place.nr c.requires.more in
    let r = c.requires.requests c.args.place.nr op.0 op.1 in
    let on = (on_here c.args.size c.args.backed c.args.ops.now c.args.place.nr op.0 op.1 c.args.place.page
    c.args.place.left c.requires.place).last in
    let low = low_page op.0 r in let few = few_pages op.0 r in omega arith

pub returns-clause-same : goal.returns-clause-same
returns-clause-same c =
    let op = there_is c.args.ops.now c.args.place.nr c.requires.more in
    let f = c.if-place-eq0.false in
    pass_todo c.args.size c.args.backed c.args.ops.now c.args.place.nr op.0 op.1 c.args.place.page
    c.args.place.left (omega arith) (c.requires.off op.0 op.1 (omega arith))
