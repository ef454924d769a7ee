use Rattle.std.proofs.Common.{◌≡◌, Some, slice_get, sym, ap, ◌∙◌, arith}
use Rattle.actor_steps.proofs.Places.{at_index}
use Rattle.actor_steps.proofs.Counts.{each_next, few_pieces}
use Rattle.actor_steps.proofs.count.count_pieces.Goals as goal
use Rattle.actor_steps.proofs.count.count_pieces.Goals.{After-as_slice}

ops_at : (c : After-as_slice)
    → slice_get c.args.ops.now c.loop-actor.actor-index ≡ Some c.as_slice.result.now
ops_at c = at_index c.args.ops.now c.loop-actor.actor-index c.actor-item.result
    (let t = c.loop-actor-test.true in omega arith) c.actor-item.is
    ∙ ap Some (sym c.as_slice.ensures)

pub count_actor-requires-clause-fits : goal.count_actor-requires-clause-fits
count_actor-requires-clause-fits c backed p lt =
    let a = (goal.at.count_actor-requires-clause-fits c).After-as_slice in
    let q = c.loop-actor.invariant.counted backed p lt in
    let f = few_pieces c.args.size backed p c.args.ops.now c.requires in
    let n = each_next c.args.size backed p c.loop-actor.actor-index c.args.ops.now c.as_slice.result.now
    (ops_at a) in
    omega arith
