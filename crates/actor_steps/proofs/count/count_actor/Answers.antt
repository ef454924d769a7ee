use Rattle.std.proofs.Common.{◌≡◌, Some, slice_get, arith}
use Rattle.actor_steps.proofs.Places.{at_index}
use Rattle.actor_steps.proofs.Counts.{program_next}
use Rattle.actor_steps.proofs.count.count_actor.Goals as goal
use Rattle.actor_steps.proofs.count.count_actor.Goals.{After-op-item}

op_at : (c : After-op-item) → slice_get c.args.ops.now c.loop-op.op-index ≡ Some c.op-item.result
op_at c = at_index c.args.ops.now c.loop-op.op-index c.op-item.result
    (let t = c.loop-op-test.true in
    omega arith) c.op-item.is

pub count_op-requires-clause-fits : goal.count_op-requires-clause-fits
count_op-requires-clause-fits c backed p lt =
    let a = (goal.at.count_op-requires-clause-fits c).After-op-item in
    let q = c.loop-op.invariant.counted backed p lt in
    let f = c.requires.fits backed p lt in
    let n = program_next c.args.size backed p c.loop-op.op-index c.args.ops.now c.op-item.result
    (op_at a) in
    omega arith

pub loop-op-preserved : goal.loop-op-preserved
loop-op-preserved c =
    let a = (goal.at.loop-op-preserved c).After-op-item in
    let i = c.loop-op.invariant in record {
      only = c.in_ok-count_op.ensures.only;
      counted = λ backed p lt.
          let q = i.counted backed p lt in
          let e = c.in_ok-count_op.ensures.counted backed p lt in
          let n = program_next c.args.size backed p c.loop-op.op-index c.args.ops.now c.op-item.result
          (op_at a) in
          omega arith;
    }
