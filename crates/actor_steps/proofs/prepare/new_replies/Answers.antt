use Rattle.std.proofs.Common.{arith}
use Rattle.actor_steps.proofs.Places.{at_index}
use Rattle.actor_steps.proofs.Beginners.{reply_more}
use Rattle.actor_steps.proofs.prepare.new_replies.Goals as goal

pub loop-op-preserved : goal.loop-op-preserved
loop-op-preserved c =
    let i = c.loop-op.invariant in
    let p = c.push_reserved.ensures in
    let at = at_index c.args.ops.now c.loop-op.op-index c.op-item.result
    (let t = c.loop-op-test.true in
    omega arith) c.op-item.is in record {
      len = (let q = p.len in let r = i.len in omega arith);
      room = (let q = p.capacity in let r = i.room in omega arith);
      replies = reply_more c.args.size c.args.backed c.args.ops.now c.loop-op.op-index c.op-item.result
          c.loop-op.replies.items c.push_reserved.new.self.items c.in_ok-new_reply.field-0 at
          p.items i.replies c.in_ok-new_reply.ensures;
    }
