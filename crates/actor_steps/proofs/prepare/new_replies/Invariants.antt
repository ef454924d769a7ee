use Rattle.std.proofs.Common.{◌≡◌, ◌≤◌, length, take, vec_len, vec_capacity}
use Rattle.actor_steps.specs.Preparing.{AreNewReplies}
use Rattle.actor_steps.proofs.prepare.new_replies.Given as goal

abbrev pub invariant-loop-op : goal.invariant-loop-op
invariant-loop-op l = record {
  len : vec_len l.replies ≡ l.op-index;
  room : length l.ops ≤ vec_capacity l.replies;
  replies : AreNewReplies l.size l.backed (take l.op-index l.ops) l.replies.items;
}
