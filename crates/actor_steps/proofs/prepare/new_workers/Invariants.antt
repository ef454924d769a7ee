use Rattle.std.proofs.Common.{◌≡◌, ◌≤◌, length, take, vec_len, vec_capacity}
use Rattle.actor_steps.specs.Preparing.{AreNewWorkers}
use Rattle.actor_steps.proofs.prepare.new_workers.Given as goal

abbrev pub invariant-loop-actor : goal.invariant-loop-actor
invariant-loop-actor g l = record {
  len : vec_len l.workers ≡ l.actor-index;
  room : length l.ops ≤ vec_capacity l.workers;
  workers : AreNewWorkers l.size l.backed l.chain (take l.actor-index l.ops) l.workers.items;
}
