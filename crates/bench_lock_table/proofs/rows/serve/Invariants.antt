use Rattle.std.proofs.Common.{◌≡◌, length}
use Rattle.bench_lock_table.specs.Ready.{IsReady, IsSame}
use Rattle.bench_lock_table.proofs.rows.serve.Given as goal

abbrev pub invariant-loop-op : goal.invariant-loop-op
invariant-loop-op g l = record {
  ready : IsReady l.row l.hand l.job.lock;
  same : IsSame l.initial.hand l.hand;
  number : l.hand.local.actor ≡ l.job.actor;
  count : length l.hand.local.done ≡ l.op;
}
