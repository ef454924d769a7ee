use Rattle.std.proofs.Common.{◌≡◌}
use Rattle.bench_lock_table.specs.Ready.{IsReady, IsSame}
use Rattle.bench_lock_table.proofs.rows.take_soon.Given as goal

abbrev pub invariant-loop : goal.invariant-loop
invariant-loop g l = record {
  ready : IsReady l.row l.hand l.lock;
  same : IsSame l.initial.hand l.hand;
  done : l.hand.local.done ≡ l.initial.hand.local.done;
}
