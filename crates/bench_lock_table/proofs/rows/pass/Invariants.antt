use Rattle.bench_lock_table.specs.Ready.{IsReady, IsSame}
use Rattle.bench_lock_table.proofs.rows.pass.Given as goal

abbrev pub invariant-loop : goal.invariant-loop
invariant-loop g l = record {
  ready : IsReady l.row l.hand l.lock;
  same : IsSame l.initial.hand l.hand;
}
