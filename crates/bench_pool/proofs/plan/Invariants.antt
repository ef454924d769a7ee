use Rattle.std.proofs.Common.{◌≤◌}
use Rattle.class_pool.specs.Pool.{IsAtHome}
use Rattle.bench_pool.proofs.plan.Given as goal

-- the object is at home, and there were no more plans than rounds
abbrev pub invariant-loop : goal.invariant-loop
invariant-loop l = record {
  home : IsAtHome l.pool l.handle.0;
  few : l.plans ≤ l.counter;
}
