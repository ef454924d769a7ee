-- The objects fit the pool's cells.
use Rattle.std.proofs.Common.{◌≡◌}
use Rattle.bench_pool.proofs.run.Given as goal

abbrev pub invariant-loop : goal.invariant-loop
invariant-loop l = l.pool.size ≡ l.fn.pool.size
