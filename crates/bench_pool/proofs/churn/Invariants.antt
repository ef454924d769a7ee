use Rattle.std.proofs.Common.{◌≡◌, ℕ}
use Rattle.class_pool.specs.Pool.{IsAtHome}
use Rattle.bench_pool.proofs.churn.Given as goal

-- the objects fit the pool's cells, and those that were at home are
abbrev pub invariant-loop : goal.invariant-loop
invariant-loop l = record {
  size : l.pool.size ≡ l.fn.pool.size;
  others : (h : ℕ) → IsAtHome l.fn.pool h → IsAtHome l.pool h;
}

abbrev pub invariant-loop-2 : goal.invariant-loop-2
invariant-loop-2 l = record {
  size : l.pool.size ≡ l.fn.pool.size;
  others : (h : ℕ) → IsAtHome l.fn.pool h → IsAtHome l.pool h;
}
