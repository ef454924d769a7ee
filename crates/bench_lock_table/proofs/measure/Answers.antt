use Rattle.std.proofs.Common.{arith}
use Rattle.bench_lock_table.proofs.measure.Goals as goal

pub run-requires-after_bounds : goal.run-requires-after_bounds
run-requires-after_bounds g c κs within = c.in_ok-values.ensures c.locks.result
    (c.locks.ensures c.max.result (omega (arith, c.max.ensures)))
