use Rattle.std.proofs.Common.{arith}
use Rattle.bench_lock_table.proofs.tests.two_threads_add_to_one_slot.Goals as goal

pub run-requires-after_bounds : goal.run-requires-after_bounds
run-requires-after_bounds g c κs = c.in_ok-values.ensures _ (omega arith, omega arith, tt, tt)
