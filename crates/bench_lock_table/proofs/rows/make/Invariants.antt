use Rattle.bench_lock_table.specs.Made.{start_of}
use Rattle.bench_lock_table.proofs.rows.make.Given as goal

abbrev pub ghosts-make_by : goal.ghosts-make_by
ghosts-make_by a = record { start = start_of a.values.items a.locks.now }
