-- Each call adds one object less.
use Rattle.bench_pool.proofs.+fill_and_empty.Given as goal

abbrev pub decreases-fill_and_empty : goal.decreases-fill_and_empty
decreases-fill_and_empty l = l.objects
