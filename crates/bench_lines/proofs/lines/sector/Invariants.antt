-- The sector keeps its length.
use Rattle.std.proofs.Common.{◌≡◌, length}
use Rattle.bench_lines.proofs.lines.sector.Given as goal

abbrev pub invariant-loop-k : goal.invariant-loop-k
invariant-loop-k l = length l.bytes ≡ 512
