-- The lines so far are proper.
use Rattle.std.specs.List.{AllByRecursion}
use Rattle.job_print.specs.Proper.{IsProper}
use Rattle.bench_lines.proofs.lines.made.Given as goal

abbrev pub invariant-loop-number : goal.invariant-loop-number
invariant-loop-number l = AllByRecursion IsProper l.lines
