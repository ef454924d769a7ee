use Rattle.std.proofs.Common.{◌*◌}
use Rattle.job_print.proofs.Firsts.{Others}
use Rattle.job_print.proofs.find.passed.Given as goal

-- the bytes so far are others
abbrev pub invariant-loop-k : goal.invariant-loop-k
invariant-loop-k l = Others l.byte (16 * l.k) l.text
