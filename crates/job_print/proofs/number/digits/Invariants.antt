use Rattle.std.proofs.Common.{◌≡◌, drop}
use Rattle.job_print.specs.Reading.{digits_from}
use Rattle.job_print.proofs.number.digits.Given as goal

abbrev pub invariant-loop-c : goal.invariant-loop-c
invariant-loop-c l = digits_from 0 l.word ≡ digits_from l.value (drop l.c-index l.word)
