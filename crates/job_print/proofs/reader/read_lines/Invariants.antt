use Rattle.std.proofs.Common.{◌≡◌, ◌+◌, ◌≤◌, ◌++◌, length}
use Rattle.std.specs.List.{AllByRecursion}
use Rattle.job_print.specs.Texts.{out_text}
use Rattle.job_print.specs.Proper.{IsProper}
use Rattle.job_print.proofs.reader.read_lines.Given as goal

abbrev pub invariant-loop-rest : goal.invariant-loop-rest
invariant-loop-rest l =
    AllByRecursion IsProper l.text
    × (l.bytes ≡ out_text l.text ++ l.rest)
    × (l.number ≡ length l.text)
    × (l.number + length l.rest ≤ length l.bytes)

abbrev pub decreases-loop-rest : goal.decreases-loop-rest
decreases-loop-rest l = length l.rest
