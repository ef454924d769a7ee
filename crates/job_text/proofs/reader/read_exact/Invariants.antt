use Rattle.std.proofs.Common.{◌≡◌, ◌+◌, ◌≤◌}
use Rattle.job_text.specs.declared.limits.TheConstants.{MOST_BYTES}
use Rattle.job_text.specs.Faults.{first_fault}
use Rattle.job_text.specs.Reading.{job_of, lines_left, bytes_left, items_after, fault_after}
use Rattle.job_text.proofs.reader.read_exact.Given as goal

abbrev pub invariant-loop-rest : goal.invariant-loop-rest
invariant-loop-rest l =
    (l.number + bytes_left l.rest ≤ MOST_BYTES + 2)
    × (first_fault l.bytes ≡ fault_after l.reading l.number (lines_left l.rest))
    × (job_of l.bytes ≡ items_after l.reading (lines_left l.rest))

abbrev pub decreases-loop-rest : goal.decreases-loop-rest
decreases-loop-rest l = bytes_left l.rest
