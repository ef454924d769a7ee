use Rattle.std.proofs.Common.{◌≡◌, ◌≤◌, ◌+◌, ◌-◌, length, vec_len}
use Rattle.std.specs.Io.KnownBytes.{Consumes}
use Rattle.job_text.specs.declared.limits.TheConstants.{MOST_BYTES}
use Rattle.job_session.proofs.io.read_all.Given as goal

abbrev pub invariant-loop-chunk : goal.invariant-loop-chunk
invariant-loop-chunk g l =
    (length l.chunk ≡ 65536)
    × (g.S.Source.fault_count l.fn.job ≤ g.S.Source.fault_count l.job)
    × Consumes (g.S.Source.left l.fn.job) (g.S.Source.left l.job) l.text.items

abbrev pub decreases-loop-chunk : goal.decreases-loop-chunk
decreases-loop-chunk g l = (MOST_BYTES + 1) - vec_len l.text
