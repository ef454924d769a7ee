use Rattle.std.proofs.Common.{◌≡◌, ◌≤◌, ◌-◌, true, length, take}
use Rattle.std.specs.Io.KnownBytes.{Appends}
use Rattle.job_session.proofs.io.send.Given as goal

abbrev pub invariant-loop-at : goal.invariant-loop-at
invariant-loop-at g l =
    (l.at ≤ length l.bytes)
    × (g.K.Sink.fault_count l.fn.out ≤ g.K.Sink.fault_count l.out)
    × (g.K.Sink.has_stopped l.fn.out ≡ true → g.K.Sink.has_stopped l.out ≡ true)
    × Appends (g.K.Sink.written l.fn.out) (g.K.Sink.written l.out) (take l.at l.bytes)

abbrev pub decreases-loop-at : goal.decreases-loop-at
decreases-loop-at g l = length l.bytes - l.at
