use Rattle.std.proofs.Common.{take}
use Rattle.job_session.specs.Telling.{NoPhases}
use Rattle.job_session.proofs.items.before_phase.Given as goal

abbrev pub invariant-loop-at : goal.invariant-loop-at
invariant-loop-at l = NoPhases (take l.at l.job)
