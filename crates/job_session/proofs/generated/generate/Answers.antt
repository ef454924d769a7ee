use Rattle.std.proofs.Common.{◌≡◌, ℕ, Bool, true, false, List, Option, sym, ◌∙◌}
use Rattle.std.specs.Io.KnownBytes.{Appends}
use Rattle.job_session.specs.declared.sim.Status.TheVariants as statuses
use Rattle.job_session.specs.declared.stop.Stop.{Stop}
use Rattle.job_session.specs.declared.stop.Stop.TheVariants as stops
use Rattle.job_session.specs.Runs.{Seen, WriteCause, IsGenerated}
use Rattle.job_session.specs.Advances.{ended_status}
use Rattle.job_session.specs.Telling.{StopCause, stop_status}
use Rattle.job_session.specs.Generated.{GenEnds}
use Rattle.job_session.proofs.generated.generate.Goals as goal

ends_by : (pages seed : ℕ) (entry exit : Seen) (u w : Option (List ℕ)) (Untouched : Type 0)
    (refused : Bool) → IsGenerated pages seed entry exit (Appends u w) refused
    → GenEnds pages seed entry exit u w Untouched (ended_status refused)
ends_by pages seed entry exit u w Untouched false is = is
ends_by pages seed entry exit u w Untouched true is = is

no_fault : (refused : Bool) → ended_status refused ≡ statuses.WriteFault → ⊥
no_fault false is = cc
no_fault true is = cc

fault_by : (before now : ℕ) (stopped : Bool) (stop : Stop) → StopCause before now stopped stop
    → stop_status stop ≡ statuses.WriteFault → WriteCause before now stopped
fault_by before now stopped stops.Memory cause is = absurd (let no : ⊥ = cc is in no)
fault_by before now stopped stops.Write cause is = cause

pub returns-in-Ok-clause-ends : goal.returns-in-Ok-clause-ends
returns-in-Ok-clause-ends g c =
    rw c.ended.ensures (ends_by _ _ _ _ _ _ _ c.in-Ok.refused c.in-Ok.ensures.written)

pub returns-in-Ok-clause-cause : goal.returns-in-Ok-clause-cause
returns-in-Ok-clause-cause g c is =
    absurd (no_fault c.in-Ok.refused (sym c.ended.ensures ∙ is))

pub returns-in-Err-clause-cause : goal.returns-in-Err-clause-cause
returns-in-Err-clause-cause g c is =
    fault_by _ _ _ c.in-Err.stop c.in-Err.ensures.cause (sym c.stopped.ensures ∙ is)
