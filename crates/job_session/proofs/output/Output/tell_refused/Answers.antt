use Rattle.std.proofs.Common.{refl, sym}
use Rattle.job_session.proofs.Lines.{or_true}
use Rattle.job_session.proofs.Sending.{Tells-one}
use Rattle.job_session.proofs.output.Output.tell_refused.Goals as goal

pub returns : goal.returns
returns g c =
    rw (← c.self.view_is)
    (Tells-one _ _ _ _ _ refl c.in_ok-put_refused.ensures.line (sym (or_true c.self.inside.refused))
    refl refl c.spill.ensures)
