use Rattle.std.proofs.Common.{refl}
use Rattle.job_session.proofs.Sending.{Tells-line}
use Rattle.job_session.proofs.output.Output.tell_state.Goals as goal

pub returns : goal.returns
returns g c = λ line is.
    rw (← c.self.view_is)
    (Tells-line _ _ _ _ _ refl (c.in_ok-put_state.ensures.line line is) refl refl refl refl
    c.spill.ensures)
