use Rattle.std.proofs.Common.{Bool, ◌||◌, refl, ◌∙◌, sym, ap}
use Rattle.job_session.proofs.Lines.{any_refusal-op}
use Rattle.job_session.proofs.Sending.{Tells-put}
use Rattle.job_session.proofs.output.Output.tell_op.Goals as goal

pub returns : goal.returns
returns g c =
    rw (← c.self.view_is)
    (Tells-put _ _ _ _ _ refl c.in_ok-put_op.ensures
    (ap (λ (b : Bool). c.self.inside.refused || b)
    (c.is_refused.ensures c.args.tag
    ∙ sym (any_refusal-op c.args.tag c.args.end c.args.sectors.now)))
    refl refl c.spill.ensures)
