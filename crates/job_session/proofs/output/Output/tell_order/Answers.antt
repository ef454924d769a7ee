use Rattle.std.proofs.Common.{Bool, ◌||◌, refl, ◌∙◌, sym, ap}
use Rattle.job_session.proofs.Lines.{any_refusal-order, or_false}
use Rattle.job_session.proofs.Sending.{Tells-put}
use Rattle.job_session.proofs.output.Output.tell_order.Goals as goal

pub returns : goal.returns
returns g c =
    rw (← c.self.view_is)
    (Tells-put _ _ _ _ _ refl c.in_ok-put_order.ensures
    (sym (or_false c.self.inside.refused)
    ∙ ap (λ (b : Bool). c.self.inside.refused || b) (sym
    (any_refusal-order c.args.page c.args.order.now)))
    refl refl c.spill.ensures)
