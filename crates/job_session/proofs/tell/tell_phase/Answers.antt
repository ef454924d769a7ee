use Rattle.std.proofs.lemmas.Result.{err_from_is_err_and}
use Rattle.job_session.proofs.Sending.{Tells-more, Tells-cut}
use Rattle.job_session.proofs.tell.tell_phase.Goals as goal

pub returns-in_err-tell_actors : goal.returns-in_err-tell_actors
returns-in_err-tell_actors g c =
    let p = err_from_is_err_and c.from_residual.result c.from_residual.ensures.1 in
    rw (p.1, p.2) (Tells-cut _ _ _ _ _ c.in_err-tell_actors.ensures)

pub returns : goal.returns
returns g c = Tells-more _ _ _ _ _ _ c.in_ok-tell_actors.ensures c.tell_orders.ensures
