use Rattle.std.proofs.Common.{refl}
use Rattle.job_session.proofs.Sending.{Tells-none, Tells-sent}
use Rattle.job_session.proofs.output.Output.spill.Goals as goal

pub returns-then-len-lt-PIECE : goal.returns-then-len-lt-PIECE
returns-then-len-lt-PIECE g c = Tells-none c.args.self.now

pub returns : goal.returns
returns g c =
    rw (← c.self.view_is)
    (Tells-sent _ _ c.deref.result.now c.in_ok-send.ensures.all c.deref.ensures.value
    c.clear.ensures.items refl refl c.send.ensures.later)
