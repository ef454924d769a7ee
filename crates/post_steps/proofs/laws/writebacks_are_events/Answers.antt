use Rattle.post_steps.proofs.VisitTurns.{plan_is}
use Rattle.post_steps.proofs.laws.writebacks_are_events.Goals as goal

pub returns : goal.returns
returns g c = record { plan = λ head r s x fit on work. plan_is head r x s fit on work }
