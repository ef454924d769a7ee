use Rattle.page_steps.proofs.Plans.{plan_is}
use Rattle.page_steps.proofs.laws.calls_are_events.Goals as goal

pub returns : goal.returns
returns g c = record { plan = λ c r s x fit on work. plan_is c r x s fit on work }
