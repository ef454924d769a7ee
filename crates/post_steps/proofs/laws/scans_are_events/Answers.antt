use Rattle.post_steps.proofs.ScanTurns.{plan_is}
use Rattle.post_steps.proofs.laws.scans_are_events.Goals as goal

pub returns : goal.returns
returns c = record { plan = λ head s x on work. plan_is head x s on work }
