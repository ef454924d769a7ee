use Rattle.post_steps.proofs.Moves.{plan_is}
use Rattle.post_steps.proofs.laws.compactions_are_events.Goals as goal

pub returns : goal.returns
returns c = record { plan = λ chain s x on work. plan_is chain x s on work }
