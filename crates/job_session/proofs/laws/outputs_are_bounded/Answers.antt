use Rattle.job_session.proofs.Complete.{complete}
use Rattle.job_session.proofs.Budgets.{budget_is_spent}
use Rattle.job_session.proofs.laws.outputs_are_bounded.Goals as goal

pub returns : goal.returns
returns c = record { complete = complete; spent = budget_is_spent }
