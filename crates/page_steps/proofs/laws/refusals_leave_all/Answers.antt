use Rattle.page_steps.proofs.Refusals.{leaves_all}
use Rattle.page_steps.proofs.laws.refusals_leave_all.Goals as goal

pub returns : goal.returns
returns c = leaves_all
