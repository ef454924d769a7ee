use Rattle.zs_plan.proofs.Found.{plan_there, plan_goes_on}
use Rattle.zs_plan.proofs.laws.plans_go_on.Goals as goal

pub returns-clause-found : goal.returns-clause-found
returns-clause-found c per rows own = plan_there per rows own

pub returns-clause-goes_on : goal.returns-clause-goes_on
returns-clause-goes_on c per rows from to own plan = plan_goes_on per rows from to own plan
