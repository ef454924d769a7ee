use Rattle.class_pool.proofs.RestLaws.{some_rest, fewer_by, no_plan_rest}
use Rattle.class_pool.proofs.LeastLaws.{least_of_all, tight_zspages, tight_no_plan}
use Rattle.class_pool.proofs.laws.compactions_end.Goals as goal

pub returns-clause-most : goal.returns-clause-most
returns-clause-most c p pool = some_rest c.plans_go_on.ensures.found p pool

pub returns-clause-fewer : goal.returns-clause-fewer
returns-clause-fewer c p q m frames n k plan moves =
    fewer_by c.plans_go_on.ensures.goes_on p q m frames n k plan moves

pub returns-clause-rest : goal.returns-clause-rest
returns-clause-rest c p pool none = no_plan_rest p pool none

pub returns-clause-least : goal.returns-clause-least
returns-clause-least c p pool rest none =
    (least_of_all p pool rest none, tight_zspages p pool rest none)

pub returns-clause-tight : goal.returns-clause-tight
returns-clause-tight c p from to tight plan = tight_no_plan p from to tight plan
