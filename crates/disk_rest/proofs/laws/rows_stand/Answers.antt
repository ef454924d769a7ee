use Rattle.disk_rest.proofs.Onward.{stands_still, clock_stands, limit_stands, max_stands, budget_stands}
use Rattle.disk_rest.proofs.laws.rows_stand.Goals as goal

pub returns-clause-kept : goal.returns-clause-kept
returns-clause-kept c r before after st keeps =
    stands_still r before after c.phases_go_on.ensures.next st keeps

pub returns-clause-limit : goal.returns-clause-limit
returns-clause-limit c r row n k st at =
    limit_stands r row k c.phases_go_on.ensures.next st at n

pub returns-clause-budget : goal.returns-clause-budget
returns-clause-budget c r row n on x st at =
    budget_stands r row n on x c.phases_go_on.ensures.next st at

pub returns-clause-clock : goal.returns-clause-clock
returns-clause-clock c r row n st le =
    clock_stands r row n c.phases_go_on.ensures.next st le

pub returns-clause-max : goal.returns-clause-max
returns-clause-max c r row k st at = max_stands r row k c.phases_go_on.ensures.next st at
