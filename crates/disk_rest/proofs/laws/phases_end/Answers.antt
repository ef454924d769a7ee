use Rattle.disk_rest.proofs.Left.{Ending, prints, leaves}
use Rattle.disk_rest.proofs.laws.phases_end.Goals.{After-phases_go_on}
use Rattle.disk_rest.proofs.laws.phases_end.Goals as goal

ending : After-phases_go_on → Ending
ending c = record {
  rest = c.phases_go_on.ensures.rest;
  agree = c.phases_go_on.ensures.agree;
  finds = c.phases_go_on.ensures.finds;
  tallies = c.phases_go_on.ensures.tallies;
  next = c.phases_go_on.ensures.next;
  entry = c.phases_go_on.ensures.entry;
  proper = c.phases_go_on.ensures.proper;
}

pub returns-clause-prints : goal.returns-clause-prints
returns-clause-prints c r actors w orders proper rule over some are =
    prints (ending c) r actors w proper rule over c.histories_tell.ensures.phase some orders are

pub returns-clause-leaves : goal.returns-clause-leaves
returns-clause-leaves c r actors w proper rule over =
    leaves (ending c) r actors w proper rule over c.histories_tell.ensures.account
