use Rattle.lock_row.proofs.Totals.{total_take, total_give}
use Rattle.lock_row.proofs.laws.totals_move.Goals as goal

pub returns-clause-taken : goal.returns-clause-taken
returns-clause-taken g c spot f h w a l k v m who there held same =
    total_take spot w a l who f h k v m there held same

pub returns-clause-given : goal.returns-clause-given
returns-clause-given g c spot f h w a l k v m who there = total_give spot w a l who f h k v m there
