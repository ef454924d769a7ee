use Rattle.lock_row.proofs.Values.{take_exclusive, give_exclusive}
use Rattle.lock_row.proofs.laws.values_stay_apart.Goals as goal

pub returns-clause-taken : goal.returns-clause-taken
returns-clause-taken g c spot w a l k v m who there held apart =
    take_exclusive spot w a l k who apart v m there held

pub returns-clause-given : goal.returns-clause-given
returns-clause-given g c spot w a l k u v m who there held apart =
    give_exclusive spot w a l k who apart v m u there held
