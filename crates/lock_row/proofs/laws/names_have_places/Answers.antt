use Rattle.lock_row.proofs.Places.{place_of, place_none}
use Rattle.lock_row.proofs.laws.names_have_places.Goals as goal

pub returns-clause-there : goal.returns-clause-there
returns-clause-there c names i k distinct at = place_of names i k distinct at

pub returns-clause-none : goal.returns-clause-none
returns-clause-none c names k not = place_none names k not
