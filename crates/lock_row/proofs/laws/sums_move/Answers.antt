use Rattle.lock_row.proofs.Totals.{locals_set, locals_le}
use Rattle.lock_row.proofs.laws.sums_move.Goals as goal

pub returns-clause-moves : goal.returns-clause-moves
returns-clause-moves g c h ls a l m who = locals_set h ls a l m who

pub returns-clause-part : goal.returns-clause-part
returns-clause-part g c h ls a l who = locals_le h ls a l who
