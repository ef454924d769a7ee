use Rattle.post_steps.proofs.Classes.{first_stands, before_it}
use Rattle.post_steps.proofs.laws.classes_come_in_turn.Goals as goal

pub returns-clause-first : goal.returns-clause-first
returns-clause-first c chain = first_stands chain

pub returns-clause-each : goal.returns-clause-each
returns-clause-each c chain k some below itself = before_it chain k some below itself
