use Rattle.joint_rule.proofs.Facts.{known_finding}
use Rattle.joint_rule.specs.Begins.{finding}
use Rattle.joint_rule.specs.Ends.{begin_at}
use Rattle.joint_rule.proofs.Rests.{at_rest}
use Rattle.joint_rule.proofs.Ended.{agree, finds_held, tallies}
use Rattle.joint_rule.proofs.Renewals.{rest_goes_on}
use Rattle.joint_rule.proofs.Propers.{next_proper, next_entry}
use Rattle.joint_rule.proofs.laws.phases_go_on.Goals as goal

pub returns-clause-rest : goal.returns-clause-rest
returns-clause-rest c g w r fin = at_rest (finding g r.finds) w r.ruled fin

pub returns-clause-agree : goal.returns-clause-agree
returns-clause-agree c r actors w ok rule fin =
    agree r actors rule.finds (known_finding (begin_at r actors) rule.finds
    (record { proper = ok; facts = c.lower_laws.ensures }) rule.ruled.finds) w rule.ruled fin

pub returns-clause-finds : goal.returns-clause-finds
returns-clause-finds c r actors w ok rule fin =
    finds_held r actors rule.finds (known_finding (begin_at r actors) rule.finds
    (record { proper = ok; facts = c.lower_laws.ensures }) rule.ruled.finds) w rule.ruled fin

pub returns-clause-tallies : goal.returns-clause-tallies
returns-clause-tallies c r actors w ok rule fin =
    tallies r actors rule.finds (known_finding (begin_at r actors) rule.finds
    (record { proper = ok; facts = c.lower_laws.ensures }) rule.ruled.finds) w rule.ruled fin

pub returns-clause-next : goal.returns-clause-next
returns-clause-next c g h xs ys on m a = rest_goes_on g h on xs ys m a

pub returns-clause-entry : goal.returns-clause-entry
returns-clause-entry c r actors more set w j e f ok rule fin at kept order under idle
    touched =
    next_entry r actors rule.finds (known_finding (begin_at r actors) rule.finds
    (record { proper = ok; facts = c.lower_laws.ensures }) rule.ruled.finds) w rule.ruled fin set
    more j e f at kept order under idle touched

pub returns-clause-proper : goal.returns-clause-proper
returns-clause-proper c r actors more set w ok rule fin requests room later =
    next_proper r actors rule.finds (known_finding (begin_at r actors) rule.finds
    (record { proper = ok; facts = c.lower_laws.ensures }) rule.ruled.finds) w rule.ruled fin set
    more requests room later
