use Rattle.joint_rule.proofs.NewDisks.{new_at_rest}
use Rattle.joint_rule.proofs.Propers.{proper_is, new_proper, new_stats, new_plain}
use Rattle.joint_rule.proofs.laws.disks_begin.Goals as goal

pub returns-clause-rest : goal.returns-clause-rest
returns-clause-rest c g row size whole new = new_at_rest g row size whole new

pub returns-clause-proper : goal.returns-clause-proper
returns-clause-proper c g requests finds before blanks times room =
    proper_is g requests finds before blanks times room

pub returns-clause-new : goal.returns-clause-new
returns-clause-new c n set device actors requests room = new_proper n set device actors requests room

pub returns-clause-account : goal.returns-clause-account
returns-clause-account c n set device = new_stats n set device

pub returns-clause-plain : goal.returns-clause-plain
returns-clause-plain c r n = new_plain r n
