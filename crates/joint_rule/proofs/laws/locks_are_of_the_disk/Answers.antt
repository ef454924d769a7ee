use Rattle.joint_rule.proofs.Free.{takes_lock, gives_lock}
use Rattle.joint_rule.proofs.Facts.{known_finding}
use Rattle.joint_rule.specs.Begins.{finding}
use Rattle.joint_rule.proofs.laws.locks_are_of_the_disk.Goals as goal

pub returns-clause-takes : goal.returns-clause-takes
returns-clause-takes c g w a l k ok r who what =
    takes_lock (finding g r.finds) (known_finding g r.finds
    (record { proper = ok; facts = c.lower_laws.ensures }) r.ruled.finds) w r.ruled.joint a l who k
    what

pub returns-clause-gives : goal.returns-clause-gives
returns-clause-gives c g w a l k ok r who what =
    gives_lock (finding g r.finds) (known_finding g r.finds
    (record { proper = ok; facts = c.lower_laws.ensures }) r.ruled.finds) w r.ruled.joint a l who k
    what
