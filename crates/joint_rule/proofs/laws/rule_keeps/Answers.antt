use Rattle.joint_rule.proofs.Starts.{start_rule}
use Rattle.joint_rule.proofs.Turns.{rule_turn, rule_run}
use Rattle.joint_rule.proofs.Free.{free, moves_so}
use Rattle.joint_rule.proofs.Facts.{known_finding}
use Rattle.joint_rule.specs.Begins.{finding}
use Rattle.joint_rule.proofs.laws.rule_keeps.Goals as goal

pub returns-clause-start : goal.returns-clause-start
returns-clause-start c g w ok s =
    start_rule g (record { proper = ok; facts = c.lower_laws.ensures }) w s

pub returns-clause-turn : goal.returns-clause-turn
returns-clause-turn c g a w n ok r t =
    rule_turn g (record { proper = ok; facts = c.lower_laws.ensures }) a w n r t

pub returns-clause-reached : goal.returns-clause-reached
returns-clause-reached c g u w ok r t =
    rule_run g (record { proper = ok; facts = c.lower_laws.ensures }) t.0 u w r t.1

pub returns-clause-free : goal.returns-clause-free
returns-clause-free c g w a l ok r who go =
    moves_so g r.finds w (free (finding g r.finds) (known_finding g r.finds
    (record { proper = ok; facts = c.lower_laws.ensures }) r.ruled.finds) w r.ruled.joint a l who go)
