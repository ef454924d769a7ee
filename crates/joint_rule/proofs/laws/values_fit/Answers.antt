use Rattle.joint_rule.proofs.Fitting.{compacted_few, stage_fits}
use Rattle.joint_rule.proofs.Gets.{few_objects}
use Rattle.joint_rule.proofs.Facts.{known_finding}
use Rattle.joint_rule.specs.Begins.{finding}
use Rattle.joint_rule.proofs.laws.values_fit.Goals as goal

pub returns-clause-fits : goal.returns-clause-fits
returns-clause-fits c g w a l k v ok r who what there =
    stage_fits (finding g r.finds) (known_finding g r.finds
    (record { proper = ok; facts = c.lower_laws.ensures }) r.ruled.finds) w r.ruled a l who k v
    there what

pub returns-clause-few : goal.returns-clause-few
returns-clause-few c g w r = few_objects (finding g r.finds) w r.ruled.joint

pub returns-clause-compacted : goal.returns-clause-compacted
returns-clause-compacted c g w a l p rest x q r who todo at held =
    compacted_few (finding g r.finds) w r.ruled.joint a l who p rest x q todo at held
