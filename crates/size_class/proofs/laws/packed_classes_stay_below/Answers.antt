use Rattle.size_class.proofs.ClassRules.{packed_below}
use Rattle.size_class.proofs.laws.packed_classes_stay_below.Goals as goal

pub returns : goal.returns
returns c = packed_below
