use Rattle.slot_entry.proofs.Classes.{class_is, class_low}
use Rattle.slot_entry.proofs.laws.packed_objects_have_classes.Goals as goal

pub returns-clause-least : goal.returns-clause-least
returns-clause-least c = class_is

pub returns-clause-below : goal.returns-clause-below
returns-clause-below c = class_low c.packed_classes_stay_below.ensures
