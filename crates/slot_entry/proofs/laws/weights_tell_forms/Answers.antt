use Rattle.slot_entry.proofs.Forms.{has_weight, one_weight}
use Rattle.slot_entry.proofs.laws.weights_tell_forms.Goals as goal

pub returns-clause-has : goal.returns-clause-has
returns-clause-has c =
    has_weight c.pages_have_one_packing.ensures.one c.packings_are_bytes.ensures.some
    c.packings_are_bytes.ensures.bytes

pub returns-clause-one : goal.returns-clause-one
returns-clause-one c =
    one_weight c.pages_have_one_packing.ensures.one c.packings_are_bytes.ensures.some
    c.packings_are_bytes.ensures.bytes
