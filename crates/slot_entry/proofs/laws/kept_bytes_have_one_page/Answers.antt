use Rattle.slot_entry.proofs.Finds.{kept_as}
use Rattle.slot_entry.proofs.laws.kept_bytes_have_one_page.Goals as goal

pub returns : goal.returns
returns c page bytes huge is e =
    kept_as c.pages_have_one_packing.ensures.one c.packings_have_one_page.ensures page bytes huge
    is e
