use Rattle.bdi_page.proofs.Packed.{one_packing}
use Rattle.bdi_page.proofs.laws.pages_have_one_packing.Goals as goal

pub returns : goal.returns
returns c = record { one = one_packing c.lines_have_one_coding.ensures.one }
