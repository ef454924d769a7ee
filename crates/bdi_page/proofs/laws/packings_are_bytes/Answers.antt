use Rattle.bdi_page.proofs.Bytes.{packed_long, packed_bytes}
use Rattle.bdi_page.proofs.laws.packings_are_bytes.Goals as goal

pub returns-clause-some : goal.returns-clause-some
returns-clause-some c = packed_long

pub returns-clause-bytes : goal.returns-clause-bytes
returns-clause-bytes c = packed_bytes c.lines_have_one_coding.ensures.few c.payloads_are_bytes.ensures
