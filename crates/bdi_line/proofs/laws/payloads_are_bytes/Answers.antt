use Rattle.bdi_line.proofs.Bytes.{payload_bytes}
use Rattle.bdi_line.proofs.laws.payloads_are_bytes.Goals as goal

pub returns : goal.returns
returns c = payload_bytes
