use Rattle.device_faults.proofs.Works.{new_read}
use Rattle.device_faults.proofs.tests.read.Goals as goal

pub returns : goal.returns
returns c = new_read c.args.op c.args.scratch.now c.read.result c.read.ensures
