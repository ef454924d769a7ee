-- The lanes from `bound` on are raised by `rest`, and the others stay.
use Rattle.std.specs.Int.{w16}
use Rattle.bdi_line.proofs.Lanes.{raised}
use Rattle.bdi_line.proofs.quarters.signed_quarters.Goals as goal

pub returns : goal.returns
returns c = raised w16 32 c.args.bound c.args.rest c.args.low c.fits-low.0
