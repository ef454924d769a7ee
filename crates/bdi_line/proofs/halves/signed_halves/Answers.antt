-- The lanes from `bound` on are raised by `rest`, and the others stay.
use Rattle.std.specs.Int.{w32}
use Rattle.bdi_line.proofs.Lanes.{raised}
use Rattle.bdi_line.proofs.halves.signed_halves.Goals as goal

pub returns : goal.returns
returns c = raised w32 16 c.args.bound c.args.rest c.args.low c.fits-low.0
