-- The lanes from `bound` on are raised by `rest`, and the others stay.
use Rattle.std.specs.Int.{w64}
use Rattle.bdi_line.proofs.Lanes.{raised}
use Rattle.bdi_line.proofs.words.signed_words.Goals as goal

pub returns : goal.returns
returns c = raised w64 8 c.args.bound c.args.rest c.args.low c.fits-low.0
