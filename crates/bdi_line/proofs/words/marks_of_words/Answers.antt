-- The mask of the lanes that reach `span` once `bound` is added.
use Rattle.std.proofs.Common.{arith, lit≤}
use Rattle.std.specs.Int.{w64}
use Rattle.bdi_line.proofs.Large.{marks_by_lanes}
use Rattle.bdi_line.proofs.words.marks_of_words.Goals as goal

pub returns : goal.returns
returns c =
    marks_by_lanes w64 8 c.args.bound c.args.span c.args.values c.fits-values.0
    c.fits-values.1 c.requires.positive c.requires.span (omega (arith, c.ranges.span.fits))
    (lit≤ tt)
