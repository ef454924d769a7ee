-- The lanes that reach `span` once `bound` is added are marked and lowered by the base.
use Rattle.std.proofs.Common.{arith, lit≤}
use Rattle.std.specs.Int.{w16}
use Rattle.bdi_line.proofs.Large.{marks_by_lanes, deltas_by_lanes}
use Rattle.bdi_line.proofs.quarters.part_quarters.Goals as goal

pub base_of_quarters-base-requires : goal.base_of_quarters-base-requires
base_of_quarters-base-requires c =
    marks_by_lanes w16 32 c.args.bound c.args.span c.args.values c.fits-values.0
    c.fits-values.1 c.requires.positive c.requires.span (omega (arith, c.ranges.span.fits))
    (lit≤ tt)

pub returns : goal.returns
returns c =
    record {
      marks_is = marks_by_lanes w16 32 c.args.bound c.args.span c.args.values c.fits-values.0
          c.fits-values.1 c.requires.positive c.requires.span (omega (arith, c.ranges.span.fits))
          (lit≤ tt);
      base_is = c.base_of_quarters-base.ensures;
      deltas_is = deltas_by_lanes w16 32 c.args.bound c.args.span c.args.values c.fits-values.0
          c.fits-values.1 c.requires.positive c.requires.span (omega (arith, c.ranges.span.fits))
          c.base_of_quarters-base.result;
    }
