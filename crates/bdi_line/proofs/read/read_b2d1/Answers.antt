-- The values that a line with this payload has are those that are read.
use Rattle.std.proofs.Common.{◌^◌, refl, ap, ◌∙◌, lit<}
use Rattle.std.specs.Simd.Lanes.{number_l, digits_l}
use Rattle.bdi_line.specs.Line.{values, b2d1}
use Rattle.bdi_line.proofs.Digits.{length-values, values_below}
use Rattle.bdi_line.proofs.Decoded.{values_read, chunk_tail}
use Rattle.bdi_line.proofs.read.read_b2d1.Goals as goal

pub returns : goal.returns
returns c line split =
    let p = c.args.payload.now in
    values_read 128 256 255 (2 ^ 16) b2d1 (values 2 32 line) p split refl refl refl refl refl
    (length-values 2 32 line) (values_below 2 32 line (lit< tt)) (lit< tt)
    c.half_at_front-marks.result c.quarter_at_front-base.result c.quarters_from_1-low.result
    c.signed_quarters.result c.based_quarters.result
    c.half_at_front-marks.ensures
    (c.quarter_at_front-base.ensures ∙ ap (number_l 256) (chunk_tail 2 4 p))
    (c.quarters_from_1-low.ensures
    ∙ ap (λ l. digits_l 256 32 (number_l 256 l)) (chunk_tail 32 6 p))
    c.signed_quarters.ensures c.based_quarters.ensures.len c.based_quarters.ensures.lanes
