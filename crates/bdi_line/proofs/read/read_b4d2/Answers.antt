-- The values that a line with this payload has are those that are read.
use Rattle.std.proofs.Common.{◌^◌, refl, ap, ◌∙◌, lit<}
use Rattle.std.specs.Simd.Lanes.{number_l, digits_l}
use Rattle.bdi_line.specs.Line.{values, b4d2}
use Rattle.bdi_line.proofs.Digits.{length-values, values_below}
use Rattle.bdi_line.proofs.Decoded.{values_read, chunk_tail}
use Rattle.bdi_line.proofs.read.read_b4d2.Goals as goal

pub returns : goal.returns
returns c line split =
    let p = c.args.payload.now in
    values_read 32768 65536 65535 (2 ^ 32) b4d2 (values 4 16 line) p split refl refl refl refl refl
    (length-values 4 16 line) (values_below 4 16 line (lit< tt)) (lit< tt)
    c.quarter_at_front-marks.result c.half_at_front-base.result c.halves_from_2-low.result
    c.signed_halves.result c.based_halves.result
    c.quarter_at_front-marks.ensures
    (c.half_at_front-base.ensures ∙ ap (number_l 256) (chunk_tail 4 2 p))
    (c.halves_from_2-low.ensures
    ∙ ap (λ l. digits_l 65536 16 (number_l 256 l)) (chunk_tail 32 6 p))
    c.signed_halves.ensures c.based_halves.ensures.len c.based_halves.ensures.lanes
