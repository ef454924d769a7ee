-- The mask, the base and the deltas are the payload.
use Rattle.std.proofs.Common.{◌-◌, ◌^◌, ap, ◌∙◌, bit_and}
use Rattle.std.proofs.Math.Nat.{mod-eq_of_lt}
use Rattle.std.proofs.lemmas.Nat.{and_mask}
use Rattle.std.specs.Simd.Lanes.{digits_l}
use Rattle.bdi_line.specs.Line.{b2d1}
use Rattle.bdi_line.proofs.Digits.{le_digits}
use Rattle.bdi_line.proofs.Split.{written, marks_fit}
use Rattle.bdi_line.proofs.pack.put_b2d1.Goals as goal

pub returns-clause-written : goal.returns-clause-written
returns-clause-written g c _ =
    let vs = c.args.values in
    written b2d1 vs c.in-Some.split.marks c.in-Some.split.base c.in-Some.split.deltas
    c.args.out.now.items c.put.new.out.items c.put-2.new.out.items c.put-3.new.out.items _ _ _
    c.in-Some.ensures.some c.put.ensures.items c.put-2.ensures.items c.put-3.ensures.items
    (c.to_le_bytes.ensures ∙ le_digits 4 (bit_and c.in-Some.split.marks (2 ^ 32 - 1))
    ∙ ap (digits_l 256 4) (and_mask c.in-Some.split.marks 32
    ∙ mod-eq_of_lt (marks_fit 32 _ vs c.in-Some.split.marks c.fits-values.0
    c.in-Some.ensures.some.marks_is)))
    (c.to_le_bytes-2.ensures ∙ le_digits 2 c.in-Some.split.base)
    c.low_1_of_quarters.ensures
