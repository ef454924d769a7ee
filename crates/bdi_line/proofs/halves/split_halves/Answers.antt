-- The values are near their base exactly where no delta is marked.
use Rattle.std.proofs.Common.{◌^◌, sym, ◌∙◌, arith, lit<}
use Rattle.std.proofs.lemmas.Bool.{eq-eqb, ne_eqb}
use Rattle.std.proofs.lemmas.Grind.{get_or_default_zero}
use Rattle.bdi_line.proofs.Split.{far_misfits, near_by_marks}
use Rattle.bdi_line.proofs.halves.split_halves.Goals as goal

pub returns-then-is_far_half-clause-fits : goal.returns-then-is_far_half-clause-fits
returns-then-is_far_half-clause-fits c =
    let vs = c.args.values in
    sym (far_misfits 16 c.args.bound (2 ^ 32) 1 vs c.index.result.now c.index-2.result.now
    c.fits-values.0 (lit< tt)
    (c.index.ensures ∙ get_or_default_zero vs 0 _ (omega (arith, c.fits-values.0)))
    (c.index-2.ensures ∙ get_or_default_zero vs 1 _ (omega (arith, c.fits-values.0)))
    (c.is_far_half.ensures c.if-is_far_half.true))

pub returns-then-is_far_half-2-clause-fits : goal.returns-then-is_far_half-2-clause-fits
returns-then-is_far_half-2-clause-fits c =
    let vs = c.args.values in
    sym (far_misfits 16 c.args.bound (2 ^ 32) 2 vs c.index-3.result.now c.index-4.result.now
    c.fits-values.0 (lit< tt)
    (c.index-3.ensures ∙ get_or_default_zero vs 0 _ (omega (arith, c.fits-values.0)))
    (c.index-4.ensures ∙ get_or_default_zero vs 2 _ (omega (arith, c.fits-values.0)))
    (c.is_far_half-2.ensures c.if-is_far_half-2.true))

pub returns-then-marks_of_halves-ne0-clause-fits : goal.returns-then-marks_of_halves-ne0-clause-fits
returns-then-marks_of_halves-ne0-clause-fits c =
    let split = c.part_halves-split in
    sym (ne_eqb _ 0 c.if-marks_of_halves-ne0.true)
    ∙ near_by_marks c.args.bound (2 ^ 32) c.args.values split.result.base
    c.marks_of_halves.result split.result.deltas split.ensures.base_is
    split.ensures.deltas_is c.marks_of_halves.ensures

pub returns-clause-fits : goal.returns-clause-fits
returns-clause-fits c =
    let split = c.part_halves-split in
    sym (eq-eqb _ 0 c.if-marks_of_halves-ne0.false)
    ∙ near_by_marks c.args.bound (2 ^ 32) c.args.values split.result.base
    c.marks_of_halves.result split.result.deltas split.ensures.base_is
    split.ensures.deltas_is c.marks_of_halves.ensures
