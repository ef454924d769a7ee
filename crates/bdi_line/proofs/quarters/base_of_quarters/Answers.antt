-- The lane at the lowest mark is the first large value; where no bit is set there is none.
use Rattle.std.proofs.Common.{◌^◌, ap, get_or, sym, ◌∙◌, arith}
use Rattle.std.proofs.lemmas.Grind.{get_or_default_zero}
use Rattle.std.proofs.lemmas.List.{get_or_past}
use Rattle.std.specs.Int.Count.{count_trailing_zeros}
use Rattle.bdi_line.proofs.Large.{base_at}
use Rattle.bdi_line.proofs.quarters.base_of_quarters.Goals as goal

pub returns-then-first-eq0 : goal.returns-then-first-eq0
returns-then-first-eq0 c =
    let vs = c.args.values in
    c.index.ensures
    ∙ get_or_default_zero vs 0 c.index.result.now (omega (arith, c.fits-values.0))
    ∙ ap (λ j. get_or vs j 0) (sym c.if-first-eq0.true)
    ∙ base_at c.args.bound (2 ^ 16) vs c.args.marks (omega (arith, c.fits-values.0)) c.requires

pub returns-then-first-lt32 : goal.returns-then-first-lt32
returns-then-first-lt32 c =
    let vs = c.args.values in
    c.index-then-first-lt32.ensures
    ∙ get_or_default_zero vs _ c.index-then-first-lt32.result.now (omega (arith, c.fits-values.0))
    ∙ base_at c.args.bound (2 ^ 16) vs c.args.marks (omega (arith, c.fits-values.0)) c.requires

pub returns-else-first-lt32 : goal.returns-else-first-lt32
returns-else-first-lt32 c =
    let vs = c.args.values in
    let none = get_or_past vs (count_trailing_zeros 64 c.args.marks) 0
    (omega (arith, c.fits-values.0)) in
    sym none
    ∙ base_at c.args.bound (2 ^ 16) vs c.args.marks (omega (arith, c.fits-values.0)) c.requires
