-- The object that is freed is none of those that were at home before.
use Rattle.std.proofs.Common.{◌∙◌}
use Rattle.bench_moves.proofs.+halve.Goals as goal

pub returns : goal.returns
returns t c h among =
    let first = c.add.ensures.others h among in
    c.free.ensures.others h (λ same. c.in_ok-handle.ensures.fresh first.0 first.1 (first.2 ∙ same))
    (c.halve.ensures h (c.add-2.ensures.others h first))
