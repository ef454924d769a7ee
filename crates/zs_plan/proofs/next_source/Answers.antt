-- A row that isn't partial or has no movable object is passed over; else the emptier of the two is
-- the best.
use Rattle.std.proofs.Common.{arith, subst}
use Rattle.std.proofs.lemmas.Bool.{not-true, not-false, both_ways}
use Rattle.zs_plan.proofs.Best.{best_passes, best_alone, best_of_both, IsEmptier-along, IsEmptier-itself}
use Rattle.zs_plan.specs.Plan.{IsBest, IsEmptier, HasMovable}
use Rattle.zs_plan.proofs.next_source.Goals as goal
use Rattle.zs_plan.proofs.next_source.Goals.{then-row-eq0-via-then-row-eq0, then-row-eq0-via-else-row-eq0+then-per-row, then-row-eq0-via-else-row-eq0+else-per-row+then-all_out}

pub returns-then-row-eq0 : goal.returns-then-row-eq0
returns-then-row-eq0 c rows best = best_passes _ _ rows _ _
    (λ p. elim c.then-row-eq0.branch [
      | then-row-eq0-via-then-row-eq0 w ↦ omega (arith, w.if-row-eq0.true, p.0.0)
      | then-row-eq0-via-else-row-eq0+then-per-row w ↦ omega (arith, w.if-per-row.true, p.0.1)
      | then-row-eq0-via-else-row-eq0+else-per-row+then-all_out w ↦
          both_ways _ (not-true _ w.if-all_out.true) p.1
    ])
    best

pub returns-in-Some : goal.returns-in-Some
returns-in-Some c rows best =
    best_of_both _ _ rows _ c.in-Some.found _ IsEmptier-along
    ((omega arith, omega arith), not-false _ c.if-all_out.false)
    (subst (λ o. IsBest IsEmptier (HasMovable c.args.per) rows o) c.in-Some.is best)
    c.emptier.ensures.one c.emptier.ensures.first c.emptier.ensures.second

pub returns-in-None : goal.returns-in-None
returns-in-None c rows best =
    best_alone _ _ rows _ ((omega arith, omega arith), not-false _ c.if-all_out.false)
    (IsEmptier-itself c.args.row)
    (subst (λ o. IsBest IsEmptier (HasMovable c.args.per) rows o) c.in-None.is best)
