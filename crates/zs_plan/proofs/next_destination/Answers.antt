-- A row that isn't partial is passed over; else the fuller of the two is the best.
use Rattle.std.proofs.Common.{arith, subst}
use Rattle.zs_plan.proofs.Best.{best_passes, best_alone, best_of_both, IsFuller-along, IsFuller-itself}
use Rattle.zs_plan.specs.Plan.{IsBest, IsFuller, IsPartial}
use Rattle.zs_plan.proofs.next_destination.Goals as goal

pub returns-then-row-eq0 : goal.returns-then-row-eq0
returns-then-row-eq0 c rows best = best_passes _ _ rows _ _ (λ p. omega arith) best

pub returns-in-Some : goal.returns-in-Some
returns-in-Some c rows best =
    best_of_both _ _ rows _ c.in-Some.found _ IsFuller-along (omega arith, omega arith)
    (subst (λ o. IsBest IsFuller (IsPartial c.args.per) rows o) c.in-Some.is best)
    c.fuller.ensures.one c.fuller.ensures.first c.fuller.ensures.second

pub returns-in-None : goal.returns-in-None
returns-in-None c rows best =
    best_alone _ _ rows _ (omega arith, omega arith) (IsFuller-itself c.args.row)
    (subst (λ o. IsBest IsFuller (IsPartial c.args.per) rows o) c.in-None.is best)
