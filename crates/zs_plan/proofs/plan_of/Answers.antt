-- The best source and the best destination are the plan, unless they are one zspage.
use Rattle.std.proofs.Common.{subst}
use Rattle.zs_plan.specs.Plan.{IsBest, IsFuller, IsEmptier, IsPartial, HasMovable}
use Rattle.zs_plan.proofs.Best.{no_source, no_plan, plan_is, goes_on}
use Rattle.zs_plan.proofs.plan_of.Goals as goal

pub returns-in_err-from-clause-none : goal.returns-in_err-from-clause-none
returns-in_err-from-clause-none c per rows best =
    rw c.from_residual-in_err-from.ensures
    (no_source per rows c.in_ok-to.to
    (subst (λ o. IsBest IsFuller (IsPartial per) rows o) c.in_ok-to.was best.fullest)
    (subst (λ o. IsBest IsEmptier (HasMovable per) rows o) c.in_err-from.was best.emptiest))

pub returns-then-from-to-clause-none : goal.returns-then-from-to-clause-none
returns-then-from-to-clause-none c per rows best =
    no_plan per rows c.in_ok-from.from c.in_ok-to.to best.own
    (subst (λ o. IsBest IsEmptier (HasMovable per) rows o) c.in_ok-from.was best.emptiest)
    (subst (λ o. IsBest IsFuller (IsPartial per) rows o) c.in_ok-to.was best.fullest)
    c.if-from-to.true

pub returns-clause-plan : goal.returns-clause-plan
returns-clause-plan c per rows best =
    plan_is per rows c.in_ok-from.from c.in_ok-to.to
    (subst (λ o. IsBest IsEmptier (HasMovable per) rows o) c.in_ok-from.was best.emptiest)
    (subst (λ o. IsBest IsFuller (IsPartial per) rows o) c.in_ok-to.was best.fullest)
    c.if-from-to.false

pub returns-clause-goes_on : goal.returns-clause-goes_on
returns-clause-goes_on c per rows best after e move among is =
    let source = subst (λ o. IsBest IsEmptier (HasMovable per) rows o) c.in_ok-from.was best.emptiest in
    goes_on per rows after c.in_ok-from.from c.in_ok-to.to e best.own source.among source.fits.0
    (subst (λ o. IsBest IsFuller (IsPartial per) rows o) c.in_ok-to.was best.fullest)
    c.if-from-to.false move among is
