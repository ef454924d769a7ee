-- The best destination and the best source of all rows are those of the plan.
use Rattle.zs_plan.specs.Plan.{IsFuller, IsEmptier, AreBest}
use Rattle.zs_plan.proofs.Best.{best_whole, best_next}
use Rattle.std.proofs.Common.{refl}
use Rattle.zs_plan.proofs.choose.Goals as goal

pub loop-row-preserved : goal.loop-row-preserved
loop-row-preserved c = (
  best_next _ _ _ _ _ _ c.loop-row-test.true
      (c.next_destination-destination.ensures _ c.loop-row.invariant.0),
  best_next _ _ _ _ _ _ c.loop-row-test.true
      (c.next_source-source.ensures _ c.loop-row.invariant.1),
)

pub returns : goal.returns
returns c =
    let best : AreBest c.args.per c.args.rows.now c.loop-row.source c.loop-row.destination =
    record {
      own = c.requires;
      emptiest = best_whole IsEmptier _ _ _ _ _ c.loop-row-test.false refl c.loop-row.invariant.1;
      fullest = best_whole IsFuller _ _ _ _ _ c.loop-row-test.false refl c.loop-row.invariant.0;
    } in
    record {
      plan = c.plan_of.ensures.plan _ _ best;
      none = c.plan_of.ensures.none _ _ best;
      goes_on = c.plan_of.ensures.goes_on _ _ best;
    }
