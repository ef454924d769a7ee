-- The best source and the best destination of the pool's rows are those of the plan.
use Rattle.std.proofs.Common.{subst}
use Rattle.zs_plan.specs.Plan.{AreBest}
use Rattle.class_pool.specs.Rows.{rows}
use Rattle.class_pool.specs.Pool.{IsPool}
use Rattle.class_pool.proofs.PoolLaws.{pool_is}
use Rattle.class_pool.proofs.PlanLaws.{own_ids}
use Rattle.class_pool.proofs.pool.ClassPool.next_move.Goals as goal

pub returns : goal.returns
returns c =
    let best : AreBest c.args.self.now.per (rows c.args.self.now.zspages)
    c.source.result c.destination.result =
    subst (λ p. AreBest p.per (rows p.zspages) c.source.result c.destination.result) c.self.view_is
    (record {
      own = own_ids c.self.inside.zspages.zspages;
      emptiest = c.source.ensures;
      fullest =
          c.destination.ensures;
    }) in
    record {
      plan = c.plan_of.ensures.plan _ _ best;
      none = c.plan_of.ensures.none _ _ best;
      goes_on = c.plan_of.ensures.goes_on _ _ best;
      pool = subst IsPool c.self.view_is (pool_is c.self.inside.class _ _ _ c.self.invariant);
    }
