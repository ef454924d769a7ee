-- The fields say what holds of each pool.
use Rattle.std.proofs.Common.{subst}
use Rattle.class_pool.specs.Pool.{IsPool}
use Rattle.class_pool.proofs.PoolLaws.{pool_is}
use Rattle.class_pool.proofs.pool.ClassPool.chain.Goals as goal

pub returns-clause-pool : goal.returns-clause-pool
returns-clause-pool c =
    subst IsPool c.self.view_is (pool_is c.self.inside.class _ _ _ c.self.invariant)
