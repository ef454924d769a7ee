-- The fullest zspage takes the object.
use Rattle.std.proofs.Common.{◌+◌, refl, ap, sum_by, ◌∙◌, sym, subst}
use Rattle.zspage.specs.Cells.{UsedCell}
use Rattle.class_pool.specs.Pool.{IsFresh, IsAtHome, IsLent, object_of, new_use, objects}
use Rattle.class_pool.specs.Index.{pool_of, IsPooled}
use Rattle.class_pool.proofs.PoolLaws.{Stored, stored, pool_is, fresh_is}
use Rattle.class_pool.proofs.HomeLaws.{stays_home, stays_lent}
use Rattle.class_pool.proofs.pool.ClassPool.alloc.Goals as goal
use Rattle.class_pool.proofs.pool.ClassPool.alloc.Goals.{After-store-handle}

-- the use of the cell from now on
abbrev used : After-store-handle → UsedCell
used c = new_use c.store-handle.result.0 c.args.bytes.now c.store-handle.ensures.after.2

left : (c : After-store-handle) → Stored c.self.inside.zspages c.store-handle.new.zspages (used c)
left c =
    let after = c.store-handle.ensures.after in
    stored _ _ _ _ _ (used c) (λ k cs other. c.self.invariant.filled k cs)
    after.3 after.4.free after.7

pooled : (c : After-store-handle)
    → IsPooled (c.self.inside.used + 1) c.store-handle.new.zspages c.store-handle.new.places
pooled c = record {
  fit = c.store-handle.ensures.fit;
  count = ap (λ n. n + 1) c.self.invariant.count ∙ sym (left c).count;
  filled = (left c).filled;
}

pub invariant_of-self : goal.invariant_of-self
invariant_of-self c = pooled (goal.at.invariant_of-self c).After-store-handle

pub returns-clause-pool : goal.returns-clause-pool
returns-clause-pool c = pool_is c.self.inside.class _ _ _
    (pooled (goal.at.returns-clause-pool c).After-store-handle)

fresh : (c : After-store-handle) → IsFresh (pool_of c.self.inside.class c.self.inside.zspages)
    c.store-handle.result.0
fresh c = fresh_is _ _ _ c.self.invariant.fit.index c.store-handle.ensures.free

pub returns-clause-fresh : goal.returns-clause-fresh
returns-clause-fresh c =
    subst (λ p. IsFresh p c.store-handle.result.0) c.self.view_is
    (fresh (goal.at.returns-clause-fresh c).After-store-handle)

pub returns-clause-object : goal.returns-clause-object
returns-clause-object c f =
    let here = (goal.at.returns-clause-object c).After-store-handle in
    (left here).object f ∙ ap (λ p. sum_by f (objects p) + f (object_of (used here))) c.self.view_is

pub returns-clause-home : goal.returns-clause-home
returns-clause-home c =
    let here = (goal.at.returns-clause-home c).After-store-handle in
    (used here, (left here).here, refl, refl)

pub returns-clause-others : goal.returns-clause-others
returns-clause-others c h among =
    let here = (goal.at.returns-clause-others c).After-store-handle in
    let was = subst (λ p. IsAtHome p h) (sym c.self.view_is) among in
    stays_home (pool_of c.self.inside.class c.self.inside.zspages)
    (pool_of c.self.inside.class c.store-handle.new.zspages) _ h
    (left here).keeps (λ e. fresh here was.0 was.1 (was.2 ∙ e)) was

pub returns-clause-others_lent : goal.returns-clause-others_lent
returns-clause-others_lent c h cell among =
    let here = (goal.at.returns-clause-others_lent c).After-store-handle in
    let was = subst (λ p. IsLent p h cell) (sym c.self.view_is) among in
    stays_lent (pool_of c.self.inside.class c.self.inside.zspages)
    (pool_of c.self.inside.class c.store-handle.new.zspages) _ h
    cell (left here).keeps (λ e. fresh here was.0 was.1 (was.2 ∙ e)) was
