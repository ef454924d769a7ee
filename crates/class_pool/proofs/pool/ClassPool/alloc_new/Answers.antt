-- A new zspage takes the object in its first cell.
use Rattle.std.proofs.Common.{◌≡◌, ◌+◌, Some, None, length, replicate, refl, ap, sum_by, map, sym, ◌∙◌, subst, Contains}
use Rattle.std.proofs.Math.ListN.{set}
use Rattle.zspage.specs.Cells.{UsedCell, IsLowestFree, IsCellAt}
use Rattle.class_pool.specs.Zspages.{AreFilled, IsLeastAbsent, put_at}
use Rattle.class_pool.specs.Pool.{PoolState, IsFresh, IsAtHome, IsLent, used_cells, objects, object_of, new_use}
use Rattle.class_pool.specs.Index.{pool_of, IsPooled}
use Rattle.class_pool.proofs.PoolLaws.{Made, made, made_zspages, first_cell, Stored, stored, pool_is, fresh_is}
use Rattle.class_pool.proofs.HomeLaws.{Keeps, stays_home, stays_lent}
use Rattle.class_pool.proofs.pool.ClassPool.alloc_new.Goals as goal
use Rattle.class_pool.proofs.pool.ClassPool.alloc_new.Goals.{After-from_residual, In_ok-id, After-store-handle}

-- ---- want of memory: some free numbers may have been made

same : (c : After-from_residual) → IsPooled c.self.inside.used c.make_zspage.new.zspages
    c.make_zspage.new.places
same c =
    let err = c.in_err-id.ensures.err in
    record {
      fit = c.in_err-id.ensures.fit;
      count = c.self.invariant.count ∙ ap (λ z. length (used_cells z.zspages)) (sym err);
      filled = subst (λ z. AreFilled z.zspages) (sym err) c.self.invariant.filled;
    }

pub invariant_of-self : goal.invariant_of-self
invariant_of-self c = same (goal.at.invariant_of-self c).After-from_residual

pub returns-in_err-id-clause-pool : goal.returns-in_err-id-clause-pool
returns-in_err-id-clause-pool c =
    pool_is c.self.inside.class _ _ _ (same
    (goal.at.returns-in_err-id-clause-pool c).After-from_residual)

-- ---- the object in the new zspage

new : (c : In_ok-id) → Made c.self.inside.zspages c.make_zspage.new.zspages c.in_ok-id.id
new c =
    made _ _ c.in_ok-id.id c.self.invariant.fit.some c.self.invariant.filled
    c.in_ok-id.ensures.least
    c.in_ok-id.ensures.after

pub store-handle-requires-clause-room : goal.store-handle-requires-clause-room
store-handle-requires-clause-room c =
    (new (goal.at.store-handle-requires-clause-room c).In_ok-id).room

-- the use of the cell from now on
abbrev used : After-store-handle → UsedCell
used c = new_use c.store-handle.result.0 c.args.bytes.now c.store-handle.ensures.after.2

left : (c : After-store-handle) → Stored c.make_zspage.new.zspages c.store-handle.new.zspages
    (used c)
left c =
    let after = c.store-handle.ensures.after in
    stored _ _ _ _ _ (used c)
    (new (goal.at.After-store-handle c).In_ok-id).beside after.3 after.4.free after.7

pooled : (c : After-store-handle)
    → IsPooled (c.self.inside.used + 1) c.store-handle.new.zspages c.store-handle.new.places
pooled c = record {
  fit = c.store-handle.ensures.fit;
  count = ap (λ n. n + 1) (c.self.invariant.count
      ∙ ap length (sym (new (goal.at.After-store-handle c).In_ok-id).used))
      ∙ sym (left c).count;
  filled = (left c).filled;
}

pub invariant_of-self-2 : goal.invariant_of-self-2
invariant_of-self-2 c = pooled (goal.at.invariant_of-self-2 c).After-store-handle

pub returns-clause-pool : goal.returns-clause-pool
returns-clause-pool c = pool_is c.self.inside.class _ _ _
    (pooled (goal.at.returns-clause-pool c).After-store-handle)

-- the used cells before are among those of the new zspages
among_new : (c : After-store-handle) (u : UsedCell)
    → Contains (used_cells c.self.inside.zspages.zspages) u
    → Contains (used_cells c.make_zspage.new.zspages.zspages) u
among_new c u among =
    subst (λ us. Contains us u) (sym (new (goal.at.After-store-handle c).In_ok-id).used) among

fresh : (c : After-store-handle) → IsFresh (pool_of c.self.inside.class c.self.inside.zspages)
    c.store-handle.result.0
fresh c u among =
    fresh_is _ _ _ c.in_ok-id.ensures.fit.index c.store-handle.ensures.free u (among_new c u among)

keep : (c : After-store-handle)
    → Keeps c.self.inside.zspages.zspages c.store-handle.new.zspages.zspages c.store-handle.result.0
keep c u other among = (left c).keeps u other (among_new c u among)

pub returns-clause-fresh : goal.returns-clause-fresh
returns-clause-fresh c =
    subst (λ p. IsFresh p c.store-handle.result.0) c.self.view_is
    (fresh (goal.at.returns-clause-fresh c).After-store-handle)

pub returns-clause-object : goal.returns-clause-object
returns-clause-object c f =
    let steps = goal.at.returns-clause-object c in
    let here = steps.After-store-handle in
    (left here).object f
    ∙ ap (λ us. sum_by f (map object_of us) + f (object_of (used here))) (new steps.In_ok-id).used
    ∙ ap (λ p. sum_by f (objects p) + f (object_of (used here))) c.self.view_is

pub returns-clause-home : goal.returns-clause-home
returns-clause-home c =
    let here = (goal.at.returns-clause-home c).After-store-handle in
    (used here, (left here).here, refl, refl)

pub returns-clause-others : goal.returns-clause-others
returns-clause-others c h among =
    let here = (goal.at.returns-clause-others c).After-store-handle in
    let was = subst (λ p. IsAtHome p h) (sym c.self.view_is) among in
    stays_home (pool_of c.self.inside.class c.self.inside.zspages)
    (pool_of c.self.inside.class c.store-handle.new.zspages) _ h
    (keep here) (λ e. fresh here was.0 was.1 (was.2 ∙ e)) was

pub returns-clause-others_lent : goal.returns-clause-others_lent
returns-clause-others_lent c h cell among =
    let here = (goal.at.returns-clause-others_lent c).After-store-handle in
    let was = subst (λ p. IsLent p h cell) (sym c.self.view_is) among in
    stays_lent (pool_of c.self.inside.class c.self.inside.zspages)
    (pool_of c.self.inside.class c.store-handle.new.zspages) _ h
    cell (keep here) (λ e. fresh here was.0 was.1 (was.2 ∙ e)) was

pub returns-clause-place : goal.returns-clause-place
returns-clause-place c =
    let steps = goal.at.returns-clause-place c in
    let after = c.store-handle.ensures.after in
    let is = c.in_ok-id.ensures.after in
    let u : UsedCell = used steps.After-store-handle in
    let both : Some after.1 ≡ Some (replicate c.self.inside.zspages.per None) = sym after.3
    ∙ (new steps.In_ok-id).there in
    let all : after.1 ≡ replicate c.self.inside.zspages.per None = cc in
    let first = first_cell _ after.0 c.self.invariant.fit.some
    (subst (λ cs. IsLowestFree cs after.0) all after.4) in
    let size = ap (λ z. z.size) is ∙ ap (λ p. p.size) c.self.view_is in (
      c.in_ok-id.id,
      after.2,
      record {
        least = subst (λ p. IsLeastAbsent p.zspages c.in_ok-id.id)
            c.self.view_is c.in_ok-id.ensures.least;
        stored = after.5;
        at = subst (λ n. IsCellAt n 0 after.2) size
            (subst (λ n. IsCellAt c.make_zspage.new.zspages.size n after.2) first after.6);
        after = ap (pool_of c.self.inside.class)
            (made_zspages _ _ _ c.in_ok-id.id after.0 after.1 u
            c.in_ok-id.ensures.least is all first after.7)
            ∙ ap (λ (p : PoolState). record p {
              zspages = put_at p.zspages c.in_ok-id.id
                  (Some (set (replicate p.per None) 0 (Some u)));
            }) c.self.view_is;
      },
    )
