-- The cell at the object's place is free again.
use Rattle.std.proofs.Common.{◌≡◌, ◌+◌, ◌-◌, Bool, true, false, None, Some, refl, sum_by, ap, sym, ◌∙◌, subst, inl, inr, ◌⊎◌}
use Rattle.std.proofs.Math.ListN.{set}
use Rattle.zspage.specs.Cells.{entry}
use Rattle.class_pool.specs.Pool.{PoolState, objects, IsAtHome, IsLent, with_cells}
use Rattle.class_pool.specs.Index.{pool_of, IsPooled}
use Rattle.class_pool.proofs.PoolLaws.{IsAt, Freed, listed, located, freed, pool_is}
use Rattle.class_pool.proofs.HomeLaws.{stays_home, stays_lent}
use Rattle.class_pool.proofs.pool.ClassPool.free.Goals as goal
use Rattle.class_pool.proofs.pool.ClassPool.free.Goals.{After-place-place, After-put_cell-gone, then-gone, else-gone}

pub place-place-requires : goal.place-place-requires
place-place-requires c =
    let found =
    listed _ _ _ _ c.requires.0 (ap (λ p. p.zspages) c.self.view_is)
    c.self.invariant.fit.index c.requires.1 c.requires.2 in
    (found.0, found.1)

at : (c : After-place-place) → IsAt c.self.inside.zspages.zspages c.place-place.result c.requires.0
at c =
    located _ _ _ _ c.requires.0 c.place-place.result (ap (λ p. p.zspages) c.self.view_is)
    c.self.invariant.fit.index
    c.requires.1 c.requires.2 c.place-place.ensures

pub put_cell-gone-requires : goal.put_cell-gone-requires
put_cell-gone-requires c =
    let here = at (goal.at.put_cell-gone-requires c).After-place-place in
    (here.cells, here.zspage, (c.requires.0, here.cell, c.requires.3))

decided : {A B : Type 0} (b : Bool) → (b ≡ true → A) → (b ≡ false → B) → A ⊎ B
decided true f g = inl (f refl)
decided false f g = inr (g refl)

left : (c : After-put_cell-gone)
    → Freed c.self.inside.used c.self.inside.zspages c.put_cell-gone.new.self c.self.inside.places
    c.requires.0
left c =
    let here = at (goal.at.After-put_cell-gone c).After-place-place in
    freed _ _ _ _ _ _ here c.self.invariant
    (decided c.put_cell-gone.result (c.put_cell-gone.ensures.gone here.cells here.zspage)
    (c.put_cell-gone.ensures.kept here.cells here.zspage))

pub invariant_of-self : goal.invariant_of-self
invariant_of-self c =
    subst (IsPooled (c.self.inside.used - 1) c.put_cell-gone.new.self)
    (ap (λ h. set c.self.inside.places h None) c.requires.2 ∙ sym c.clear.ensures)
    (left (goal.at.invariant_of-self c).After-put_cell-gone).pooled

pub returns-clause-pool : goal.returns-clause-pool
returns-clause-pool c =
    pool_is c.self.inside.class _ _ _ (left
    (goal.at.returns-clause-pool c).After-put_cell-gone).pooled

pub returns-clause-object : goal.returns-clause-object
returns-clause-object c = (
  c.requires.0.bytes,
  λ f.
      ap (λ p. sum_by f (objects p)) (sym c.self.view_is)
      ∙ (left (goal.at.returns-clause-object c).After-put_cell-gone).object f
      ∙ ap (λ h. sum_by f (objects (pool_of c.self.inside.class c.put_cell-gone.new.self))
      + f (record { handle = h; bytes = c.requires.0.bytes })) c.requires.2,
)

pub returns-clause-others : goal.returns-clause-others
returns-clause-others c h other among =
    stays_home (pool_of c.self.inside.class c.self.inside.zspages)
    (pool_of c.self.inside.class c.put_cell-gone.new.self) _ h
    (left (goal.at.returns-clause-others c).After-put_cell-gone).keeps
    (λ e. other (e ∙ c.requires.2))
    (subst (λ p. IsAtHome p h) (sym c.self.view_is) among)

pub returns-clause-others_lent : goal.returns-clause-others_lent
returns-clause-others_lent c h cell other among =
    stays_lent (pool_of c.self.inside.class c.self.inside.zspages)
    (pool_of c.self.inside.class c.put_cell-gone.new.self) _ h
    cell (left (goal.at.returns-clause-others_lent c).After-put_cell-gone).keeps
    (λ e. other (e ∙ c.requires.2))
    (subst (λ p. IsLent p h cell) (sym c.self.view_is) among)

pub returns-clause-place : goal.returns-clause-place
returns-clause-place c =
    let here = at (goal.at.returns-clause-place c).After-place-place in
    let id = c.place-place.result.zspage in
    let ix = c.place-place.result.cell in (
      id,
      ix,
      here.cells,
      c.requires.0,
      record {
        zspage = subst (λ p. entry p.zspages id ≡ Some here.cells) c.self.view_is here.zspage;
        cell = here.cell;
        handle_is = c.requires.2;
      },
      c.requires.3,
      elim c.if-gone.branch [
        | then-gone w ↦
            let case = c.put_cell-gone.ensures.gone here.cells here.zspage w.if-gone.true in
            inl (
              case.0,
              ap (pool_of c.self.inside.class) case.1
                  ∙ ap (λ (p : PoolState). record p { zspages = set p.zspages id None })
                  c.self.view_is,
              w.result-is ∙ w.chain.ensures ∙ ap (λ z. z.chain) case.1
                  ∙ ap (λ p. p.chain) c.self.view_is,
            )
        | else-gone w ↦
            let case = c.put_cell-gone.ensures.kept here.cells here.zspage w.if-gone.false in
            inr (
              case.0,
              ap (pool_of c.self.inside.class) case.1
                  ∙ ap (λ p. with_cells p id (set here.cells ix None)) c.self.view_is,
              w.result-is,
            )
      ],
    )
