-- The cell at the object's place comes back.
use Rattle.std.proofs.Common.{◌≡◌, Some, false, refl, ap, sym, ◌∙◌, subst}
use Rattle.std.proofs.Math.ListN.{set}
use Rattle.zspage.specs.Cells.{UsedCell, entry}
use Rattle.class_pool.specs.Pool.{objects, with_cells, IsAtHome, IsLent}
use Rattle.class_pool.specs.Index.{pool_of}
use Rattle.class_pool.proofs.PoolLaws.{IsAt, Relent, listed, located, relent, pool_is}
use Rattle.class_pool.proofs.HomeLaws.{stays_home, stays_lent}
use Rattle.class_pool.proofs.pool.ClassPool.unpin.Goals as goal
use Rattle.class_pool.proofs.pool.ClassPool.unpin.Goals.{After-place-place, After-back}

pub place-place-requires : goal.place-place-requires
place-place-requires c =
    let found =
    listed _ _ _ _ c.requires.0 (ap (λ p. p.zspages) c.self.view_is)
    c.self.invariant.fit.index c.requires.1 c.requires.2 in
    (found.0, found.1)

at : (c : After-place-place) → IsAt c.self.inside.zspages.zspages c.place-place.result c.requires.0
at c =
    located _ _ _ _ c.requires.0 c.place-place.result (ap (λ p. p.zspages) c.self.view_is)
    c.self.invariant.fit.index
    c.requires.1 c.requires.2 c.place-place.ensures

pub back-requires : goal.back-requires
back-requires c =
    let here = at (goal.at.back-requires c).After-place-place in
    (here.cells, here.zspage, (c.requires.0, here.cell, c.requires.3, c.requires.4))

-- the use of the cell from now on
abbrev home : After-back → UsedCell
home c = record c.requires.0 { out = false }

left : (c : After-back)
    → Relent c.self.inside.used c.self.inside.zspages c.back.new.self c.self.inside.places
    c.requires.0 (home c)
left c =
    let here = at (goal.at.After-back c).After-place-place in
    relent _ _ _ _ _ _ (home c) here c.self.invariant refl
    (c.back.ensures here.cells c.requires.0 here.zspage here.cell)

pub invariant_of-self : goal.invariant_of-self
invariant_of-self c = (left (goal.at.invariant_of-self c).After-back).pooled

pub returns-clause-pool : goal.returns-clause-pool
returns-clause-pool c = pool_is c.self.inside.class _ _ _
    (left (goal.at.returns-clause-pool c).After-back).pooled

pub returns-clause-list : goal.returns-clause-list
returns-clause-list c = (left (goal.at.returns-clause-list c).After-back).list
    ∙ ap objects c.self.view_is

pub returns-clause-home : goal.returns-clause-home
returns-clause-home c =
    let steps = goal.at.returns-clause-home c in
    (home steps.After-back, (left steps.After-back).here, c.requires.2, refl)

pub returns-clause-others : goal.returns-clause-others
returns-clause-others c h other among =
    stays_home (pool_of c.self.inside.class c.self.inside.zspages)
    (pool_of c.self.inside.class c.back.new.self) _ h
    (left (goal.at.returns-clause-others c).After-back).keeps (λ e. other (e ∙ c.requires.2))
    (subst (λ p. IsAtHome p h) (sym c.self.view_is) among)

pub returns-clause-others_lent : goal.returns-clause-others_lent
returns-clause-others_lent c h cell other among =
    stays_lent (pool_of c.self.inside.class c.self.inside.zspages)
    (pool_of c.self.inside.class c.back.new.self) _ h cell
    (left (goal.at.returns-clause-others_lent c).After-back).keeps (λ e. other (e ∙ c.requires.2))
    (subst (λ p. IsLent p h cell) (sym c.self.view_is) among)

pub returns-clause-cell : goal.returns-clause-cell
returns-clause-cell c =
    let here = at (goal.at.returns-clause-cell c).After-place-place in (
      c.place-place.result.zspage,
      c.place-place.result.cell,
      here.cells,
      c.requires.0,
      record {
        zspage = subst (λ p. entry p.zspages c.place-place.result.zspage ≡ Some here.cells)
            c.self.view_is here.zspage;
        cell = here.cell;
        handle_is = c.requires.2;
      },
      c.requires.3,
      ap (pool_of c.self.inside.class) (c.back.ensures here.cells
          c.requires.0 here.zspage here.cell)
          ∙ ap (λ p. with_cells p c.place-place.result.zspage
          (set here.cells c.place-place.result.cell (Some (record c.requires.0 { out = false }))))
          c.self.view_is,
    )
