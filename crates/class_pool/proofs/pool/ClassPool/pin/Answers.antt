-- The cell at the object's place goes out.
use Rattle.std.proofs.Common.{◌≡◌, Some, true, refl, ap, sym, ◌∙◌, subst}
use Rattle.std.proofs.Math.ListN.{set}
use Rattle.zspage.specs.Cells.{UsedCell, IsStored, IsCellAt, entry}
use Rattle.class_pool.specs.Pool.{objects, with_cells, IsAtHome, IsLent}
use Rattle.class_pool.specs.Index.{pool_of}
use Rattle.class_pool.proofs.PoolLaws.{IsAt, Relent, listed, located, relent, pool_is}
use Rattle.class_pool.proofs.HomeLaws.{stays_home, stays_lent}
use Rattle.class_pool.proofs.pool.ClassPool.pin.Goals as goal
use Rattle.class_pool.proofs.pool.ClassPool.pin.Goals.{After-place-place, After-lend}

pub place-place-requires : goal.place-place-requires
place-place-requires c =
    let found =
    listed _ _ _ _ c.requires.0 (ap (λ p. p.zspages) c.self.view_is)
    c.self.invariant.fit.index c.requires.1 c.requires.2 in
    (found.0, found.1)

at : (c : After-place-place) → IsAt c.self.inside.zspages.zspages c.place-place.result c.requires.0
at c =
    located _ _ _ _ c.requires.0 c.place-place.result (ap (λ p. p.zspages) c.self.view_is)
    c.self.invariant.fit.index
    c.requires.1 c.requires.2 c.place-place.ensures

pub lend-requires : goal.lend-requires
lend-requires c =
    let here = at (goal.at.lend-requires c).After-place-place in
    (here.cells, here.zspage, (c.requires.0, here.cell, c.requires.3))

-- the use of the cell from now on
abbrev lent : After-lend → UsedCell
lent c = record c.requires.0 { out = true }

left : (c : After-lend)
    → Relent c.self.inside.used c.self.inside.zspages c.lend.new.self c.self.inside.places
    c.requires.0 (lent c)
left c =
    let here = at (goal.at.After-lend c).After-place-place in
    relent _ _ _ _ _ _ (lent c) here c.self.invariant refl
    (c.lend.ensures here.cells c.requires.0 here.zspage here.cell).3

pub invariant_of-self : goal.invariant_of-self
invariant_of-self c = (left (goal.at.invariant_of-self c).After-lend).pooled

pub returns-clause-pool : goal.returns-clause-pool
returns-clause-pool c = pool_is c.self.inside.class _ _ _
    (left (goal.at.returns-clause-pool c).After-lend).pooled

pub returns-clause-list : goal.returns-clause-list
returns-clause-list c = (left (goal.at.returns-clause-list c).After-lend).list
    ∙ ap objects c.self.view_is

pub returns-clause-lent : goal.returns-clause-lent
returns-clause-lent c =
    let steps = goal.at.returns-clause-lent c in
    let here = at steps.After-place-place in (
      lent steps.After-lend,
      (left steps.After-lend).here,
      c.requires.2,
      refl,
      (c.lend.ensures here.cells c.requires.0 here.zspage here.cell).0,
    )

pub returns-clause-others : goal.returns-clause-others
returns-clause-others c h other among =
    stays_home (pool_of c.self.inside.class c.self.inside.zspages)
    (pool_of c.self.inside.class c.lend.new.self) _ h
    (left (goal.at.returns-clause-others c).After-lend).keeps (λ e. other (e ∙ c.requires.2))
    (subst (λ p. IsAtHome p h) (sym c.self.view_is) among)

pub returns-clause-others_lent : goal.returns-clause-others_lent
returns-clause-others_lent c h cell other among =
    stays_lent (pool_of c.self.inside.class c.self.inside.zspages)
    (pool_of c.self.inside.class c.lend.new.self) _ h cell
    (left (goal.at.returns-clause-others_lent c).After-lend).keeps (λ e. other (e ∙ c.requires.2))
    (subst (λ p. IsLent p h cell) (sym c.self.view_is) among)

pub returns-clause-cell : goal.returns-clause-cell
returns-clause-cell c =
    let here = at (goal.at.returns-clause-cell c).After-place-place in
    let lends = c.lend.ensures here.cells c.requires.0 here.zspage here.cell in (
      c.place-place.result.zspage,
      c.place-place.result.cell,
      here.cells,
      c.requires.0,
      record {
        zspage = subst (λ p. entry p.zspages c.place-place.result.zspage ≡ Some here.cells)
            c.self.view_is here.zspage;
        cell = here.cell;
        handle_is = c.requires.2;
      },
      c.requires.3,
      lends.0,
      subst (λ h. IsStored h c.requires.0.bytes c.lend.result) c.requires.2 lends.1,
      subst (λ p. IsCellAt p.size c.place-place.result.cell c.lend.result) c.self.view_is lends.2,
      ap (pool_of c.self.inside.class) lends.3
          ∙ ap (λ p. with_cells p c.place-place.result.zspage
          (set here.cells c.place-place.result.cell (Some (record c.requires.0 { out = true }))))
          c.self.view_is,
    )
