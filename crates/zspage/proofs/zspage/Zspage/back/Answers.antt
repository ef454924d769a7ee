-- The cell is at home, and all else stays.
use Rattle.std.proofs.Common.{◌≡◌, ◌+◌, ◌<◌, ◌∙◌, Some, false, length, refl, arith, ap, sym, subst}
use Rattle.std.proofs.Math.ListN.{set, length-set}
use Rattle.zspage.specs.Cells.{IsOut, UsedCell, used_of, entry}
use Rattle.zspage.specs.Spots.{uses}
use Rattle.zspage.proofs.CellLaws.{Leaves, kept, home_less, used_at, used_within, entry-uses, one_home, one_home-in, one_home-out, made}
use Rattle.zspage.proofs.zspage.Zspage.back.Goals as goal
use Rattle.zspage.proofs.zspage.Zspage.back.Goals.{After-back}

low : (c : After-back) → c.args.ix < length c.self.inside.spots.items
low c =
    let large : IsOut (uses c.self.inside.spots.items) c.args.ix c.args.cell =
    subst (λ z. IsOut z.cells c.args.ix c.args.cell) (sym c.self.view_is) c.requires in
    used_within c.self.inside.spots.items c.args.ix large.0 large.1

-- the cell was not counted among those at home
away : (c : After-back) → one_home (Some c.back.ensures.0) ≡ 0
away c =
    let large : IsOut (uses c.self.inside.spots.items) c.args.ix c.args.cell =
    subst (λ z. IsOut z.cells c.args.ix c.args.cell) (sym c.self.view_is) c.requires in
    let u : UsedCell = c.back.ensures.0 in
    let both : Some u ≡ Some large.0 =
    sym c.back.ensures.1
    ∙ used_at c.self.inside.spots.items c.args.ix _ large.0
    c.index_mut-spot.ensures.value large.1 in
    let same : u ≡ large.0 = cc in
    one_home-out u (ap (λ v. v.out) same ∙ large.2)

left : (c : After-back)
    → Leaves c.self.inside.emptied.chain c.self.inside.size c.self.inside.used
    (c.self.inside.home + 1)
    c.self.inside.spots.items
    (set c.self.inside.spots.items c.args.ix c.back.new.self) c.self.inside.free c.args.ix
    (Some (record c.back.ensures.0 { out = false }))
left c =
    let u : UsedCell = c.back.ensures.0 in
    kept _ _ _ _ _ _ _ _ _ _ u (record u { out = false }) c.self.invariant.0 (low c)
    c.index_mut-spot.ensures.value
    c.back.ensures.1 c.back.ensures.2 (omega
    (arith, away c, one_home-in (record u { out = false }) refl))

pub invariant_of-self : goal.invariant_of-self
invariant_of-self c =
    ((left (goal.at.invariant_of-self c).After-back).state, rw length-set c.self.invariant.1)

pub returns-clause-used : goal.returns-clause-used
returns-clause-used c =
    let state = (left (goal.at.returns-clause-used c).After-back).state in
    omega (arith, state.count, c.self.invariant.0.count, ap (λ z. used_of z.cells) c.self.view_is)

pub returns-clause-after : goal.returns-clause-after
returns-clause-after c =
    let here = (goal.at.returns-clause-after c).After-back in (
      c.back.ensures.0,
      subst (λ z. entry z.cells c.args.ix ≡ Some c.back.ensures.0) c.self.view_is
          (entry-uses _ _ _ (low here) c.index_mut-spot.ensures.value ∙ c.back.ensures.1),
      rw (← c.self.view_is)
          (ap (made c.self.inside.id c.self.inside.size c.self.inside.frames) (left here).cells),
    )

pub overflow_add-self : goal.overflow_add-self
overflow_add-self c =
    let here = (goal.at.overflow_add-self c).After-back in
    omega (
      arith,
      c.self.invariant.0.few,
      home_less _ _ _ _ _ _ _ _ c.self.invariant.0 (low here) c.index_mut-spot.ensures.value
          (ap one_home c.back.ensures.1 ∙ away here),
    )
