-- The cell is out, and all else stays.
use Rattle.std.proofs.Common.{◌≡◌, ◌-◌, ◌<◌, ◌∙◌, Some, true, length, refl, arith, ap, sym, subst}
use Rattle.std.proofs.Math.ListN.{set, length-set}
use Rattle.zspage.specs.Cells.{IsHome, UsedCell, used_of, entry}
use Rattle.zspage.specs.Spots.{uses}
use Rattle.zspage.proofs.CellLaws.{Leaves, spot_at, kept, counted, used_at, used_within, entry-uses, one_home, one_home-in, one_home-out, made}
use Rattle.zspage.proofs.zspage.Zspage.lend.Goals as goal
use Rattle.zspage.proofs.zspage.Zspage.lend.Goals.{After-lend-cell}

low : (c : After-lend-cell) → c.args.ix < length c.self.inside.spots.items
low c =
    let home : IsHome (uses c.self.inside.spots.items) c.args.ix =
    subst (λ z. IsHome z.cells c.args.ix) (sym c.self.view_is) c.requires in
    used_within c.self.inside.spots.items c.args.ix home.0 home.1

left : (c : After-lend-cell)
    → Leaves c.self.inside.emptied.chain c.self.inside.size c.self.inside.used
    (c.self.inside.home - 1)
    c.self.inside.spots.items
    (set c.self.inside.spots.items c.args.ix c.lend-cell.new.self) c.self.inside.free c.args.ix
    (Some (record c.lend-cell.ensures.0 { out = true }))
left c =
    let home : IsHome (uses c.self.inside.spots.items) c.args.ix =
    subst (λ z. IsHome z.cells c.args.ix) (sym c.self.view_is) c.requires in
    let u : UsedCell = c.lend-cell.ensures.0 in
    let at = c.index_mut-spot.ensures.value in
    let is = c.lend-cell.ensures.1 in
    let both : Some u ≡ Some home.0 =
    sym is ∙ used_at c.self.inside.spots.items c.args.ix _ home.0 at home.1 in
    let same : u ≡ home.0 = cc in
    let one : one_home (Some u) ≡ 1 = one_home-in u (ap (λ v. v.out) same ∙ home.2) in
    let some = counted one_home _ _ _ (low c) at in
    kept _ _ _ _ _ _ _ _ _ _ u (record u { out = true }) c.self.invariant.0 (low c)
    at is c.lend-cell.ensures.5
    (omega (
      arith,
      c.self.invariant.0.home_is,
      one,
      some,
      ap one_home is,
      one_home-out (record u { out = true }) refl,
    ))

pub invariant_of-self : goal.invariant_of-self
invariant_of-self c =
    ((left (goal.at.invariant_of-self c).After-lend-cell).state, rw length-set c.self.invariant.1)

pub returns-clause-used : goal.returns-clause-used
returns-clause-used c =
    let state = (left (goal.at.returns-clause-used c).After-lend-cell).state in
    omega (arith, state.count, c.self.invariant.0.count, ap (λ z. used_of z.cells) c.self.view_is)

pub returns-clause-after : goal.returns-clause-after
returns-clause-after c =
    let here = (goal.at.returns-clause-after c).After-lend-cell in
    let at = c.index_mut-spot.ensures.value in
    let spot = spot_at _ _ _ _ _ _ _ _ c.self.invariant.0 (low here) at in
    let cell = c.lend-cell.ensures.4 in (
      c.lend-cell.ensures.0,
      subst (λ z. entry z.cells c.args.ix ≡ Some c.lend-cell.ensures.0) c.self.view_is
          (entry-uses _ _ _ (low here) at ∙ c.lend-cell.ensures.1),
      c.lend-cell.ensures.2,
      c.lend-cell.ensures.3,
      record {
        numbered = cell.numbered ∙ spot.numbered;
        sized = cell.sized ∙ spot.sized ∙ ap (λ z. z.size) c.self.view_is;
        whole = cell.whole;
      },
      rw (← c.self.view_is)
          (ap (made c.self.inside.id c.self.inside.size c.self.inside.frames) (left here).cells),
    )
