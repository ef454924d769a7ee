-- The cell at `ix` is free, and all else stays.
use Rattle.std.proofs.Common.{◌≡◌, ◌-◌, ◌<◌, ◌≤◌, None, length, arith, ap, sym, subst}
use Rattle.std.proofs.Math.ListN.{set, length-set}
use Rattle.zspage.specs.Cells.{IsHome, used_of}
use Rattle.zspage.specs.Spots.{uses}
use Rattle.zspage.proofs.CellLaws.{Leaves, changed, counted, used_at, used_within, one_of, one_home, one_home-in, made}
use Rattle.zspage.proofs.zspage.Zspage.put_cell.Goals as goal
use Rattle.zspage.proofs.zspage.Zspage.put_cell.Goals.{After-index_mut-spot, After-set}

-- the cell is counted
there : (c : After-index_mut-spot)
    → (c.args.ix < length c.self.inside.spots.items)
    × (one_of c.index_mut-spot.result.now.use_of ≡ 1)
    × (one_home c.index_mut-spot.result.now.use_of ≡ 1) × (1 ≤ c.self.inside.used)
    × (1 ≤ c.self.inside.home)
there c =
    let home : IsHome (uses c.self.inside.spots.items) c.args.ix =
    subst (λ z. IsHome z.cells c.args.ix) (sym c.self.view_is) c.requires in
    let at = c.index_mut-spot.ensures.value in
    let low = used_within c.self.inside.spots.items c.args.ix home.0 home.1 in
    let is = used_at c.self.inside.spots.items c.args.ix
    c.index_mut-spot.result.now home.0 at home.1 in
    let here : one_home c.index_mut-spot.result.now.use_of ≡ 1 =
    omega (arith, ap one_home is, one_home-in home.0 home.2) in (
      low,
      ap one_of is,
      here,
      omega (arith, c.self.invariant.0.count, ap one_of is, counted one_of _ _ _ low at),
      omega (arith, c.self.invariant.0.home_is, here, counted one_home _ _ _ low at),
    )

left : (c : After-set)
    → Leaves c.self.inside.emptied.chain c.self.inside.size (c.self.inside.used - 1)
    (c.self.inside.home - 1)
    c.self.inside.spots.items
    (set c.self.inside.spots.items c.args.ix c.clear.new.self) c.set.new.self c.args.ix None
left c =
    let h = there (goal.at.After-set c).After-index_mut-spot in
    rw c.set.ensures
    (changed _ _ _ _ _ _ _ _ _ _ _ None c.self.invariant.0 h.0 c.index_mut-spot.ensures.value
    c.clear.ensures
    (omega (arith, h.1, h.3)) (omega (arith, h.2, h.4)))

pub invariant_of-self : goal.invariant_of-self
invariant_of-self c =
    ((left (goal.at.invariant_of-self c).After-set).state, rw length-set c.self.invariant.1)

pub returns-clause-after : goal.returns-clause-after
returns-clause-after c =
    rw (← c.self.view_is)
    (ap (made c.self.inside.id c.self.inside.size c.self.inside.frames)
    (left (goal.at.returns-clause-after c).After-set).cells)

pub returns-clause-used : goal.returns-clause-used
returns-clause-used c =
    let at = goal.at.returns-clause-used c in
    omega (
      arith,
      (there at.After-index_mut-spot).3,
      (left at.After-set).state.count,
      c.self.invariant.0.count,
      ap (λ z. used_of z.cells) c.self.view_is,
    )

pub overflow_sub-self : goal.overflow_sub-self
overflow_sub-self c = (there (goal.at.overflow_sub-self c).After-index_mut-spot).3

pub overflow_sub-self-2 : goal.overflow_sub-self-2
overflow_sub-self-2 c = (there (goal.at.overflow_sub-self-2 c).After-index_mut-spot).4
