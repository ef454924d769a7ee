-- The winner of the ranks is the lowest free cell, and it takes the object.
use Rattle.std.proofs.Common.{◌≡◌, ◌+◌, ◌<◌, ◌∙◌, None, Some, false, length, refl, arith, ap, sym, subst}
use Rattle.std.proofs.Math.ListN.{set, length-set}
use Rattle.zspage.specs.Cells.{Fits, IsLowestFree, UsedCell, used_of}
use Rattle.zspage.specs.Spots.{uses}
use Rattle.zspage.proofs.CellLaws.{Leaves, spot_at, changed, winner_free, lowest_free, home_less, one_of, one_home, one_home-in, made}
use Rattle.zspage.proofs.zspage.Zspage.take_cell.Goals as goal
use Rattle.zspage.proofs.zspage.Zspage.take_cell.Goals.{After-index_mut-spot, After-set}

-- the cell is free
there : (c : After-index_mut-spot)
    → (c.winner-ix.result < length c.self.inside.spots.items)
    × (c.index_mut-spot.result.now.use_of ≡ None)
    × IsLowestFree (uses c.self.inside.spots.items) c.winner-ix.result
there c =
    let room : used_of (uses c.self.inside.spots.items) < length (uses c.self.inside.spots.items) =
    subst (λ z. used_of z.cells < length z.cells) (sym c.self.view_is) c.requires.free in
    let at = c.index_mut-spot.ensures.value in (
      omega (arith, c.winner-ix.ensures.within, c.self.invariant.0.ranked),
      winner_free _ _ _ _ _ _ _ _ c.self.invariant.0 room c.winner-ix.ensures at,
      lowest_free _ _ _ _ _ _ _ _ c.self.invariant.0 room c.winner-ix.ensures at,
    )

abbrev used : After-set → UsedCell
used c = record {
  handle = c.args.handle.0;
  bytes = c.args.bytes.now;
  cell =
      c.fill.ensures.0;
  out = false;
}

left : (c : After-set)
    → Leaves c.self.inside.emptied.chain c.self.inside.size (c.self.inside.used + 1)
    (c.self.inside.home + 1)
    c.self.inside.spots.items
    (set c.self.inside.spots.items c.winner-ix.result c.fill.new.self)
    c.set.new.self c.winner-ix.result
    (Some (used c))
left c =
    let h = there (goal.at.After-set c).After-index_mut-spot in
    rw c.set.ensures
    (changed _ _ _ _ _ _ _ _ _ _ _ (Some (used c))
    c.self.invariant.0 h.0 c.index_mut-spot.ensures.value c.fill.ensures.3
    (omega (arith, ap one_of h.1)) (omega (arith, ap one_home h.1, one_home-in (used c) refl)))

pub fill-requires-clause-free : goal.fill-requires-clause-free
fill-requires-clause-free c = (there (goal.at.fill-requires-clause-free c).After-index_mut-spot).1

pub fill-requires-clause-fits : goal.fill-requires-clause-fits
fill-requires-clause-fits c =
    let low = (there (goal.at.fill-requires-clause-fits c).After-index_mut-spot).0 in
    let spot = spot_at _ _ _ _ _ _ _ _ c.self.invariant.0 low c.index_mut-spot.ensures.value in
    subst (Fits (length c.args.bytes.now)) (sym (spot.sized ∙ ap (λ z. z.size) c.self.view_is))
    c.requires.fits

pub invariant_of-self : goal.invariant_of-self
invariant_of-self c =
    ((left (goal.at.invariant_of-self c).After-set).state, rw length-set c.self.invariant.1)

pub returns-clause-lowest : goal.returns-clause-lowest
returns-clause-lowest c =
    subst (λ z. IsLowestFree z.cells c.winner-ix.result) c.self.view_is
    (there (goal.at.returns-clause-lowest c).After-index_mut-spot).2

pub returns-clause-used : goal.returns-clause-used
returns-clause-used c =
    let state = (left (goal.at.returns-clause-used c).After-set).state in
    omega (arith, state.count, c.self.invariant.0.count, ap (λ z. used_of z.cells) c.self.view_is)

pub returns-clause-after : goal.returns-clause-after
returns-clause-after c =
    let here = goal.at.returns-clause-after c in
    let low = (there here.After-index_mut-spot).0 in
    let spot = spot_at _ _ _ _ _ _ _ _ c.self.invariant.0 low c.index_mut-spot.ensures.value in
    let cell = c.fill.ensures.2 in (
      c.fill.ensures.0,
      c.fill.ensures.1,
      record {
        numbered = cell.numbered ∙ spot.numbered;
        sized = cell.sized ∙ spot.sized ∙ ap (λ z. z.size) c.self.view_is;
        whole = cell.whole;
      },
      rw (← c.self.view_is)
          (ap (made c.self.inside.id c.self.inside.size c.self.inside.frames)
          (left here.After-set).cells),
    )

pub overflow_add-self-2 : goal.overflow_add-self-2
overflow_add-self-2 c =
    let h = there (goal.at.overflow_add-self-2 c).After-index_mut-spot in
    omega (
      arith,
      c.self.invariant.0.few,
      home_less _ _ _ _ _ _ _ _ c.self.invariant.0 h.0 c.index_mut-spot.ensures.value
          (ap one_home h.1),
    )
