-- The winner of the ranks is the lowest free cell, and it takes the bytes of the other cell.
use Rattle.std.proofs.Common.{◌≡◌, ℕ, List, ◌+◌, ◌<◌, ◌∙◌, None, Some, false, length, refl, arith, ap, sym, subst}
use Rattle.std.proofs.Math.ListN.{set, length-set}
use Rattle.zspage.specs.Cells.{IsStored, IsLowestFree, UsedCell, used_of}
use Rattle.zspage.specs.Spots.{uses, IsZspage}
use Rattle.zspage.proofs.CellLaws.{Leaves, spot_at, changed, winner_free, lowest_free, home_less, one_of, one_home, one_home-in, made}
use Rattle.zspage.proofs.zspage.Zspage.take_copy.Goals as goal
use Rattle.zspage.proofs.zspage.Zspage.take_copy.Goals.{After-index_mut-spot, After-set}

-- the cell is free
there : (c : After-index_mut-spot)
    → (c.winner-ix.result < length c.self.inside.spots.items)
    × (c.index_mut-spot.result.now.use_of ≡ None)
    × IsLowestFree (uses c.self.inside.spots.items) c.winner-ix.result
there c =
    let room : used_of (uses c.self.inside.spots.items) < length (uses c.self.inside.spots.items) =
    subst (λ z. used_of z.cells < length z.cells) (sym c.self.view_is) c.requires.free in
    let at = c.index_mut-spot.ensures.value in (
      omega (arith, c.winner-ix.ensures.within, c.self.invariant.0.ranked),
      winner_free _ _ _ _ _ _ _ _ c.self.invariant.0 room c.winner-ix.ensures at,
      lowest_free _ _ _ _ _ _ _ _ c.self.invariant.0 room c.winner-ix.ensures at,
    )

abbrev used : (c : After-set) (bytes : List ℕ) → IsStored c.args.handle.0 bytes c.args.from.now
    → length bytes ≡ c.args.len → UsedCell
used c bytes stored long =
    record {
      handle = c.args.handle.0;
      bytes = bytes;
      cell = (c.copy.ensures bytes stored long).0;
      out = false;
    }

left : (c : After-set) (bytes : List ℕ) (stored : IsStored c.args.handle.0 bytes c.args.from.now)
    (long : length bytes ≡ c.args.len)
    → Leaves c.self.inside.emptied.chain c.self.inside.size (c.self.inside.used + 1)
    (c.self.inside.home + 1) c.self.inside.spots.items
    (set c.self.inside.spots.items c.winner-ix.result c.copy.new.self) c.set.new.self
    c.winner-ix.result
    (Some (used c bytes stored long))
left c bytes stored long =
    let h = there (goal.at.After-set c).After-index_mut-spot in
    let u : UsedCell = used c bytes stored long in
    rw c.set.ensures
    (changed _ _ _ _ _ _ _ _ _ _ _ (Some u) c.self.invariant.0 h.0 c.index_mut-spot.ensures.value
    (c.copy.ensures bytes stored long).3
    (omega (arith, ap one_of h.1)) (omega (arith, ap one_home h.1, one_home-in u refl)))

state : (c : After-set)
    → IsZspage c.self.inside.emptied.chain c.self.inside.size (c.self.inside.used + 1)
    (c.self.inside.home + 1)
    (set c.self.inside.spots.items c.winner-ix.result c.copy.new.self) c.set.new.self
state c = (left c c.requires.stored.0 c.requires.stored.1 c.requires.stored.2).state

spot_size : (c : After-index_mut-spot) → c.index_mut-spot.result.now.size ≡ c.args.self.now.size
spot_size c =
    (spot_at _ _ _ _ _ _ _ _ c.self.invariant.0 (there c).0 c.index_mut-spot.ensures.value).sized
    ∙ ap (λ z. z.size) c.self.view_is

pub copy-requires-clause-free : goal.copy-requires-clause-free
copy-requires-clause-free c = (there (goal.at.copy-requires-clause-free c).After-index_mut-spot).1

pub copy-requires-clause-size : goal.copy-requires-clause-size
copy-requires-clause-size c =
    c.requires.size ∙ sym (spot_size (goal.at.copy-requires-clause-size c).After-index_mut-spot)

pub copy-requires-clause-small : goal.copy-requires-clause-small
copy-requires-clause-small c =
    omega (
      arith,
      c.requires.small,
      spot_size (goal.at.copy-requires-clause-small c).After-index_mut-spot,
    )

pub invariant_of-self : goal.invariant_of-self
invariant_of-self c =
    (state (goal.at.invariant_of-self c).After-set, rw length-set c.self.invariant.1)

pub returns-clause-lowest : goal.returns-clause-lowest
returns-clause-lowest c =
    subst (λ z. IsLowestFree z.cells c.winner-ix.result) c.self.view_is
    (there (goal.at.returns-clause-lowest c).After-index_mut-spot).2

pub returns-clause-used : goal.returns-clause-used
returns-clause-used c =
    let now = state (goal.at.returns-clause-used c).After-set in
    omega (arith, now.count, c.self.invariant.0.count, ap (λ z. used_of z.cells) c.self.view_is)

pub returns-clause-after : goal.returns-clause-after
returns-clause-after c bytes stored long =
    let here = goal.at.returns-clause-after c in
    let low = (there here.After-index_mut-spot).0 in
    let spot = spot_at _ _ _ _ _ _ _ _ c.self.invariant.0 low c.index_mut-spot.ensures.value in
    let copy = c.copy.ensures bytes stored long in (
      copy.0,
      copy.1,
      record {
        numbered = copy.2.numbered ∙ spot.numbered;
        sized = copy.2.sized ∙ spot_size here.After-index_mut-spot;
        whole = copy.2.whole;
      },
      rw (← c.self.view_is)
          (ap (made c.self.inside.id c.self.inside.size c.self.inside.frames)
          (left here.After-set bytes stored long).cells),
    )

pub overflow_add-self-2 : goal.overflow_add-self-2
overflow_add-self-2 c =
    let h = there (goal.at.overflow_add-self-2 c).After-index_mut-spot in
    omega (
      arith,
      c.self.invariant.0.few,
      home_less _ _ _ _ _ _ _ _ c.self.invariant.0 h.0 c.index_mut-spot.ensures.value
          (ap one_home h.1),
    )
