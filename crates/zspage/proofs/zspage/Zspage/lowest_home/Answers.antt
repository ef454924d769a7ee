-- The first cell at home is found, and some cell is at home.
use Rattle.std.proofs.Common.{◌≡◌, ℕ, ◌<◌, ◌≤◌, Some, false, length, arith, ap, sym, subst, ◌∙◌}
use Rattle.std.proofs.lemmas.List.{length-map}
use borrow.Author.Count.{below_more}
use Rattle.zspage.specs.Cells.{IsHome, is_home, home_of}
use Rattle.zspage.specs.Spots.{uses}
use Rattle.zspage.proofs.CellLaws.{entry-uses}
use Rattle.zspage.proofs.MovableLaws.{not_home, some_home}
use Rattle.zspage.proofs.zspage.Zspage.lowest_home.Goals as goal

pub loop-ix-preserved : goal.loop-ix-preserved
loop-ix-preserved c =
    let low : c.loop-ix.ix < length c.self.inside.spots.items = omega arith in
    let here = entry-uses _ _ _ low c.index-spot.ensures in
    below_more (λ k. IsHome c.args.self.now.cells k → ⊥) c.loop-ix.ix c.loop-ix.invariant
    (subst (λ z. IsHome z.cells c.loop-ix.ix → ⊥) c.self.view_is
    (not_home (uses c.self.inside.spots.items) c.loop-ix.ix (ap is_home here
    ∙ c.in_default.ensures)))

pub unreachable-requires : goal.unreachable-requires
unreachable-requires c =
    let found = some_home (uses c.self.inside.spots.items)
    (subst (λ z. 1 ≤ home_of z.cells) (sym c.self.view_is) c.requires) in
    let low : found.0 < length c.self.inside.spots.items = rw length-map at found.1 in
    c.loop-ix.invariant found.0 (omega arith) (subst (λ z. IsHome z.cells found.0) c.self.view_is
    found.2)
