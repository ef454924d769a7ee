-- The last cells are in spots, and there is room for the others.
use Rattle.std.proofs.Common.{◌≤◌, length}
use Rattle.std.specs.Vec.{vec_capacity}
use Rattle.zspage.specs.Moves.{IsSpread}
use Rattle.zspage.proofs.zspage.spread.Given as goal

abbrev pub invariant-loop-cell : goal.invariant-loop-cell
invariant-loop-cell l = record {
  spread : IsSpread l.fn.cells l.cells l.spots.items;
  room : length l.fn.cells.cells ≤ vec_capacity l.spots;
}

abbrev pub decreases-loop-cell : goal.decreases-loop-cell
decreases-loop-cell l = length l.cells.cells
