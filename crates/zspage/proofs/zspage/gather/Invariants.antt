-- The cells of the last spots are back.
use Rattle.zspage.specs.Moves.{IsGathered}
use Rattle.zspage.proofs.zspage.gather.Given as goal

abbrev pub invariant-loop-spot : goal.invariant-loop-spot
invariant-loop-spot l = IsGathered l.fn.cells l.cells l.fn.spots.items l.spots.items

abbrev pub decreases-loop-spot : goal.decreases-loop-spot
decreases-loop-spot l = goal.left-loop-spot l
