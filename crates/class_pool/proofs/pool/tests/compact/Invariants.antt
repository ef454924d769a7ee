-- The budget falls, and the objects stay at home or lent.
use Rattle.std.proofs.Common.{ℕ}
use Rattle.zspage.specs.Cells.{CellState}
use Rattle.class_pool.specs.Pool.{IsAtHome, IsLent}
use Rattle.class_pool.proofs.pool.tests.compact.Given as goal

abbrev pub invariant-loop-frames : goal.invariant-loop-frames
invariant-loop-frames l = record {
  home : (h : ℕ) → IsAtHome l.fn.pool h → IsAtHome l.pool h;
  lent : (h : ℕ) (cell : CellState) → IsLent l.fn.pool h cell → IsLent l.pool h cell;
}

abbrev pub decreases-loop-frames : goal.decreases-loop-frames
decreases-loop-frames l = l.budget
