-- No cell below is at home.
use Rattle.std.proofs.Common.{ℕ, ◌<◌}
use Rattle.zspage.specs.Cells.{IsHome}
use Rattle.zspage.proofs.zspage.Zspage.lowest_home.Given as goal

abbrev pub invariant-loop-ix : goal.invariant-loop-ix
invariant-loop-ix l = (k : ℕ) → k < l.ix → IsHome l.self.cells k → ⊥
