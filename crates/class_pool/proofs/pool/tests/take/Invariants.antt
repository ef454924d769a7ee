-- The handles of the objects so far are others.
use Rattle.std.proofs.Common.{◌≡◌, ◌≢◌, ◌<◌, ℕ, Some}
use Rattle.zspage.specs.Cells.{entry}
use Rattle.zr_base.specs.declared.page.Handle.{Handle}
use Rattle.class_pool.proofs.pool.tests.take.Given as goal

abbrev pub invariant-loop-other : goal.invariant-loop-other
invariant-loop-other g l = (k : ℕ) (h : Handle) → k < l.other-index
    → entry l.other-items k ≡ Some h → h.0 ≢ l.handle.0
