-- The sectors before this one are put.
use Rattle.std.proofs.Common.{◌≡◌, ℕ, ◌<◌}
use Rattle.zr_base.specs.Sectors.{page_sector}
use Rattle.same_fill.proofs.fill.Given as goal

abbrev pub invariant-loop-at : goal.invariant-loop-at
invariant-loop-at l = (k : ℕ) → k < l.at → page_sector l.page k ≡ l.sector
