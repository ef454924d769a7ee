-- Which object of a zspage moves first.
use Rattle.std.specs.Prelude.{ℕ, ◌≡◌, ◌<◌, List, Option, Some, false}
use Rattle.zspage.specs.Cells.{UsedCell, entry, IsHome}

-- the lowest used cell that is at home
pub record IsLowestHome (cells : List (Option UsedCell)) (ix : ℕ) (u : UsedCell) : Type 0 where
  pub used : entry cells ix ≡ Some u
  pub home : u.out ≡ false
  pub lowest : (k : ℕ) → k < ix → IsHome cells k → ⊥
