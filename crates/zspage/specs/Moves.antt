-- Cells on their way into spots, and back.
use Rattle.std.specs.Prelude.{ℕ, suc, ◌≡◌, ◌+◌, ◌-◌, ◌<◌, List, None, length, slice_index_or}
use Rattle.cell_arena.specs.Chains.{CellsState, AreNumbered}
use Rattle.zspage.specs.Cells.{CellState, IsCellAt}
use Rattle.zspage.specs.Spots.{SpotState}

-- the last cells are in spots, the last of them first
pub record IsSpread (c₀ c : CellsState) (spots : List SpotState) : Type 0 where
  pub same : c ≡ record c₀ { cells = c.cells }
  pub sum : length c.cells + length spots ≡ length c₀.cells
  pub front : AreNumbered c₀.chain c₀.size c.cells
  pub placed : (k : ℕ) (d : SpotState) → k < length spots → slice_index_or spots k d
      ≡ record { chain = c₀.chain; number = length c₀.cells - suc k; size = c₀.size; use_of = None }

-- the cells of the last spots are back, the last of them first
pub record IsGathered (c₀ c : CellsState) (spots₀ spots : List SpotState) : Type 0 where
  pub same : c ≡ record c₀ { cells = c.cells }
  pub sum : length c.cells + length spots ≡ length spots₀
  pub front : (k : ℕ) (d : SpotState) → k < length spots
      → slice_index_or spots k d ≡ slice_index_or spots₀ k d
  pub back : (k : ℕ) (d : CellState) → k < length c.cells
      → ((slice_index_or c.cells k d).chain ≡ c₀.chain)
      × IsCellAt c₀.size (length spots₀ - suc k) (slice_index_or c.cells k d)
