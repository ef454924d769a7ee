-- A map of blocks: who has each one, and how many writes are left.
use Rattle.std.specs.Prelude.{◌≡◌, ℕ, ◌-◌, ◌<◌, Bool, List, ◌⊎◌, Option, Some, IsTrue, slice_get, slice_set, sum_by, if◌then◌else◌}
use Rattle.block_map.specs.declared.state.BlockState.{BlockState}
use Rattle.block_map.specs.declared.state.BlockState.TheVariants.{Free, Held, Owned, Left}
use Rattle.block_map.specs.declared.blocks.Reserve.{Reserve}
use Rattle.block_map.specs.declared.blocks.Reserve.TheVariants.{Got, BudgetSpent, NoBlock}

-- each block's state, in order; the writes that are left, which count while the limit is enabled
pub record BlockMap : Type 0 where
  pub states : List BlockState
  pub budget : ℕ
  pub enabled : Bool

-- the limit is enabled and no write is left
abbrev pub IsBudgetSpent : BlockMap → Type 0
IsBudgetSpent m = IsTrue m.enabled × (m.budget ≡ 0)

-- the limit allows a write
abbrev pub HasBudget : BlockMap → Type 0
HasBudget m = IsTrue m.enabled → 0 < m.budget

-- no block may be reserved
abbrev pub HasNoFree : List BlockState → Type 0
HasNoFree states = (b : ℕ) → ¬ (slice_get states b ≡ Some Free)

-- the block is free, and every free block has its number or a greater one
abbrev pub IsLeastFree : List BlockState → ℕ → Type 0
IsLeastFree states b = (slice_get states b ≡ Some Free) × ((c : ℕ) → c < b
    → ¬ (slice_get states c ≡ Some Free))

-- the answer to a reservation: first the budget, then whether a block is free, then which one
abbrev pub AnswersReserve : BlockMap → Reserve → Type 0
AnswersReserve m (Got b) = HasBudget m × IsLeastFree m.states b
AnswersReserve m BudgetSpent = IsBudgetSpent m
AnswersReserve m NoBlock = HasBudget m × HasNoFree m.states

-- the budget after one write of an enabled limit
abbrev pub budget_after : BlockMap → ℕ
budget_after m = if m.enabled then m.budget - 1 else m.budget

-- the map with a block's state changed
abbrev pub with_state : BlockMap → ℕ → BlockState → BlockMap
with_state m b s = record m { states = slice_set m.states b s }

-- the map after a reservation
abbrev pub reserved : BlockMap → Reserve → BlockMap
reserved m (Got b) = record m { states = slice_set m.states b Held; budget = budget_after m }
reserved m BudgetSpent = m
reserved m NoBlock = m

-- one writeback or one page has the block
abbrev pub IsHeldOrOwned : Option BlockState → Type 0
IsHeldOrOwned o = (o ≡ Some Held) ⊎ (o ≡ Some Owned)

-- 1 for an owned block, else 0
abbrev pub owned_of : BlockState → ℕ
owned_of Free = 0
owned_of Held = 0
owned_of Owned = 1
owned_of Left = 0

-- how many blocks a page owns
abbrev pub owned_blocks : List BlockState → ℕ
owned_blocks states = sum_by owned_of states
