-- The tournament that finds the least free block.
use Rattle.std.specs.Prelude.{◌≡◌, ◌≢◌, ℕ, ◌+◌, ◌*◌, ◌<◌, min, List, length, slice_index, slice_index_or}
use Rattle.block_map.specs.declared.state.BlockState.{BlockState}
use Rattle.block_map.specs.declared.state.BlockState.TheVariants.{Free, Held, Owned, Left}
use Rattle.block_map.specs.declared.tree.TheConstants.{NONE}

-- each place above the leaves has the lesser of the two numbers below it; the leaves are the places
-- from n on
pub record IsBlockTree (tree : List ℕ) (n : ℕ) : Type 0 where
  pub places : length tree ≡ 2 * n
  pub lesser : (j : ℕ) → 0 < j → j < n
      → slice_index tree j ≡ min (slice_index tree (2 * j)) (slice_index tree (2 * j + 1))

-- a free block has its own number at its place, another block has the number that stands for none
abbrev pub block_number : BlockState → ℕ → ℕ
block_number Free b = b
block_number Held b = NONE
block_number Owned b = NONE
block_number Left b = NONE

-- the tree's leaves are the states' numbers
abbrev pub HasLeaves : List ℕ → List BlockState → Type 0
HasLeaves tree states = (b : ℕ) → b < length states
    → slice_index tree (length states + b) ≡ block_number (slice_index_or states b Left) b

-- all blocks are free: each leaf has its own number
abbrev pub HasOwnNumbers : List ℕ → ℕ → Type 0
HasOwnNumbers tree n = (b : ℕ) → b < n → slice_index tree (n + b) ≡ b

-- the leaves are as before, but for one
abbrev pub KeepsLeavesBut : List ℕ → List ℕ → ℕ → ℕ → Type 0
KeepsLeavesBut old new n but = (b : ℕ) → b ≢ but → slice_index new (n + b) ≡ slice_index old (n + b)

-- a number that stands at the root and isn't NONE
abbrev pub IsRoot : List ℕ → ℕ → Type 0
IsRoot tree b = (b ≡ slice_index tree 1) × (b < NONE) × (1 < length tree)
