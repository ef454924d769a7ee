-- The winner of a list of ranks: the place of the greatest rank, the first or the last such place
-- on a tie.
use Rattle.std.specs.Prelude.{ℕ, ◌<◌, ◌≤◌, List, length, slice_index}

-- the place of the greatest rank, the first such place on a tie
pub record IsWinner (ranks : List ℕ) (place : ℕ) : Type 0 where
  pub within : place < length ranks
  pub highest : (k : ℕ) → k < length ranks → slice_index ranks k ≤ slice_index ranks place
  pub first : (k : ℕ) → k < place → slice_index ranks k < slice_index ranks place

-- the place of the greatest rank, the last such place on a tie
pub record IsLastWinner (ranks : List ℕ) (place : ℕ) : Type 0 where
  pub within : place < length ranks
  pub highest : (k : ℕ) → k < length ranks → slice_index ranks k ≤ slice_index ranks place
  pub last : (k : ℕ) → place < k → k < length ranks → slice_index ranks k < slice_index ranks place
