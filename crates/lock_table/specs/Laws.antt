-- The laws of the machine of a row that the steps rest on.
use Rattle.lock_row.specs.Laws.{TakingStaysApart, GivingStaysApart, TakingKeepsTotal, GivingMovesTotal, SumMoves}

-- Each value stays in one place, and sums over values and actors move as they should.
pub record Laws (V : Type 0) : Type 0 where
  pub taken : TakingStaysApart V
  pub given : GivingStaysApart V
  pub keeps : TakingKeepsTotal V
  pub moves : GivingMovesTotal V
  pub sums : SumMoves V
