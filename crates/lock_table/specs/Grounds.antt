-- What is true of every row.
use Rattle.std.specs.Prelude.{◌≡◌, ◌<◌, ℕ, List, length, Some, slice_get}
use Rattle.atomic_table.specs.Seated.{TableId}
use Rattle.lock_row.specs.declared.names.LockNo.{LockNo}

-- Each lock has one word and one slot, and stands at the place that the rule names.
pub record IsGround (spot : LockNo → ℕ) (id : TableId) (names : List LockNo) : Type 0 where
  pub some : 0 < id.words
  pub words : id.words ≡ length names
  pub slots : id.slots ≡ length names
  pub placed : (i : ℕ) (k : LockNo) → slice_get names i ≡ Some k → spot k ≡ i
