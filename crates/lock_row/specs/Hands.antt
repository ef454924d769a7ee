-- What a hand over the row of one thread finds and leaves.
use Rattle.std.specs.Prelude.{◌≡◌, None, Some}
use Rattle.lock_row.specs.declared.names.LockNo.{LockNo}
use Rattle.lock_row.specs.Rows.{Row, cell, with_cell}

module _ {V : Type 0} where
  -- the lock's value was at home, and is out after it
  pub record IsTaken (before after : Row V) (k : LockNo) (v : V) : Type 0 where
    pub home : cell before k ≡ Some (Some v)
    pub out : after ≡ with_cell before k None

  -- the lock was out, and nothing changes
  pub record IsMissed (before after : Row V) (k : LockNo) : Type 0 where
    pub out : cell before k ≡ Some None
    pub same : after ≡ before

  -- the lock was out, and has this value at home after it
  pub record IsGiven (before after : Row V) (k : LockNo) (v : V) : Type 0 where
    pub out : cell before k ≡ Some None
    pub home : after ≡ with_cell before k (Some v)
