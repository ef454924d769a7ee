-- A row of locks: their names, and at each place the value that is at home, or none where the lock
-- is held.
use Rattle.std.specs.Prelude.{◌≡◌, ℕ, suc, Bool, true, false, ◌==◌, List, [], ◌∷◌, length, Option, Some, None, slice_get, slice_set, if◌then◌else◌}
use Rattle.lock_row.specs.declared.names.LockNo.{LockNo}
use Rattle.lock_row.specs.declared.names.LockNo.TheVariants.{Slot, Class, Account, Blocks, Device}

-- whether two names are one
abbrev pub same_lock : LockNo → LockNo → Bool
same_lock (Slot p) (Slot q) = p.0 == q.0
same_lock (Class c) (Class d) = c == d
same_lock Account Account = true
same_lock Blocks Blocks = true
same_lock Device Device = true
same_lock k m = false

-- the place of a lock in a list of names, or their number where it isn't there
abbrev pub place_in : List LockNo → LockNo → ℕ
place_in [] k = 0
place_in (name ∷ names) k = if same_lock name k then 0 else suc (place_in names k)

-- A row of locks: their names, and for each its value at home or none.
pub record Row (V : Type 0) : Type 0 where
  pub names : List LockNo
  pub cells : List (Option V)

-- no name stands twice
pub record IsDistinct (names : List LockNo) : Type 0 where
  pub once : (i j : ℕ) (k : LockNo) → slice_get names i ≡ Some k → slice_get names j ≡ Some k
      → i ≡ j

module _ {V : Type 0} where
  -- the cell of a lock: the value that is at home, or none where it is held; there is no cell where
  -- the lock isn't of the row
  abbrev pub cell : Row V → LockNo → Option (Option V)
  cell r k = slice_get r.cells (place_in r.names k)

  -- the row with another value, or none, at a lock's place
  abbrev pub with_cell : Row V → LockNo → Option V → Row V
  with_cell r k x = record { names = r.names; cells = slice_set r.cells (place_in r.names k) x }

  -- the lock is of the row
  abbrev pub IsIn : Row V → LockNo → Type 0
  IsIn r k = (x : Option V) × (cell r k ≡ Some x)

  -- the value of a cell that is at home
  abbrev pub at_home : Option (Option V) → Option V
  at_home None = None
  at_home (Some x) = x

  -- each name has its cell, and no name stands twice
  pub record IsWhole (names : List LockNo) (cells : List (Option V)) : Type 0 where
    pub size : length cells ≡ length names
    pub distinct : IsDistinct names
