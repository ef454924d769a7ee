-- What the events of pages do to a pool: each is one call of the pool, or two.
use Rattle.std.specs.Prelude.{◌≡◌, ◌⊎◌, ℕ, true, false, List, Option, Some, None, slice_set}
use Rattle.lock_row.specs.declared.names.Pin.{Pin}
use Rattle.zspage.specs.Cells.{CellState, UsedCell, IsStored}
use Rattle.class_pool.specs.Zspages.{Cells}
use Rattle.class_pool.specs.Pool.{PoolState, PoolHasRoom, IsFresh, IsPool, IsPlace, Stores, Makes, Frees, with_cells}

-- the frames that a new object needs: none where some cell is free, else a chain
abbrev pub IsNeed : PoolState → ℕ → Type 0
IsNeed p need = (PoolHasRoom p × (need ≡ 0)) ⊎ ((PoolHasRoom p → ⊥) × (need ≡ p.chain))

-- The pool has a new object under a handle, in the cell that its rule says, and so many frames more.
pub data Adds (p q : PoolState) (handle : ℕ) (bytes : List ℕ) (need : ℕ) : Type 0 where
  stored : (id ix : ℕ) (cells : Cells) (cell : CellState) → PoolHasRoom p → need ≡ 0
      → Stores p q handle bytes id ix cells cell → IsFresh p handle → IsPool q
      → Adds p q handle bytes need
  made : (id : ℕ) (cell : CellState) → (PoolHasRoom p → ⊥) → need ≡ p.chain
      → Makes p q handle bytes id cell → IsFresh p handle → IsPool q → Adds p q handle bytes need

-- The object's cell is lent, and this is it.
pub record Lends (p q : PoolState) (handle : ℕ) (cell : CellState) : Type 0 where
  pub id : ℕ
  pub ix : ℕ
  pub cells : Cells
  pub object : UsedCell
  pub place : IsPlace p handle id ix cells object
  pub home : object.out ≡ false
  pub is : object.cell ≡ cell
  pub stored : IsStored handle object.bytes cell
  pub after : q ≡ with_cells p id (slice_set cells ix (Some (record object { out = true })))
  pub pool : IsPool q

-- The object's cell is back.
pub record Returns (p q : PoolState) (handle : ℕ) : Type 0 where
  pub id : ℕ
  pub ix : ℕ
  pub cells : Cells
  pub object : UsedCell
  pub place : IsPlace p handle id ix cells object
  pub lent : object.out ≡ true
  pub after : q ≡ with_cells p id (slice_set cells ix (Some (record object { out = false })))
  pub pool : IsPool q

-- the cell that was pinned, if there is one, is back
abbrev pub ReturnsBy : Option Pin → PoolState → PoolState → Type 0
ReturnsBy None p q = q ≡ p
ReturnsBy (Some x) p q = Returns p q x.handle

-- The object is gone, and so many frames where its zspage was given up.
pub record Drops (p q : PoolState) (handle frames : ℕ) : Type 0 where
  pub id : ℕ
  pub ix : ℕ
  pub cells : Cells
  pub object : UsedCell
  pub place : IsPlace p handle id ix cells object
  pub home : object.out ≡ false
  pub freed : Frees p q id cells ix frames
  pub pool : IsPool q

-- The object is unpinned where it was pinned, and then gone.
pub record DropsPinned (pin : Option Pin) (p q : PoolState) (handle frames : ℕ) : Type 0 where
  pub between : PoolState
  pub back : ReturnsBy pin p between
  pub drops : Drops between q handle frames
