-- What a move of an object from one zspage into another does to a pool.
use Rattle.std.specs.Prelude.{ℕ, ◌≡◌, ◌≢◌, Some, List, slice_set, sum_by}
use Rattle.zspage.specs.Cells.{CellState, UsedCell, entry, IsStored, IsCellAt, IsLowestFree}
use Rattle.zspage.specs.Movable.{IsLowestHome}
use Rattle.class_pool.specs.declared.pool.moves.Moved.{Moved as Answer}
use Rattle.class_pool.specs.declared.pool.moves.Moved.TheVariants.{Moved, Done}
use Rattle.class_pool.specs.Zspages.{Cells}
use Rattle.class_pool.specs.Pool.{PoolState, Frees, with_cells, new_use}

-- what is true of the frames of a move, where there was one
abbrev pub IfMoved : Answer → (ℕ → Type 0) → Type 0
IfMoved (Moved frames) P = P frames
IfMoved Done P = Unit {0}

-- what is true where nothing moved
abbrev pub IfDone : Answer → Type 0 → Type 0
IfDone (Moved frames) P = Unit {0}
IfDone Done P = P

-- a move: the zspage and the cell that the object leaves, those that it comes to, its use before,
-- its new cell, and the pool without it
pub record Move : Type 0 where
  pub from : ℕ
  pub ix : ℕ
  pub source : Cells
  pub to : ℕ
  pub at : ℕ
  pub target : Cells
  pub object : UsedCell
  pub cell : CellState
  pub between : PoolState

-- the object in the lowest used cell at home went into the lowest free cell of another zspage, with
-- its handle and its bytes; the zspage that it left is given up where that was its last
pub record Moves (old new : PoolState) (m : Move) (frames : ℕ) : Type 0 where
  pub apart : m.from ≢ m.to
  pub leaves : entry old.zspages m.from ≡ Some m.source
  pub lowest : IsLowestHome m.source m.ix m.object
  pub freed : Frees old m.between m.from m.source m.ix frames
  pub comes : entry old.zspages m.to ≡ Some m.target
  pub free : IsLowestFree m.target m.at
  pub stored : IsStored m.object.handle m.object.bytes m.cell
  pub numbered : IsCellAt old.size m.at m.cell
  pub after : new ≡ with_cells m.between m.to
      (slice_set m.target m.at (Some (new_use m.object.handle m.object.bytes m.cell)))

-- the lists have the same elements, in some order: any weight adds up to as much
abbrev pub AreSame : {A : Type 0} → List A → List A → Type 0
AreSame {A} old new = (f : A → ℕ) → sum_by f new ≡ sum_by f old
