-- A pool as contracts see it: the zspages of one class by their ids, each with its cells. From it
-- come the list of the live objects, their places, and the cells that are out.
use Rattle.std.specs.Prelude.{ℕ, ◌≡◌, ◌≢◌, ◌+◌, ◌*◌, ◌/◌, ◌<◌, ◌≤◌, ◌⊎◌, List, [], ◌∷◌, ◌++◌, Option, None, Some, true, false, length, map, replicate, sum_by, count_by, Contains, slice_set, slice_index, Bool, ◌==◌}
use Rattle.size_class.specs.Groups.{group_of}
use Rattle.size_class.specs.Classes.{class_size, IsChain}
use Rattle.zspage.specs.Cells.{CellState, UsedCell, used_of, entry, IsStored, IsCellAt, IsLowestFree}
use Rattle.class_pool.specs.Zspages.{Cells, AreFilled, AreWhole, HasRoom, IsFullest, IsLeastAbsent, put_at, use_at}

-- a pool: its class, the bytes of a cell, the frames of a chain, the cells of a chain, and the
-- zspage of each id
pub record PoolState : Type 0 where
  pub class : ℕ
  pub size : ℕ
  pub chain : ℕ
  pub per : ℕ
  pub zspages : List (Option Cells)

-- an object under its handle
pub record Object : Type 0 where
  pub handle : ℕ
  pub bytes : List ℕ

-- the object in a used cell
abbrev pub object_of : UsedCell → Object
object_of u = record { handle = u.handle; bytes = u.bytes }

-- the used cells of a zspage, and of all of them
abbrev pub used_cells_in : Cells → List UsedCell
used_cells_in [] = []
used_cells_in (None ∷ cells) = used_cells_in cells
used_cells_in (Some u ∷ cells) = u ∷ used_cells_in cells

-- the used cells of all zspages
abbrev pub used_cells : List (Option Cells) → List UsedCell
used_cells [] = []
used_cells (None ∷ zspages) = used_cells zspages
used_cells (Some cells ∷ zspages) = used_cells_in cells ++ used_cells zspages

-- the live objects
abbrev pub objects : PoolState → List Object
objects p = map object_of (used_cells p.zspages)

-- the second list is the first with one more element, in some order: any weight adds up to as much
-- more
abbrev pub HasOneMore : {A : Type 0} → List A → List A → A → Type 0
HasOneMore {A} old new x = (f : A → ℕ) → sum_by f new ≡ sum_by f old + f x

-- some cell is free
abbrev pub PoolHasRoom : PoolState → Type 0
PoolHasRoom p = (k : ℕ) × HasRoom (entry p.zspages k)

-- no live object has the handle
abbrev pub IsFresh : PoolState → ℕ → Type 0
IsFresh p handle = (u : UsedCell) → Contains (used_cells p.zspages) u → u.handle ≢ handle

-- a live object has the handle, and its cell is at home
abbrev pub IsAtHome : PoolState → ℕ → Type 0
IsAtHome p handle = (u : UsedCell) × Contains (used_cells p.zspages) u × (u.handle ≡ handle)
    × (u.out ≡ false)

-- a live object has the handle, and its cell is out, and this is it, as it was when it was lent
abbrev pub IsLent : PoolState → ℕ → CellState → Type 0
IsLent p handle cell =
    (u : UsedCell) × Contains (used_cells p.zspages) u × (u.handle ≡ handle) × (u.out ≡ true)
    × (u.cell ≡ cell)

-- the place of an object: a zspage's id, the zspage's cells, a cell's number, and the use of the
-- cell
pub record IsPlace (p : PoolState) (handle id ix : ℕ) (cells : Cells) (u : UsedCell) : Type 0 where
  pub zspage : entry p.zspages id ≡ Some cells
  pub cell : entry cells ix ≡ Some u
  pub handle_is : u.handle ≡ handle

-- a pool whose zspage at an id has other cells
abbrev pub with_cells : PoolState → ℕ → Cells → PoolState
with_cells p id cells = record p { zspages = slice_set p.zspages id (Some cells) }

-- the use of a cell that gets an object
abbrev pub new_use : ℕ → List ℕ → CellState → UsedCell
new_use handle bytes cell = record { handle = handle; bytes = bytes; cell = cell; out = false }

-- the object went into the lowest free cell of the fullest zspage with room
pub record Stores (old new : PoolState) (handle : ℕ) (bytes : List ℕ) (id ix : ℕ) (cells : Cells)
    (cell : CellState) : Type 0 where
  pub fullest : IsFullest old.zspages id
  pub zspage : entry old.zspages id ≡ Some cells
  pub lowest : IsLowestFree cells ix
  pub stored : IsStored handle bytes cell
  pub at : IsCellAt old.size ix cell
  pub after : new ≡ with_cells old id (slice_set cells ix (Some (new_use handle bytes cell)))

-- a new zspage under the least free id has the object in its first cell
pub record Makes (old new : PoolState) (handle : ℕ) (bytes : List ℕ) (id : ℕ) (cell : CellState)
    : Type 0 where
  pub least : IsLeastAbsent old.zspages id
  pub stored : IsStored handle bytes cell
  pub at : IsCellAt old.size 0 cell
  pub after : new ≡ record old {
    zspages = put_at old.zspages id
        (Some (slice_set (replicate old.per None) 0 (Some (new_use handle bytes cell))));
  }

-- the object's cell is free, and its zspage is given up where that was its last
abbrev pub Frees : PoolState → PoolState → ℕ → Cells → ℕ → ℕ → Type 0
Frees old new id cells ix frames =
    ((used_of cells ≡ 1) × (new ≡ record old { zspages = slice_set old.zspages id None })
    × (frames ≡ old.chain))
    ⊎ ((2 ≤ used_of cells) × (new ≡ with_cells old id (slice_set cells ix None)) × (frames ≡ 0))

-- what holds of each pool: every zspage has a used cell and as many cells as the class says, and no
-- two used cells have one handle
pub record IsPool (p : PoolState) : Type 0 where
  pub filled : AreFilled p.zspages
  pub whole : AreWhole p.per p.zspages
  pub distinct : (i j k l : ℕ) (u v : UsedCell) → use_at p.zspages i j ≡ Some u
      → use_at p.zspages k l ≡ Some v
      → u.handle ≡ v.handle → (i ≡ k) × (j ≡ l)

-- a class with its numbers, at some limit on the frames of a chain
pub record IsClass (class size chain per : ℕ) : Type 0 where
  pub limit : ℕ
  pub low : 4 ≤ limit
  pub high : limit ≤ 16
  pub known : class < 255
  pub size_is : size ≡ class_size class
  pub chain_is : IsChain limit class chain
  pub per_is : per ≡ chain * 4096 / size

-- ---- statistics

-- whether a zspage is there and in a fullness group
abbrev pub is_in_group : ℕ → ℕ → Option Cells → Bool
is_in_group per group None = false
is_in_group per group (Some cells) = group_of (used_of cells) per == group

-- the counts of the fullness groups 1 to 11
abbrev pub AreGroups : PoolState → List ℕ → Type 0
AreGroups p groups =
    (length groups ≡ 11) × ((g : ℕ) → g < 11
    → slice_index groups g ≡ count_by (is_in_group p.per (g + 1)) p.zspages)
