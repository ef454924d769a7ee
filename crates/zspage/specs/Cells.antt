-- A zspage as contracts see it: cells of one size, each free or used by an object, at home or out.
use Rattle.std.specs.Prelude.{ℕ, ◌≡◌, ◌≢◌, ◌+◌, ◌<◌, ◌≤◌, ◌==◌, List, Option, None, Some, Bool, true, false, not, is_some, count_by, length, take, drop, if◌then◌else◌, slice_get, slice_index_or}
use Rattle.std.specs.Int.{w64, to_le_bytes}
pub use Rattle.cell_arena.specs.Chains.{CellState}

-- the cell has its whole size
abbrev pub IsWhole : CellState → Type 0
IsWhole cell = length cell.bytes ≡ cell.size

-- the cell is the one with this number, and has so many bytes
pub record IsCellAt (size number : ℕ) (cell : CellState) : Type 0 where
  pub numbered : cell.number ≡ number
  pub sized : cell.size ≡ size
  pub whole : IsWhole cell

-- the bytes of the header before an object of so many bytes: a whole page of 4096 has none
abbrev pub header_size : ℕ → ℕ
header_size len = if len == 4096 then 0 else 8

-- the object of so many bytes in the bytes of a cell: these begin with the object's handle in 8
-- bytes, the low byte first, and then the object follows; a whole page stands alone
abbrev pub object_in : ℕ → List ℕ → List ℕ
object_in len bytes = take len (drop (header_size len) bytes)

-- what is known of a used cell: the object's handle and bytes, the cell, and whether the cell is
-- out
pub record UsedCell : Type 0 where
  pub handle : ℕ
  pub bytes : List ℕ
  pub cell : CellState
  pub out : Bool

-- the cell holds the object
pub record IsStored (handle : ℕ) (bytes : List ℕ) (cell : CellState) : Type 0 where
  pub body : object_in (length bytes) cell.bytes ≡ bytes
  pub header : length bytes ≢ 4096 → take 8 cell.bytes ≡ to_le_bytes w64 handle
  pub fits : header_size (length bytes) + length bytes ≤ length cell.bytes

-- an object of so many bytes fits a cell
abbrev pub Fits : ℕ → ℕ → Type 0
Fits len size = header_size len + len ≤ size

-- a zspage: its id, the bytes of a cell, the frames of its chain, and its cells
pub record ZspageState : Type 0 where
  pub id : ℕ
  pub size : ℕ
  pub frames : ℕ
  pub cells : List (Option UsedCell)

-- the entries of a list that are there: of the cells of a zspage, those in use
abbrev pub used_of : {A : Type 0} → List (Option A) → ℕ
used_of entries = count_by is_some entries

-- whether a cell is used and at home
abbrev pub is_home : Option UsedCell → Bool
is_home None = false
is_home (Some u) = not u.out

-- the used cells at home
abbrev pub home_of : List (Option UsedCell) → ℕ
home_of cells = count_by is_home cells

-- the entry at a place, None where the list has none there
abbrev pub entry : {A : Type 0} → List (Option A) → ℕ → Option A
entry entries place = slice_index_or entries place None

-- the lowest free cell
pub record IsLowestFree (cells : List (Option UsedCell)) (ix : ℕ) : Type 0 where
  pub free : slice_get cells ix ≡ Some None
  pub lowest : (k : ℕ) → k < ix → slice_get cells k ≢ Some None

-- the cell is used, and at home
abbrev pub IsHome : List (Option UsedCell) → ℕ → Type 0
IsHome cells ix = (u : UsedCell) × (entry cells ix ≡ Some u) × (u.out ≡ false)

-- the cell is out, and this is it, as it was when it was lent
abbrev pub IsOut : List (Option UsedCell) → ℕ → CellState → Type 0
IsOut cells ix cell = (u : UsedCell) × (entry cells ix ≡ Some u) × (u.out ≡ true) × (u.cell ≡ cell)
