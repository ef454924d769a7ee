-- A cell with what is known of its object, as the code keeps it.
use Rattle.std.specs.Prelude.{ℕ, ◌≡◌, ◌<◌, ◌^◌, map, slice_index, slice_index_or, List, [], Option, None, Some, Bool, true, false, length, ⊤, ◌+◌, ◌*◌}
use Rattle.std.specs.Ptr.{Ptr}
use Rattle.cell_arena.specs.Chains.{CellsState, per}
use Rattle.zspage.specs.Cells.{CellState, IsWhole, UsedCell, object_in, IsStored, used_of, home_of}
use Rattle.zspage.specs.declared.spot.Stored.{Stored}

-- a cell's chain, number and size, and its object where it has one
pub record SpotState : Type 0 where
  pub chain : Ptr
  pub number : ℕ
  pub size : ℕ
  pub use_of : Option UsedCell

-- the use of a cell by the object in it
abbrev pub used_cell : Stored → CellState → Bool → UsedCell
used_cell o cell out =
    record { handle = o.handle.0; bytes = object_in o.len cell.bytes; cell = cell; out = out }

-- the cell is at hand, or it was lent as it was then
abbrev pub which : Option CellState → CellState → CellState
which (Some cell) lent = cell
which None lent = lent

-- what contracts see of the use of a cell that is at hand or lent
abbrev pub seen : Option Stored → Option CellState → CellState → Option UsedCell
seen None cell lent = None
seen (Some o) (Some cell) lent = Some (used_cell o cell false)
seen (Some o) None lent = Some (used_cell o lent true)

-- the cell has its size and the object
pub record Holds (o : Stored) (cell : CellState) : Type 0 where
  pub long : IsWhole cell
  pub whole : length (object_in o.len cell.bytes) ≡ o.len
  pub stored : IsStored o.handle.0 (object_in o.len cell.bytes) cell

-- a cell without an object is at hand
abbrev pub IsSound : Option Stored → Option CellState → CellState → Type 0
IsSound None None lent = ⊥
IsSound None (Some cell) lent = IsWhole cell
IsSound (Some o) None lent = Holds o lent
IsSound (Some o) (Some cell) lent = Holds o cell

-- the cells of a zspage, from its spots
abbrev pub uses : List SpotState → List (Option UsedCell)
uses spots = map (λ s. s.use_of) spots

-- a free cell has rank 1, a used one rank 0
abbrev pub rank_of : Option UsedCell → ℕ
rank_of None = 1
rank_of (Some u) = 0

-- the cell is at hand
abbrev pub IsHere : Option UsedCell → Type 0
IsHere None = ⊤
IsHere (Some u) = u.out ≡ false

-- the cells of all spots are at hand
abbrev pub AreHere : List SpotState → Type 0
AreHere spots =
    (k : ℕ) (d : SpotState) → k < length spots → IsHere (slice_index_or spots k d).use_of

-- the spot of the cell with this chain, number, size and rank
pub record IsSpot (chain : Ptr) (number size rank : ℕ) (s : SpotState) : Type 0 where
  pub ours : s.chain ≡ chain
  pub numbered : s.number ≡ number
  pub sized : s.size ≡ size
  pub ranked : rank ≡ rank_of s.use_of

-- the spots are those of the cells of one chain, in its order, each with its rank
abbrev pub ArePlaced : Ptr → ℕ → List SpotState → List ℕ → Type 0
ArePlaced chain size spots ranks = (k : ℕ) (d : SpotState) → k < length spots
    → IsSpot chain k size (slice_index ranks k) (slice_index_or spots k d)

-- they are those of free cells
abbrev pub AreFree : Ptr → ℕ → List SpotState → Type 0
AreFree chain size spots = (k : ℕ) (d : SpotState) → k < length spots
    → slice_index_or spots k d ≡ record { chain = chain; number = k; size = size; use_of = None }

-- each cell has its place and rank, and the counts of used cells and of those at home are right
pub record IsZspage (chain : Ptr) (size used home : ℕ) (spots : List SpotState) (free : List ℕ)
    : Type 0 where
  pub count : used ≡ used_of (uses spots)
  pub home_is : home ≡ home_of (uses spots)
  pub few : length spots < 2 ^ 32
  pub ranked : length free ≡ length spots
  pub each : ArePlaced chain size spots free

-- what stays of a chain while its cells, so many, are in spots
pub record IsEmptied (c : CellsState) (size frames count : ℕ) : Type 0 where
  pub none : c.cells ≡ []
  pub sized : c.size ≡ size
  pub framed : c.frames ≡ frames
  pub all : count ≡ per frames size
  pub rest : per frames size * size + length c.rest ≡ frames * 4096
