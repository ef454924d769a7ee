-- A chain of frames and its cells, as contracts see them.
use Rattle.std.specs.Prelude.{ℕ, zero, suc, ◌≡◌, ◌+◌, ◌*◌, ◌/◌, ◌<◌, ◌≤◌, ◌++◌, List, [], ◌∷◌, length, take, drop, slice_index_or}
use Rattle.std.specs.List.Sorted.{IsPermutation}
use denote.RawPtr.{Ptr, ◌+ₚ◌}

-- a cell: its chain, by where that begins, its number in it, its size, and its bytes
pub record CellState : Type 0 where
  pub chain : Ptr
  pub number : ℕ
  pub size : ℕ
  pub bytes : List ℕ

-- cells of a chain of so many frames that was cut at a size, and the bytes of the chain that are in
-- no cell
pub record CellsState : Type 0 where
  pub chain : Ptr
  pub frames : ℕ
  pub size : ℕ
  pub cells : List CellState
  pub rest : List ℕ

-- the whole cells that fit
abbrev pub per : ℕ → ℕ → ℕ
per frames size = frames * 4096 / size

-- the k-th cell of the bytes
abbrev pub cell_of : Ptr → ℕ → List ℕ → ℕ → CellState
cell_of chain size bytes k = record {
  chain = chain;
  number = k;
  size = size;
  bytes =
      take size (drop (k * size) bytes);
}

-- the first n cells of the bytes
abbrev pub cells_of : Ptr → ℕ → List ℕ → ℕ → List CellState
cells_of chain size bytes zero = []
cells_of chain size bytes (suc n) = cells_of chain size bytes n ++ cell_of chain size bytes n ∷ []

-- the cells are those of the bytes, in some order, and the rest is what is after them
pub record AreCellsOf (c : CellsState) (bytes : List ℕ) : Type 0 where
  pub long : length bytes ≡ c.frames * 4096
  pub cells : IsPermutation c.cells (cells_of c.chain c.size bytes (per c.frames c.size))
  pub rest : drop (per c.frames c.size * c.size) bytes ≡ c.rest

-- the k-th cell here is the k-th of the chain
pub record AreNumbered (chain : Ptr) (size : ℕ) (cells : List CellState) : Type 0 where
  pub ours : (k : ℕ) (d : CellState) → k < length cells → (slice_index_or cells k d).chain ≡ chain
  pub places : (k : ℕ) (d : CellState) → k < length cells → (slice_index_or cells k d).number ≡ k
  pub sizes : (k : ℕ) (d : CellState) → k < length cells → (slice_index_or cells k d).size ≡ size
  pub long : (k : ℕ) (d : CellState) → k < length cells
      → length (slice_index_or cells k d).bytes ≡ size

-- the cells stand in the order of the chain, and are all of it
pub record AreInOrder (c : CellsState) (cells : List CellState) : Type 0 where
  pub count : length cells ≡ per c.frames c.size
  pub numbered : AreNumbered c.chain c.size cells
  pub rest : per c.frames c.size * c.size + length c.rest ≡ c.frames * 4096

-- these are all the cells of one chain, in some order
abbrev pub HasAllCells : CellsState → Type 0
HasAllCells c = (cells : List CellState) × IsPermutation c.cells cells × AreInOrder c cells

-- the strip of a cell: it lies where the cell does in its chain
pub record IsCell (number size : ℕ) (chain at : Ptr) (bytes : List ℕ) : Type 0 where
  pub place : at ≡ chain +ₚ number * size
  pub long : length bytes ≡ size
  pub within : number * size + size ≤ 65536
  pub some : 32 ≤ size
  pub few : size ≤ 4096

-- the strip of a whole chain, and the right to free a block
pub record IsChain (frames : ℕ) (chain at : Ptr) (bytes : List ℕ) (block : Ptr) (len : ℕ)
    : Type 0 where
  pub place : at ≡ chain
  pub long : length bytes ≡ frames * 4096
  pub some : 1 ≤ frames
  pub few : frames ≤ 16
  pub deed : block ≡ chain
  pub deed_long : len ≡ frames * 4096

-- the strip after the cells, and the right to free a block
pub record IsCells (frames size here space : ℕ) (chain at : Ptr) (bytes : List ℕ) (block : Ptr)
    (len : ℕ) : Type 0 where
  pub place : at ≡ chain +ₚ per frames size * size
  pub long : per frames size * size + length bytes ≡ frames * 4096
  pub some : 1 ≤ frames
  pub few : frames ≤ 16
  pub least : 32 ≤ size
  pub most : size ≤ 4096
  pub fewer : here ≤ per frames size
  pub roomy : per frames size ≤ space
  pub deed : block ≡ chain
  pub deed_long : len ≡ frames * 4096
