-- What each call does to sums over the used cells and to the frames of the zspages: statements that
-- the laws claim.
use Rattle.std.specs.Prelude.{◌≡◌, ℕ, ◌+◌, ◌*◌, ◌≤◌, List, Some, false, sum_by, slice_set}
use Rattle.zspage.specs.Cells.{CellState, UsedCell, used_of}
use Rattle.class_pool.specs.Zspages.{Cells}
use Rattle.class_pool.specs.Pool.{PoolState, used_cells, HasOneMore, IsPlace, Stores, Makes, Frees, with_cells, new_use}
use Rattle.class_pool.specs.Moves.{Move, Moves}

-- the frames of all zspages of a pool
abbrev pub frames_of : PoolState → ℕ
frames_of p = p.chain * used_of p.zspages

-- an object that was stored is one more, and takes no frames
abbrev pub StoringAddsOne : Type 0
StoringAddsOne =
    (p q : PoolState) (handle : ℕ) (bytes : List ℕ) (id ix : ℕ) (cells : Cells) (cell : CellState)
    → Stores p q handle bytes id ix cells cell
    → HasOneMore (used_cells p.zspages) (used_cells q.zspages) (new_use handle bytes cell)
    × (frames_of q ≡ frames_of p)

-- one for which a zspage was made is one more, and takes a chain
abbrev pub MakingAddsOne : Type 0
MakingAddsOne =
    (p q : PoolState) (handle : ℕ) (bytes : List ℕ) (id : ℕ) (cell : CellState) → 1 ≤ p.per
    → Makes p q handle bytes id cell
    → HasOneMore (used_cells p.zspages) (used_cells q.zspages) (new_use handle bytes cell)
    × (frames_of q ≡ frames_of p + p.chain)

-- one that was freed is one less, and gives so many frames, at most a chain
abbrev pub FreeingTakesOne : Type 0
FreeingTakesOne =
    (p q : PoolState) (handle id ix frames : ℕ) (cells : Cells) (u : UsedCell)
    → IsPlace p handle id ix cells u → Frees p q id cells ix frames
    → HasOneMore (used_cells q.zspages) (used_cells p.zspages) u
    × (frames_of q + frames ≡ frames_of p) × (frames ≤ p.chain)

-- another use of a used cell takes its place
abbrev pub ChangingSwapsOne : Type 0
ChangingSwapsOne =
    (p : PoolState) (handle id ix : ℕ) (cells : Cells) (u v : UsedCell)
    → IsPlace p handle id ix cells u
    → ((f : UsedCell → ℕ)
    → sum_by f (used_cells (with_cells p id (slice_set cells ix (Some v))).zspages) + f u
    ≡ sum_by f (used_cells p.zspages) + f v)
    × (frames_of (with_cells p id (slice_set cells ix (Some v))) ≡ frames_of p)

-- a used cell is one of those over which a sum goes
abbrev pub UseIsPart : Type 0
UseIsPart =
    (p : PoolState) (handle id ix : ℕ) (cells : Cells) (u : UsedCell)
    → IsPlace p handle id ix cells u → (f : UsedCell → ℕ) → f u ≤ sum_by f (used_cells p.zspages)

-- an object that moves keeps its handle and its bytes and is at home before and after it; so many
-- frames are free, at most a chain
abbrev pub MovingKeepsAll : Type 0
MovingKeepsAll =
    (p q : PoolState) (m : Move) (frames : ℕ) → Moves p q m frames
    → ((f : UsedCell → ℕ) → sum_by f (used_cells q.zspages) + f m.object
    ≡ sum_by f (used_cells p.zspages) + f (new_use m.object.handle m.object.bytes m.cell))
    × (m.object.out ≡ false) × (frames_of q + frames ≡ frames_of p) × (frames ≤ p.chain)
    × (q.class ≡ p.class) × (q.size ≡ p.size) × (q.chain ≡ p.chain) × (q.per ≡ p.per)
