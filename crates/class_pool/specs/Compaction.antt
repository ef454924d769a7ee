-- What the moves of a pool come to while nothing else touches it: which objects are done, how many
-- may still move, and the least number of zspages.
use Rattle.std.specs.Prelude.{ℕ, ◌≡◌, ◌+◌, ◌⊎◌, ◌==◌, Option, None, Some, false, Contains, length, sum_by, if◌then◌else◌}
use Rattle.std.specs.Int.{div_ceil}
use Rattle.zspage.specs.Cells.{UsedCell, used_of, home_of, entry}
use Rattle.zs_plan.specs.declared.Row.{Row}
use Rattle.zs_plan.specs.Plan.{IsPartial, IsDestination}
use Rattle.class_pool.specs.Zspages.{Cells}
use Rattle.class_pool.specs.Rows.{row_of, rows}
use Rattle.class_pool.specs.Pool.{PoolState, IsPlace, objects, used_cells}

-- an object is in a full zspage, or in the one that objects move into
abbrev pub IsSettled : PoolState → ℕ → Type 0
IsSettled p h =
    (id : ℕ) × (ix : ℕ) × (cells : Cells) × (u : UsedCell) × IsPlace p h id ix cells u
    × ((used_of cells ≡ p.per) ⊎ IsDestination p.per (rows p.zspages) (row_of id cells))

-- the objects at home in a zspage that is not full
abbrev pub home_in_partial : ℕ → Option Cells → ℕ
home_in_partial per None = 0
home_in_partial per (Some cells) = if used_of cells == per then 0 else home_of cells

-- so many objects may still move: those at home in zspages that are not full, but for those of the
-- destination
abbrev pub MayMove : PoolState → ℕ → Type 0
MayMove p n =
    (((r : Row) → Contains (rows p.zspages) r → IsPartial p.per r → ⊥) × (n ≡ 0))
    ⊎ ((id : ℕ) × (cells : Cells) × (entry p.zspages id ≡ Some cells)
    × IsDestination p.per (rows p.zspages) (row_of id cells)
    × (n + home_of cells ≡ sum_by (home_in_partial p.per) p.zspages))

-- the cells of all objects are at home
abbrev pub IsNothingOut : PoolState → Type 0
IsNothingOut p = (u : UsedCell) → Contains (used_cells p.zspages) u → u.out ≡ false

-- there are no more zspages than the objects need: their number over the cells of a zspage, rounded
-- up
abbrev pub IsLeast : PoolState → Type 0
IsLeast p = used_of p.zspages ≡ div_ceil (length (objects p)) p.per
