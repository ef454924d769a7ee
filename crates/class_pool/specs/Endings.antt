-- What repeated moves of a pool come to: statements that the laws claim.
use Rattle.std.specs.Prelude.{ℕ, ◌<◌, ◌≤◌, Bool, false, Option, None, Some, length, count_by, nat_lt}
use Rattle.zspage.specs.Cells.{used_of}
use Rattle.zs_plan.specs.Plan.{IsPlan, HasNoPlan}
use Rattle.class_pool.specs.Zspages.{Cells}
use Rattle.class_pool.specs.Rows.{rows}
use Rattle.class_pool.specs.Pool.{PoolState, IsPool, objects}
use Rattle.class_pool.specs.Moves.{Move, Moves}
use Rattle.class_pool.specs.Compaction.{MayMove, IsNothingOut, IsLeast}

-- a zspage is there, and has a free cell
abbrev pub has_free : ℕ → Option Cells → Bool
has_free per None = false
has_free per (Some cells) = nat_lt (used_of cells) per

-- at most one zspage has a free cell
abbrev pub IsTight : PoolState → Type 0
IsTight p = count_by (has_free p.per) p.zspages ≤ 1

-- of each pool a number of objects may move, no more than there are
abbrev pub SomeMayMove : Type 0
SomeMayMove = (p : PoolState) → IsPool p → (n : ℕ) × MayMove p n × (n ≤ length (objects p))

-- after a move by the plan fewer may move
abbrev pub FewerMayMove : Type 0
FewerMayMove =
    (p q : PoolState) (m : Move) (frames n k : ℕ) → IsPlan p.per (rows p.zspages) m.from m.to
    → Moves p q m frames
    → MayMove p n → MayMove q k → k < n

-- where there is no plan none may move
abbrev pub NoneMayMove : Type 0
NoneMayMove = (p : PoolState) → IsPool p → HasNoPlan p.per (rows p.zspages) → MayMove p 0

-- where none may move and nothing is out, there are no more zspages than the objects need, and at
-- most one has a free cell
abbrev pub RestIsLeast : Type 0
RestIsLeast = (p : PoolState) → IsPool p → MayMove p 0 → IsNothingOut p → IsLeast p × IsTight p

-- where at most one zspage has a free cell there is no plan
abbrev pub TightHasNoPlan : Type 0
TightHasNoPlan =
    (p : PoolState) (from to : ℕ) → IsTight p → IsPlan p.per (rows p.zspages) from to → ⊥
