-- A hand of a row of tags between its turns, and while it has its lock.
use Rattle.std.specs.Prelude.{◌≡◌, List, [], ◌∷◌}
use Rattle.zr_base.specs.declared.op.Tag.{Tag}
use Rattle.lock_row.specs.declared.names.LockNo.{LockNo}
use Rattle.lock_table.specs.Sittings.{Ground, Sitting}
use Rattle.lock_table.specs.Hands.{IsLock}
use Rattle.bench_lock_table.specs.Tagging.{spot, lock_at}

-- a hand of the rule
abbrev pub Mine : Type 0
Mine = Sitting (List Tag)

-- It is of the row, the lock is its actor's, and it holds what it holds.
pub record Sits (g : Ground) (h : Mine) (k : LockNo) (held : List (LockNo × List Tag)) : Type 0
  where
    pub own : h.id ≡ g.id
    pub there : IsLock g (spot k) k
    pub its : lock_at h.local.todo ≡ k
    pub held_so : h.local.held ≡ held

-- it holds nothing
abbrev pub IsReady : Ground → Mine → LockNo → Type 0
IsReady g h k = Sits g h k []

-- it holds its lock with these tags
abbrev pub Has : Ground → Mine → LockNo → List Tag → Type 0
Has g h k v = Sits g h k ((k, v) ∷ [])

-- It is the hand of the same actor, from the same start.
pub record IsSame (h after : Mine) : Type 0 where
  pub start : after.start ≡ h.start
  pub actor : after.actor ≡ h.actor
  pub number : after.local.actor ≡ h.local.actor
