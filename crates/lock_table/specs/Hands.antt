-- What a hand of a table may do, and what its steps leave.
use Rattle.std.specs.Prelude.{◌≡◌, ◌≢◌, ℕ, ◌∷◌, Option, Some, slice_get}
use Rattle.lock_row.specs.declared.names.LockNo.{LockNo}
use Rattle.lock_row.specs.declared.names.Local.{Local}
use Rattle.lock_row.specs.declared.names.Plan.TheVariants.{Take, Give}
use Rattle.lock_row.specs.Rules.{RowRule}
use Rattle.lock_table.specs.Phases.{Finds, FindsHeld}
use Rattle.lock_table.specs.Sittings.{Ground, Sitting}

-- the lock stands at this place of the row
abbrev pub IsLock : Ground → ℕ → LockNo → Type 0
IsLock g i k = slice_get g.names i ≡ Some k

-- the actor has the lock's value
abbrev pub HasLock : {V : Type 0} → Sitting V → LockNo → Type 0
HasLock {V} h k = (i : ℕ) × (v : V) × (slice_get h.local.held i ≡ Some (k, v))

module _ {V : Type 0} (r : RowRule V) where
  -- what may stand at the lock's place at its next step
  abbrev pub MayFind : Sitting V → LockNo → Option V → Type 0
  MayFind h k x = Finds r h.start h.actor h.local h.seen (r.spot k) x

  -- the hand after an event with this value, whose order it has seen then
  abbrev pub moved : Sitting V → LockNo → (Local V → V → Local V) → V → Sitting V
  moved h k next v = record {
    id = h.id;
    start = h.start;
    actor = h.actor;
    local =
        next h.local v;
    seen = (r.spot k, r.order v) ∷ h.seen;
  }

  -- The hand is of this row, the rule has its actor take this lock of the row next, which it
  -- doesn't hold, and the local that is named is the rule's.
  pub record MayTake (g : Ground) (h : Sitting V) (k : LockNo)
      (next : Local V → V → Local V) : Type 0 where
    pub own : h.id ≡ g.id
    pub there : IsLock g (r.spot k) k
    pub plan : r.plan h.local ≡ Take k
    pub named : (v : V) → next h.local v ≡ r.took h.local v
    pub new : (i : ℕ) (x : LockNo × V) → slice_get h.local.held i ≡ Some x → r.spot x.0 ≢ r.spot k

  -- The value was at home, and is with the actor.
  pub record Takes (h : Sitting V) (k : LockNo) (next : Local V → V → Local V) (v : V)
      (after : Sitting V) : Type 0 where
    pub found : MayFind h k (Some v)
    pub has : (next h.local v).held ≡ (k, v) ∷ h.local.held
    pub moves : after ≡ moved h k next v

  -- Another actor held the lock, and nothing changes.
  pub record Misses (h : Sitting V) (k : LockNo) (after : Sitting V) : Type 0 where
    pub held : FindsHeld r h.start h.actor h.local h.seen (r.spot k)
    pub same : after ≡ h

  -- The hand is of this row, and the rule has its actor give this lock next with this value.
  pub record MayGive (g : Ground) (h : Sitting V) (k : LockNo) (next : Local V → V → Local V)
      (v : V) : Type 0 where
    pub own : h.id ≡ g.id
    pub there : IsLock g (r.spot k) k
    pub plan : r.plan h.local ≡ Give k
    pub works : r.works h.local v (next h.local v)
