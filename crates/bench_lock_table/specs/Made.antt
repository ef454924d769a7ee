-- A row of tags for four actors.
use Rattle.std.specs.Prelude.{◌≡◌, ℕ, ◌<◌, List, [], ◌∷◌, map, length, Some, slice_get}
use Rattle.zr_base.specs.declared.op.Tag.{Tag}
use Rattle.lock_row.specs.declared.names.LockNo.{LockNo}
use Rattle.lock_row.specs.declared.names.State.{State}
use Rattle.lock_table.specs.Sittings.{Ground}
use Rattle.lock_table.specs.Starts.{all_home, StandAt}
use Rattle.bench_lock_table.specs.declared.rows.Locks.{Locks}
use Rattle.bench_lock_table.specs.declared.rows.Made.{Made}
use Rattle.bench_lock_table.specs.declared.rows.Job.{Job}
use Rattle.bench_lock_table.specs.Tagging.{spot, lock_at, pieces_for, idle}
use Rattle.bench_lock_table.specs.Ready.{Mine, IsReady, IsSame}

-- each actor at its lock
abbrev pub start_of : List (LockNo × List Tag) → Locks → State (List Tag)
start_of values locks =
    record {
      row = all_home values;
      locals = idle 0 locks.one ∷ idle 1 locks.two ∷ idle 2
          locks.three ∷ idle 3 locks.four ∷ [];
    }

-- the lock stands among the values, and is one that an actor may have
abbrev pub IsOwn : List (LockNo × List Tag) → LockNo → Type 0
IsOwn values k = (slice_get (map (λ x. x.0) values) (spot k) ≡ Some k)
    × (lock_at (pieces_for k) ≡ k)

-- The values stand at their places, and each actor has one of their locks.
pub record CanMake (values : List (LockNo × List Tag)) (locks : Locks) : Type 0 where
  pub some : 0 < length values
  pub placed : StandAt spot values
  pub one : IsOwn values locks.one
  pub two : IsOwn values locks.two
  pub three : IsOwn values locks.three
  pub four : IsOwn values locks.four

-- The hand of this actor is ready, and has nothing done.
pub record IsSeat (g : Ground) (start : State (List Tag)) (a : ℕ) (k : LockNo)
    (h : Mine) : Type 0 where
  pub ready : IsReady g h k
  pub start_is : h.start ≡ start
  pub actor : h.actor ≡ a
  pub number : h.local.actor ≡ a
  pub none_done : h.local.done ≡ []

-- All four hands are out, and the list of hands has room for them.
pub record IsMade (start : State (List Tag)) (locks : Locks) (m : Made) : Type 0 where
  pub one : IsSeat m.row start 0 locks.one m.one
  pub two : IsSeat m.row start 1 locks.two m.two
  pub three : IsSeat m.row start 2 locks.three m.three
  pub four : IsSeat m.row start 3 locks.four m.four
  pub empty : m.hands.list ≡ []
  pub most : m.hands.most ≡ 4
  pub locks_are : m.hands.locks ≡ length m.row.names

-- The hand may do this job.
pub record CanServe (g : Ground) (h : Mine) (j : Job) : Type 0 where
  pub ready : IsReady g h j.lock
  pub number : h.local.actor ≡ j.actor
  pub none_done : h.local.done ≡ []

-- It has done the job.
pub record IsServed (g : Ground) (h : Mine) (j : Job) (after : Mine) : Type 0 where
  pub ready : IsReady g after j.lock
  pub same : IsSame h after
