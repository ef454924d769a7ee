-- What setting a phase up makes of its actors: workers before their first turns.
use Rattle.std.specs.Prelude.{◌≡◌, ℕ, Bool, ◌≤◌, List, [], length, None, Some, slice_get, vec_len, vec_capacity, if◌then◌else◌}
use Rattle.zr_base.specs.declared.op.Op.{Op}
use Rattle.zr_base.specs.declared.op.Op.TheVariants.{Write, Read, Discard, Idle, Writeback, Compact}
use Rattle.plain_disk.specs.Ends.{is_single}
use Rattle.call_history.specs.Parts.{program, end_as}
use Rattle.actor_steps.specs.declared.reply.Reply.{Reply}
use Rattle.actor_steps.specs.declared.worker.Worker.{Worker}
use Rattle.actor_steps.specs.Places.{todo_at}
use Rattle.actor_steps.specs.Workers.{Keeps, IsFit}

-- the sectors that an operation will tell
abbrev pub sectors_due : ℕ → Op → ℕ
sectors_due size (Write start count stuff) = 0
sectors_due size (Read start count) = if is_single size (Read start count) then 0 else count
sectors_due size (Discard start count) = 0
sectors_due size (Idle age) = 0
sectors_due size (Writeback mode) = 0
sectors_due size Compact = 0

-- A reply before the first turn, with room for what its operation reads.
pub record IsNewReply (size : ℕ) (backed : Bool) (op : Op) (r : Reply) : Type 0 where
  pub end : r.end ≡ end_as backed 0 op []
  pub none : r.sectors.items ≡ []
  pub len : vec_len r.sectors ≡ 0
  pub room : sectors_due size op ≤ vec_capacity r.sectors

-- A reply for each operation, as it is before the first turn.
pub record AreNewReplies (size : ℕ) (backed : Bool) (ops : List Op) (rs : List Reply) : Type 0 where
  pub count : length rs ≡ length ops
  pub each : (k : ℕ) (op : Op) (r : Reply) → slice_get ops k ≡ Some op → slice_get rs k ≡ Some r
      → IsNewReply size backed op r

-- A worker before its first turn, on a disk of so many pages, which has a backing or none, and whose
-- chains have at most so many frames.
pub record IsNewWorker {D : Type 0} (size : ℕ) (backed : Bool) (chain actor : ℕ) (ops : List Op)
    (w : Worker D) : Type 0 where
  pub who : w.actor ≡ actor
  pub at : w.call ≡ None
  pub todo : todo_at size backed ops w.place ≡ program size backed 0 ops
  pub fit : (now : ℕ) → IsFit (record { size = size; chain = chain; clock = now }) backed ops w
  pub keeps : Keeps backed ops w []

-- A worker for each actor, as it is before the first turn.
pub record AreNewWorkers {D : Type 0} (size : ℕ) (backed : Bool) (chain : ℕ)
    (actors : List (List Op)) (ws : List (Worker D)) : Type 0 where
  pub count : length ws ≡ length actors
  pub each : (a : ℕ) (ops : List Op) (w : Worker D) → slice_get actors a ≡ Some ops
      → slice_get ws a ≡ Some w → IsNewWorker size backed chain a ops w
