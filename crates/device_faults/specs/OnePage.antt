-- A call over a row of one thread: when it may make its next event.
use Rattle.std.specs.Prelude.{◌≡◌, ℕ, suc, ◌+◌, ◌<◌, ◌≤◌, ◌^◌, List, [], ◌∷◌, length, Some, None}
use Rattle.mem_account.specs.Counters.{Counters}
use Rattle.backing_dev.specs.Dev.{DeviceState}
use Rattle.lock_row.specs.declared.names.LockNo.{LockNo}
use Rattle.lock_row.specs.declared.names.LockNo.TheVariants as lock
use Rattle.lock_row.specs.declared.names.Held.TheVariants as holds
use Rattle.lock_row.specs.declared.names.Plan.TheVariants.{Take, Give}
use Rattle.lock_row.specs.Rows.{Row, IsIn, cell}
use Rattle.slot_entry.specs.Entries.{EntryState}
use Rattle.page_steps.specs.declared.stage.Head.{Head}
use Rattle.page_steps.specs.declared.stage.Scratch.{Scratch}
use Rattle.page_steps.specs.declared.stage.Stage.{Stage}
use Rattle.page_steps.specs.declared.stage.Stage.TheVariants as stage
use Rattle.page_steps.specs.Steps.{DiskHeld, slot}
use Rattle.page_steps.specs.Calls.{Frame, IsFit, IsWork, next_event}
use Rattle.page_steps.specs.Fits.{HasPlace, AsSlot}
use Rattle.page_steps.specs.Turns.{FitsSome}

-- ---- the row

-- what stands at the locks of a disk
abbrev pub Locks : Type 0
Locks = Row DiskHeld

-- the locks of the page, the account, the blocks and the device
abbrev pub locks : List LockNo
locks = slot 0 ∷ lock.Account ∷ lock.Blocks ∷ lock.Device ∷ []

-- The row has these locks.
pub record IsDisk (row : Locks) : Type 0 where
  pub names : row.names ≡ locks
  pub cells : length row.cells ≡ 4

-- what is at home at the page's slot is an entry with room for a tag
abbrev pub HasRoom : Locks → Type 0
HasRoom row = (v : DiskHeld) → cell row (slot 0) ≡ Some (Some v) → AsSlot HasPlace v

-- the account is at home
abbrev pub HasAccount : Locks → Type 0
HasAccount row = (c : Counters) × (cell row lock.Account ≡ Some (Some (holds.Account c)))

-- the device is at home, and has this block
abbrev pub HasBlock : Locks → ℕ → Type 0
HasBlock row b =
    (d : DeviceState) × (cell row lock.Device ≡ Some (Some (holds.Device d))) × (b < d.blocks)

-- ---- turns

-- the call does some actor's work
abbrev pub DoesWork : Head → Scratch → Type 0
DoesWork c r = (x : Frame) × IsWork c r x

-- The call is of the disk's page, before its first event, and does some actor's work.
pub record IsNew {D : Type 0} (c : Head) (r : Scratch) (s : Stage D) : Type 0 where
  pub page : c.piece.page.0 ≡ 0
  pub start : s ≡ stage.Start
  pub fit : IsFit c r s
  pub work : DoesWork c r

-- The row has what the call's next event takes, or the place of what it gives.
pub record CanGo {D : Type 0} (c : Head) (r : Scratch) (s : Stage D) (row : Locks) : Type 0 where
  pub take : (k : LockNo) → next_event c s ≡ Take k → IsIn row k
  pub fits : (k : LockNo) (v : DiskHeld) → next_event c s ≡ Take k → cell row k ≡ Some (Some v)
      → FitsSome c r s v
  pub give : (k : LockNo) → next_event c s ≡ Give k → cell row k ≡ Some None

-- The row has what a call on a page of the device takes next, or the place of what it gives next.
pub data IsReady {D : Type 0} (s : Stage D) (row : Locks) : Type 0 where
  away : (e : EntryState) (b : ℕ) → s ≡ stage.Away e b → HasBlock row b → IsReady s row
  fetching : (e : EntryState) (b : ℕ) (d : DeviceState) → s ≡ stage.Fetching e b d
      → cell row lock.Device ≡ Some None → IsReady s row
  failing : (e : EntryState) (fault : ℕ) → s ≡ stage.Failing e fault → HasAccount row
      → IsReady s row
  counting : (e : EntryState) (fault : ℕ) (c : Counters) → s ≡ stage.Counting e fault c
      → cell row lock.Account ≡ Some None → IsReady s row
  missed : (e : EntryState) (fault : ℕ) → s ≡ stage.Missed e fault
      → cell row (slot 0) ≡ Some None → IsReady s row
  leaving : (e : EntryState) → s ≡ stage.Leaving e → cell row (slot 0) ≡ Some None
      → IsReady s row
