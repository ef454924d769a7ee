-- The call of a piece in work, by its kind: whose work it does, the local that it stands for, and its
-- turns.
use Rattle.std.specs.Prelude.{ℕ, ⊤, Bool, true, List, []}
use Rattle.call_history.specs.declared.part.Part.{Part}
use Rattle.lock_row.specs.declared.names.LockNo.{LockNo}
use Rattle.lock_row.specs.declared.names.Plan.{Plan}
use Rattle.page_steps.specs.declared.stage.Scratch.{Scratch}
use Rattle.page_steps.specs.declared.stage.PieceEnd.{PieceEnd}
use Rattle.page_steps.specs.declared.stage.Progress.{Progress}
use Rattle.page_steps.specs.declared.stage.Progress.TheVariants as progress
use Rattle.page_steps.specs.Steps.{DiskHeld, Here}
use Rattle.page_steps.specs.Nexts.{Next, ending_by}
use Rattle.page_steps.specs.Calls.{Frame, is_count, end_of, got_of}
use Rattle.page_steps.specs.Calls.{here as page_here, next_event as page_event, IsWork as IsPageWork, IsFit as IsPageFit, IsGoing as IsPageGoing}
use Rattle.page_steps.specs.Turns.{Turned}
use Rattle.post_steps.specs.Compact.{here as compact_here, next_event as compact_event, IsWork as IsCompactWork, IsFit as IsCompactFit, IsGoing as IsCompactGoing}
use Rattle.post_steps.specs.Idle.{here as idle_here, next_event as idle_event, IsWork as IsIdleWork, IsFit as IsIdleFit, IsGoing as IsIdleGoing}
use Rattle.post_steps.specs.Writeback.{here as writeback_here, next_event as writeback_event, IsWork as IsWritebackWork, IsFit as IsWritebackFit, IsGoing as IsWritebackGoing}
use Rattle.actor_steps.specs.declared.call.Call.{Call}
use Rattle.actor_steps.specs.declared.call.Call.TheVariants as call

-- the call does an actor's work
abbrev pub Does : {D : Type 0} → Call D → Scratch → Frame → Type 0
Does (call.Page c) r x = IsPageWork c.head r x
Does (call.Idle c) r x = IsIdleWork c.head x
Does (call.Writeback c) r x = IsWritebackWork c.head x
Does (call.Compact c) r x = IsCompactWork r.table x

-- the local of an actor whose work it does
abbrev pub local : {D : Type 0} → Call D → Scratch → Frame → Here
local (call.Page c) r x = page_here x r c.stage
local (call.Idle c) r x = idle_here x c.stage
local (call.Writeback c) r x = writeback_here x r c.stage
local (call.Compact c) r x = compact_here x c.stage

-- its next event
abbrev pub next_event : {D : Type 0} → Call D → Plan
next_event (call.Page c) = page_event c.head c.stage
next_event (call.Idle c) = idle_event c.stage
next_event (call.Writeback c) = writeback_event c.stage
next_event (call.Compact c) = compact_event c.stage

-- what holds of it between two events
abbrev pub IsFit : {D : Type 0} → Call D → Scratch → Type 0
IsFit (call.Page c) r = IsPageFit c.head r c.stage
IsFit (call.Idle c) r = IsIdleFit c.head c.stage
IsFit (call.Writeback c) r = IsWritebackFit c.head c.stage
IsFit (call.Compact c) r = IsCompactFit r.table c.stage

-- it isn't over
abbrev pub IsGoing : {D : Type 0} → Call D → Type 0
IsGoing (call.Page c) = IsPageGoing c.stage
IsGoing (call.Idle c) = IsIdleGoing c.stage
IsGoing (call.Writeback c) = IsWritebackGoing c.stage
IsGoing (call.Compact c) = IsCompactGoing c.stage

-- whether it does an operation that is over in one piece: it counts a request beyond the disk, marks
-- pages, writes pages back, or compacts
abbrev pub is_alone : {D : Type 0} → Call D → Bool
is_alone (call.Page c) = is_count c.head.work
is_alone (call.Idle c) = true
is_alone (call.Writeback c) = true
is_alone (call.Compact c) = true

-- ---- turns

-- what its piece has read, where it ends so
abbrev pub got_by : {D : Type 0} → Call D → Scratch → PieceEnd → Part → List (List ℕ)
got_by (call.Page c) r end p = got_of end r.page p
got_by (call.Idle c) r end p = []
got_by (call.Writeback c) r end p = []
got_by (call.Compact c) r end p = []

-- the local after a turn: an end hands it on to what follows
abbrev pub after : Here → Here → (PieceEnd → Part → List (List ℕ)) → Progress → Here
after l m got progress.Moved = m
after l m got (progress.Waits k) = m
after l m got (progress.Done end) = ending_by l (end_of end) (got end) l.todo

-- it goes on after each event but its last one
abbrev pub IsOnward : {D : Type 0} → Progress → Call D → Type 0
IsOnward (progress.Done end) c = ⊤
IsOnward p c = IsGoing c

module _ {X : Type 0} (takes : X → LockNo → Next → DiskHeld → X → Type 0)
    (misses : X → LockNo → X → Type 0)
    (gives : X → LockNo → Next → DiskHeld → X → Type 0) where
  -- a turn of a call is one of each actor whose work it does
  abbrev pub Advanced : {D : Type 0} → Call D → Scratch → X → Call D → Scratch → X → Progress → Type 0
  Advanced c r h d s g p = (x : Frame) → Does c r x
      → Turned takes misses gives x.terms (local c r x) h
      (after (local c r x) (local d s x) (got_by c s) p) g p
