-- A call that writes pages back: what it stands for as an actor's local, and what its values are.
use Rattle.std.specs.Prelude.{◌≡◌, ℕ, ◌+◌, ◌<◌, ◌≤◌, true, false, ⊤, Bool, List, [], ◌∷◌, Option, Some, None}
use Rattle.zr_base.specs.declared.op.Mode.{Mode}
use Rattle.zr_base.specs.declared.op.Op.TheVariants.{Writeback}
use Rattle.zr_base.specs.declared.op.OpEnd.{OpEnd}
use Rattle.zr_base.specs.declared.op.OpEnd.TheVariants as op_ends
use Rattle.class_pool.specs.Pool.{IsAtHome, IsLent}
use Rattle.mem_account.specs.declared.weight.Weight.{Weight}
use Rattle.mem_account.specs.declared.weight.Weight.TheVariants.{Empty, Back}
use Rattle.block_map.specs.declared.blocks.Reserve.{Reserve}
use Rattle.block_map.specs.declared.blocks.Reserve.TheVariants.{BudgetSpent}
use Rattle.call_history.specs.declared.part.PartEnd.{PartEnd}
use Rattle.lock_row.specs.declared.names.LockNo.{LockNo}
use Rattle.lock_row.specs.declared.names.LockNo.TheVariants as lock
use Rattle.lock_row.specs.declared.names.Held.TheVariants as holds
use Rattle.lock_row.specs.declared.names.At.{At}
use Rattle.lock_row.specs.declared.names.At.TheVariants as at
use Rattle.lock_row.specs.declared.names.Step.TheVariants as step
use Rattle.lock_row.specs.declared.names.Trip.{Trip}
use Rattle.lock_row.specs.declared.names.Pin.{Pin}
use Rattle.lock_row.specs.declared.names.Plan.{Plan}
use Rattle.lock_row.specs.declared.names.Plan.TheVariants.{Finished, Take, Give}
use Rattle.slot_entry.specs.declared.kept.Stored.{Stored}
use Rattle.slot_entry.specs.declared.kept.Kept.{Kept}
use Rattle.slot_entry.specs.declared.kept.Kept.TheVariants as kept
use Rattle.slot_entry.specs.Entries.{EntryState, is_eligible}
use Rattle.page_steps.specs.Steps.{DiskHeld, Here, slot, first_trip, arrived_at, entry_or, with_lock}
use Rattle.page_steps.specs.Nexts.{Next, own_entry}
use Rattle.page_steps.specs.Fits.{CanPin, CanPay, HeldFits, WriteFits}
use Rattle.page_steps.specs.Calls.{Frame, end_of, ends_of, pin_by}
use Rattle.page_steps.specs.declared.stage.Lent.{Lent}
use Rattle.page_steps.specs.declared.stage.PieceEnd.{PieceEnd}
use Rattle.page_steps.specs.declared.stage.PieceEnd.TheVariants as piece
use Rattle.page_steps.specs.declared.stage.Progress.{Progress}
use Rattle.page_steps.specs.declared.stage.Progress.TheVariants as progress
use Rattle.page_steps.specs.declared.stage.Scratch.{Scratch}
use Rattle.post_steps.specs.Turns.{Allows, Advanced}
use Rattle.post_steps.specs.declared.writeback.WritebackHead.{WritebackHead}
use Rattle.post_steps.specs.declared.writeback.WritebackStage.{WritebackStage}
use Rattle.post_steps.specs.declared.writeback.WritebackStage.TheVariants as stage

-- ---- the local of a stage

-- the stage of the machine
abbrev pub at_of : {D : Type 0} → WritebackStage D → At
at_of stage.Start = at.Start
at_of (stage.Arriving x) = at.Visiting step.Arriving x
at_of (stage.Passing x e) = at.Visiting step.Passing x
at_of (stage.Asking x e o) = at.Visiting step.Asking x
at_of (stage.Reserving x e o y) = at.Visiting step.Reserving x
at_of (stage.Quitting x e end) = at.Visiting step.Quitting x
at_of (stage.Seen x e o) = at.Visiting step.Seen x
at_of (stage.Pinning x e o q) = at.Visiting step.Pinning x
at_of (stage.Pinned x e y) = at.Visiting step.Pinned x
at_of (stage.Unpinning x e y q) = at.Visiting step.Unpinning x
at_of (stage.Marking x e) = at.Visiting step.Marking x
at_of (stage.Flying x) = at.Visiting step.Flying x
at_of (stage.Storing x d) = at.Visiting step.Storing x
at_of (stage.Landing x end) = at.Visiting step.Landing x
at_of (stage.Won x e o) = at.Visiting step.Won x
at_of (stage.Freeing x e o q) = at.Visiting step.Freeing x
at_of (stage.Backing x e frames was) = at.Visiting step.Backing x
at_of (stage.Committing x e frames was y) = at.Visiting step.Committing x
at_of (stage.Owing x e frames was) = at.Visiting step.Owing x
at_of (stage.Paying x e frames was a) = at.Visiting step.Paying x
at_of (stage.Putting x e) = at.Visiting step.Putting x
at_of (stage.Losing x e end) = at.Visiting step.Losing x
at_of (stage.Undoing x end) = at.Visiting step.Undoing x
at_of (stage.Releasing x end y) = at.Visiting step.Releasing x
at_of stage.Over = at.Start

-- the slot of the page that it is at, with an entry
abbrev pub at_slot : Trip → EntryState → List (LockNo × DiskHeld)
at_slot x e = (slot x.page, holds.Slot e) ∷ []

-- the locks that are held with their values
abbrev pub held_of : {D : Type 0} → WritebackStage D → List (LockNo × DiskHeld)
held_of (stage.Passing x e) = at_slot x e
held_of (stage.Asking x e o) = at_slot x e
held_of (stage.Reserving x e o y) = (lock.Blocks, holds.Blocks y) ∷ at_slot x e
held_of (stage.Quitting x e end) = at_slot x e
held_of (stage.Seen x e o) = at_slot x e
held_of (stage.Pinning x e o q) = (lock.Class o.class, holds.Class q) ∷ at_slot x e
held_of (stage.Pinned x e y) = at_slot x e
held_of (stage.Unpinning x e y q) = (lock.Class y.object.class, holds.Class q) ∷ at_slot x e
held_of (stage.Marking x e) = at_slot x e
held_of (stage.Storing x d) = (lock.Device, holds.Device d) ∷ []
held_of (stage.Won x e o) = at_slot x e
held_of (stage.Freeing x e o q) = (lock.Class o.class, holds.Class q) ∷ at_slot x e
held_of (stage.Backing x e frames was) = at_slot x e
held_of (stage.Committing x e frames was y) = (lock.Blocks, holds.Blocks y) ∷ at_slot x e
held_of (stage.Owing x e frames was) = at_slot x e
held_of (stage.Paying x e frames was a) = (lock.Account, holds.Account a) ∷ at_slot x e
held_of (stage.Putting x e) = at_slot x e
held_of (stage.Losing x e end) = at_slot x e
held_of (stage.Releasing x end y) = (lock.Blocks, holds.Blocks y) ∷ []
held_of s = []

-- the cell that it has pinned
abbrev pub pin_of : {D : Type 0} → WritebackStage D → Option Pin
pin_of (stage.Pinned x e y) = pin_by (Some y)
pin_of (stage.Unpinning x e y q) = pin_by (Some y)
pin_of s = None

-- the frames that it owes
abbrev pub owed_of : {D : Type 0} → WritebackStage D → ℕ
owed_of (stage.Backing x e frames was) = frames
owed_of (stage.Committing x e frames was y) = frames
owed_of (stage.Owing x e frames was) = frames
owed_of (stage.Paying x e frames was a) = frames
owed_of s = 0

-- what the account counts of the page, beside what the entry shows
abbrev pub ahead_of : {D : Type 0} → WritebackStage D → Option Weight
ahead_of (stage.Backing x e frames was) = Some was
ahead_of (stage.Committing x e frames was y) = Some was
ahead_of (stage.Owing x e frames was) = Some was
ahead_of (stage.Paying x e frames was a) = Some was
ahead_of (stage.Putting x e) = Some Back
ahead_of s = None

-- what the entry shows, and the account doesn't count any more
abbrev pub behind_of : {D : Type 0} → WritebackStage D → Option Weight
behind_of (stage.Putting x e) = Some Empty
behind_of s = None

-- the page that it has copied
abbrev pub page_of : {D : Type 0} → Scratch → WritebackStage D → Option (List ℕ)
page_of r (stage.Pinned x e y) = Some r.page
page_of r (stage.Unpinning x e y q) = Some r.page
page_of r (stage.Marking x e) = Some r.page
page_of r (stage.Flying x) = Some r.page
page_of r (stage.Storing x d) = Some r.page
page_of r (stage.Landing x end) = Some r.page
page_of r (stage.Won x e o) = Some r.page
page_of r (stage.Freeing x e o q) = Some r.page
page_of r (stage.Backing x e frames was) = Some r.page
page_of r (stage.Committing x e frames was y) = Some r.page
page_of r (stage.Owing x e frames was) = Some r.page
page_of r (stage.Paying x e frames was a) = Some r.page
page_of r (stage.Putting x e) = Some r.page
page_of r (stage.Losing x e end) = Some r.page
page_of r s = None

-- the end that it will have, if that is known
abbrev pub fail_of : {D : Type 0} → WritebackStage D → Option PartEnd
fail_of (stage.Quitting x e end) = Some (end_of end)
fail_of (stage.Landing x end) = ends_of end
fail_of (stage.Losing x e end) = ends_of end
fail_of (stage.Undoing x end) = ends_of end
fail_of (stage.Releasing x end y) = ends_of end
fail_of s = None

-- the local of an actor whose call is at a stage
abbrev pub here : {D : Type 0} → Frame → Scratch → WritebackStage D → Here
here x r s = record {
  actor = x.actor;
  at = at_of s;
  todo = x.part ∷ x.rest;
  held = held_of s;
  done = x.done;
  fresh = None;
  pin = pin_of s;
  owed = owed_of s;
  ahead = ahead_of s;
  behind = behind_of s;
  page = page_of r s;
  fail = fail_of s;
}

-- the next event
abbrev pub next_event : {D : Type 0} → WritebackStage D → Plan
next_event stage.Start = Take (slot first_trip.page)
next_event (stage.Arriving x) = Take (slot x.page)
next_event (stage.Passing x e) = Give (slot x.page)
next_event (stage.Asking x e o) = Take lock.Blocks
next_event (stage.Reserving x e o y) = Give lock.Blocks
next_event (stage.Quitting x e end) = Give (slot x.page)
next_event (stage.Seen x e o) = Take (lock.Class o.class)
next_event (stage.Pinning x e o q) = Give (lock.Class o.class)
next_event (stage.Pinned x e y) = Take (lock.Class y.object.class)
next_event (stage.Unpinning x e y q) = Give (lock.Class y.object.class)
next_event (stage.Marking x e) = Give (slot x.page)
next_event (stage.Flying x) = Take lock.Device
next_event (stage.Storing x d) = Give lock.Device
next_event (stage.Landing x end) = Take (slot x.page)
next_event (stage.Won x e o) = Take (lock.Class o.class)
next_event (stage.Freeing x e o q) = Give (lock.Class o.class)
next_event (stage.Backing x e frames was) = Take lock.Blocks
next_event (stage.Committing x e frames was y) = Give lock.Blocks
next_event (stage.Owing x e frames was) = Take lock.Account
next_event (stage.Paying x e frames was a) = Give lock.Account
next_event (stage.Putting x e) = Give (slot x.page)
next_event (stage.Losing x e end) = Give (slot x.page)
next_event (stage.Undoing x end) = Take lock.Blocks
next_event (stage.Releasing x end y) = Give lock.Blocks
next_event stage.Over = Finished

-- ---- the operation

-- The call does an actor's work: it writes back the pages of the disk that its mode takes.
pub record IsWork (c : WritebackHead) (x : Frame) : Type 0 where
  pub pages : c.pages ≡ x.terms.size
  pub op : x.part.op ≡ Writeback c.mode

-- ---- what its values are

-- The page is one of the disk's, and at most those before it were written.
pub record HasRoom (c : WritebackHead) (x : Trip) : Type 0 where
  pub page : x.page < c.pages
  pub few : x.wrote + x.lost ≤ x.page

-- And a block is reserved, or the page's.
pub record HasBlock (c : WritebackHead) (x : Trip) : Type 0 where
  pub room : HasRoom c x
  pub block : (b : ℕ) × (x.block ≡ Some b)

-- the entry has the object
abbrev pub Has : EntryState → Stored → Type 0
Has e o = e.kept ≡ kept.Obj o

-- an end that comes before the last page
abbrev pub IsStop : PieceEnd → Type 0
IsStop (piece.Budget wrote lost) = ⊤
IsStop (piece.NoBlock wrote lost) = ⊤
IsStop (piece.WriteEio fault wrote lost) = ⊤
IsStop end = ⊥

-- such an end, if there is one
abbrev pub AreStops : Option PieceEnd → Type 0
AreStops None = ⊤
AreStops (Some end) = IsStop end

-- what holds of the call at its stage
abbrev pub IsFit : {D : Type 0} → WritebackHead → WritebackStage D → Type 0
IsFit c stage.Start = 0 < c.pages
IsFit c (stage.Arriving x) = HasRoom c x
IsFit c (stage.Passing x e) = HasRoom c x
IsFit c (stage.Asking x e o) = HasRoom c x × Has e o
IsFit c (stage.Reserving x e o y) = HasRoom c x × Has e o
IsFit c (stage.Quitting x e end) = HasRoom c x × IsStop end
IsFit c (stage.Seen x e o) = HasBlock c x × Has e o
IsFit c (stage.Pinning x e o q) = HasBlock c x × Has e o × CanPin o q
IsFit c (stage.Pinned x e y) = HasBlock c x × Has e y.object
IsFit c (stage.Unpinning x e y q) = HasBlock c x × Has e y.object
    × IsLent q y.object.handle.0 y.cell
IsFit c (stage.Marking x e) = HasBlock c x
IsFit c (stage.Flying x) = HasBlock c x
IsFit c (stage.Storing x d) = HasBlock c x × WriteFits x.block (holds.Device d)
IsFit c (stage.Landing x end) = HasBlock c x × AreStops end
IsFit c (stage.Won x e o) = HasBlock c x × Has e o
IsFit c (stage.Freeing x e o q) = HasBlock c x × Has e o × IsAtHome q o.handle.0
IsFit c (stage.Backing x e frames was) = HasBlock c x × (e.kept ≡ kept.Empty)
IsFit c (stage.Committing x e frames was y) = HasBlock c x × (e.kept ≡ kept.Empty)
    × HeldFits x.block (holds.Blocks y)
IsFit c (stage.Owing x e frames was) = HasBlock c x × (e.kept ≡ kept.Empty)
IsFit c (stage.Paying x e frames was a) = HasBlock c x × (e.kept ≡ kept.Empty)
    × CanPay frames was Back a
IsFit c (stage.Putting x e) = HasBlock c x × (e.kept ≡ kept.Empty)
IsFit c (stage.Losing x e end) = HasBlock c x × AreStops end
IsFit c (stage.Undoing x end) = HasBlock c x × AreStops end
IsFit c (stage.Releasing x end y) = HasBlock c x × AreStops end × HeldFits x.block (holds.Blocks y)
IsFit c stage.Over = ⊤

-- it isn't over
abbrev pub IsGoing : {D : Type 0} → WritebackStage D → Type 0
IsGoing stage.Over = ⊥
IsGoing s = ⊤

-- it is over exactly where its last event was made
abbrev pub IsOnward : {D : Type 0} → Progress → WritebackStage D → Type 0
IsOnward (progress.Done end) s = s ≡ stage.Over
IsOnward t s = IsGoing s

-- how it ends where it was answered so, and got no block
abbrev pub without_block : Reserve → Trip → OpEnd
without_block BudgetSpent x = op_ends.Budget x.wrote x.lost
without_block answer x = op_ends.NoBlock x.wrote x.lost

-- ---- stages that follow

-- a page's slot is taken, and the page is to be written back or not
abbrev pub arrived_with : {D : Type 0} → Bool → Trip → EntryState → Kept → WritebackStage D
arrived_with true x e (kept.Obj o) = stage.Asking x e o
arrived_with meant x e k = stage.Passing x e

-- the slot is taken again, with the block's mark or without it
abbrev pub landed_with : {D : Type 0} → Option PieceEnd → Bool → Trip → EntryState → Kept → WritebackStage D
landed_with None true x e (kept.Obj o) = stage.Won x e o
landed_with end mark x e k = stage.Losing x e end

-- ---- events and turns

-- it takes its first page
abbrev pub entering : Mode → Next
entering m l v =
    with_lock l (arrived_at (is_eligible m (entry_or v (own_entry l))) first_trip)
    (slot first_trip.page) v

module _ {X : Type 0} (can_take : X → LockNo → Next → Type 0)
    (takes : X → LockNo → Next → DiskHeld → X → Type 0)
    (can_give : X → LockNo → Next → DiskHeld → Type 0) where
  -- The call at its stage, before a turn by a hand.
  pub record IsReady {D : Type 0} (c : WritebackHead) (r : Scratch) (s : WritebackStage D) (h : X)
      : Type 0 where
    pub fit : IsFit c s
    pub allows : Allows can_take takes can_give (IsWork c) (λ x. here x r s) (next_event s) h

module _ {X : Type 0} (takes : X → LockNo → Next → DiskHeld → X → Type 0)
    (misses : X → LockNo → X → Type 0)
    (gives : X → LockNo → Next → DiskHeld → X → Type 0) where
  -- What a turn of the call leaves.
  pub record HasAdvanced {D : Type 0} (c : WritebackHead) (r : Scratch) (s : WritebackStage D) (h : X)
      (r' : Scratch) (s' : WritebackStage D) (g : X) (p : Progress) : Type 0 where
    pub fit : IsFit c s'
    pub turn : Advanced takes misses gives (IsWork c) (λ x. here x r s) h (λ x. here x r' s') g p
    pub onward : IsOnward p s'
    pub table : r'.table ≡ r.table
