-- The events of a call that writes pages back: what a taken value is, and which local an event may
-- name.
use Rattle.std.proofs.Common.{◌≡◌, ℕ, ◌<◌, Bool, true, [], ◌∷◌, Option, Some, None, refl, sym, ap, ◌∙◌, subst}
use Rattle.std.specs.Prelude.{slice_get}
use Rattle.zr_base.specs.declared.op.Op.{Op}
use Rattle.zr_base.specs.Plain.{is_beyond, is_maintenance}
use Rattle.zspage.specs.Cells.{CellState}
use Rattle.class_pool.specs.Pool.{PoolState, IsAtHome, IsLent}
use Rattle.mem_account.specs.Counters.{Counters, counted}
use Rattle.mem_account.specs.declared.weight.Weight.{Weight}
use Rattle.mem_account.specs.declared.weight.Weight.TheVariants.{Back}
use Rattle.mem_account.specs.declared.weight.Delta.TheVariants as delta
use Rattle.block_map.specs.declared.state.BlockState.TheVariants.{Free, Held, Owned}
use Rattle.block_map.specs.declared.blocks.Reserve.{Reserve}
use Rattle.block_map.specs.declared.blocks.Reserve.TheVariants.{Got}
use Rattle.block_map.specs.BlockMap.{BlockMap, AnswersReserve, reserved, with_state}
use Rattle.backing_dev.specs.Dev.{DeviceState, WritesBlock, FailsToWrite}
use Rattle.lock_row.specs.declared.names.Held.TheVariants as holds
use Rattle.lock_row.specs.declared.names.Trip.{Trip}
use Rattle.slot_entry.specs.declared.kept.Stored.{Stored}
use Rattle.slot_entry.specs.declared.kept.Kept.{Kept}
use Rattle.slot_entry.specs.declared.kept.Kept.TheVariants as kept
use Rattle.slot_entry.specs.Entries.{EntryState, weight_of}
use Rattle.page_steps.specs.Pages.{next_form}
use Rattle.page_steps.specs.Pools.{Lends, Returns, Drops}
use Rattle.page_steps.specs.Steps.{DiskHeld, Here, with_lock, begun_at, entry_or, entry_in, lock_of, start_plan}
use Rattle.page_steps.specs.Givings.{visits}
use Rattle.page_steps.specs.Compactions.{repaid}
use Rattle.page_steps.specs.Nexts.{emptied}
use Rattle.page_steps.specs.Visits.{passing, reserving, refraining, leaving_all, copying, copied, flying, storing, spoiling, evicting, committing, paying, putting_back, losing, undoing, refused_end, put_back, unmarked}
use Rattle.page_steps.specs.Visits.{passes, reserves, refrains, quits, pins, unpins, marks, stores, spoils, frees, commits, pays, puts, loses, releases}
use Rattle.page_steps.specs.Fits.{AsSlot, AsPool, AsAccount, AsBlocks, AsDevice, StartFits, PinFits, FreeFits, HeldFits, WriteFits, CanPin}
use Rattle.page_steps.specs.Calls.{Frame, IsPlaced, end_of}
use Rattle.page_steps.specs.declared.stage.Lent.{Lent}
use Rattle.page_steps.specs.declared.stage.PieceEnd.{PieceEnd}
use Rattle.page_steps.specs.declared.stage.PieceEnd.TheVariants as piece
use Rattle.page_steps.specs.declared.stage.Scratch.{Scratch}
use Rattle.post_steps.specs.Turns.{TakesAs, GivesAs, FitsSome}
use Rattle.post_steps.specs.Writeback.{IsWork, IsStop, here, entering, without_block}
use Rattle.post_steps.specs.declared.writeback.WritebackHead.{WritebackHead}
use Rattle.post_steps.specs.declared.writeback.WritebackStage.{WritebackStage}
use Rattle.post_steps.specs.declared.writeback.WritebackStage.TheVariants as stage

-- What a call at a stage stands for doesn't depend on the device's type: what holds over this one
-- holds over any.
abbrev pub AnyDevice : Type 0
AnyDevice = Unit {0}

-- ---- the kind of a value

pub slot_in : (P : EntryState → Type 0) {v : DiskHeld} → AsSlot P v
    → (e : EntryState) × (v ≡ holds.Slot e)
slot_in P {v = holds.Slot e} fits = (e, refl)
slot_in P {v = v} fits = absurd fits

pub pool_in : (P : PoolState → Type 0) {v : DiskHeld} → AsPool P v
    → (q : PoolState) × (v ≡ holds.Class q)
pool_in P {v = holds.Class q} fits = (q, refl)
pool_in P {v = v} fits = absurd fits

pub account_in : (P : Counters → Type 0) {v : DiskHeld} → AsAccount P v
    → (a : Counters) × (v ≡ holds.Account a)
account_in P {v = holds.Account a} fits = (a, refl)
account_in P {v = v} fits = absurd fits

pub blocks_in : (P : BlockMap → Type 0) {v : DiskHeld} → AsBlocks P v
    → (m : BlockMap) × (v ≡ holds.Blocks m)
blocks_in P {v = holds.Blocks m} fits = (m, refl)
blocks_in P {v = v} fits = absurd fits

pub device_in : (P : DeviceState → Type 0) {v : DiskHeld} → AsDevice P v
    → (d : DeviceState) × (v ≡ holds.Device d)
device_in P {v = holds.Device d} fits = (d, refl)
device_in P {v = v} fits = absurd fits

-- the map where a block is held
pub held_in : (o : Option ℕ) {v : DiskHeld} → (b : ℕ) × (o ≡ Some b) → HeldFits o v
    → (m : BlockMap) × (v ≡ holds.Blocks m)
held_in o {v} some fits = blocks_in (λ m. slice_get m.states some.0 ≡ Some Held)
    (subst (λ (y : Option ℕ). HeldFits y v) some.1 fits)

-- the device that has a block
pub writes_in : (o : Option ℕ) {v : DiskHeld} → (b : ℕ) × (o ≡ Some b) → WriteFits o v
    → (d : DeviceState) × (v ≡ holds.Device d)
writes_in o {v} some fits = device_in (λ d. some.0 < d.blocks)
    (subst (λ (y : Option ℕ). WriteFits y v) some.1 fits)

-- the block that is held is the one that the call has
pub held_block : (o : Option ℕ) (b : ℕ) (m : BlockMap) → o ≡ Some b → HeldFits o (holds.Blocks m)
    → slice_get m.states b ≡ Some Held
held_block o b m is fits = subst (λ (y : Option ℕ). HeldFits y (holds.Blocks m)) is fits

-- and the device has that block
pub block_there : (o : Option ℕ) (b : ℕ) (d : DeviceState) → o ≡ Some b
    → WriteFits o (holds.Device d) → b < d.blocks
block_there o b d is fits = subst (λ (y : Option ℕ). WriteFits y (holds.Device d)) is fits

-- an end before the last page has no place in an order
pub stop_placed : (end : PieceEnd) (n : ℕ) → IsStop end → IsPlaced end n
stop_placed (piece.Budget wrote lost) n is = tt
stop_placed (piece.NoBlock wrote lost) n is = tt
stop_placed (piece.WriteEio fault wrote lost) n is = tt
stop_placed end n is = absurd is

module _ (c : WritebackHead) (r : Scratch) where
  -- the locals of a stage
  abbrev pub at_stage : WritebackStage AnyDevice → Frame → Here
  at_stage s x = here x r s

  -- ---- what a taken value is

  pub fits_start : (v : DiskHeld) → FitsSome (IsWork c) (at_stage stage.Start) v
      → AsSlot (λ e. Unit {0}) v
  fits_start v (x, w, fits) = subst (λ (op : Op).
      StartFits x.terms op (is_maintenance op) (is_beyond x.terms.size x.part.op) v) w.op fits

  pub fits_seen : (y : Trip) (e : EntryState) (o : Stored) (v : DiskHeld) → e.kept ≡ kept.Obj o
      → FitsSome (IsWork c) (at_stage (stage.Seen y e o)) v → AsPool (CanPin o) v
  fits_seen y e o v is (x, w, fits) = subst (λ (k : Kept). PinFits k v) is fits

  pub fits_won : (y : Trip) (e : EntryState) (o : Stored) (v : DiskHeld) → e.kept ≡ kept.Obj o
      → FitsSome (IsWork c) (at_stage (stage.Won y e o)) v → AsPool (λ q. IsAtHome q o.handle.0) v
  fits_won y e o v is (x, w, fits) = subst (λ (k : Kept). FreeFits k None v) is fits

  -- ---- which local an event may name

  pub starts : TakesAs (IsWork c) (at_stage stage.Start) (entering c.mode)
  starts x v w =
      ap (λ (op : Op). with_lock (at_stage stage.Start x)
      (begun_at (is_maintenance op) (is_beyond x.terms.size x.part.op) (record x.part { op = op })
      (next_form x.part None (entry_or v (entry_in [])).kept)
      (entry_or v (entry_in [])))
      (lock_of (start_plan (is_maintenance op) (is_beyond x.terms.size x.part.op)
      (record x.part { op = op }))) v) (sym w.op)

  pub can_pass : (y : Trip) (e : EntryState)
      → GivesAs (IsWork c) (at_stage (stage.Passing y e)) (passing c.pages) (holds.Slot e)
  can_pass y e x w = visits (passes x.part x.rest y e refl refl refl refl
      (ap (λ n. passing n (at_stage (stage.Passing y e) x) (holds.Slot e)) w.pages))

  pub can_reserve : (y : Trip) (e : EntryState) (o : Stored) (m n : BlockMap) (b : ℕ)
      → AnswersReserve m (Got b) → n ≡ reserved m (Got b)
      → GivesAs (IsWork c) (at_stage (stage.Reserving y e o m)) (reserving b) (holds.Blocks n)
  can_reserve y e o m n b answer is x w = visits (reserves x.part x.rest y e m b refl refl refl answer
      (ap (λ z. holds.Blocks z) is) refl)

  pub can_refrain : (y : Trip) (e : EntryState) (o : Stored) (m : BlockMap) (answer : Reserve)
      → AnswersReserve m answer → refused_end answer y ≡ Some (without_block answer y)
      → GivesAs (IsWork c) (at_stage (stage.Reserving y e o m)) (refraining (without_block answer y))
      (holds.Blocks m)
  can_refrain y e o m answer is none x w = visits (refrains x.part x.rest y e m answer
      (without_block answer y) refl refl refl is none refl refl)

  pub can_quit : (y : Trip) (e : EntryState) (end : PieceEnd)
      → GivesAs (IsWork c) (at_stage (stage.Quitting y e end)) leaving_all (holds.Slot e)
  can_quit y e end x w =
      visits (quits x.part x.rest y e (end_of end) refl refl refl refl refl refl)

  pub can_pin : (y : Trip) (e : EntryState) (o : Stored) (q q' : PoolState) (cell : CellState)
      → e.kept ≡ kept.Obj o → Lends q q' o.handle.0 cell
      → GivesAs (IsWork c) (at_stage (stage.Pinning y e o q)) (copying o cell) (holds.Class q')
  can_pin y e o q q' cell is lends x w =
      visits (pins x.part x.rest y e o q q' cell refl refl refl is lends refl refl)

  pub can_unpin : (y : Trip) (e : EntryState) (o : Lent) (q q' : PoolState)
      → e.kept ≡ kept.Obj o.object → Returns q q' o.object.handle.0
      → GivesAs (IsWork c) (at_stage (stage.Unpinning y e o q)) copied (holds.Class q')
  can_unpin y e o q q' is returns x w =
      visits (unpins x.part x.rest y e o.object q q' refl refl refl is returns refl refl)

  pub can_mark : (y : Trip) (e f : EntryState) → (b : ℕ) × (y.block ≡ Some b)
      → f ≡ record e { under = y.block }
      → GivesAs (IsWork c) (at_stage (stage.Marking y e)) flying (holds.Slot f)
  can_mark y e f block is x w = visits (marks x.part x.rest y e block.0 refl refl refl block.1
      (ap (λ z. holds.Slot z) (is ∙ ap (λ (o : Option ℕ). record e { under = o }) block.1)) refl)

  pub can_store : (y : Trip) (b : ℕ) (d d' : DeviceState) → y.block ≡ Some b
      → WritesBlock d d' b r.page
      → GivesAs (IsWork c) (at_stage (stage.Storing y d)) storing (holds.Device d')
  can_store y b d d' block written x w =
      visits (stores x.part x.rest y b r.page d d' refl refl refl block refl written refl refl)

  pub can_spoil : (y : Trip) (b : ℕ) (d d' : DeviceState) (fault : ℕ) → y.block ≡ Some b
      → FailsToWrite d d' b fault
      → GivesAs (IsWork c) (at_stage (stage.Storing y d)) (spoiling fault) (holds.Device d')
  can_spoil y b d d' fault block failed x w =
      visits (spoils x.part x.rest y b d d' fault refl refl refl block failed refl refl)

  pub can_free : (y : Trip) (e : EntryState) (o : Stored) (q q' : PoolState) (frames : ℕ)
      → e.kept ≡ kept.Obj o → Drops q q' o.handle.0 frames
      → GivesAs (IsWork c) (at_stage (stage.Freeing y e o q)) (evicting frames e) (holds.Class q')
  can_free y e o q q' frames is drops x w =
      visits (frees x.part x.rest y e o q q' frames refl refl refl is drops refl refl)

  pub can_commit : (y : Trip) (e : EntryState) (frames : ℕ) (was : Weight) (m n : BlockMap) (b : ℕ)
      → y.block ≡ Some b → n ≡ with_state m b Owned
      → GivesAs (IsWork c) (at_stage (stage.Committing y e frames was m)) committing (holds.Blocks n)
  can_commit y e frames was m n b block is x w = visits (commits x.part x.rest y e b m refl refl refl
      block (ap (λ z. holds.Blocks z) is) refl)

  pub can_pay : (y : Trip) (e : EntryState) (frames : ℕ) (was : Weight) (a b : Counters)
      → b ≡ counted (repaid a frames) (delta.Kept was Back)
      → GivesAs (IsWork c) (at_stage (stage.Paying y e frames was a)) (paying e) (holds.Account b)
  can_pay y e frames was a b is x w = visits (pays x.part x.rest y e a was refl refl refl refl
      (ap (λ z. holds.Account z) is) refl)

  pub can_put : (y : Trip) (e f : EntryState) (b : ℕ) → y.block ≡ Some b → f ≡ put_back b e
      → GivesAs (IsWork c) (at_stage (stage.Putting y e)) (putting_back c.pages) (holds.Slot f)
  can_put y e f b block is x w = visits (puts x.part x.rest y e b refl refl refl block
      (ap (λ z. holds.Slot z) is)
      (ap (λ n. putting_back n (at_stage (stage.Putting y e) x) (holds.Slot f)) w.pages))

  pub can_lose : (y : Trip) (e f : EntryState) (end : Option PieceEnd) → f ≡ unmarked y.block e
      → GivesAs (IsWork c) (at_stage (stage.Losing y e end)) losing (holds.Slot f)
  can_lose y e f end is x w = visits (loses x.part x.rest y e refl refl refl
      (ap (λ z. holds.Slot z) is) refl)

  pub can_release : (y : Trip) (end : Option PieceEnd) (m n : BlockMap) (b : ℕ) → y.block ≡ Some b
      → n ≡ with_state m b Free
      → GivesAs (IsWork c) (at_stage (stage.Releasing y end m)) (undoing c.pages) (holds.Blocks n)
  can_release y end m n b block is x w = visits (releases x.part x.rest y b m refl refl refl block
      (ap (λ z. holds.Blocks z) is)
      (ap (λ k. undoing k (at_stage (stage.Releasing y end m) x) (holds.Blocks n)) w.pages))

-- ---- where a giving leads

pub freed_here : (x : Frame) (r : Scratch) (y : Trip) (e : EntryState) (o : Stored) (q : PoolState)
    (frames : ℕ) (f : EntryState) (was : Weight) (v : DiskHeld)
    → f ≡ emptied e → was ≡ weight_of e.kept
    → evicting frames e (here {D = AnyDevice} x r (stage.Freeing y e o q)) v
    ≡ here {D = AnyDevice} x r (stage.Backing y f frames was)
freed_here x r y e o q frames f was v is weighs =
    λ i. here {D = AnyDevice} x r (stage.Backing y (sym is i) frames (sym weighs i))

pub paid_here : (x : Frame) (r : Scratch) (y : Trip) (e : EntryState) (frames : ℕ) (was : Weight)
    (a : Counters) (v : DiskHeld) → e.kept ≡ kept.Empty
    → paying e (here {D = AnyDevice} x r (stage.Paying y e frames was a)) v
    ≡ here {D = AnyDevice} x r (stage.Putting y e)
paid_here x r y e frames was a v is =
    ap (λ (k : Kept). record (here {D = AnyDevice} x r (stage.Putting y e)) {
      behind = Some (weight_of k);
    }) is
