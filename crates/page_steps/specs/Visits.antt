-- The events of a writeback: one page after the other, in rising order, is taken; where it is to be
-- written back, a block is reserved, its page is copied, its slot is marked and given, the block is
-- written, and the slot is taken again. Where the mark still stands, the page's object is freed and
-- the block is the page's; else the block is freed.
use Rattle.std.specs.Prelude.{◌≡◌, ℕ, ◌+◌, ◌==◌, Bool, true, false, List, [], ◌∷◌, Option, Some, None, if◌then◌else◌}
use Rattle.zr_base.specs.declared.op.OpEnd.{OpEnd}
use Rattle.zr_base.specs.declared.op.OpEnd.TheVariants as ends
use Rattle.class_pool.specs.Pool.{PoolState}
use Rattle.zspage.specs.Cells.{CellState}
use Rattle.mem_account.specs.Counters.{Counters, counted}
use Rattle.mem_account.specs.declared.weight.Weight.{Weight}
use Rattle.mem_account.specs.declared.weight.Weight.TheVariants.{Back}
use Rattle.mem_account.specs.declared.weight.Delta.TheVariants as delta
use Rattle.block_map.specs.declared.state.BlockState.TheVariants.{Free, Owned}
use Rattle.block_map.specs.declared.blocks.Reserve.{Reserve}
use Rattle.block_map.specs.declared.blocks.Reserve.TheVariants.{Got, BudgetSpent, NoBlock}
use Rattle.block_map.specs.BlockMap.{BlockMap, AnswersReserve, reserved, with_state}
use Rattle.backing_dev.specs.Dev.{DeviceState, WritesBlock, FailsToWrite}
use Rattle.call_history.specs.declared.part.Part.{Part}
use Rattle.call_history.specs.declared.part.PartEnd.{PartEnd}
use Rattle.call_history.specs.declared.part.PartEnd.TheVariants as over
use Rattle.lock_row.specs.declared.names.LockNo.TheVariants as lock
use Rattle.lock_row.specs.declared.names.Held.TheVariants as holds
use Rattle.lock_row.specs.declared.names.At.{At}
use Rattle.lock_row.specs.declared.names.At.TheVariants as at
use Rattle.lock_row.specs.declared.names.Step.TheVariants as step
use Rattle.lock_row.specs.declared.names.Trip.{Trip}
use Rattle.slot_entry.specs.declared.kept.Stored.{Stored}
use Rattle.slot_entry.specs.declared.kept.Kept.TheVariants as kept
use Rattle.slot_entry.specs.Entries.{EntryState, weight_of}
use Rattle.page_steps.specs.Pages.{page_in_cell}
use Rattle.page_steps.specs.Pools.{Lends, Returns, Drops}
use Rattle.page_steps.specs.Steps.{Terms, DiskHeld, Here, slot, on, first_trip, is_mark_of}
use Rattle.page_steps.specs.Compactions.{repaid}
use Rattle.page_steps.specs.Nexts.{Next, ending_by, tail_of, emptied, pin_of}

-- ---- where a writeback stands

-- the trip that a stage is of
abbrev pub trip_at : At → Trip
trip_at (at.Visiting s x) = x
trip_at s = first_trip

-- it has reserved a block
abbrev pub with_block : Trip → ℕ → Trip
with_block x b = record x { block = Some b }

-- it goes on to the next page
abbrev pub passed_page : Trip → Trip
passed_page x = record x { page = x.page + 1; block = None }

-- with one page more that it has left on the device
abbrev pub wrote_page : Trip → Trip
wrote_page x = record { page = x.page + 1; wrote = x.wrote + 1; lost = x.lost; block = None }

-- or with one more that it has written in vain
abbrev pub lost_page : Trip → Trip
lost_page x = record { page = x.page + 1; wrote = x.wrote; lost = x.lost + 1; block = None }

-- the end of a writeback for which no block was reserved
abbrev pub refused_end : Reserve → Trip → Option OpEnd
refused_end (Got b) x = None
refused_end BudgetSpent x = Some (ends.Budget x.wrote x.lost)
refused_end NoBlock x = Some (ends.NoBlock x.wrote x.lost)

-- ---- the locals that follow

-- no page is left, or another one
abbrev pub onward_by : Trip → Bool → Next
onward_by x true l v = ending_by l (over.Whole (ends.Written x.wrote x.lost)) (λ p. []) l.todo
onward_by x false l v =
    on l (at.Visiting step.Arriving x) (tail_of l.held) None None 0 None None None None

-- the visit of its page, of so many, is over
abbrev pub onward : ℕ → Trip → Next
onward size x l v = onward_by x (x.page == size) l v

-- the page isn't written back
abbrev pub passing : ℕ → Next
passing size l v = onward size (passed_page (trip_at l.at)) l v

-- a block was reserved
abbrev pub reserving : ℕ → Next
reserving b l v =
    on l (at.Visiting step.Seen (with_block (trip_at l.at) b)) (tail_of l.held) l.fresh l.pin l.owed
    l.ahead l.behind l.page l.fail

-- none was
abbrev pub refraining : OpEnd → Next
refraining end l v =
    on l (at.Visiting step.Quitting (trip_at l.at)) (tail_of l.held) l.fresh l.pin l.owed l.ahead
    l.behind l.page (Some (over.Whole end))

-- the writeback ends by its refusal, if it has one
abbrev pub ending_with : Here → Option PartEnd → Here
ending_with l None = l
ending_with l (Some end) = ending_by l end (λ p. []) l.todo

-- it is over without a block
abbrev pub leaving_all : Next
leaving_all l v = ending_with l l.fail

-- an object's cell was lent, from which the page is copied
abbrev pub copying : Stored → CellState → Next
copying o cell l v =
    on l (at.Visiting step.Pinned (trip_at l.at)) (tail_of l.held) l.fresh (Some (pin_of o cell))
    l.owed l.ahead l.behind (Some (page_in_cell o cell)) l.fail

-- the cell is back
abbrev pub copied : Next
copied l v =
    on l (at.Visiting step.Marking (trip_at l.at)) (tail_of l.held) l.fresh None l.owed l.ahead
    l.behind l.page l.fail

-- the slot is given with its mark
abbrev pub flying : Next
flying l v =
    on l (at.Visiting step.Flying (trip_at l.at)) (tail_of l.held) l.fresh l.pin l.owed l.ahead
    l.behind l.page l.fail

-- the block was written
abbrev pub storing : Next
storing l v =
    on l (at.Visiting step.Landing (trip_at l.at)) (tail_of l.held) l.fresh l.pin l.owed l.ahead
    l.behind l.page l.fail

-- the device failed, with this count of faults
abbrev pub spoiling : ℕ → Next
spoiling fault l v =
    on l (at.Visiting step.Landing (trip_at l.at)) (tail_of l.held) l.fresh l.pin l.owed l.ahead
    l.behind l.page
    (Some (over.Whole (ends.WriteEio fault (trip_at l.at).wrote (trip_at l.at).lost)))

-- the page's object is gone, with so many frames
abbrev pub evicting : ℕ → EntryState → Next
evicting frames e l v =
    on l (at.Visiting step.Backing (trip_at l.at))
    ((slot (trip_at l.at).page, holds.Slot (emptied e)) ∷ []) l.fresh l.pin frames
    (Some (weight_of e.kept)) l.behind l.page l.fail

-- the block is the page's
abbrev pub committing : Next
committing l v =
    on l (at.Visiting step.Owing (trip_at l.at)) (tail_of l.held) l.fresh l.pin l.owed l.ahead
    l.behind l.page l.fail

-- the page is counted as one on the device
abbrev pub paying : EntryState → Next
paying e l v =
    on l (at.Visiting step.Putting (trip_at l.at)) (tail_of l.held) l.fresh l.pin 0 (Some Back)
    (Some (weight_of e.kept)) l.page l.fail

-- the page is on the device
abbrev pub putting_back : ℕ → Next
putting_back size l v = onward size (wrote_page (trip_at l.at)) l v

-- the slot is given without its mark
abbrev pub losing : Next
losing l v =
    on l (at.Visiting step.Undoing (trip_at l.at)) (tail_of l.held) l.fresh l.pin l.owed l.ahead
    l.behind None l.fail

-- the block is free again: the page is lost, or the writeback is over where the device failed
abbrev pub undoing_by : ℕ → Option PartEnd → Next
undoing_by size None l v = onward size (lost_page (trip_at l.at)) l v
undoing_by size (Some end) l v = ending_by l end (λ p. []) l.todo

-- by its refusal, if it has one
abbrev pub undoing : ℕ → Next
undoing size l v = undoing_by size l.fail l v

-- ---- entries

-- the mark is removed where it is that of the block
abbrev pub unmarked : Option ℕ → EntryState → EntryState
unmarked block e = record e { under = if is_mark_of block e.under then None else e.under }

-- the page is kept in a block, without marks
abbrev pub put_back : ℕ → EntryState → EntryState
put_back b e = record e { kept = kept.Wb b; under = None; idle = false }

-- ---- the givings

-- The giving of the value v by a writeback, after which the local is m.
pub data Visits (t : Terms) (l : Here) (v : DiskHeld) (m : Here) : Type 0 where
  -- the page isn't written back
  passes : (p : Part) (rest : List Part) (x : Trip) (e : EntryState)
      → l.todo ≡ p ∷ rest → l.at ≡ at.Visiting step.Passing x
      → l.held ≡ (slot x.page, holds.Slot e) ∷ []
      → v ≡ holds.Slot e → m ≡ passing t.size l v → Visits t l v m
  -- a block is reserved
  reserves : (p : Part) (rest : List Part) (x : Trip) (e : EntryState) (y : BlockMap) (b : ℕ)
      → l.todo ≡ p ∷ rest → l.at ≡ at.Visiting step.Reserving x
      → l.held ≡ (lock.Blocks, holds.Blocks y) ∷ (slot x.page, holds.Slot e) ∷ []
      → AnswersReserve y (Got b)
      → v ≡ holds.Blocks (reserved y (Got b)) → m ≡ reserving b l v → Visits t l v m
  -- or none
  refrains : (p : Part) (rest : List Part) (x : Trip) (e : EntryState) (y : BlockMap) (r : Reserve)
      (end : OpEnd) → l.todo ≡ p ∷ rest → l.at ≡ at.Visiting step.Reserving x
      → l.held ≡ (lock.Blocks, holds.Blocks y) ∷ (slot x.page, holds.Slot e) ∷ []
      → AnswersReserve y r → refused_end r x ≡ Some end
      → v ≡ holds.Blocks y → m ≡ refraining end l v → Visits t l v m
  -- the slot goes back then, and the writeback is over
  quits : (p : Part) (rest : List Part) (x : Trip) (e : EntryState) (end : PartEnd)
      → l.todo ≡ p ∷ rest → l.at ≡ at.Visiting step.Quitting x
      → l.held ≡ (slot x.page, holds.Slot e) ∷ [] → l.fail ≡ Some end
      → v ≡ holds.Slot e → m ≡ leaving_all l v → Visits t l v m
  -- the page's object is pinned; its page is copied from there
  pins : (p : Part) (rest : List Part) (x : Trip) (e : EntryState) (o : Stored) (q q' : PoolState)
      (cell : CellState) → l.todo ≡ p ∷ rest → l.at ≡ at.Visiting step.Pinning x
      → l.held ≡ (lock.Class o.class, holds.Class q) ∷ (slot x.page, holds.Slot e) ∷ []
      → e.kept ≡ kept.Obj o → Lends q q' o.handle.0 cell
      → v ≡ holds.Class q' → m ≡ copying o cell l v → Visits t l v m
  -- it is unpinned
  unpins : (p : Part) (rest : List Part) (x : Trip) (e : EntryState) (o : Stored) (q q' : PoolState)
      → l.todo ≡ p ∷ rest → l.at ≡ at.Visiting step.Unpinning x
      → l.held ≡ (lock.Class o.class, holds.Class q) ∷ (slot x.page, holds.Slot e) ∷ []
      → e.kept ≡ kept.Obj o → Returns q q' o.handle.0
      → v ≡ holds.Class q' → m ≡ copied l v → Visits t l v m
  -- the slot is marked with the block
  marks : (p : Part) (rest : List Part) (x : Trip) (e : EntryState) (b : ℕ)
      → l.todo ≡ p ∷ rest → l.at ≡ at.Visiting step.Marking x
      → l.held ≡ (slot x.page, holds.Slot e) ∷ [] → x.block ≡ Some b
      → v ≡ holds.Slot (record e { under = Some b }) → m ≡ flying l v → Visits t l v m
  -- the page is written to the block
  stores : (p : Part) (rest : List Part) (x : Trip) (b : ℕ) (page : List ℕ) (d d' : DeviceState)
      → l.todo ≡ p ∷ rest → l.at ≡ at.Visiting step.Storing x
      → l.held ≡ (lock.Device, holds.Device d) ∷ [] → x.block ≡ Some b → l.page ≡ Some page
      → WritesBlock d d' b page
      → v ≡ holds.Device d' → m ≡ storing l v → Visits t l v m
  -- or the device fails
  spoils : (p : Part) (rest : List Part) (x : Trip) (b : ℕ) (d d' : DeviceState) (fault : ℕ)
      → l.todo ≡ p ∷ rest → l.at ≡ at.Visiting step.Storing x
      → l.held ≡ (lock.Device, holds.Device d) ∷ [] → x.block ≡ Some b
      → FailsToWrite d d' b fault
      → v ≡ holds.Device d' → m ≡ spoiling fault l v → Visits t l v m
  -- the mark still stands: the page's object is freed
  frees : (p : Part) (rest : List Part) (x : Trip) (e : EntryState) (o : Stored) (q q' : PoolState)
      (frames : ℕ) → l.todo ≡ p ∷ rest → l.at ≡ at.Visiting step.Freeing x
      → l.held ≡ (lock.Class o.class, holds.Class q) ∷ (slot x.page, holds.Slot e) ∷ []
      → e.kept ≡ kept.Obj o → Drops q q' o.handle.0 frames
      → v ≡ holds.Class q' → m ≡ evicting frames e l v → Visits t l v m
  -- the block is the page's
  commits : (p : Part) (rest : List Part) (x : Trip) (e : EntryState) (b : ℕ) (y : BlockMap)
      → l.todo ≡ p ∷ rest → l.at ≡ at.Visiting step.Committing x
      → l.held ≡ (lock.Blocks, holds.Blocks y) ∷ (slot x.page, holds.Slot e) ∷ []
      → x.block ≡ Some b
      → v ≡ holds.Blocks (with_state y b Owned) → m ≡ committing l v → Visits t l v m
  -- frames are given back, and the page is counted as one on the device
  pays : (p : Part) (rest : List Part) (x : Trip) (e : EntryState) (c : Counters) (was : Weight)
      → l.todo ≡ p ∷ rest → l.at ≡ at.Visiting step.Paying x
      → l.held ≡ (lock.Account, holds.Account c) ∷ (slot x.page, holds.Slot e) ∷ []
      → l.ahead ≡ Some was
      → v ≡ holds.Account (counted (repaid c l.owed) (delta.Kept was Back))
      → m ≡ paying e l v → Visits t l v m
  -- the page is kept in the block
  puts : (p : Part) (rest : List Part) (x : Trip) (e : EntryState) (b : ℕ)
      → l.todo ≡ p ∷ rest → l.at ≡ at.Visiting step.Putting x
      → l.held ≡ (slot x.page, holds.Slot e) ∷ [] → x.block ≡ Some b
      → v ≡ holds.Slot (put_back b e) → m ≡ putting_back t.size l v → Visits t l v m
  -- the mark is gone, or the write failed: no mark of the block is left
  loses : (p : Part) (rest : List Part) (x : Trip) (e : EntryState)
      → l.todo ≡ p ∷ rest → l.at ≡ at.Visiting step.Losing x
      → l.held ≡ (slot x.page, holds.Slot e) ∷ []
      → v ≡ holds.Slot (unmarked x.block e) → m ≡ losing l v → Visits t l v m
  -- the block is freed
  releases : (p : Part) (rest : List Part) (x : Trip) (b : ℕ) (y : BlockMap)
      → l.todo ≡ p ∷ rest → l.at ≡ at.Visiting step.Releasing x
      → l.held ≡ (lock.Blocks, holds.Blocks y) ∷ [] → x.block ≡ Some b
      → v ≡ holds.Blocks (with_state y b Free) → m ≡ undoing t.size l v → Visits t l v m
