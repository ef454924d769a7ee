-- The givings of a page's events: which value is given, and which local follows.
use Rattle.std.specs.Prelude.{◌≡◌, ℕ, ◌+◌, ◌≤◌, Bool, true, false, length, List, [], ◌∷◌, ◌++◌, Option, Some, None}
use Rattle.zr_base.specs.declared.op.Tag.{Tag}
use Rattle.zr_base.specs.declared.op.Op.{Op}
use Rattle.zr_base.specs.declared.op.Op.TheVariants.{Write, Read, Discard, Idle, Writeback, Compact}
use Rattle.zspage.specs.Cells.{CellState}
use Rattle.class_pool.specs.Pool.{PoolState, PoolHasRoom}
use Rattle.mem_account.specs.Counters.{Counters, charged, counted, IsPastLimit, IsWithinLimit}
use Rattle.mem_account.specs.declared.weight.Weight.{Weight}
use Rattle.block_map.specs.declared.state.BlockState.TheVariants.{Free}
use Rattle.block_map.specs.BlockMap.{BlockMap, with_state}
use Rattle.backing_dev.specs.Dev.{DeviceState, ReadsBlock, FailsToRead}
use Rattle.bdi_page.specs.Packing.{IsPage}
use Rattle.mem_account.specs.declared.weight.Delta.TheVariants as delta
use Rattle.call_history.specs.declared.part.Part.{Part}
use Rattle.call_history.specs.declared.part.PartEnd.{PartEnd}
use Rattle.call_history.specs.declared.part.PartEnd.TheVariants as over
use Rattle.call_history.specs.Parts.{is_read}
use Rattle.call_history.specs.Shows.{tag_by}
use Rattle.lock_row.specs.declared.names.LockNo.TheVariants as lock
use Rattle.lock_row.specs.declared.names.Held.TheVariants as holds
use Rattle.lock_row.specs.declared.names.At.TheVariants as at
use Rattle.lock_row.specs.declared.names.Object.{Object}
use Rattle.slot_entry.specs.declared.kept.Stored.{Stored}
use Rattle.slot_entry.specs.declared.kept.Kept.{Kept}
use Rattle.slot_entry.specs.declared.kept.Kept.TheVariants as kept
use Rattle.slot_entry.specs.Entries.{EntryState, weight_of}
use Rattle.slot_entry.specs.Forms.{PageForm, Blank, Word, Pooled, object_class, form_weight}
use Rattle.page_steps.specs.Pages.{next_form}
use Rattle.page_steps.specs.Pools.{IsNeed, Adds, Lends, Returns, DropsPinned}
use Rattle.page_steps.specs.Steps.{Terms, DiskHeld, Here, slot}
use Rattle.page_steps.specs.Scans.{Marks}
use Rattle.page_steps.specs.Visits.{Visits}
use Rattle.page_steps.specs.Compactions.{repaid, Compacts}
use Rattle.page_steps.specs.Nexts.{refusing, reading, putting, failing, fetching, missing, counting_failure, pinning, unpinning, charging, denying, stowing, quitting, freeing, repaying}

-- the entry's form after a piece: its new object stands where it has one
abbrev pub kept_by : PageForm → Option Object → Kept
kept_by Blank x = kept.Empty
kept_by (Word w) x = kept.Same w
kept_by (Pooled bytes huge) None = kept.Empty
kept_by (Pooled bytes huge) (Some o) =
    kept.Obj (record {
      class = o.class;
      handle = record { 0 = o.handle };
      len = length bytes;
      huge = huge;
    })

-- what the account counts of the page before the piece, whose object may be gone already
abbrev pub old_weight : Option Weight → Kept → Weight
old_weight None k = weight_of k
old_weight (Some w) k = w

-- The entry has one more tag, was touched at this time, and has no mark.
pub record Notes (clock : ℕ) (e f : EntryState) (k : Kept) (t : Tag) : Type 0 where
  pub kept : f.kept ≡ k
  pub order : f.order ≡ e.order ++ t ∷ []
  pub room : e.room ≤ f.room + 1
  pub under : f.under ≡ None
  pub idle : f.idle ≡ false
  pub touched : f.touched ≡ clock

-- a discard is counted beside
abbrev pub tells : Op → Counters → Counters
tells (Write start count stuff) c = c
tells (Read start count) c = c
tells (Discard start count) c = counted c delta.NotifyFree
tells (Idle age) c = c
tells (Writeback m) c = c
tells Compact c = c

-- a failure of the device is counted
abbrev pub fails_by : Op → Counters → Counters
fails_by (Write start count stuff) c = counted c delta.FailedWrite
fails_by (Read start count) c = counted c delta.FailedRead
fails_by (Discard start count) c = counted c delta.FailedWrite
fails_by (Idle age) c = counted c delta.FailedWrite
fails_by (Writeback m) c = counted c delta.FailedWrite
fails_by Compact c = counted c delta.FailedWrite

-- the account once a page is counted: frames are given back, and the page has a new weight
abbrev pub settled : Op → ℕ → Weight → Weight → Counters → Counters
settled op frames old new c = tells op (counted (repaid c frames) (delta.Kept old new))

-- The giving of the value v, after which the local is m.
pub data Works (t : Terms) (l : Here) (v : DiskHeld) (m : Here) : Type 0 where
  -- a request beyond the disk is counted
  refuses : (p : Part) (rest : List Part) (c : Counters) → l.todo ≡ p ∷ rest → l.at ≡ at.Refusing
      → l.held ≡ (lock.Account, holds.Account c) ∷ []
      → v ≡ holds.Account (counted c delta.InvalidIo) → m ≡ refusing l v → Works t l v m
  -- the page's object is pinned; its page is read from there
  pins : (p : Part) (rest : List Part) (e : EntryState) (o : Stored) (q q' : PoolState)
      (cell : CellState) → l.todo ≡ p ∷ rest → l.at ≡ at.Pinning
      → l.held ≡ (lock.Class o.class, holds.Class q) ∷ (slot p.page, holds.Slot e) ∷ []
      → e.kept ≡ kept.Obj o → Lends q q' o.handle.0 cell
      → v ≡ holds.Class q' → m ≡ pinning o cell l v → Works t l v m
  -- it is unpinned
  unpins : (p : Part) (rest : List Part) (e : EntryState) (o : Stored) (q q' : PoolState)
      → l.todo ≡ p ∷ rest → l.at ≡ at.Unpinning
      → l.held ≡ (lock.Class o.class, holds.Class q) ∷ (slot p.page, holds.Slot e) ∷ []
      → e.kept ≡ kept.Obj o → Returns q q' o.handle.0
      → v ≡ holds.Class q' → m ≡ unpinning l v → Works t l v m
  -- the page is read from its block of the device
  fetches : (p : Part) (rest : List Part) (e : EntryState) (b : ℕ) (d d' : DeviceState)
      (page : List ℕ) → l.todo ≡ p ∷ rest → l.at ≡ at.Fetching
      → l.held ≡ (lock.Device, holds.Device d) ∷ (slot p.page, holds.Slot e) ∷ []
      → e.kept ≡ kept.Wb b → ReadsBlock d d' b page → IsPage page
      → v ≡ holds.Device d' → m ≡ fetching page l v → Works t l v m
  -- or the device fails
  misses : (p : Part) (rest : List Part) (e : EntryState) (b : ℕ) (d d' : DeviceState) (fault : ℕ)
      → l.todo ≡ p ∷ rest → l.at ≡ at.Fetching
      → l.held ≡ (lock.Device, holds.Device d) ∷ (slot p.page, holds.Slot e) ∷ []
      → e.kept ≡ kept.Wb b → FailsToRead d d' fault
      → v ≡ holds.Device d' → m ≡ missing fault l v → Works t l v m
  -- the failure is counted
  counts : (p : Part) (rest : List Part) (e : EntryState) (c : Counters)
      → l.todo ≡ p ∷ rest → l.at ≡ at.Counting
      → l.held ≡ (lock.Account, holds.Account c) ∷ (slot p.page, holds.Slot e) ∷ []
      → v ≡ holds.Account (fails_by p.op c) → m ≡ counting_failure l v → Works t l v m
  -- a new object is charged and made
  charges : (p : Part) (rest : List Part) (e : EntryState) (c : Counters) (q q' : PoolState)
      (class handle need : ℕ) (bytes : List ℕ) (huge : Bool) → l.todo ≡ p ∷ rest → l.at ≡ at.Both
      → l.held ≡ (lock.Account, holds.Account c) ∷ (lock.Class class, holds.Class q)
      ∷ (slot p.page, holds.Slot e) ∷ []
      → next_form p l.page e.kept ≡ Pooled bytes huge → class ≡ object_class t.chain bytes huge
      → IsWithinLimit c need → Adds q q' handle bytes need
      → v ≡ holds.Account (charged c need) → m ≡ charging class handle bytes q' l v → Works t l v m
  -- it is refused at the limit
  limits : (p : Part) (rest : List Part) (e : EntryState) (c : Counters) (q : PoolState)
      (class need : ℕ) → l.todo ≡ p ∷ rest → l.at ≡ at.Both
      → l.held ≡ (lock.Account, holds.Account c) ∷ (lock.Class class, holds.Class q)
      ∷ (slot p.page, holds.Slot e) ∷ []
      → IsNeed q need → IsPastLimit c need
      → v ≡ holds.Account (counted c delta.FailedWrite)
      → m ≡ denying (over.AtLimit c.pages need c.limit) l v → Works t l v m
  -- or for want of memory, where it needs a zspage
  starves : (p : Part) (rest : List Part) (e : EntryState) (c : Counters) (q : PoolState) (class : ℕ)
      → l.todo ≡ p ∷ rest → l.at ≡ at.Both
      → l.held ≡ (lock.Account, holds.Account c) ∷ (lock.Class class, holds.Class q)
      ∷ (slot p.page, holds.Slot e) ∷ []
      → (PoolHasRoom q → ⊥) → IsWithinLimit c q.chain
      → v ≡ holds.Account (counted c delta.FailedWrite)
      → m ≡ denying over.NoMemory l v → Works t l v m
  -- the class of the new object goes back
  stows : (p : Part) (rest : List Part) (e : EntryState) (q : PoolState) (class : ℕ)
      → l.todo ≡ p ∷ rest → l.at ≡ at.Made
      → l.held ≡ (lock.Class class, holds.Class q) ∷ (slot p.page, holds.Slot e) ∷ []
      → l.fail ≡ None → v ≡ holds.Class q → m ≡ stowing l v → Works t l v m
  -- or that in which none was made
  quits : (p : Part) (rest : List Part) (e : EntryState) (q : PoolState) (class : ℕ) (end : PartEnd)
      → l.todo ≡ p ∷ rest → l.at ≡ at.Made
      → l.held ≡ (lock.Class class, holds.Class q) ∷ (slot p.page, holds.Slot e) ∷ []
      → l.fail ≡ Some end → v ≡ holds.Class q → m ≡ quitting l v → Works t l v m
  -- the old object is freed, and unpinned before where it was pinned
  frees : (p : Part) (rest : List Part) (e : EntryState) (o : Stored) (q q' : PoolState) (frames : ℕ)
      → l.todo ≡ p ∷ rest → l.at ≡ at.Freeing
      → l.held ≡ (lock.Class o.class, holds.Class q) ∷ (slot p.page, holds.Slot e) ∷ []
      → e.kept ≡ kept.Obj o → DropsPinned l.pin q q' o.handle.0 frames
      → v ≡ holds.Class q' → m ≡ freeing frames l v → Works t l v m
  -- the block that has the page is freed
  releases : (p : Part) (rest : List Part) (e : EntryState) (b : ℕ) (x : BlockMap)
      → l.todo ≡ p ∷ rest → l.at ≡ at.Releasing
      → l.held ≡ (lock.Blocks, holds.Blocks x) ∷ (slot p.page, holds.Slot e) ∷ []
      → e.kept ≡ kept.Wb b
      → v ≡ holds.Blocks (with_state x b Free) → m ≡ freeing 0 l v → Works t l v m
  -- frames are given back, and the page is counted
  repays : (p : Part) (rest : List Part) (e : EntryState) (c : Counters)
      → l.todo ≡ p ∷ rest → l.at ≡ at.Giving
      → l.held ≡ (lock.Account, holds.Account c) ∷ (slot p.page, holds.Slot e) ∷ []
      → v ≡ holds.Account (settled p.op l.owed (old_weight l.ahead e.kept)
      (form_weight (next_form p l.page e.kept)) c)
      → m ≡ repaying (form_weight (next_form p l.page e.kept)) l v → Works t l v m
  -- the page has its new form
  puts : (p : Part) (rest : List Part) (e f : EntryState) → l.todo ≡ p ∷ rest → l.at ≡ at.Ready
      → l.held ≡ (slot p.page, holds.Slot e) ∷ []
      → Notes t.clock e f (kept_by (next_form p l.page e.kept) l.fresh) (tag_by l.actor p)
      → v ≡ holds.Slot f → m ≡ putting l v → Works t l v m
  -- a read is noted
  reads : (p : Part) (rest : List Part) (e f : EntryState) → l.todo ≡ p ∷ rest → l.at ≡ at.Leaving
      → l.held ≡ (slot p.page, holds.Slot e) ∷ [] → l.fail ≡ None
      → Notes t.clock e f e.kept (tag_by l.actor p)
      → v ≡ holds.Slot f → m ≡ reading l v → Works t l v m
  -- a refused piece leaves its entry
  fails : (p : Part) (rest : List Part) (e : EntryState) (end : PartEnd)
      → l.todo ≡ p ∷ rest → l.at ≡ at.Leaving
      → l.held ≡ (slot p.page, holds.Slot e) ∷ [] → l.fail ≡ Some end
      → v ≡ holds.Slot e → m ≡ failing l v → Works t l v m
  -- a read of which the device failed is noted
  errs : (p : Part) (rest : List Part) (e f : EntryState) (end : PartEnd) → l.todo ≡ p ∷ rest
      → l.at ≡ at.Missed
      → l.held ≡ (slot p.page, holds.Slot e) ∷ [] → l.fail ≡ Some end → is_read p.op ≡ true
      → Notes t.clock e f e.kept (tag_by l.actor p)
      → v ≡ holds.Slot f → m ≡ failing l v → Works t l v m
  -- a write of which it failed leaves its entry
  leaves : (p : Part) (rest : List Part) (e : EntryState) (end : PartEnd) → l.todo ≡ p ∷ rest
      → l.at ≡ at.Missed
      → l.held ≡ (slot p.page, holds.Slot e) ∷ [] → l.fail ≡ Some end → is_read p.op ≡ false
      → v ≡ holds.Slot e → m ≡ failing l v → Works t l v m
  -- an event of a scan that marks pages
  marks : Marks t l v m → Works t l v m
  -- an event of a writeback
  visits : Visits t l v m → Works t l v m
  -- an event of a compaction
  compacts : Compacts t l v m → Works t l v m
