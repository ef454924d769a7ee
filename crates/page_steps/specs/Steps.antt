-- What an actor does next on a page, and what a taking does to its local.
use Rattle.std.specs.Prelude.{ℕ, ◌+◌, ◌==◌, Bool, true, false, List, [], ◌∷◌, ◌++◌, Option, Some, None, if◌then◌else◌}
use Rattle.zr_base.specs.declared.op.Op.{Op}
use Rattle.zr_base.specs.declared.op.Mode.{Mode}
use Rattle.zr_base.specs.declared.op.Mode.TheVariants as mode
use Rattle.zr_base.specs.declared.op.Op.TheVariants.{Write, Read, Discard, Idle, Writeback, Compact}
use Rattle.zr_base.specs.Plain.{is_beyond, is_maintenance, has_whole}
use Rattle.class_pool.specs.Pool.{PoolState}
use Rattle.mem_account.specs.Counters.{Counters}
use Rattle.mem_account.specs.declared.weight.Weight.{Weight}
use Rattle.block_map.specs.BlockMap.{BlockMap}
use Rattle.backing_dev.specs.Dev.{DeviceState}
use Rattle.call_history.specs.declared.part.Part.{Part}
use Rattle.call_history.specs.declared.part.PartEnd.{PartEnd}
use Rattle.call_history.specs.Parts.{left_by}
use Rattle.lock_row.specs.declared.names.LockNo.{LockNo}
use Rattle.lock_row.specs.declared.names.LockNo.TheVariants as lock
use Rattle.lock_row.specs.declared.names.Held.{Held}
use Rattle.lock_row.specs.declared.names.Held.TheVariants as holds
use Rattle.lock_row.specs.declared.names.At.{At}
use Rattle.lock_row.specs.declared.names.At.TheVariants.{Start, Refusing, Seen, Pinning, Pinned, Unpinning, Leaving, Away, Fetching, Failing, Counting, Missed, Wanting, Inside, Both, Made, Old, Freeing, Backed, Releasing, Owing, Giving, Ready, Scanning, Marking, Visiting, Sweeping, Moving, Shrunk, Shrinking}
use Rattle.lock_row.specs.declared.names.Scan.{Scan}
use Rattle.lock_row.specs.declared.names.Compaction.{Compaction}
use Rattle.lock_row.specs.declared.names.Step.{Step}
use Rattle.lock_row.specs.declared.names.Step.TheVariants as step
use Rattle.lock_row.specs.declared.names.Trip.{Trip}
use Rattle.lock_row.specs.declared.names.Plan.{Plan}
use Rattle.lock_row.specs.declared.names.Plan.TheVariants.{Finished, Take, Give}
use Rattle.lock_row.specs.declared.names.Local.{Local}
use Rattle.lock_row.specs.declared.names.Object.{Object}
use Rattle.lock_row.specs.declared.names.Pin.{Pin}
use Rattle.slot_entry.specs.declared.kept.Kept.{Kept}
use Rattle.slot_entry.specs.declared.kept.Kept.TheVariants as kept
use Rattle.slot_entry.specs.Entries.{EntryState, is_eligible}
use Rattle.slot_entry.specs.Forms.{PageForm, Blank, Word, Pooled}
use Rattle.page_steps.specs.Pages.{next_form, new_class}

-- What a phase's steps go by: the disk's pages, the most frames of a chain, and the time.
pub record Terms : Type 0 where
  pub size : ℕ
  pub chain : ℕ
  pub clock : ℕ

-- what a lock guards: a slot has its page's entry, a class its pool, the account its counters, the
-- blocks their map, and the device's lock the device
abbrev pub DiskHeld : Type 0
DiskHeld = Held EntryState PoolState Counters BlockMap DeviceState

-- the local of an actor of a disk
abbrev pub Here : Type 0
Here = Local DiskHeld

-- the lock of a page
abbrev pub slot : ℕ → LockNo
slot page = lock.Slot (record { 0 = page })

-- the place of a lock in the row of a disk of so many pages: the slots first, then the classes, the account, the blocks and the device
abbrev pub spot : ℕ → LockNo → ℕ
spot size (lock.Slot page) = page.0
spot size (lock.Class c) = size + c
spot size lock.Account = size + 255
spot size lock.Blocks = size + 256
spot size lock.Device = size + 257

-- the class of an object that stands
abbrev pub class_by : Kept → ℕ
class_by kept.Empty = 0
class_by (kept.Same w) = 0
class_by (kept.Obj o) = o.class
class_by (kept.Wb b) = 0

-- ---- plans

-- a compaction before its first event: it begins with class 0
abbrev pub first_class : Compaction
first_class = record { class = 0; budget = None; moves = 0; frames = 0 }

-- a scan that marks pages before its first event: it begins with page 0
abbrev pub first_scan : Scan
first_scan = record { page = 0; marked = 0 }

-- a writeback before its first event: it begins with page 0
abbrev pub first_trip : Trip
first_trip = record { page = 0; wrote = 0; lost = 0; block = None }

-- the first lock of what is no request: the slot of the first page, or the first class
abbrev pub first_lock : Op → LockNo
first_lock (Idle age) = slot first_scan.page
first_lock (Writeback m) = slot first_trip.page
first_lock _ = lock.Class first_class.class

-- the first event of a piece: a request beyond the disk takes the account
abbrev pub start_plan : Bool → Bool → Part → Plan
start_plan true beyond p = Take (first_lock p.op)
start_plan false true p = Take lock.Account
start_plan false false p = Take (slot p.page)

-- the next event of a writeback at a page, where c is the class of the page's object
abbrev pub visit_plan : Step → Trip → ℕ → Plan
visit_plan step.Arriving x c = Take (slot x.page)
visit_plan step.Passing x c = Give (slot x.page)
visit_plan step.Asking x c = Take lock.Blocks
visit_plan step.Reserving x c = Give lock.Blocks
visit_plan step.Quitting x c = Give (slot x.page)
visit_plan step.Seen x c = Take (lock.Class c)
visit_plan step.Pinning x c = Give (lock.Class c)
visit_plan step.Pinned x c = Take (lock.Class c)
visit_plan step.Unpinning x c = Give (lock.Class c)
visit_plan step.Marking x c = Give (slot x.page)
visit_plan step.Flying x c = Take lock.Device
visit_plan step.Storing x c = Give lock.Device
visit_plan step.Landing x c = Take (slot x.page)
visit_plan step.Won x c = Take (lock.Class c)
visit_plan step.Freeing x c = Give (lock.Class c)
visit_plan step.Backing x c = Take lock.Blocks
visit_plan step.Committing x c = Give lock.Blocks
visit_plan step.Owing x c = Take lock.Account
visit_plan step.Paying x c = Give lock.Account
visit_plan step.Putting x c = Give (slot x.page)
visit_plan step.Losing x c = Give (slot x.page)
visit_plan step.Undoing x c = Take lock.Blocks
visit_plan step.Releasing x c = Give lock.Blocks

-- c is the class of the old object, d that of the new one
abbrev pub plan_at : ℕ → At → Part → ℕ → ℕ → Plan
plan_at size Start p c d = start_plan (is_maintenance p.op) (is_beyond size p.op) p
plan_at size Refusing p c d = Give lock.Account
plan_at size Seen p c d = Take (lock.Class c)
plan_at size Pinning p c d = Give (lock.Class c)
plan_at size Pinned p c d = Take (lock.Class c)
plan_at size Unpinning p c d = Give (lock.Class c)
plan_at size Leaving p c d = Give (slot p.page)
plan_at size Away p c d = Take lock.Device
plan_at size Fetching p c d = Give lock.Device
plan_at size Failing p c d = Take lock.Account
plan_at size Counting p c d = Give lock.Account
plan_at size Missed p c d = Give (slot p.page)
plan_at size Wanting p c d = Take (lock.Class d)
plan_at size Inside p c d = Take lock.Account
plan_at size Both p c d = Give lock.Account
plan_at size Made p c d = Give (lock.Class d)
plan_at size Old p c d = Take (lock.Class c)
plan_at size Freeing p c d = Give (lock.Class c)
plan_at size Backed p c d = Take lock.Blocks
plan_at size Releasing p c d = Give lock.Blocks
plan_at size Owing p c d = Take lock.Account
plan_at size Giving p c d = Give lock.Account
plan_at size Ready p c d = Give (slot p.page)
plan_at size (Scanning x) p c d = Take (slot x.page)
plan_at size (Marking x) p c d = Give (slot x.page)
plan_at size (Visiting s x) p c d = visit_plan s x c
plan_at size (Sweeping x) p c d = Take (lock.Class x.class)
plan_at size (Moving x) p c d = Give (lock.Class x.class)
plan_at size (Shrunk x) p c d = Take lock.Account
plan_at size (Shrinking x) p c d = Give lock.Account

-- the next event of an actor with these pieces to do
abbrev pub plan_by : ℕ → List Part → At → ℕ → ℕ → Plan
plan_by size [] at c d = Finished
plan_by size (p ∷ ps) at c d = plan_at size at p c d

-- the entry that is the value, or else another
abbrev pub entry_or : DiskHeld → EntryState → EntryState
entry_or (holds.Slot e) d = e
entry_or (holds.Class x) d = d
entry_or (holds.Account x) d = d
entry_or (holds.Blocks x) d = d
entry_or (holds.Device x) d = d

-- the entry that an actor holds
abbrev pub entry_in : List (LockNo × DiskHeld) → EntryState
entry_in [] = record {
  kept = kept.Empty;
  order = [];
  room = 0;
  under = None;
  idle = false;
  touched = 0;
}
entry_in (x ∷ xs) = entry_or x.1 (entry_in xs)

-- the next event of an actor
abbrev pub plan : Terms → Here → Plan
plan t l = plan_by t.size l.todo l.at (class_by (entry_in l.held).kept) (new_class t.chain l.todo l.page (entry_in l.held).kept)

-- ---- stages

-- what stands has to be given up
abbrev pub settle_at : Kept → At
settle_at kept.Empty = Owing
settle_at (kept.Same w) = Owing
settle_at (kept.Obj o) = Old
settle_at (kept.Wb b) = Backed

-- a new form needs an object, or what stands is given up
abbrev pub made_at : PageForm → Kept → At
made_at Blank k = settle_at k
made_at (Word w) k = settle_at k
made_at (Pooled bytes huge) k = Wanting

-- a page with an object is read from its cell, and one on the device from its block
abbrev pub seen_at : Kept → At
seen_at kept.Empty = Leaving
seen_at (kept.Same w) = Leaving
seen_at (kept.Obj o) = Seen
seen_at (kept.Wb b) = Away

-- a page of which a part is written is read before where it has an object or is on the device
abbrev pub part_at : PageForm → Kept → At
part_at f kept.Empty = made_at f kept.Empty
part_at f (kept.Same w) = made_at f (kept.Same w)
part_at f (kept.Obj o) = Seen
part_at f (kept.Wb b) = Away

-- a write of a whole page doesn't read it
abbrev pub write_at : Bool → PageForm → Kept → At
write_at true f k = made_at f k
write_at false f k = part_at f k

-- a discard gives up what stands
abbrev pub discard_at : Kept → At
discard_at kept.Empty = Ready
discard_at (kept.Same w) = Owing
discard_at (kept.Obj o) = Old
discard_at (kept.Wb b) = Backed

-- a piece has its page's slot; what is no request has no page
abbrev pub entered_at : Op → ℕ → PageForm → Kept → At
entered_at (Write start count stuff) page f k = write_at (has_whole start count page) f k
entered_at (Read start count) page f k = seen_at k
entered_at (Discard start count) page f k = discard_at k
entered_at (Idle age) page f k = Leaving
entered_at (Writeback m) page f k = Leaving
entered_at Compact page f k = Leaving

-- the pages that a writeback takes
abbrev pub mode_of : Op → Mode
mode_of (Writeback m) = m
mode_of _ = mode.Idle

-- a writeback has its page's slot
abbrev pub arrived_at : Bool → Trip → At
arrived_at true x = Visiting step.Asking x
arrived_at false x = Visiting step.Passing x

-- the slot has the mark of this block
abbrev pub is_mark_of : Option ℕ → Option ℕ → Bool
is_mark_of None under = false
is_mark_of (Some b) None = false
is_mark_of (Some b) (Some c) = b == c

-- a writeback has its slot again, after a write that succeeded or failed
abbrev pub landed_at : Option PartEnd → Trip → EntryState → At
landed_at None x e =
    if is_mark_of x.block e.under then Visiting step.Won x else Visiting step.Losing x
landed_at (Some end) x e = Visiting step.Losing x

-- a writeback has the lock that it takes next
abbrev pub visited_at : Step → Trip → Op → EntryState → Option PartEnd → At
visited_at step.Arriving x op e fail = arrived_at (is_eligible (mode_of op) e) x
visited_at step.Asking x op e fail = Visiting step.Reserving x
visited_at step.Seen x op e fail = Visiting step.Pinning x
visited_at step.Pinned x op e fail = Visiting step.Unpinning x
visited_at step.Flying x op e fail = Visiting step.Storing x
visited_at step.Landing x op e fail = landed_at fail x e
visited_at step.Won x op e fail = Visiting step.Freeing x
visited_at step.Backing x op e fail = Visiting step.Committing x
visited_at step.Owing x op e fail = Visiting step.Paying x
visited_at step.Undoing x op e fail = Visiting step.Releasing x
visited_at s x op e fail = Visiting s x

-- what is no request has its first lock, and the value is an entry or this one stands for it
abbrev pub first_at : Op → EntryState → At
first_at (Idle age) e = Marking first_scan
first_at (Writeback m) e = arrived_at (is_eligible m e) first_trip
first_at _ e = Moving first_class

-- a piece has its first lock
abbrev pub begun_at : Bool → Bool → Part → PageForm → EntryState → At
begun_at true beyond p f e = first_at p.op e
begun_at false true p f e = Refusing
begun_at false false p f e = entered_at p.op p.page f e.kept

-- a piece has the lock that it takes next
abbrev pub after_take : ℕ → At → Part → PageForm → EntryState → Option PartEnd → At
after_take size Start p f e fail = begun_at (is_maintenance p.op) (is_beyond size p.op) p f e
after_take size Refusing p f e fail = Refusing
after_take size Seen p f e fail = Pinning
after_take size Pinning p f e fail = Pinning
after_take size Pinned p f e fail = Unpinning
after_take size Unpinning p f e fail = Unpinning
after_take size Leaving p f e fail = Leaving
after_take size Away p f e fail = Fetching
after_take size Fetching p f e fail = Fetching
after_take size Failing p f e fail = Counting
after_take size Counting p f e fail = Counting
after_take size Missed p f e fail = Missed
after_take size Wanting p f e fail = Inside
after_take size Inside p f e fail = Both
after_take size Both p f e fail = Both
after_take size Made p f e fail = Made
after_take size Old p f e fail = Freeing
after_take size Freeing p f e fail = Freeing
after_take size Backed p f e fail = Releasing
after_take size Releasing p f e fail = Releasing
after_take size Owing p f e fail = Giving
after_take size Giving p f e fail = Giving
after_take size Ready p f e fail = Ready
after_take size (Scanning x) p f e fail = Marking x
after_take size (Marking x) p f e fail = Marking x
after_take size (Visiting s x) p f e fail = visited_at s x p.op e fail
after_take size (Sweeping x) p f e fail = Moving x
after_take size (Moving x) p f e fail = Moving x
after_take size (Shrunk x) p f e fail = Shrinking x
after_take size (Shrinking x) p f e fail = Shrinking x

-- an actor with these pieces to do has the lock that it takes next
abbrev pub taken_at : ℕ → List Part → At → Option (List ℕ) → EntryState → Option PartEnd → At
taken_at size [] at page e fail = at
taken_at size (p ∷ ps) at page e fail = after_take size at p (next_form p page e.kept) e fail

-- a page was read from its cell
abbrev pub pinned_at : Op → PageForm → Kept → At
pinned_at (Write start count stuff) f k = made_at f k
pinned_at (Read start count) f k = Pinned
pinned_at (Discard start count) f k = Pinned
pinned_at (Idle age) f k = Pinned
pinned_at (Writeback m) f k = Pinned
pinned_at Compact f k = Pinned

-- a page was read from the device
abbrev pub fetched_at : Op → PageForm → Kept → At
fetched_at (Write start count stuff) f k = made_at f k
fetched_at (Read start count) f k = Leaving
fetched_at (Discard start count) f k = Leaving
fetched_at (Idle age) f k = Leaving
fetched_at (Writeback m) f k = Leaving
fetched_at Compact f k = Leaving

-- a refused piece has nothing in the pool
abbrev pub quit_at : Option Pin → At
quit_at None = Leaving
quit_at (Some x) = Pinned

-- the lock of an event
abbrev pub lock_of : Plan → LockNo
lock_of (Take k) = k
lock_of (Give k) = k
lock_of Finished = lock.Account

-- ---- locals

-- a take changes the stage and what is held, and nothing else
abbrev pub with_lock : Here → At → LockNo → DiskHeld → Here
with_lock l at k v = record {
  actor = l.actor;
  at = at;
  todo = l.todo;
  held = (k, v) ∷ l.held;
  done = l.done;
  fresh = l.fresh;
  pin = l.pin;
  owed = l.owed;
  ahead = l.ahead;
  behind = l.behind;
  page = l.page;
  fail = l.fail;
}

-- the local after a taking
abbrev pub took : Terms → Here → DiskHeld → Here
took t l v = with_lock l (taken_at t.size l.todo l.at l.page (entry_or v (entry_in l.held)) l.fail) (lock_of (plan t l)) v

-- the piece goes on
abbrev pub on : Here → At → List (LockNo × DiskHeld) → Option Object → Option Pin → ℕ → Option Weight → Option Weight → Option (List ℕ) → Option PartEnd → Here
on l at held fresh pin owed ahead behind page fail = record {
  actor = l.actor;
  at = at;
  todo = l.todo;
  held = held;
  done = l.done;
  fresh = fresh;
  pin = pin;
  owed = owed;
  ahead = ahead;
  behind = behind;
  page = page;
  fail = fail;
}

-- the piece is over
abbrev pub piece_over : Here → Part → PartEnd → List (List ℕ) → List Part → Here
piece_over l p end got rest = record {
  actor = l.actor;
  at = Start;
  todo = left_by end p.nr rest;
  held = [];
  done = l.done ++ record { part = p; end = end; got = got } ∷ [];
  fresh = None;
  pin = None;
  owed = 0;
  ahead = None;
  behind = None;
  page = None;
  fail = None;
}
