-- A disk between two phases: its row, and what a phase on it begins with.
use Rattle.std.specs.Prelude.{◌≡◌, ◌⊎◌, ℕ, zero, suc, ◌+◌, ◌/◌, ◌^◌, ◌<◌, ◌≤◌, ◌==◌, nat_lt, Bool, true, false, List, [], ◌∷◌, ◌++◌, map, get_or, length, if◌then◌else◌, Option, Some, None, is_some, IfSome, slice_get}
use Rattle.std.specs.List.{range_with_len}
use Rattle.zr_base.specs.declared.op.Op.{Op}
use Rattle.zr_base.specs.Plain.{as_held, zero_sector}
use Rattle.class_pool.specs.Pool.{PoolState}
use Rattle.mem_account.specs.Counters.{Counters, no_counts}
use Rattle.block_map.specs.BlockMap.{BlockMap}
use Rattle.backing_dev.specs.Dev.{DeviceState}
use Rattle.plain_disk.specs.Phases.{held_after}
use Rattle.lock_row.specs.declared.names.LockNo.{LockNo}
use Rattle.lock_row.specs.declared.names.LockNo.TheVariants as lock
use Rattle.lock_row.specs.declared.names.Held.TheVariants as holds
use Rattle.slot_entry.specs.Entries.{EntryState}
use Rattle.page_steps.specs.Steps.{DiskHeld, slot}
use Rattle.joint_rule.specs.Begins.{Begin, found_after, Proper}
use Rattle.joint_rule.specs.Starts.{AtRest, IsMapOf, AreFree}
use Rattle.joint_rule.specs.Ends.{back_in, idle_in, device_of, budget_in}
use Rattle.zr_base.specs.declared.limits.TheConstants.{MOST_PAGES}
use Rattle.zr_core.specs.declared.limits.TheConstants.{MOST_CHAIN}
use Rattle.zr_core.specs.declared.spare.Spare.{Spare}
use Rattle.zr_core.specs.Machines.{order_at, without_orders}
use Rattle.zr_core.specs.Noted.{HasAllOrders}

-- ---- the row

-- the slots of so many pages, in rising order
abbrev pub slots_of : ℕ → List LockNo
slots_of size = map slot (range_with_len 0 size)

-- so many classes, in rising order
abbrev pub classes_of : ℕ → List LockNo
classes_of n = map (λ (c : ℕ). lock.Class c) (range_with_len 0 n)

-- the locks after the slots and the classes
abbrev pub last_locks : List LockNo
last_locks = lock.Account ∷ lock.Blocks ∷ lock.Device ∷ []

-- the names of the locks of a disk with pages: slots, classes, and the others
unfoldable pub names_of : ℕ → List LockNo
names_of size = slots_of size ++ classes_of 255 ++ last_locks

-- the names of a disk's locks; before its size is given it has none
abbrev pub names_by : ℕ → List LockNo
names_by zero = []
names_by (suc n) = names_of (suc n)

-- the counters in a place of the row, or these where it has none
abbrev pub account_in : Counters → Option DiskHeld → Counters
account_in c None = c
account_in c (Some (holds.Slot e)) = c
account_in c (Some (holds.Class q)) = c
account_in c (Some (holds.Account d)) = d
account_in c (Some (holds.Blocks x)) = c
account_in c (Some (holds.Device x)) = c

-- the account of a disk with this limit; before the disk's size is given all but the limit is 0
abbrev pub account_of : ℕ → ℕ → List (Option DiskHeld) → Counters
account_of limit zero cells = record no_counts { limit = limit }
account_of limit (suc n) cells =
    account_in (record no_counts { limit = limit }) (get_or cells (suc n + 255) None)

-- the pool in a place of the row, if it has one
abbrev pub pool_in : Option DiskHeld → Option PoolState
pool_in None = None
pool_in (Some (holds.Slot e)) = None
pool_in (Some (holds.Class q)) = Some q
pool_in (Some (holds.Account d)) = None
pool_in (Some (holds.Blocks x)) = None
pool_in (Some (holds.Device x)) = None

-- the pool of a class, if the disk has one
abbrev pub pool_of : ℕ → List (Option DiskHeld) → ℕ → Option PoolState
pool_of zero cells class = None
pool_of (suc n) cells class =
    if nat_lt class 255 then pool_in (get_or cells (suc n + class) None) else None

-- ---- the device and its blocks

-- a device that isn't there
abbrev pub no_device : DeviceState
no_device = record {
  blocks = 0;
  contents = None;
  faults = 0;
  calls = None;
  references = [];
  reads = 0;
  writes = 0;
}

-- a map without blocks
abbrev pub no_blocks : BlockMap
no_blocks = record { states = []; budget = 0; enabled = false }

-- the map in a place of the row
abbrev pub blocks_in : Option DiskHeld → BlockMap
blocks_in None = no_blocks
blocks_in (Some (holds.Slot e)) = no_blocks
blocks_in (Some (holds.Class q)) = no_blocks
blocks_in (Some (holds.Account d)) = no_blocks
blocks_in (Some (holds.Blocks x)) = x
blocks_in (Some (holds.Device x)) = no_blocks

-- What stands beside the row before the disk's size is given: the map has free blocks alone, and no
-- more than the device, whose counts of calls aren't past their end.
pub record IsSpare {D : Type 0} (s : Spare D) : Type 0 where
  pub free : AreFree s.blocks.states
  pub fits : length s.blocks.states ≤ s.device.blocks
  pub reads : s.device.reads < 2 ^ 64
  pub writes : s.device.writes < 2 ^ 64

-- before the disk's size is given, the device and the map stand beside the row, and then in it
abbrev pub IsEarly : {D : Type 0} → ℕ → Option (Spare D) → Type 0
IsEarly pages s = (is_some s ≡ (pages == 0)) × IfSome s IsSpare

-- the device of a disk
abbrev pub device_by : {D : Type 0} → Option (Spare D) → ℕ → List (Option DiskHeld) → DeviceState
device_by None pages cells = device_of no_device pages cells
device_by (Some s) pages cells = s.device

-- and the map of its blocks
abbrev pub blocks_by : {D : Type 0} → Option (Spare D) → ℕ → List (Option DiskHeld) → BlockMap
blocks_by None pages cells = blocks_in (get_or cells (pages + 256) None)
blocks_by (Some s) pages cells = s.blocks

-- ---- between two phases

-- Each value is at home, and these are the disk's pages and marks as the phases so far left them, with
-- every order taken as empty, the account, the device and the map of blocks.
pub record RestsAs (g : Begin) (pages : ℕ) (cells : List (Option DiskHeld)) : Type 0 where
  pub size : g.given.size ≡ pages
  pub some : 1 ≤ pages
  pub most : pages ≤ MOST_PAGES
  pub none : g.given.actors ≡ []
  pub chain : g.chain ≡ MOST_CHAIN
  pub proper : Proper g
  pub row : AtRest g (without_orders cells)
  pub marks : (k : ℕ) (e : EntryState)
      → slice_get (without_orders cells) k ≡ Some (Some (holds.Slot e)) → e.idle ≡ g.idle k
  pub account : slice_get cells (pages + 255) ≡ Some (Some (holds.Account g.was))
  pub device : slice_get cells (pages + 257) ≡ Some (Some (holds.Device g.device))
  pub map : (x : BlockMap) × (slice_get cells (pages + 256) ≡ Some (Some (holds.Blocks x)))
      × IsMapOf g x

-- no page was touched after this time
abbrev pub IsTime : ℕ → List (Option DiskHeld) → Type 0
IsTime now cells = (p : ℕ) (e : EntryState) → slice_get cells p ≡ Some (Some (holds.Slot e))
    → e.touched ≤ now

-- Each page has its entry at home.
pub record HasEntries (pages : ℕ) (cells : List (Option DiskHeld)) : Type 0 where
  pub size : pages ≤ length cells
  pub each : (p : ℕ) → p < pages
      → (e : EntryState) × (slice_get cells p ≡ Some (Some (holds.Slot e)))

-- the disk's size isn't given yet
abbrev pub IsBare : ℕ → List (Option DiskHeld) → Type 0
IsBare pages cells = (pages ≡ 0) × (cells ≡ [])

-- Each value is at home, and each page with an order is noted, as between two phases.
pub record IsAtRest (pages : ℕ) (noted : List ℕ) (cells : List (Option DiskHeld)) : Type 0 where
  pub entries : HasEntries pages cells
  pub orders : HasAllOrders pages noted cells
  pub rests : IsBare pages cells ⊎ ((g : Begin) × RestsAs g pages cells)

-- ---- what a phase begins with

-- a new disk: zeros, nothing written, the limit, and the device, of which no block is used; without
-- actors nothing goes by whether it has a backing
abbrev pub new_disk : ℕ → ℕ → DeviceState → Begin
new_disk pages limit device = record {
  given = record {
    size = pages;
    backed = false;
    actors = [];
    before = λ s. zero_sector;
    finds = λ p. as_held;
  };
  blank = λ p. true;
  back = λ p. false;
  idle = λ p. false;
  touched = λ p. 0;
  chain = MOST_CHAIN;
  clock = 0;
  was = record no_counts { limit = limit };
  device = device;
  blocks = 0;
  budget = 0;
  budgeted = false;
  tight = false;
}

-- the disk with this map of blocks
abbrev pub with_map : Begin → BlockMap → Begin
with_map g x = record g { blocks = length x.states; budget = x.budget; budgeted = x.enabled }

-- the disk with another account
abbrev pub with_account : Begin → Counters → Begin
with_account g c = record {
  given = g.given;
  blank = g.blank;
  back = g.back;
  idle = g.idle;
  touched = g.touched;
  chain = g.chain;
  clock = g.clock;
  was = c;
  device = g.device;
  blocks = g.blocks;
  budget = g.budget;
  budgeted = g.budgeted;
  tight = false;
}

-- the disk with another number of writes that are left, where the limit on writebacks is on or off
abbrev pub with_budget : Begin → ℕ → Bool → Begin
with_budget g n on = record g { budget = n; budgeted = on }

-- the disk with another limit
abbrev pub with_limit : Begin → ℕ → Begin
with_limit g limit = with_account g (record g.was { limit = limit })

-- the disk where the account's maximum is lowered to its frames
abbrev pub with_lowered : Begin → Begin
with_lowered g = with_account g (record g.was { most = g.was.pages })

-- a phase of these actors at this time, on a disk that has a backing or none
abbrev pub begun : Begin → Bool → List (List Op) → ℕ → Begin
begun g backed actors now = record {
  given = record {
    size = g.given.size;
    backed = backed;
    actors = actors;
    before = g.given.before;
    finds = λ p. as_held;
  };
  blank = g.blank;
  back = g.back;
  idle = g.idle;
  touched = g.touched;
  chain = g.chain;
  clock = now;
  was = g.was;
  device = g.device;
  blocks = g.blocks;
  budget = g.budget;
  budgeted = g.budgeted;
  tight = false;
}

-- when the page in a place of the row was touched last
abbrev pub touched_in : Option DiskHeld → ℕ
touched_in None = 0
touched_in (Some (holds.Slot e)) = e.touched
touched_in (Some (holds.Class q)) = 0
touched_in (Some (holds.Account c)) = 0
touched_in (Some (holds.Blocks x)) = 0
touched_in (Some (holds.Device x)) = 0

-- the disk that a phase leaves in this row
abbrev pub left : Begin → List (Option DiskHeld) → Begin
left g row = record {
  given = record {
    size = g.given.size;
    backed = g.given.backed;
    actors = [];
    before = λ s. held_after g.given (s / 8) (order_at row (s / 8)) s;
    finds = λ p. as_held;
  };
  blank = λ p. (found_after g p (order_at row p)).blank;
  back = λ p. back_in (get_or row p None);
  idle = λ p. idle_in (get_or row p None);
  touched = λ p. touched_in (get_or row p None);
  chain = g.chain;
  clock = g.clock;
  was = account_of g.was.limit g.given.size row;
  device = device_of g.device g.given.size row;
  blocks = g.blocks;
  budget = budget_in g.budget (get_or row (g.given.size + 256) None);
  budgeted = g.budgeted;
  tight = false;
}
