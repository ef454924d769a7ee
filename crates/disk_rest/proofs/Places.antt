-- What stands where in a row at rest.
use Rattle.std.proofs.Common.{◌≡◌, ℕ, ◌+◌, ◌<◌, Some, None, slice_get, arith}
use Rattle.std.proofs.lemmas.Option.{get_or_from_slice_get}
use Rattle.mem_account.specs.Counters.{Counters}
use Rattle.backing_dev.specs.Dev.{DeviceState}
use Rattle.block_map.specs.BlockMap.{BlockMap}
use Rattle.class_pool.specs.Pool.{PoolState}
use Rattle.lock_row.specs.declared.names.Held.TheVariants as holds
use Rattle.slot_entry.specs.Entries.{EntryState}
use Rattle.page_steps.specs.Steps.{DiskHeld}
use Rattle.joint_rule.specs.Begins.{Begin}
use Rattle.joint_rule.specs.Joint.{PoolFits, AtHome}
use Rattle.joint_rule.specs.Starts.{AtRest}
use Rattle.joint_rule.specs.Ends.{value_at}
use Rattle.disk_rest.specs.Rows.{Row}

-- a value that is there is at home there
pub value_is : (row : Row) (k : ℕ) (v : DiskHeld) → slice_get row k ≡ Some (Some v)
    → value_at row k ≡ Some v
value_is row k v e = get_or_from_slice_get row k (Some v) None e

-- ---- which value stands where

-- The value of a place, which is at home there.
pub record There (g : Begin) (row : Row) (k : ℕ) : Type 0 where
  pub value : DiskHeld
  pub at : slice_get row k ≡ Some (Some value)
  pub home : AtHome g k value

-- A page's entry.
pub record SlotAt (g : Begin) (row : Row) (p : ℕ) : Type 0 where
  pub entry : EntryState
  pub at : slice_get row p ≡ Some (Some (holds.Slot entry))
  pub home : AtHome g p (holds.Slot entry)

-- A class's pool.
pub record PoolAt (g : Begin) (row : Row) (k : ℕ) : Type 0 where
  pub pool : PoolState
  pub at : slice_get row (g.given.size + k) ≡ Some (Some (holds.Class pool))
  pub class : pool.class ≡ k
  pub fits : PoolFits g.chain pool

-- The account.
pub record AccountAt (g : Begin) (row : Row) : Type 0 where
  pub counters : Counters
  pub at : slice_get row (g.given.size + 255) ≡ Some (Some (holds.Account counters))

-- The map of blocks.
pub record MapAt (g : Begin) (row : Row) : Type 0 where
  pub map : BlockMap
  pub at : slice_get row (g.given.size + 256) ≡ Some (Some (holds.Blocks map))

-- The device.
pub record DeviceAt (g : Begin) (row : Row) : Type 0 where
  pub device : DeviceState
  pub at : slice_get row (g.given.size + 257) ≡ Some (Some (holds.Device device))

module _ (g : Begin) (row : Row) (rest : AtRest g row) where
  pub there : (k : ℕ) → k < g.given.size + 258 → There g row k
  there k lt = let size = rest.size in let w = rest.whole k (omega arith) in
      record { value = w.0; at = w.1; home = rest.home k w.0 w.1 }

  slot_by : (p : ℕ) → p < g.given.size → (v : DiskHeld) → slice_get row p ≡ Some (Some v)
      → AtHome g p v → SlotAt g row p
  slot_by p lt (holds.Slot e) at home = record { entry = e; at = at; home = home }
  slot_by p lt (holds.Class q) at home = absurd (let s = home.sound.0 in omega arith)
  slot_by p lt (holds.Account c) at home = absurd (let s = home.sound in omega arith)
  slot_by p lt (holds.Blocks x) at home = absurd (let s = home.sound in omega arith)
  slot_by p lt (holds.Device x) at home = absurd (let s = home.sound.0 in omega arith)

  pub slot_at : (p : ℕ) → p < g.given.size → SlotAt g row p
  slot_at p lt = let t = there p (omega arith) in slot_by p lt t.value t.at t.home

  pool_by : (k : ℕ) → k < 255 → (v : DiskHeld)
      → slice_get row (g.given.size + k) ≡ Some (Some v)
      → AtHome g (g.given.size + k) v → PoolAt g row k
  pool_by k lt (holds.Slot e) at home = absurd (let s = home.sound.page in omega arith)
  pool_by k lt (holds.Class q) at home = record {
    pool = q;
    at = at;
    class = let s = home.sound.0 in omega arith;
    fits = home.sound.1;
  }
  pool_by k lt (holds.Account c) at home = absurd (let s = home.sound in omega arith)
  pool_by k lt (holds.Blocks x) at home = absurd (let s = home.sound in omega arith)
  pool_by k lt (holds.Device x) at home = absurd (let s = home.sound.0 in omega arith)

  pub pool_at : (k : ℕ) → k < 255 → PoolAt g row k
  pool_at k lt = let t = there (g.given.size + k) (omega arith) in pool_by k lt t.value t.at t.home

  account_by : (v : DiskHeld) → slice_get row (g.given.size + 255) ≡ Some (Some v)
      → AtHome g (g.given.size + 255) v → AccountAt g row
  account_by (holds.Slot e) at home = absurd (let s = home.sound.page in omega arith)
  account_by (holds.Class q) at home =
      absurd (let s = home.sound.0 in let c = home.sound.1.class in omega arith)
  account_by (holds.Account c) at home = record { counters = c; at = at }
  account_by (holds.Blocks x) at home = absurd (let s = home.sound in omega arith)
  account_by (holds.Device x) at home = absurd (let s = home.sound.0 in omega arith)

  pub account_there : AccountAt g row
  account_there =
      let t = there (g.given.size + 255) (omega arith) in account_by t.value t.at t.home

  map_by : (v : DiskHeld) → slice_get row (g.given.size + 256) ≡ Some (Some v)
      → AtHome g (g.given.size + 256) v → MapAt g row
  map_by (holds.Slot e) at home = absurd (let s = home.sound.page in omega arith)
  map_by (holds.Class q) at home =
      absurd (let s = home.sound.0 in let c = home.sound.1.class in omega arith)
  map_by (holds.Account c) at home = absurd (let s = home.sound in omega arith)
  map_by (holds.Blocks x) at home = record { map = x; at = at }
  map_by (holds.Device x) at home = absurd (let s = home.sound.0 in omega arith)

  pub map_there : MapAt g row
  map_there = let t = there (g.given.size + 256) (omega arith) in map_by t.value t.at t.home

  device_by : (v : DiskHeld) → slice_get row (g.given.size + 257) ≡ Some (Some v)
      → AtHome g (g.given.size + 257) v → DeviceAt g row
  device_by (holds.Slot e) at home = absurd (let s = home.sound.page in omega arith)
  device_by (holds.Class q) at home =
      absurd (let s = home.sound.0 in let c = home.sound.1.class in omega arith)
  device_by (holds.Account c) at home = absurd (let s = home.sound in omega arith)
  device_by (holds.Blocks x) at home = absurd (let s = home.sound in omega arith)
  device_by (holds.Device d) at home = record { device = d; at = at }

  pub device_there : DeviceAt g row
  device_there =
      let t = there (g.given.size + 257) (omega arith) in device_by t.value t.at t.home
