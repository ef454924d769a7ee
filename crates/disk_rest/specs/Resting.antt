-- The plain rest that a row at rest stands for.
use Rattle.std.specs.Prelude.{◌≡◌, ℕ, ◌+◌, ◌*◌, ◌<◌, ◌≤◌, true, List, [], length, Some, slice_get}
use Rattle.zr_base.specs.declared.op.Op.{Op}
use Rattle.zr_base.specs.Plain.{zero_sector, IsSector}
use Rattle.block_map.specs.BlockMap.{BlockMap}
use Rattle.plain_disk.specs.Rests.{Rest, stats}
use Rattle.lock_row.specs.declared.names.Held.TheVariants as holds
use Rattle.lock_row.specs.declared.names.State.{State}
use Rattle.slot_entry.specs.Entries.{EntryState}
use Rattle.slot_entry.specs.Forms.{page_weight}
use Rattle.page_steps.specs.Steps.{DiskHeld, Here}
use Rattle.joint_rule.specs.Rule.{owed}
use Rattle.joint_rule.specs.Starts.{AtRest, IsMapOf, Starts}
use Rattle.joint_rule.specs.Ends.{begin_at, account_of}
use Rattle.disk_rest.specs.Rows.{Row, used_at, without_orders, KeepsValues}

-- Each sector has 512 bytes, a blank page has zeros, no page was touched after the time that is set,
-- and chains have a limit that classes know.
pub record IsPlain (r : Rest) : Type 0 where
  pub sectors : (s : ℕ) → IsSector (r.holds s)
  pub blanks : (p k : ℕ) → k < 8 → r.blank p ≡ true → r.holds (8 * p + k) ≡ zero_sector
  pub times : (p : ℕ) → p < r.size → r.touched p ≤ r.set.clock
  pub least : 4 ≤ r.set.chain
  pub most : r.set.chain ≤ 16

-- The row stands for the rest: with empty orders it is one on which a phase may begin, each entry is
-- marked idle as the rest says, each pool has the rest's used cells, the account has counted the rest's
-- statistics, the device is the rest's, and the map has the blocks and the writes that it says.
pub record StandsFor (r : Rest) (row : Row) : Type 0 where
  pub plain : IsPlain r
  pub rest : AtRest (begin_at r []) (without_orders row)
  pub marks : (p : ℕ) (e : EntryState) → slice_get row p ≡ Some (Some (holds.Slot e))
      → e.idle ≡ r.idle p
  pub used : (k : ℕ) → k < 255 → used_at r.size row k ≡ r.used k
  pub account : account_of r.size row ≡ stats page_weight r
  pub device : slice_get row (r.size + 257) ≡ Some (Some (holds.Device r.device))
  pub map : (x : BlockMap) × (slice_get row (r.size + 256) ≡ Some (Some (holds.Blocks x)))
      × IsMapOf (begin_at r []) x

-- A phase of these actors is set up on a row: the values are kept, the orders are empty, with room
-- for the phase's pieces, and no actor has had a turn.
pub record IsSetUp (r : Rest) (actors : List (List Op)) (before : Row) (w : State DiskHeld)
    : Type 0 where
  pub row : KeepsValues before w.row
  pub orders : (k : ℕ) (e : EntryState) → slice_get w.row k ≡ Some (Some (holds.Slot e))
      → (e.order ≡ []) × (owed r.size w.locals k ≤ e.room)
  pub starts : (a : ℕ) (l : Here) → slice_get w.locals a ≡ Some l → Starts (begin_at r actors) a l
  pub count : length w.locals ≡ length actors
