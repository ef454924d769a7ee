-- A disk's row with its values at home: what it tells of each page and of each class.
use Rattle.std.specs.Prelude.{◌≡◌, ℕ, ◌+◌, ◌<◌, List, [], map, length, Option, Some, None, slice_get}
use Rattle.zr_base.specs.declared.op.Tag.{Tag}
use Rattle.plain_disk.specs.Phases.{nth_order}
use Rattle.lock_row.specs.declared.names.Held.TheVariants as holds
use Rattle.lock_row.specs.declared.names.State.{State}
use Rattle.slot_entry.specs.Entries.{EntryState}
use Rattle.page_steps.specs.Steps.{DiskHeld, Here}
use Rattle.joint_rule.specs.Ends.{order_in, value_at, used_in}

-- the values of a disk's locks, by their places
abbrev pub Row : Type 0
Row = List (Option DiskHeld)

-- the order of a page
abbrev pub order_at : Row → ℕ → List Tag
order_at row p = order_in (value_at row p)

-- how many cells of each zspage are used, in the pool of class k on a disk of so many pages
abbrev pub used_at : ℕ → Row → ℕ → List ℕ
used_at size row k = used_in (value_at row (size + k))

-- a value of which an entry's order is taken as empty
abbrev pub without_calls : DiskHeld → DiskHeld
without_calls (holds.Slot e) =
    holds.Slot (record e { order = []; room = 0 })
without_calls (holds.Class x) = holds.Class x
without_calls (holds.Account x) = holds.Account x
without_calls (holds.Blocks x) = holds.Blocks x
without_calls (holds.Device x) = holds.Device x

-- the same of what a place of the row has at home
abbrev pub cell_without_calls : Option DiskHeld → Option DiskHeld
cell_without_calls None = None
cell_without_calls (Some v) = Some (without_calls v)

-- a row of which every order is taken as empty
abbrev pub without_orders : Row → Row
without_orders row = map cell_without_calls row

-- ---- a finished phase

-- no actor has a piece left
abbrev pub NoPieceLeft : State DiskHeld → Type 0
NoPieceLeft w = (a : ℕ) (l : Here) → slice_get w.locals a ≡ Some l → l.todo ≡ []

-- the orders are those of the entries of so many pages
pub record AreOrders (size : ℕ) (row : Row) (orders : List (List Tag)) : Type 0 where
  pub long : length orders ≡ size
  pub each : (p : ℕ) → p < size → nth_order orders p ≡ order_at row p

-- ---- between two phases

-- the value is as before, but for an entry's order
abbrev pub IsKept : DiskHeld → DiskHeld → Type 0
IsKept (holds.Slot e) u =
    (f : EntryState) × (u ≡ holds.Slot f) × (f ≡ record e { order = f.order; room = f.room })
IsKept (holds.Class x) u = u ≡ holds.Class x
IsKept (holds.Account x) u = u ≡ holds.Account x
IsKept (holds.Blocks x) u = u ≡ holds.Blocks x
IsKept (holds.Device x) u = u ≡ holds.Device x

-- Each value of a row is as before, but for the orders.
pub record KeepsValues (before after : Row) : Type 0 where
  pub size : length after ≡ length before
  pub each : (k : ℕ) (v : DiskHeld) → slice_get before k ≡ Some (Some v)
      → (u : DiskHeld) × (slice_get after k ≡ Some (Some u)) × IsKept v u
