-- What a finished phase leaves: the orders of its pages, the histories of its actors, and the rest
-- of the plain disk.
use Rattle.std.specs.Prelude.{◌≡◌, ℕ, ◌+◌, ◌/◌, Bool, true, false, List, [], map, get_or, Option, Some, None, slice_get}
use Rattle.std.specs.List.{range_with_len}
use Rattle.zr_base.specs.declared.op.Tag.{Tag}
use Rattle.zr_base.specs.declared.op.Op.{Op}
use Rattle.zr_base.specs.Plain.{Finds, as_held, zero_sector}
use Rattle.mem_account.specs.Counters.{Counters, no_counts}
use Rattle.backing_dev.specs.Dev.{DeviceState}
use Rattle.plain_disk.specs.Calls.{after_all}
use Rattle.plain_disk.specs.Compactions.{are_tight}
use Rattle.plain_disk.specs.Rests.{Settings, Rest, page_of, stats, nothing_yet, so_far_of}
use Rattle.plain_disk.specs.Phases.{Given, calls_on, begun, held_after, nth_order, touched_by}
use Rattle.call_history.specs.declared.part.Done.{Done}
use Rattle.lock_row.specs.declared.names.Held.TheVariants as holds
use Rattle.lock_row.specs.declared.names.Plan.TheVariants.{Finished}
use Rattle.lock_row.specs.declared.names.State.{State}
use Rattle.slot_entry.specs.Forms.{page_weight}
use Rattle.page_steps.specs.Steps.{DiskHeld, Here, plan}
use Rattle.joint_rule.specs.Begins.{Begin, terms}
use Rattle.joint_rule.specs.Weights.{used_each}
use Rattle.slot_entry.specs.Entries.{is_wb}

-- a phase of these actors begins at a rest of the plain disk; its calls find what is held
abbrev pub begin_at : Rest → List (List Op) → Begin
begin_at r actors = record {
  given = begun r actors (λ p. as_held);
  blank = r.blank;
  back = r.back;
  idle = r.idle;
  touched = r.touched;
  chain = r.set.chain;
  clock = r.set.clock;
  was = stats page_weight r;
  device = r.device;
  blocks = r.set.backing;
  budget = r.set.budget;
  budgeted = r.set.budgeted;
  tight = are_tight r.set.chain r.used;
}

-- all actors are finished
abbrev pub AllFinished : Begin → State DiskHeld → Type 0
AllFinished g w = (a : ℕ) (l : Here) → slice_get w.locals a ≡ Some l → plan (terms g) l ≡ Finished

-- the order of the entry at a place
abbrev pub order_in : Option DiskHeld → List Tag
order_in (Some (holds.Slot e)) = e.order
order_in _ = []

-- whether the page of the entry at a place is on the device
abbrev pub back_in : Option DiskHeld → Bool
back_in (Some (holds.Slot e)) = is_wb e.kept
back_in _ = false

-- whether the page of the entry at a place is marked idle
abbrev pub idle_in : Option DiskHeld → Bool
idle_in (Some (holds.Slot e)) = e.idle
idle_in _ = false

-- the value at home at a place
abbrev pub value_at : List (Option DiskHeld) → ℕ → Option DiskHeld
value_at row k = get_or row k None

-- the orders of all pages
abbrev pub orders_of : ℕ → List (Option DiskHeld) → List (List Tag)
orders_of size row = map (λ p. order_in (value_at row p)) (range_with_len 0 size)

-- the pieces of all actors that are over
abbrev pub histories : List Here → List (List Done)
histories ls = map (λ (l : Here). l.done) ls

-- those of the pool at a place
abbrev pub used_in : Option DiskHeld → List ℕ
used_in (Some (holds.Class p)) = used_each p.zspages
used_in _ = []

-- the account at a place
abbrev pub account_in : Option DiskHeld → Counters
account_in (Some (holds.Account c)) = c
account_in _ = no_counts

-- the account of a disk of so many pages
abbrev pub account_of : ℕ → List (Option DiskHeld) → Counters
account_of size row = account_in (value_at row (size + 255))

-- the device at a place, or this one where there is none
abbrev pub device_in : DeviceState → Option DiskHeld → DeviceState
device_in d (Some (holds.Device e)) = e
device_in d _ = d

-- the device of a disk of so many pages
abbrev pub device_of : DeviceState → ℕ → List (Option DiskHeld) → DeviceState
device_of d size row = device_in d (value_at row (size + 257))

-- how many writes the map at a place has left, or this many where there is none
abbrev pub budget_in : ℕ → Option DiskHeld → ℕ
budget_in n (Some (holds.Blocks x)) = x.budget
budget_in n _ = n

-- The rest of the plain disk after a phase with these orders: pages by the calls, marks, which are on
-- the device, pools, counters, the device and the writes that are left by the row.
abbrev pub rest_by : Rest → Given → List (List Tag) → List (Option DiskHeld) → Rest
rest_by r g orders row = record {
  size = r.size;
  holds = λ s. held_after g (s / 8) (nth_order orders (s / 8)) s;
  blank = λ p. (after_all (calls_on g p) (page_of r p) (nth_order orders p)).blank;
  back = λ p. back_in (value_at row p);
  idle = λ p. idle_in (value_at row p);
  touched = λ p. touched_by (nth_order orders p) r.set.clock (r.touched p);
  used = λ k. used_in (value_at row (r.size + k));
  most = (account_of r.size row).most;
  device = device_of r.device r.size row;
  set = record r.set { budget = budget_in r.set.budget (value_at row (r.size + 256)) };
  so_far = so_far_of (account_of r.size row);
}

-- the rest that a phase leaves on a row, whose calls found so much
abbrev pub rest_after : Rest → List (List Op) → (ℕ → Finds) → List (Option DiskHeld) → Rest
rest_after r actors finds row = rest_by r (begun r actors finds) (orders_of r.size row) row

-- the rest of a new disk of so many pages, over this device
abbrev pub new_rest : ℕ → Settings → DeviceState → Rest
new_rest n set device = record {
  size = n;
  holds = λ s. zero_sector;
  blank = λ p. true;
  back = λ p. false;
  idle = λ p. false;
  touched = λ p. 0;
  used = λ k. [];
  most = 0;
  device = device;
  set = set;
  so_far = nothing_yet;
}
