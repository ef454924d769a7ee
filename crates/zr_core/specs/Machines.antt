-- The states of a phase: its start, its end, and what it prints.
use Rattle.std.specs.Prelude.{◌≡◌, ℕ, zero, suc, ◌≤◌, Bool, List, [], ◌++◌, map, length, get_or, Option, Some, None, slice_get}
use Rattle.std.specs.List.{range_with_len}
use Rattle.zr_base.specs.declared.op.Tag.{Tag}
use Rattle.zr_base.specs.declared.op.Op.{Op}
use Rattle.plain_disk.specs.Output.{OutLine, phase_lines}
use Rattle.call_history.specs.declared.part.Done.{Done}
use Rattle.call_history.specs.Parts.{program}
use Rattle.call_history.specs.Histories.{ends_each, told_each}
use Rattle.lock_row.specs.declared.names.Held.TheVariants as holds
use Rattle.lock_row.specs.declared.names.At.TheVariants.{Start}
use Rattle.lock_row.specs.declared.names.State.{State}
use Rattle.lock_row.specs.Machine.{Turn, Run, Reached}
use Rattle.slot_entry.specs.Entries.{EntryState}
use Rattle.page_steps.specs.Steps.{Terms, DiskHeld, Here, spot, plan, took}
use Rattle.page_steps.specs.Givings.{Works}
use Rattle.joint_rule.specs.Rule.{owed}

-- ---- turns

-- a turn of an actor
abbrev pub OneTurn : Terms → ℕ → State DiskHeld → State DiskHeld → Type 0
OneTurn t = Turn (spot t.size) (plan t) (took t) (Works t)

-- these turns, one after the other
abbrev pub Turns : Terms → List ℕ → State DiskHeld → State DiskHeld → Type 0
Turns t = Run (spot t.size) (plan t) (took t) (Works t)

-- some turns lead from the first state to the second
abbrev pub IsReached : Terms → State DiskHeld → State DiskHeld → Type 0
IsReached t = Reached (spot t.size) (plan t) (took t) (Works t)

-- no actor has a piece left
abbrev pub AllFinished : State DiskHeld → Type 0
AllFinished w = (a : ℕ) (l : Here) → slice_get w.locals a ≡ Some l → l.todo ≡ []

-- the turns of rounds in which each of n actors has one
abbrev pub rounds_of : ℕ → ℕ → List ℕ
rounds_of n zero = []
rounds_of n (suc r) = range_with_len 0 n ++ rounds_of n r

-- ---- orders

-- the order that a place of the row has at home
abbrev pub order_in : Option DiskHeld → List Tag
order_in None = []
order_in (Some (holds.Slot e)) = e.order
order_in (Some (holds.Class q)) = []
order_in (Some (holds.Account c)) = []
order_in (Some (holds.Blocks x)) = []
order_in (Some (holds.Device x)) = []

-- the order of a page that is at home
abbrev pub order_at : List (Option DiskHeld) → ℕ → List Tag
order_at row page = order_in (get_or row page None)

-- the orders of all pages
abbrev pub orders_of : ℕ → List (Option DiskHeld) → List (List Tag)
orders_of size row = map (order_at row) (range_with_len 0 size)

-- a value of which an entry's order is taken as empty
abbrev pub without_calls : DiskHeld → DiskHeld
without_calls (holds.Slot e) =
    holds.Slot (record e { order = []; room = 0 })
without_calls (holds.Class q) = holds.Class q
without_calls (holds.Account c) = holds.Account c
without_calls (holds.Blocks x) = holds.Blocks x
without_calls (holds.Device x) = holds.Device x

-- the same of what a place of the row has at home
abbrev pub cell_without_calls : Option DiskHeld → Option DiskHeld
cell_without_calls None = None
cell_without_calls (Some v) = Some (without_calls v)

-- a row of which every order is taken as empty
abbrev pub without_orders : List (Option DiskHeld) → List (Option DiskHeld)
without_orders row = map cell_without_calls row

-- the value is as before, but for an entry's order
abbrev pub IsKept : DiskHeld → DiskHeld → Type 0
IsKept (holds.Slot e) u =
    (f : EntryState) × (u ≡ holds.Slot f) × (f ≡ record e { order = f.order; room = f.room })
IsKept (holds.Class q) u = u ≡ holds.Class q
IsKept (holds.Account c) u = u ≡ holds.Account c
IsKept (holds.Blocks x) u = u ≡ holds.Blocks x
IsKept (holds.Device x) u = u ≡ holds.Device x

-- Each value of a row is as before, but for the orders.
pub record KeepsValues (before after : List (Option DiskHeld)) : Type 0 where
  pub size : length after ≡ length before
  pub each : (k : ℕ) (v : DiskHeld) → slice_get before k ≡ Some (Some v)
      → (u : DiskHeld) × (slice_get after k ≡ Some (Some u)) × IsKept v u

-- ---- starts

-- An actor before its first turn, on a disk that has a backing or none.
pub record Begins (size : ℕ) (backed : Bool) (actors : List (List Op)) (a : ℕ) (l : Here)
    : Type 0 where
  pub who : l.actor ≡ a
  pub ops : List Op
  pub named : slice_get actors a ≡ Some ops
  pub at : l.at ≡ Start
  pub todo : l.todo ≡ program size backed 0 ops
  pub held : l.held ≡ []
  pub done : l.done ≡ []
  pub fresh : l.fresh ≡ None
  pub pin : l.pin ≡ None
  pub owed : l.owed ≡ 0
  pub ahead : l.ahead ≡ None
  pub behind : l.behind ≡ None
  pub page : l.page ≡ None
  pub fail : l.fail ≡ None

-- A phase of these actors is set up on a row: every order is empty and has room for the phase's
-- pieces, all else is as the row had it, and no actor has had a turn.
pub record IsSetUp (size : ℕ) (backed : Bool) (actors : List (List Op))
    (before : List (Option DiskHeld)) (w : State DiskHeld) : Type 0 where
  pub row : KeepsValues before w.row
  pub orders : (k : ℕ) (e : EntryState) → slice_get w.row k ≡ Some (Some (holds.Slot e))
      → (e.order ≡ []) × (owed size w.locals k ≤ e.room)
  pub count : length w.locals ≡ length actors
  pub begin : (a : ℕ) (l : Here) → slice_get w.locals a ≡ Some l
      → Begins size backed actors a l

-- ---- what a phase prints

-- what is over of each actor
abbrev pub histories : List Here → List (List Done)
histories ls = map (λ (l : Here). l.done) ls

-- what is printed of a state in which all actors are finished
abbrev pub printed : ℕ → Bool → List (List Op) → State DiskHeld → List OutLine
printed size backed actors w =
    phase_lines (ends_each backed actors (histories w.locals))
    (told_each actors (histories w.locals))
    (orders_of size w.row)

-- A phase of these actors, set up on a row, makes these turns, after which all actors are finished:
-- what it prints, and the row that it leaves.
pub record PhaseSteps (t : Terms) (backed : Bool) (actors : List (List Op))
    (before : List (Option DiskHeld)) (turns : List ℕ) (lines : List OutLine)
    (after : List (Option DiskHeld)) : Type 0 where
  pub start : State DiskHeld
  pub last : State DiskHeld
  pub is_set_up : IsSetUp t.size backed actors before start
  pub run : Turns t turns start last
  pub finished : AllFinished last
  pub prints : lines ≡ printed t.size backed actors last
  pub leaves : after ≡ last.row
