-- The local of an actor after each giving, as functions of the local before: what the call that gives
-- chose stands as an argument.
use Rattle.std.specs.Prelude.{ℕ, List, [], ◌∷◌, Option, Some, None}
use Rattle.zr_base.specs.declared.op.OpEnd.TheVariants as ends
use Rattle.mem_account.specs.declared.weight.Weight.{Weight}
use Rattle.zspage.specs.Cells.{CellState}
use Rattle.class_pool.specs.Pool.{PoolState}
use Rattle.call_history.specs.declared.part.Part.{Part}
use Rattle.call_history.specs.declared.part.PartEnd.{PartEnd}
use Rattle.call_history.specs.declared.part.PartEnd.TheVariants as over
use Rattle.call_history.specs.Shows.{got_from}
use Rattle.lock_row.specs.declared.names.LockNo.{LockNo}
use Rattle.lock_row.specs.declared.names.LockNo.TheVariants as lock
use Rattle.lock_row.specs.declared.names.Held.TheVariants as holds
use Rattle.lock_row.specs.declared.names.At.{At}
use Rattle.lock_row.specs.declared.names.At.TheVariants as at
use Rattle.lock_row.specs.declared.names.Pin.{Pin}
use Rattle.slot_entry.specs.declared.kept.Stored.{Stored}
use Rattle.slot_entry.specs.declared.kept.Kept.{Kept}
use Rattle.slot_entry.specs.declared.kept.Kept.TheVariants as kept
use Rattle.slot_entry.specs.Entries.{EntryState, weight_of}
use Rattle.page_steps.specs.Pages.{page_in, next_form, page_in_cell}
use Rattle.page_steps.specs.Steps.{DiskHeld, Here, slot, entry_in, entry_or, on, piece_over, pinned_at, settle_at, quit_at, entered_at, fetched_at, with_lock}

-- what names the local after an event
abbrev pub Next : Type 0
Next = Here → DiskHeld → Here

-- the locks that are left where the last one is given
abbrev pub tail_of : List (LockNo × DiskHeld) → List (LockNo × DiskHeld)
tail_of [] = []
tail_of (x ∷ xs) = xs

-- the slot of the piece in work, with an entry
abbrev pub slot_by : List Part → EntryState → List (LockNo × DiskHeld)
slot_by [] e = []
slot_by (p ∷ ps) e = (slot p.page, holds.Slot e) ∷ []

-- the entry, which has given its object up
abbrev pub emptied : EntryState → EntryState
emptied e = record e { kept = kept.Empty }

-- the entry that an actor holds
abbrev pub own_entry : Here → EntryState
own_entry l = entry_in l.held

-- ---- ends of pieces

-- the piece in work ends so, and has read this
abbrev pub ending_by : Here → PartEnd → (Part → List (List ℕ)) → List Part → Here
ending_by l end got [] = l
ending_by l end got (p ∷ ps) = piece_over l p end (got p) ps

-- a request beyond the disk was counted
abbrev pub refusing : Next
refusing l v = ending_by l (over.Whole ends.Range) (λ p. []) l.todo

-- a read is over
abbrev pub reading : Next
reading l v =
    ending_by l over.Carried (λ p. got_from (page_in l.page (own_entry l).kept) p) l.todo

-- a piece that changes its page is over
abbrev pub putting : Next
putting l v = ending_by l over.Carried (λ p. []) l.todo

-- the piece ends by its refusal, if it has one
abbrev pub failing_by : Here → Option PartEnd → Here
failing_by l None = l
failing_by l (Some end) = ending_by l end (λ p. []) l.todo

-- a refused piece is over
abbrev pub failing : Next
failing l v = failing_by l l.fail

-- ---- the device

-- the stage of the piece in work once its page was read from the device
abbrev pub fetch_at : List Part → List ℕ → Kept → At
fetch_at [] page k = at.Start
fetch_at (p ∷ ps) page k = fetched_at p.op (next_form p (Some page) k) k

-- the page was read from the device
abbrev pub fetching : List ℕ → Next
fetching page l v =
    on l (fetch_at l.todo page (own_entry l).kept) (tail_of l.held) l.fresh l.pin l.owed l.ahead
    l.behind (Some page) l.fail

-- the device failed, with this count of faults
abbrev pub missing : ℕ → Next
missing fault l v =
    on l at.Failing (tail_of l.held) l.fresh l.pin l.owed l.ahead l.behind l.page
    (Some (over.Eio fault))

-- the failure was counted
abbrev pub counting_failure : Next
counting_failure l v =
    on l at.Missed (tail_of l.held) l.fresh l.pin l.owed l.ahead l.behind l.page l.fail

-- ---- pins

-- the pin of an object's cell
abbrev pub pin_of : Stored → CellState → Pin
pin_of o cell = record {
  class = o.class;
  handle = o.handle.0;
  chain = cell.chain;
  number = cell.number;
  size = cell.size;
  bytes = cell.bytes;
}

-- the stage of the piece in work once its page was read
abbrev pub pin_at : List Part → List ℕ → Kept → At
pin_at [] page k = at.Start
pin_at (p ∷ ps) page k = pinned_at p.op (next_form p (Some page) k) k

-- an object's cell was lent, in which the page is read
abbrev pub pinning : Stored → CellState → Next
pinning o cell l v =
    on l (pin_at l.todo (page_in_cell o cell) (own_entry l).kept) (tail_of l.held) l.fresh
    (Some (pin_of o cell)) l.owed l.ahead l.behind (Some (page_in_cell o cell)) l.fail

-- the cell is back
abbrev pub unpinning : Next
unpinning l v =
    on l at.Leaving (tail_of l.held) l.fresh None l.owed l.ahead l.behind l.page l.fail

-- ---- objects

-- a new object was made, in a pool that is then so
abbrev pub charging : ℕ → ℕ → List ℕ → PoolState → Next
charging class handle bytes pool l v =
    on l at.Made ((lock.Class class, holds.Class pool) ∷ slot_by l.todo (own_entry l))
    (Some (record { class = class; handle = handle; bytes = bytes }))
    l.pin l.owed l.ahead l.behind l.page l.fail

-- none was made
abbrev pub denying : PartEnd → Next
denying end l v =
    on l at.Made (tail_of l.held) l.fresh l.pin l.owed l.ahead l.behind l.page (Some end)

-- the class of the new object is given
abbrev pub stowing : Next
stowing l v =
    on l (settle_at (own_entry l).kept) (tail_of l.held) l.fresh l.pin l.owed l.ahead l.behind l.page
    l.fail

-- the class in which none was made is given
abbrev pub quitting : Next
quitting l v =
    on l (quit_at l.pin) (tail_of l.held) l.fresh l.pin l.owed l.ahead l.behind l.page l.fail

-- the old object is gone, with so many frames, or the block, with none
abbrev pub freeing : ℕ → Next
freeing frames l v =
    on l at.Owing (slot_by l.todo (emptied (own_entry l))) l.fresh None frames
    (Some (weight_of (own_entry l).kept)) l.behind l.page l.fail

-- the page is counted with this weight
abbrev pub repaying : Weight → Next
repaying w l v =
    on l at.Ready (tail_of l.held) l.fresh l.pin 0 (Some w) (Some (weight_of (own_entry l).kept))
    l.page l.fail

-- ---- the first taking

-- the stage of a piece on the disk with its slot
abbrev pub enter_at : List Part → Option (List ℕ) → Kept → At
enter_at [] page k = at.Start
enter_at (p ∷ ps) page k = entered_at p.op p.page (next_form p page k) k

-- the slot of the piece in work
abbrev pub enter_lock : List Part → LockNo
enter_lock [] = lock.Account
enter_lock (p ∷ ps) = slot p.page

-- a piece on the disk takes its slot
abbrev pub entering : Next
entering l v =
    with_lock l (enter_at l.todo l.page (entry_or v (own_entry l)).kept) (enter_lock l.todo) v
