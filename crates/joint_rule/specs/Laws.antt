-- What the rule of pages, pools and the account gives: statements that the laws claim.
use Rattle.std.specs.Prelude.{◌≡◌, ℕ, ◌+◌, ◌*◌, ◌<◌, ◌≤◌, Bool, true, false, List, [], ◌∷◌, length, Option, Some, None, slice_get, ⊤}
use Rattle.zr_base.specs.declared.op.Op.{Op}
use Rattle.zr_base.specs.Plain.{zero_sector, IsSector}
use Rattle.mem_account.specs.Counters.{no_counts}
use Rattle.backing_dev.specs.Dev.{DeviceState}
use Rattle.plain_disk.specs.Rests.{Settings, Rest, stats}
use Rattle.plain_disk.specs.Phases.{begun, bounds, foreign, FindsHeld}
use Rattle.plain_disk.specs.Legal.{sets}
use Rattle.plain_disk.specs.Legal.{IsNew as IsNewDisk}
use Rattle.class_pool.specs.Pool.{PoolState, objects}
use Rattle.call_history.specs.declared.part.Part.{Part}
use Rattle.plain_disk.specs.Ends.{left_back}
use Rattle.call_history.specs.Parts.{dones_sum}
use Rattle.call_history.specs.Histories.{Agree}
use Rattle.call_history.specs.Tallies.{Tallies}
use Rattle.lock_row.specs.declared.names.LockNo.{LockNo}
use Rattle.lock_row.specs.declared.names.LockNo.TheVariants as lock
use Rattle.lock_row.specs.declared.names.Held.TheVariants as holds
use Rattle.lock_row.specs.declared.names.At.TheVariants.{Visiting, Moving}
use Rattle.lock_row.specs.declared.names.Step.{Step}
use Rattle.lock_row.specs.declared.names.Step.TheVariants as step
use Rattle.lock_row.specs.declared.names.Trip.{Trip}
use Rattle.lock_row.specs.declared.names.Compaction.{Compaction}
use Rattle.lock_row.specs.declared.names.Plan.TheVariants.{Finished, Take, Give}
use Rattle.lock_row.specs.declared.names.State.{State}
use Rattle.lock_row.specs.Machine.{Turn, Reached}
use Rattle.lock_row.specs.Totals.{total}
use Rattle.slot_entry.specs.Entries.{EntryState}
use Rattle.slot_entry.specs.Forms.{page_weight}
use Rattle.page_steps.specs.Steps.{DiskHeld, Here, spot, entry_in, plan, took}
use Rattle.page_steps.specs.Givings.{Works}
use Rattle.page_steps.specs.Fits.{StageFits}
use Rattle.joint_rule.specs.Begins.{Begin, content, finding, FindsRight, terms, ground_of, AreRequests, IsRoomy, Proper}
use Rattle.joint_rule.specs.Weights.{none, stored, each_one, stored_at}
use Rattle.joint_rule.specs.Rule.{Rule}
use Rattle.joint_rule.specs.Starts.{AtRest, IsStart, IsRenewed, Renewed, Matched, IsNextDisk, IsNew}
use Rattle.joint_rule.specs.Ends.{begin_at, AllFinished, orders_of, histories, account_of, rest_after, new_rest}

-- ---- turns

module _ (g : Begin) where
  -- a turn of an actor of a phase
  abbrev pub OneTurn : ℕ → State DiskHeld → State DiskHeld → Type 0
  OneTurn = Turn (spot g.given.size) (plan (terms g)) (took (terms g)) (Works (terms g))

  -- turns lead from the first state to the second
  abbrev pub IsReached : State DiskHeld → State DiskHeld → Type 0
  IsReached = Reached (spot g.given.size) (plan (terms g)) (took (terms g)) (Works (terms g))

-- the state before the first turn has the rule
abbrev pub StartHasRule : Type 0
StartHasRule = (g : Begin) (w : State DiskHeld) → Proper g → IsStart g w → Rule g w

-- each turn keeps it
abbrev pub TurnKeepsRule : Type 0
TurnKeepsRule = (g : Begin) (a : ℕ) (w n : State DiskHeld) → Proper g → Rule g w → OneTurn g a w n
    → Rule g n

-- each state that is reached has it
abbrev pub ReachedHasRule : Type 0
ReachedHasRule = (g : Begin) (u w : State DiskHeld) → Proper g → Rule g u → IsReached g u w
    → Rule g w

-- Some actor can move: it takes a lock whose value is at home, or it gives one back.
pub data CanMove (g : Begin) (w : State DiskHeld) : Type 0 where
  takes : (a : ℕ) (l : Here) (k : LockNo) (v : DiskHeld) → slice_get w.locals a ≡ Some l
      → plan (terms g) l ≡ Take k → slice_get w.row (spot g.given.size k) ≡ Some (Some v)
      → CanMove g w
  gives : (a : ℕ) (l : Here) (k : LockNo) → slice_get w.locals a ≡ Some l
      → plan (terms g) l ≡ Give k → slice_get w.row (spot g.given.size k) ≡ Some None
      → CanMove g w

-- where some actor isn't finished, some actor can move
abbrev pub NobodyWaitsForever : Type 0
NobodyWaitsForever = (g : Begin) (w : State DiskHeld) (a : ℕ) (l : Here) → Proper g → Rule g w
    → slice_get w.locals a ≡ Some l → (plan (terms g) l ≡ Finished → ⊥) → CanMove g w

-- ---- locks

-- the lock is one of a disk of so many pages
abbrev pub IsLock : ℕ → LockNo → Type 0
IsLock size (lock.Slot page) = page.0 < size
IsLock size (lock.Class c) = c < 255
IsLock size lock.Account = ⊤
IsLock size lock.Blocks = ⊤
IsLock size lock.Device = ⊤

-- what an actor takes next is a lock of the disk
abbrev pub TakesLock : Type 0
TakesLock = (g : Begin) (w : State DiskHeld) (a : ℕ) (l : Here) (k : LockNo) → Proper g → Rule g w
    → slice_get w.locals a ≡ Some l → plan (terms g) l ≡ Take k → IsLock g.given.size k

-- so is what it gives next, and that is out
abbrev pub GivesLock : Type 0
GivesLock = (g : Begin) (w : State DiskHeld) (a : ℕ) (l : Here) (k : LockNo) → Proper g → Rule g w
    → slice_get w.locals a ≡ Some l → plan (terms g) l ≡ Give k
    → IsLock g.given.size k × (slice_get w.row (spot g.given.size k) ≡ Some None)

-- ---- values

-- the value that an actor's next taking takes fits the actor's stage
abbrev pub TakenValueFits : Type 0
TakenValueFits = (g : Begin) (w : State DiskHeld) (a : ℕ) (l : Here) (k : LockNo) (v : DiskHeld)
    → Proper g → Rule g w → slice_get w.locals a ≡ Some l → plan (terms g) l ≡ Take k
    → slice_get w.row (spot g.given.size k) ≡ Some (Some v)
    → StageFits (terms g) l v

-- there are at most as many live objects as pages and actors
abbrev pub ObjectsAreFew : Type 0
ObjectsAreFew = (g : Begin) (w : State DiskHeld) → Rule g w
    → total (spot g.given.size) (stored each_one) none w ≤ g.given.size + length w.locals

-- a compaction that holds a class is at one of the disk's, which has no more objects than there are
-- pages and actors
abbrev pub CompactedIsFew : Type 0
CompactedIsFew = (g : Begin) (w : State DiskHeld) (a : ℕ) (l : Here) (p : Part) (rest : List Part)
    (x : Compaction) (q : PoolState) → Rule g w → slice_get w.locals a ≡ Some l
    → l.todo ≡ p ∷ rest → l.at ≡ Moving x → l.held ≡ (lock.Class x.class, holds.Class q) ∷ []
    → (x.class < 255) × (length (objects q) ≤ g.given.size + length w.locals)

-- ---- writebacks

-- whether a writeback has found its mark, and hasn't given its slot yet
abbrev pub has_won : Step → Bool
has_won step.Won = true
has_won step.Freeing = true
has_won step.Backing = true
has_won step.Committing = true
has_won step.Owing = true
has_won step.Paying = true
has_won step.Putting = true
has_won s = false

-- where a writeback has found its mark, the page that it carries is what its page holds now, whatever
-- events came since it was marked: committing it leaves the content as it was
abbrev pub CommitKeepsPage : Type 0
CommitKeepsPage = (g : Begin) (w : State DiskHeld) (a : ℕ) (l : Here) (s : Step) (x : Trip)
    (page : List ℕ) → (u : Rule g w) → slice_get w.locals a ≡ Some l → l.at ≡ Visiting s x
    → has_won s ≡ true → l.page ≡ Some page
    → page ≡ content (finding g u.finds) x.page (entry_in l.held).order

-- and its block of the device has that page, if the device tells what it has
abbrev pub CommitHasBlock : Type 0
CommitHasBlock = (g : Begin) (w : State DiskHeld) (a : ℕ) (l : Here) (s : Step) (x : Trip) (b : ℕ)
    (page : List ℕ) → Rule g w → slice_get w.locals a ≡ Some l → l.at ≡ Visiting s x
    → has_won s ≡ true → x.block ≡ Some b → l.page ≡ Some page
    → 0 < total (spot g.given.size) (stored_at b page) none w

-- where it has written its page and its mark is gone, another actor's tag is in the page's order
abbrev pub LostHasOther : Type 0
LostHasOther = (g : Begin) (w : State DiskHeld) (a : ℕ) (l : Here) (x : Trip) → Rule g w
    → slice_get w.locals a ≡ Some l → l.at ≡ Visiting step.Losing x → l.fail ≡ None
    → 1 ≤ foreign a (entry_in l.held).order

-- ---- finished phases

-- where all actors are finished, all values are at home, and the account's numbers are sums over
-- pools and entries
abbrev pub FinishedIsAtRest : Type 0
FinishedIsAtRest = (g : Begin) (w : State DiskHeld) (x : Rule g w) → AllFinished g w
    → AtRest (finding g x.finds) w.row

-- the histories of the actors then agree with the orders of the pages
abbrev pub FinishedAgrees : Type 0
FinishedAgrees = (r : Rest) (actors : List (List Op)) (w : State DiskHeld)
    → Proper (begin_at r actors) → (x : Rule (begin_at r actors) w)
    → AllFinished (begin_at r actors) w
    → Agree (ground_of (begin_at r actors))
    (bounds page_weight r (begun r actors x.finds) (orders_of r.size w.row)
    (rest_after r actors x.finds w.row).device.faults (dones_sum left_back (histories w.locals)))
    (begun r actors x.finds) (histories w.locals) (orders_of r.size w.row)

-- and their calls have found what is held, over an honest device and where their page isn't on it
abbrev pub FinishedFinds : Type 0
FinishedFinds = (r : Rest) (actors : List (List Op)) (w : State DiskHeld)
    → Proper (begin_at r actors) → (x : Rule (begin_at r actors) w)
    → AllFinished (begin_at r actors) w
    → FindsHeld r actors (orders_of r.size w.row) x.finds

-- and the account has counted what the pages of the rest, the orders and the histories say
abbrev pub FinishedTallies : Type 0
FinishedTallies = (r : Rest) (actors : List (List Op)) (w : State DiskHeld)
    → Proper (begin_at r actors) → (x : Rule (begin_at r actors) w)
    → AllFinished (begin_at r actors) w
    → Tallies page_weight r (begun r actors x.finds) (histories w.locals) (orders_of r.size w.row)
    (account_of r.size w.row) (rest_after r actors x.finds w.row)

-- a rest with emptied orders, or another limit, is one of the phase after
abbrev pub RestGoesOn : Type 0
RestGoesOn = (g h : Begin) (xs ys : List (Option DiskHeld)) → IsNextDisk g h
    → Matched (Renewed g h) xs ys → AtRest g xs → AtRest h ys

-- an entry whose order is emptied is one of the phase after, whatever is set then
abbrev pub EntryGoesOn : Type 0
EntryGoesOn = (r : Rest) (actors more : List (List Op)) (set : Settings) (w : State DiskHeld)
    (j : ℕ) (e f : EntryState)
    → Proper (begin_at r actors) → (x : Rule (begin_at r actors) w)
    → AllFinished (begin_at r actors) w
    → slice_get w.row j ≡ Some (Some (holds.Slot e)) → f.kept ≡ e.kept → f.order ≡ []
    → f.under ≡ e.under → f.idle ≡ e.idle → f.touched ≡ e.touched
    → IsRenewed (finding (begin_at r actors) x.finds)
    (begin_at (sets (rest_after r actors x.finds w.row) set) more) j e f

-- and what is known of a phase is known of the phase after, where its time isn't before
abbrev pub NextIsProper : Type 0
NextIsProper = (r : Rest) (actors more : List (List Op)) (set : Settings) (w : State DiskHeld)
    → Proper (begin_at r actors) → (x : Rule (begin_at r actors) w)
    → AllFinished (begin_at r actors) w
    → AreRequests more
    → IsRoomy (begin_at (sets (rest_after r actors x.finds w.row) set) more)
    → r.set.clock ≤ set.clock
    → Proper (begin_at (sets (rest_after r actors x.finds w.row) set) more)

-- ---- new disks

-- a row of which nothing was ever written is at rest
abbrev pub NewIsAtRest : Type 0
NewIsAtRest = (g : Begin) (row : List (Option DiskHeld)) → length row ≡ g.given.size + 258
    → ((k : ℕ) → k < length row → (v : DiskHeld) × (slice_get row k ≡ Some (Some v)))
    → ((k : ℕ) (v : DiskHeld) → slice_get row k ≡ Some (Some v) → IsNew g k v)
    → AtRest g row

-- what is known of a phase comes from what its sectors hold before it, from when its pages were
-- touched, and from its requests
abbrev pub RequestsAreProper : Type 0
RequestsAreProper = (g : Begin) → AreRequests g.given.actors → FindsRight g
    → ((s : ℕ) → IsSector (g.given.before s))
    → ((p k : ℕ) → k < 8 → g.blank p ≡ true → g.given.before (8 * p + k) ≡ zero_sector)
    → ((p : ℕ) → p < g.given.size → g.touched p ≤ g.clock) → IsRoomy g → Proper g

-- the first phase on a new disk
abbrev pub NewIsProper : Type 0
NewIsProper = (n : ℕ) (set : Settings) (device : DeviceState) (actors : List (List Op))
    → AreRequests actors → IsRoomy (begin_at (new_rest n set device) actors)
    → Proper (begin_at (new_rest n set device) actors)

-- the account of a new disk has counted nothing
abbrev pub NewCountsNothing : Type 0
NewCountsNothing = (n : ℕ) (set : Settings) (device : DeviceState)
    → stats page_weight (new_rest n set device) ≡ record no_counts { limit = set.limit }

-- the rest of a new disk is one
abbrev pub NewIsNew : Type 0
NewIsNew = (r : Rest) (n : ℕ) → IsNewDisk r n (new_rest n r.set r.device)
