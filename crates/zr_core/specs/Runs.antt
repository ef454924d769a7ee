-- Runs of a world, and the events that are left.
use Rattle.std.specs.Prelude.{◌≡◌, ◌⊎◌, ◌≢◌, ℕ, ◌+◌, ◌-◌, ◌*◌, ◌<◌, ◌≤◌, List, [], ◌∷◌, ◌++◌, length, map, replicate, Some, unwrap_or, slice_get}
use Rattle.std.specs.List.{flat_map, range_with_len}
use Rattle.zr_base.specs.declared.op.Op.{Op}
use Rattle.zr_base.specs.declared.op.Turns.{Turns}
use Rattle.zr_base.specs.declared.op.Op.TheVariants.{Idle, Writeback, Compact}
use Rattle.call_history.specs.declared.part.Part.{Part}
use Rattle.call_history.specs.declared.part.Done.{Done}
use Rattle.class_pool.specs.Pool.{PoolState, objects}
use Rattle.lock_row.specs.declared.names.LockNo.{LockNo}
use Rattle.lock_row.specs.declared.names.LockNo.TheVariants as lock
use Rattle.lock_row.specs.declared.names.Held.TheVariants as holds
use Rattle.lock_row.specs.declared.names.At.{At}
use Rattle.lock_row.specs.declared.names.At.TheVariants.{Start, Refusing, Seen, Pinning, Pinned, Unpinning, Leaving, Away, Fetching, Failing, Counting, Missed, Wanting, Inside, Both, Made, Old, Freeing, Backed, Releasing, Owing, Giving, Ready, Scanning, Marking, Visiting, Sweeping, Moving, Shrunk, Shrinking}
use Rattle.lock_row.specs.declared.names.Scan.{Scan}
use Rattle.lock_row.specs.declared.names.Compaction.{Compaction}
use Rattle.lock_row.specs.declared.names.Step.{Step}
use Rattle.lock_row.specs.declared.names.Step.TheVariants as step
use Rattle.lock_row.specs.declared.names.Trip.{Trip}
use Rattle.lock_row.specs.declared.names.Plan.TheVariants.{Finished, Take}
use Rattle.lock_row.specs.declared.names.State.{State}
use Rattle.lock_row.specs.Totals.{locals_sum}
use Rattle.page_steps.specs.Steps.{Terms, DiskHeld, Here, spot, plan}
use Rattle.actor_steps.specs.declared.worker.Worker.{Worker}
use Rattle.zr_core.specs.Machines.{Turns as Makes, rounds_of, AllFinished}
use Rattle.zr_core.specs.States.{HasKept, Playing, state_of, CanGoOn}

-- the turns of a schedule, one after the other
abbrev pub turns_of : List Turns → List ℕ
turns_of schedule = flat_map (λ t. replicate t.times t.actor) schedule

-- these turns lead from the state that was to one that is, whatever was over before
abbrev pub GoesBy : {D : Type 0} → List ℕ → Playing D → Playing D → List (List Done) → Type 0
GoesBy turns x y dones = (dones' : List (List Done)) × HasKept y dones'
    × Makes x.terms turns (state_of x dones) (state_of y dones')

-- the schedule's turns, and then rounds until all actors are finished
abbrev pub RunsOut : {D : Type 0} → List ℕ → Playing D → Playing D → List (List Done) → Type 0
RunsOut turns x y dones = (rounds : ℕ) × (dones' : List (List Done)) × HasKept y dones'
    × Makes x.terms (turns ++ rounds_of (length x.actors) rounds) (state_of x dones)
    (state_of y dones')
    × AllFinished (state_of y dones')

-- The phase goes on by these turns, and can go on.
pub record Plays {D : Type 0} (turns : List ℕ) (x y : Playing D) : Type 0 where
  pub same : y.terms ≡ x.terms
  pub limit : y.limit ≡ x.limit
  pub backed : y.backed ≡ x.backed
  pub spare : y.spare ≡ x.spare
  pub can : CanGoOn y
  pub goes : (dones : List (List Done)) → HasKept x dones → GoesBy turns x y dones

-- some actor isn't finished
pub record IsBusy {D : Type 0} (actors : List (List Op)) (ws : List (Worker D)) : Type 0 where
  pub actor : ℕ
  pub ops : List Op
  pub worker : Worker D
  pub named : slice_get actors actor ≡ Some ops
  pub there : slice_get ws actor ≡ Some worker
  pub more : worker.place.nr < length ops

-- all are finished
abbrev pub AllOver : {D : Type 0} → List (List Op) → List (Worker D) → Type 0
AllOver {D} actors ws = (a : ℕ) (ops : List Op) (w : Worker D) → slice_get actors a ≡ Some ops
    → slice_get ws a ≡ Some w → length ops ≤ w.place.nr

-- the most events of a compaction in a class with so many objects: four for each, and the last two
abbrev pub class_left : ℕ → ℕ
class_left n = 4 * n + 2

-- the most events that a compaction has left from the taking of its class on, where no class has more
-- than n objects
abbrev pub compaction_left : ℕ → Compaction → ℕ
compaction_left n x = class_left (unwrap_or x.budget n) + (254 - x.class) * class_left n

-- the events that a scan of so many pages has left from the taking of its page on: two for each page
abbrev pub scan_left : ℕ → Scan → ℕ
scan_left size x = 2 * (size - x.page)

-- the most events that a writeback has left of a page's visit
abbrev pub visit_left : Step → ℕ
visit_left step.Arriving = 18
visit_left step.Passing = 1
visit_left step.Asking = 17
visit_left step.Reserving = 16
visit_left step.Quitting = 1
visit_left step.Seen = 15
visit_left step.Pinning = 14
visit_left step.Pinned = 13
visit_left step.Unpinning = 12
visit_left step.Marking = 11
visit_left step.Flying = 10
visit_left step.Storing = 9
visit_left step.Landing = 8
visit_left step.Won = 7
visit_left step.Freeing = 6
visit_left step.Backing = 5
visit_left step.Committing = 4
visit_left step.Owing = 3
visit_left step.Paying = 2
visit_left step.Putting = 1
visit_left step.Losing = 3
visit_left step.Undoing = 2
visit_left step.Releasing = 1

-- the most events that a writeback of so many pages has left: eighteen for each page
abbrev pub trip_left : ℕ → Step → Trip → ℕ
trip_left size step.Arriving x = 18 * (size - x.page)
trip_left size s x = visit_left s + 18 * (size - (x.page + 1))

-- the most events of a piece, on a disk of so many pages: twelve, or those of a scan or a writeback of
-- all pages, or of a compaction of all classes
abbrev pub op_left : ℕ → ℕ → Op → ℕ
op_left size n (Idle age) = 2 * size
op_left size n (Writeback mode) = 18 * size
op_left size n Compact = 255 * class_left n
op_left size n op = 12

-- those of some pieces
abbrev pub pieces_left : ℕ → ℕ → List Part → ℕ
pieces_left size n [] = 0
pieces_left size n (p ∷ ps) = op_left size n p.op + pieces_left size n ps

-- the most events that a piece at a stage has left
abbrev pub stage_left : ℕ → ℕ → Part → At → ℕ
stage_left size n p Start = op_left size n p.op
stage_left size n p Seen = 11
stage_left size n p Pinning = 10
stage_left size n p Away = 11
stage_left size n p Fetching = 10
stage_left size n p Failing = 3
stage_left size n p Counting = 2
stage_left size n p Missed = 1
stage_left size n p Wanting = 9
stage_left size n p Inside = 8
stage_left size n p Both = 7
stage_left size n p Made = 6
stage_left size n p Old = 5
stage_left size n p Freeing = 4
stage_left size n p Backed = 5
stage_left size n p Releasing = 4
stage_left size n p Owing = 3
stage_left size n p Pinned = 3
stage_left size n p Giving = 2
stage_left size n p Unpinning = 2
stage_left size n p Ready = 1
stage_left size n p Leaving = 1
stage_left size n p Refusing = 1
stage_left size n p (Scanning x) = scan_left size x
stage_left size n p (Marking x) = scan_left size x - 1
stage_left size n p (Visiting s x) = trip_left size s x
stage_left size n p (Sweeping x) = compaction_left n x
stage_left size n p (Moving x) = compaction_left n x - 1
stage_left size n p (Shrunk x) = compaction_left n x + 2
stage_left size n p (Shrinking x) = compaction_left n x + 1

-- the most events that are left: those of the piece in work, and those of each later one
abbrev pub left_at : ℕ → ℕ → List Part → At → ℕ
left_at size n [] at = 0
left_at size n (p ∷ ps) at = stage_left size n p at + pieces_left size n ps

-- those that an actor has left
abbrev pub left_by : ℕ → ℕ → Here → ℕ
left_by size n l = left_at size n l.todo l.at

-- a compaction in hand is at a class, and the class hasn't more than n objects
abbrev pub Few : ℕ → Here → Type 0
Few n l = (p : Part) (rest : List Part) (x : Compaction) (q : PoolState)
    → l.todo ≡ p ∷ rest → l.at ≡ Moving x
    → l.held ≡ (lock.Class x.class, holds.Class q) ∷ []
    → (x.class < 255) × (length (objects q) ≤ n)

-- the page that a scan takes or gives next, or that a writeback takes to visit it
abbrev pub page_at : At → ℕ
page_at (Scanning x) = x.page
page_at (Marking x) = x.page
page_at (Visiting step.Arriving x) = x.page
page_at at = 0

-- that is a page of the disk, the first one before any is taken
abbrev pub IsOnDisk : ℕ → Here → Type 0
IsOnDisk size l = (p : Part) (rest : List Part) → l.todo ≡ p ∷ rest → page_at l.at < size

-- no class has more objects than there are pages and actors, and scans and writebacks are at pages of
-- the disk
abbrev pub AreFew : ℕ → State DiskHeld → Type 0
AreFew size w = (a : ℕ) (l : Here) → slice_get w.locals a ≡ Some l
    → Few (size + length w.locals) l × IsOnDisk size l

-- those that all actors of a disk of so many pages have left: no class has more objects than there
-- are pages and actors
abbrev pub all_left : ℕ → State DiskHeld → ℕ
all_left size w = locals_sum (left_by size (size + length w.locals)) w.locals

-- before the first turn no piece is over
abbrev pub nothing_over : {D : Type 0} → List (Worker D) → List (List Done)
nothing_over ws = map (λ w. []) ws

-- the events that workers have left, whatever is over
abbrev pub left_of : {D : Type 0} → Playing D → ℕ
left_of x = all_left x.terms.size (state_of x (nothing_over x.workers))

-- the next turn of this actor is an event
abbrev pub IsFree : Terms → State DiskHeld → ℕ → Type 0
IsFree t w a = (l : Here) × (slice_get w.locals a ≡ Some l) × (plan t l ≢ Finished)
    × ((k : LockNo) → plan t l ≡ Take k
    → (v : DiskHeld) × (slice_get w.row (spot t.size k) ≡ Some (Some v)))

-- in a round so far, up to the actor i: fewer events are left, or nothing happened and no actor
-- below i was free
abbrev pub Round : Terms → State DiskHeld → State DiskHeld → ℕ → Type 0
Round t start now i = (all_left t.size now < all_left t.size start)
    ⊎ ((now ≡ start) × ((f : ℕ) → IsFree t start f → i ≤ f))

-- a round has come to the actor i
abbrev pub RoundTo : {D : Type 0} → State DiskHeld → Playing D → ℕ → Type 0
RoundTo start x i = (dones : List (List Done)) × HasKept x dones
    × Makes x.terms (range_with_len 0 i) start (state_of x dones)
    × Round x.terms start (state_of x dones) i
