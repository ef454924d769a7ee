-- The state that a row and its workers stand for, where these pieces of each actor are over.
use Rattle.std.specs.Prelude.{◌≡◌, ◌⊎◌, ℕ, ◌<◌, ◌≤◌, Bool, List, [], ◌∷◌, map, length, Option, Some, None, slice_get, option_and_then}
use Rattle.zr_base.specs.declared.limits.TheConstants.{MOST_PAGES}
use Rattle.zr_base.specs.declared.op.Op.{Op}
use Rattle.zr_base.specs.declared.op.OpEnd.{OpEnd}
use Rattle.zr_base.specs.declared.op.OpEnd.TheVariants as ends
use Rattle.call_history.specs.declared.part.Done.{Done}
use Rattle.lock_row.specs.declared.names.LockNo.{LockNo}
use Rattle.lock_row.specs.declared.names.Plan.TheVariants.{Take}
use Rattle.lock_row.specs.declared.names.State.{State}
use Rattle.lock_row.specs.Machine.{Taking, Giving}
use Rattle.page_steps.specs.Steps.{Terms, DiskHeld, Here, spot, plan, took}
use Rattle.page_steps.specs.Givings.{Works}
use Rattle.actor_steps.specs.declared.reply.Reply.{Reply}
use Rattle.actor_steps.specs.declared.worker.Worker.{Worker}
use Rattle.actor_steps.specs.declared.worker.Turn.{Turn}
use Rattle.actor_steps.specs.declared.worker.Turn.TheVariants as turn
use Rattle.actor_steps.specs.Workers.{here, Keeps, IsFit}
use Rattle.joint_rule.specs.Begins.{Begin, terms, Proper}
use Rattle.joint_rule.specs.Rule.{Rule}
use Rattle.joint_rule.specs.Starts.{IsStart}
use Rattle.zr_core.specs.declared.spare.Spare.{Spare}
use Rattle.zr_core.specs.Machines.{IsReached, IsSetUp}
use Rattle.zr_core.specs.Noted.{HasAllPieces}
use Rattle.zr_core.specs.Rests.{IsBare}

-- the locals of workers, where these pieces of each are over, on a disk that has a backing or none
abbrev pub heres : {D : Type 0} → Terms → Bool → List (List Op) → List (Worker D) → List (List Done)
    → List Here
heres t backed [] ws dones = []
heres t backed (ops ∷ more) [] dones = []
heres t backed (ops ∷ more) (w ∷ ws) [] = []
heres t backed (ops ∷ more) (w ∷ ws) (done ∷ dones) =
    here t.size backed ops w done ∷ heres t backed more ws dones

-- the state of a row and its workers, where these pieces of each are over
abbrev pub state : {D : Type 0} → Terms → Bool → List (List Op) → List (Option DiskHeld)
    → List (Worker D) → List (List Done) → State DiskHeld
state t backed actors cells ws dones =
    record { row = cells; locals = heres t backed actors ws dones }

-- how the operations ended
abbrev pub ends_shown : {D : Type 0} → List (Worker D) → List (List OpEnd)
ends_shown {D} ws = map (λ (w : Worker D). map (λ (r : Reply). r.end) w.replies.items) ws

-- the sectors that are told of an operation, of those that it read, by its end
abbrev pub told_by : OpEnd → List (List ℕ) → List (List ℕ)
told_by ends.Ok got = got
told_by (ends.Eio fault done) got = got
told_by _ got = []

-- the sectors that they tell
abbrev pub sectors_shown : {D : Type 0} → List (Worker D) → List (List (List (List ℕ)))
sectors_shown {D} ws =
    map (λ (w : Worker D). map (λ (r : Reply). told_by r.end r.sectors.items) w.replies.items) ws

-- Each worker is fit for its operations.
pub record AreFit {D : Type 0} (t : Terms) (backed : Bool) (actors : List (List Op))
    (ws : List (Worker D)) : Type 0 where
  pub count : length ws ≡ length actors
  pub each : (a : ℕ) (ops : List Op) (w : Worker D) → slice_get actors a ≡ Some ops
      → slice_get ws a ≡ Some w → IsFit t backed ops w

-- The workers' replies have what these pieces have read, and how their operations ended.
pub record AreKept {D : Type 0} (backed : Bool) (actors : List (List Op)) (ws : List (Worker D))
    (dones : List (List Done)) : Type 0 where
  pub count : length dones ≡ length ws
  pub each : (a : ℕ) (ops : List Op) (w : Worker D) (done : List Done)
      → slice_get actors a ≡ Some ops → slice_get ws a ≡ Some w
      → slice_get dones a ≡ Some done → Keeps backed ops w done

-- A phase between two turns: what its steps go by, the disk's limit, whether it has a backing, what
-- stands beside the row, the pages that may have an order, the actors' operations, the row and the workers.
pub record Playing (D : Type 0) : Type 0 where
  pub terms : Terms
  pub limit : ℕ
  pub backed : Bool
  pub spare : Option (Spare D)
  pub noted : List ℕ
  pub actors : List (List Op)
  pub cells : List (Option DiskHeld)
  pub workers : List (Worker D)

-- the state that it stands for, where these pieces of each actor are over
abbrev pub state_of : {D : Type 0} → Playing D → List (List Done) → State DiskHeld
state_of x dones = state x.terms x.backed x.actors x.cells x.workers dones

-- its workers' replies have what these pieces have read, and how their operations ended
abbrev pub HasKept : {D : Type 0} → Playing D → List (List Done) → Type 0
HasKept x dones = AreKept x.backed x.actors x.workers dones

-- The phase is one that begins so.
pub record IsOf {D : Type 0} (g : Begin) (x : Playing D) : Type 0 where
  pub goes_by : terms g ≡ x.terms
  pub backed : g.given.backed ≡ x.backed
  pub actors : g.given.actors ≡ x.actors
  pub some : 1 ≤ x.terms.size
  pub most : x.terms.size ≤ MOST_PAGES
  pub proper : Proper g

-- The workers stand before their first turn: the row and they are the start of the phase that
-- begins so.
pub record IsPrepared {D : Type 0} (g : Begin) (x : Playing D) : Type 0 where
  pub of : IsOf g x
  pub dones : List (List Done)
  pub kept : HasKept x dones
  pub start : IsStart g (state_of x dones)

-- The workers stand before their first turn, in a phase that is set up on this row.
pub record IsSetUpOn {D : Type 0} (before : List (Option DiskHeld)) (x : Playing D) : Type 0 where
  pub dones : List (List Done)
  pub kept : HasKept x dones
  pub set_up : IsSetUp x.terms.size x.backed x.actors before (state_of x dones)

-- The joint rule holds for the phase that begins so.
pub record HasRule {D : Type 0} (g : Begin) (x : Playing D) : Type 0 where
  pub of : IsOf g x
  pub dones : List (List Done)
  pub kept : HasKept x dones
  pub rule : Rule g (state_of x dones)

-- Turns lead from this state to the one that it stands for.
pub record IsReachedFrom {D : Type 0} (start : State DiskHeld) (x : Playing D) : Type 0 where
  pub dones : List (List Done)
  pub kept : HasKept x dones
  pub reached : IsReached x.terms start (state_of x dones)

-- the disk's size isn't given yet, and there is no actor
abbrev pub IsEmpty : {D : Type 0} → Playing D → Type 0
IsEmpty x = IsBare x.terms.size x.cells × (x.actors ≡ [])

-- Each worker is fit for its operations, no piece has events on a page that isn't noted, and the
-- joint rule holds for some beginning; before the disk's size is given there is no actor.
pub record CanGoOn {D : Type 0} (x : Playing D) : Type 0 where
  pub fit : AreFit x.terms x.backed x.actors x.workers
  pub pieces : HasAllPieces x.terms.size x.backed x.noted x.actors
  pub ruled : IsEmpty x ⊎ ((g : Begin) × HasRule g x)

-- one event of an actor
pub data IsEvent (t : Terms) (a : ℕ) (w n : State DiskHeld) : Type 0 where
  taken : (l : Here) (k : LockNo) (v : DiskHeld)
      → Taking (spot t.size) (plan t) (took t) (Works t) a l k v w n → IsEvent t a w n
  given : (l : Here) (k : LockNo) (v : DiskHeld) (m : Here)
      → Giving (spot t.size) (plan t) (took t) (Works t) a l k v m w n → IsEvent t a w n

-- what a turn was: one event, a miss at the lock that is next and out, or nothing where the actor
-- is finished
abbrev pub TurnIs : Terms → ℕ → State DiskHeld → State DiskHeld → Turn → Type 0
TurnIs t a w n turn.Went = IsEvent t a w n
TurnIs t a w n (turn.Waited k) = (l : Here) × (slice_get w.locals a ≡ Some l)
    × (plan t l ≡ Take k) × (slice_get w.row (spot t.size k) ≡ Some None) × (n ≡ w)
TurnIs t a w n turn.Finished = (l : Here) × (slice_get w.locals a ≡ Some l) × (l.todo ≡ [])
    × (n ≡ w)

-- a turn from the state that was to one that is, whatever was over before
abbrev pub TurnsOnce : {D : Type 0} → ℕ → Playing D → Playing D → Turn → List (List Done) → Type 0
TurnsOnce a x y r dones = (dones' : List (List Done)) × HasKept y dones'
    × TurnIs x.terms a (state_of x dones) (state_of y dones') r

-- an item of an actor's operation
abbrev pub of_op : {A : Type 0} → List (List A) → ℕ → ℕ → Option A
of_op all actor op = option_and_then (λ xs. slice_get xs op) (slice_get all actor)

-- the operation is over: its actor is past it
abbrev pub HasEnded : {D : Type 0} → List (Worker D) → ℕ → ℕ → Type 0
HasEnded {D} ws actor op = (w : Worker D) × (slice_get ws actor ≡ Some w) × (op < w.place.nr)
