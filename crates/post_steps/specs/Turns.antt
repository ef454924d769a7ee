-- The turns of a call: what its hand has to allow, and what a turn leaves. A call stands for the local
-- of each actor whose work it does.
use Rattle.std.specs.Prelude.{◌≡◌, []}
use Rattle.lock_row.specs.declared.names.LockNo.{LockNo}
use Rattle.lock_row.specs.declared.names.Plan.{Plan}
use Rattle.lock_row.specs.declared.names.Plan.TheVariants.{Take, Give}
use Rattle.page_steps.specs.Steps.{DiskHeld, Here, took}
use Rattle.page_steps.specs.Givings.{Works}
use Rattle.page_steps.specs.Nexts.{Next, ending_by}
use Rattle.page_steps.specs.Fits.{StageFits}
use Rattle.page_steps.specs.Calls.{Frame, end_of}
use Rattle.page_steps.specs.Turns.{Turned}
use Rattle.page_steps.specs.declared.stage.Progress.{Progress}
use Rattle.page_steps.specs.declared.stage.Progress.TheVariants as progress

module _ (Does : Frame → Type 0) (local : Frame → Here) where
  -- an event that takes a value may be told so, whatever the call doesn't know
  abbrev pub TakesAs : Next → Type 0
  TakesAs f = (x : Frame) (v : DiskHeld) → Does x → f (local x) v ≡ took x.terms (local x) v

  -- an event that gives this value may be told so, whatever the call doesn't know
  abbrev pub GivesAs : Next → DiskHeld → Type 0
  GivesAs f v = (x : Frame) → Does x → Works x.terms (local x) v (f (local x) v)

  -- the value fits an actor whose work it does
  abbrev pub FitsSome : DiskHeld → Type 0
  FitsSome v = (x : Frame) × Does x × StageFits x.terms (local x) v

-- the local after a turn: an end hands it on to what follows
abbrev pub after : Here → Here → Progress → Here
after l m progress.Moved = m
after l m (progress.Waits k) = m
after l m (progress.Done end) = ending_by l (end_of end) (λ p. []) l.todo

module _ {X : Type 0} (can_take : X → LockNo → Next → Type 0)
    (takes : X → LockNo → Next → DiskHeld → X → Type 0)
    (can_give : X → LockNo → Next → DiskHeld → Type 0) where
  -- The hand allows the next event of a call, and what it gives to a take fits.
  pub record Allows (Does : Frame → Type 0) (local : Frame → Here) (next : Plan) (h : X)
      : Type 0 where
    pub take : (k : LockNo) (f : Next) → next ≡ Take k → TakesAs Does local f → can_take h k f
    pub fits : (k : LockNo) (f : Next) (v : DiskHeld) (g : X) → next ≡ Take k
        → TakesAs Does local f → takes h k f v g → FitsSome Does local v
    pub give : (k : LockNo) (f : Next) (v : DiskHeld) → next ≡ Give k
        → GivesAs Does local f v → can_give h k f v

module _ {X : Type 0} (takes : X → LockNo → Next → DiskHeld → X → Type 0)
    (misses : X → LockNo → X → Type 0)
    (gives : X → LockNo → Next → DiskHeld → X → Type 0) where
  -- a turn of a call is one of each actor whose work it does
  abbrev pub Advanced : (Frame → Type 0) → (Frame → Here) → X → (Frame → Here) → X → Progress
      → Type 0
  Advanced Does local h local' g p = (x : Frame) → Does x
      → Turned takes misses gives x.terms (local x) h (after (local x) (local' x) p) g p
