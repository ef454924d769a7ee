-- A compaction: what it stands for as an actor's local, and what its values are.
use Rattle.std.specs.Prelude.{◌≡◌, ℕ, zero, suc, ◌+◌, ◌*◌, ◌^◌, ◌<◌, ◌≤◌, ⊤, List, [], ◌∷◌, Option, Some, None}
use Rattle.zr_base.specs.declared.op.Op.TheVariants.{Compact}
use Rattle.lock_row.specs.declared.names.LockNo.{LockNo}
use Rattle.lock_row.specs.declared.names.LockNo.TheVariants as lock
use Rattle.lock_row.specs.declared.names.Held.TheVariants as holds
use Rattle.lock_row.specs.declared.names.At.{At}
use Rattle.lock_row.specs.declared.names.At.TheVariants as at
use Rattle.lock_row.specs.declared.names.Compaction.{Compaction}
use Rattle.lock_row.specs.declared.names.Plan.{Plan}
use Rattle.lock_row.specs.declared.names.Plan.TheVariants.{Finished, Take, Give}
use Rattle.page_steps.specs.Steps.{DiskHeld, Here, first_class, with_lock}
use Rattle.page_steps.specs.Nexts.{Next}
use Rattle.page_steps.specs.Calls.{Frame}
use Rattle.page_steps.specs.declared.stage.Progress.{Progress}
use Rattle.page_steps.specs.declared.stage.Progress.TheVariants as progress
use Rattle.post_steps.specs.Turns.{Allows, Advanced}
use Rattle.post_steps.specs.declared.compact.CompactStage.{CompactStage}
use Rattle.post_steps.specs.declared.compact.CompactStage.TheVariants as stage

-- ---- the local of a stage

-- the stage of the machine
abbrev pub at_of : CompactStage → At
at_of stage.Start = at.Start
at_of (stage.Sweeping x) = at.Sweeping x
at_of (stage.Moving x q) = at.Moving x
at_of (stage.Shrunk x frames) = at.Shrunk x
at_of (stage.Shrinking x frames a) = at.Shrinking x
at_of stage.Over = at.Start

-- the lock that is held with its value
abbrev pub held_of : CompactStage → List (LockNo × DiskHeld)
held_of stage.Start = []
held_of (stage.Sweeping x) = []
held_of (stage.Moving x q) = (lock.Class x.class, holds.Class q) ∷ []
held_of (stage.Shrunk x frames) = []
held_of (stage.Shrinking x frames a) = (lock.Account, holds.Account a) ∷ []
held_of stage.Over = []

-- the frames that are owed
abbrev pub owed_of : CompactStage → ℕ
owed_of stage.Start = 0
owed_of (stage.Sweeping x) = 0
owed_of (stage.Moving x q) = 0
owed_of (stage.Shrunk x frames) = frames
owed_of (stage.Shrinking x frames a) = frames
owed_of stage.Over = 0

-- the local of an actor whose compaction is at a stage
abbrev pub here : Frame → CompactStage → Here
here x s = record {
  actor = x.actor;
  at = at_of s;
  todo = x.part ∷ x.rest;
  held = held_of s;
  done = x.done;
  fresh = None;
  pin = None;
  owed = owed_of s;
  ahead = None;
  behind = None;
  page = None;
  fail = None;
}

-- the next event
abbrev pub next_event : CompactStage → Plan
next_event stage.Start = Take (lock.Class first_class.class)
next_event (stage.Sweeping x) = Take (lock.Class x.class)
next_event (stage.Moving x q) = Give (lock.Class x.class)
next_event (stage.Shrunk x frames) = Take lock.Account
next_event (stage.Shrinking x frames a) = Give lock.Account
next_event stage.Over = Finished

-- ---- the operation of a compaction

-- The call does an actor's work: a compaction, of the classes for these chains.
pub record IsWork (chain : ℕ) (x : Frame) : Type 0 where
  pub chain_is : chain ≡ x.terms.chain
  pub op : x.part.op ≡ Compact

-- ---- what its values are

-- how many objects have moved and may still move, by the class that it is at
abbrev pub MovesFit : Option ℕ → ℕ → ℕ → Type 0
MovesFit None moves class = moves ≤ 2 ^ 32 * class
MovesFit (Some budget) moves class = moves + budget ≤ 2 ^ 32 * (class + 1)

-- Where it stands: its numbers have room.
pub record HasRoom (chain owed : ℕ) (x : Compaction) : Type 0 where
  pub most : chain ≤ 16
  pub class : x.class < 255
  pub moves : MovesFit x.budget x.moves x.class
  pub frames : x.frames + owed ≤ chain * x.moves

-- what holds of a compaction at its stage
abbrev pub IsFit : ℕ → CompactStage → Type 0
IsFit chain stage.Start = chain ≤ 16
IsFit chain (stage.Sweeping x) = HasRoom chain 0 x
IsFit chain (stage.Moving x q) = HasRoom chain 0 x × (q.chain ≤ chain)
IsFit chain (stage.Shrunk x frames) = HasRoom chain frames x
IsFit chain (stage.Shrinking x frames a) = HasRoom chain frames x × (frames ≤ a.pages)
IsFit chain stage.Over = ⊤

-- it isn't over
abbrev pub IsGoing : CompactStage → Type 0
IsGoing stage.Over = ⊥
IsGoing s = ⊤

-- it holds a lock, which it gives next
abbrev pub HoldsOne : CompactStage → Type 0
HoldsOne (stage.Moving x q) = ⊤
HoldsOne (stage.Shrinking x frames a) = ⊤
HoldsOne s = ⊥

-- it is over exactly where its last event was made
abbrev pub IsOnward : Progress → CompactStage → Type 0
IsOnward (progress.Done end) s = s ≡ stage.Over
IsOnward t s = IsGoing s

-- ---- events and turns

-- it takes its first class
abbrev pub beginning : Next
beginning l v = with_lock l (at.Moving first_class) (lock.Class first_class.class) v

-- the stage after a move that freed so many frames
abbrev pub moved_by : ℕ → Compaction → CompactStage
moved_by zero x = stage.Sweeping x
moved_by (suc n) x = stage.Shrunk x (suc n)

module _ {X : Type 0} (can_take : X → LockNo → Next → Type 0)
    (takes : X → LockNo → Next → DiskHeld → X → Type 0)
    (can_give : X → LockNo → Next → DiskHeld → Type 0) where
  -- A compaction at its stage, before a turn by a hand.
  pub record IsReady (chain : ℕ) (s : CompactStage) (h : X) : Type 0 where
    pub fit : IsFit chain s
    pub allows : Allows can_take takes can_give (IsWork chain) (λ x. here x s) (next_event s) h

module _ {X : Type 0} (takes : X → LockNo → Next → DiskHeld → X → Type 0)
    (misses : X → LockNo → X → Type 0)
    (gives : X → LockNo → Next → DiskHeld → X → Type 0) where
  -- What a turn of a compaction leaves.
  pub record HasAdvanced (chain : ℕ) (s : CompactStage) (h : X) (s' : CompactStage) (g : X)
      (p : Progress) : Type 0 where
    pub fit : IsFit chain s'
    pub turn : Advanced takes misses gives (IsWork chain) (λ x. here x s) h (λ x. here x s') g p
    pub onward : IsOnward p s'
