-- A call that marks pages idle: what it stands for as an actor's local, and what its values are.
use Rattle.std.specs.Prelude.{◌≡◌, ◌<◌, ◌≤◌, ⊤, List, [], ◌∷◌, None}
use Rattle.zr_base.specs.declared.op.Op.TheVariants.{Idle}
use Rattle.lock_row.specs.declared.names.LockNo.{LockNo}
use Rattle.lock_row.specs.declared.names.Held.TheVariants as holds
use Rattle.lock_row.specs.declared.names.At.{At}
use Rattle.lock_row.specs.declared.names.At.TheVariants as at
use Rattle.lock_row.specs.declared.names.Scan.{Scan}
use Rattle.lock_row.specs.declared.names.Plan.{Plan}
use Rattle.lock_row.specs.declared.names.Plan.TheVariants.{Finished, Take, Give}
use Rattle.page_steps.specs.Steps.{DiskHeld, Here, slot, first_scan, with_lock}
use Rattle.page_steps.specs.Nexts.{Next}
use Rattle.page_steps.specs.Calls.{Frame}
use Rattle.page_steps.specs.declared.stage.Progress.{Progress}
use Rattle.page_steps.specs.declared.stage.Progress.TheVariants as progress
use Rattle.post_steps.specs.Turns.{Allows, Advanced}
use Rattle.post_steps.specs.declared.idle.IdleHead.{IdleHead}
use Rattle.post_steps.specs.declared.idle.IdleStage.{IdleStage}
use Rattle.post_steps.specs.declared.idle.IdleStage.TheVariants as stage

-- ---- the local of a stage

-- the stage of the machine
abbrev pub at_of : IdleStage → At
at_of stage.Start = at.Start
at_of (stage.Scanning x) = at.Scanning x
at_of (stage.Marking x e) = at.Marking x
at_of stage.Over = at.Start

-- the lock that is held with its value
abbrev pub held_of : IdleStage → List (LockNo × DiskHeld)
held_of stage.Start = []
held_of (stage.Scanning x) = []
held_of (stage.Marking x e) = (slot x.page, holds.Slot e) ∷ []
held_of stage.Over = []

-- the local of an actor whose call is at a stage
abbrev pub here : Frame → IdleStage → Here
here x s = record {
  actor = x.actor;
  at = at_of s;
  todo = x.part ∷ x.rest;
  held = held_of s;
  done = x.done;
  fresh = None;
  pin = None;
  owed = 0;
  ahead = None;
  behind = None;
  page = None;
  fail = None;
}

-- the next event
abbrev pub next_event : IdleStage → Plan
next_event stage.Start = Take (slot first_scan.page)
next_event (stage.Scanning x) = Take (slot x.page)
next_event (stage.Marking x e) = Give (slot x.page)
next_event stage.Over = Finished

-- ---- the operation

-- The call does an actor's work: it marks the pages of the disk, at the phase's time.
pub record IsWork (c : IdleHead) (x : Frame) : Type 0 where
  pub pages : c.pages ≡ x.terms.size
  pub clock : c.now ≡ x.terms.clock
  pub op : x.part.op ≡ Idle c.age

-- ---- what its values are

-- The page is one of the disk's, and at most those before it are marked anew.
pub record HasRoom (c : IdleHead) (x : Scan) : Type 0 where
  pub page : x.page < c.pages
  pub marked : x.marked ≤ x.page

-- what holds of the call at its stage
abbrev pub IsFit : IdleHead → IdleStage → Type 0
IsFit c stage.Start = 0 < c.pages
IsFit c (stage.Scanning x) = HasRoom c x
IsFit c (stage.Marking x e) = HasRoom c x × (e.touched ≤ c.now)
IsFit c stage.Over = ⊤

-- it isn't over
abbrev pub IsGoing : IdleStage → Type 0
IsGoing stage.Over = ⊥
IsGoing s = ⊤

-- it is over exactly where its last event was made
abbrev pub IsOnward : Progress → IdleStage → Type 0
IsOnward (progress.Done end) s = s ≡ stage.Over
IsOnward t s = IsGoing s

-- ---- events and turns

-- it takes its first page
abbrev pub entering : Next
entering l v = with_lock l (at.Marking first_scan) (slot first_scan.page) v

module _ {X : Type 0} (can_take : X → LockNo → Next → Type 0)
    (takes : X → LockNo → Next → DiskHeld → X → Type 0)
    (can_give : X → LockNo → Next → DiskHeld → Type 0) where
  -- The call at its stage, before a turn by a hand.
  pub record IsReady (c : IdleHead) (s : IdleStage) (h : X) : Type 0 where
    pub fit : IsFit c s
    pub allows : Allows can_take takes can_give (IsWork c) (λ x. here x s) (next_event s) h

module _ {X : Type 0} (takes : X → LockNo → Next → DiskHeld → X → Type 0)
    (misses : X → LockNo → X → Type 0)
    (gives : X → LockNo → Next → DiskHeld → X → Type 0) where
  -- What a turn of the call leaves.
  pub record HasAdvanced (c : IdleHead) (s : IdleStage) (h : X) (s' : IdleStage) (g : X)
      (p : Progress) : Type 0 where
    pub fit : IsFit c s'
    pub turn : Advanced takes misses gives (IsWork c) (λ x. here x s) h (λ x. here x s') g p
    pub onward : IsOnward p s'
