-- The turns of a call: what its hand has to allow, and what a turn leaves.
use Rattle.std.specs.Prelude.{◌≡◌, ◌⊎◌, ℕ, ⊤, true, false, length, List, [], ◌∷◌, Option, Some, None}
use Rattle.zr_base.specs.declared.op.Piece.{Piece}
use Rattle.lock_row.specs.declared.names.LockNo.{LockNo}
use Rattle.lock_row.specs.declared.names.LockNo.TheVariants as lock
use Rattle.lock_row.specs.declared.names.Held.TheVariants as holds
use Rattle.lock_row.specs.declared.names.At.{At}
use Rattle.lock_row.specs.declared.names.At.TheVariants as at
use Rattle.lock_row.specs.declared.names.Object.{Object}
use Rattle.lock_row.specs.declared.names.Plan.TheVariants.{Take, Give}
use Rattle.zspage.specs.Cells.{IsStored}
use Rattle.slot_entry.specs.declared.kept.Kept.{Kept}
use Rattle.slot_entry.specs.Entries.{EntryState, IsPlain, plain_page}
use Rattle.slot_entry.specs.Forms.{form_of}
use Rattle.page_steps.specs.Pages.{next_form}
use Rattle.page_steps.specs.Steps.{Terms, DiskHeld, Here, slot, plan, took, with_lock, made_at, entered_at, pinned_at, fetched_at}
use Rattle.page_steps.specs.Givings.{Works}
use Rattle.page_steps.specs.Nexts.{Next, ending_by, own_entry}
use Rattle.page_steps.specs.Fits.{StageFits, IsKept}
use Rattle.page_steps.specs.Calls.{Frame, here, next_event, IsWork, IsFit, IsGoing, IsPlaced, end_of, got_of, pin_by, page_if, is_whole}
use Rattle.page_steps.specs.declared.stage.Head.{Head}
use Rattle.page_steps.specs.declared.stage.Lent.{Lent}
use Rattle.page_steps.specs.declared.stage.Own.{Own}
use Rattle.page_steps.specs.declared.stage.Scratch.{Scratch}
use Rattle.page_steps.specs.declared.stage.Stage.{Stage}
use Rattle.page_steps.specs.declared.stage.Stage.TheVariants as stage
use Rattle.page_steps.specs.declared.stage.Progress.{Progress}
use Rattle.page_steps.specs.declared.stage.Progress.TheVariants as progress

-- the terms of an event whose local says nothing of them
abbrev pub no_terms : Terms
no_terms = record { size = 0; chain = 0; clock = 0 }

-- a request beyond the disk takes the account
abbrev pub asking : Next
asking l v = with_lock l at.Refusing lock.Account v

-- the pool of a new object is taken
abbrev pub wanting : ℕ → Next
wanting class l v = with_lock l at.Inside (lock.Class class) v

-- an event that takes a value may be told so, whatever the call doesn't know
abbrev pub TakesAs : {D : Type 0} → Head → Scratch → Stage D → Next → Type 0
TakesAs c r s f = (x : Frame) (v : DiskHeld) → IsWork c r x
    → f (here x r s) v ≡ took x.terms (here x r s) v

-- an event that gives this value may be told so, whatever the call doesn't know
abbrev pub GivesAs : {D : Type 0} → Head → Scratch → Stage D → Next → DiskHeld → Type 0
GivesAs c r s f v = (x : Frame) → IsWork c r x
    → Works x.terms (here x r s) v (f (here x r s) v)

-- the value fits an actor whose call is at this stage
abbrev pub FitsSome : {D : Type 0} → Head → Scratch → Stage D → DiskHeld → Type 0
FitsSome c r s v = (x : Frame) × IsWork c r x × StageFits x.terms (here x r s) v

-- the local after a turn: an end hands it on to what follows
abbrev pub after : {D : Type 0} → Frame → Here → Scratch → Stage D → Progress → Here
after x l r s progress.Moved = here x r s
after x l r s (progress.Waits k) = here x r s
after x l r s (progress.Done end) = ending_by l (end_of end) (got_of end r.page) l.todo

-- a miss tells the lock that was held
abbrev pub HasWaited : Progress → LockNo → Type 0
HasWaited (progress.Waits k) lock = k ≡ lock
HasWaited t lock = ⊥

-- an event was made; an end says where its tag stands in the order of the entry that was held
abbrev pub HasMoved : Progress → Here → Type 0
HasMoved progress.Moved l = ⊤
HasMoved (progress.Waits k) l = ⊥
HasMoved (progress.Done end) l = IsPlaced end (length (own_entry l).order)

-- the call is over exactly where its last event was made
abbrev pub IsOnward : {D : Type 0} → Progress → Stage D → Type 0
IsOnward (progress.Done end) s = s ≡ stage.Over
IsOnward t s = IsGoing s

module _ {X : Type 0} (can_take : X → LockNo → Next → Type 0)
    (takes : X → LockNo → Next → DiskHeld → X → Type 0)
    (can_give : X → LockNo → Next → DiskHeld → Type 0) where
  -- The hand allows the next event of a call, and what it gives to a take fits.
  pub record Allows {D : Type 0} (c : Head) (r : Scratch) (s : Stage D) (h : X) : Type 0 where
    pub take : (k : LockNo) (f : Next) → next_event c s ≡ Take k → TakesAs c r s f → can_take h k f
    pub fits : (k : LockNo) (f : Next) (v : DiskHeld) (g : X) → next_event c s ≡ Take k
        → TakesAs c r s f → takes h k f v g → FitsSome c r s v
    pub give : (k : LockNo) (f : Next) (v : DiskHeld) → next_event c s ≡ Give k
        → GivesAs c r s f v → can_give h k f v

  -- A call at its stage, before a turn by a hand.
  pub record IsReady {D : Type 0} (c : Head) (r : Scratch) (s : Stage D) (h : X) : Type 0 where
    pub fit : IsFit c r s
    pub allows : Allows c r s h

module _ {X : Type 0} (takes : X → LockNo → Next → DiskHeld → X → Type 0)
    (misses : X → LockNo → X → Type 0)
    (gives : X → LockNo → Next → DiskHeld → X → Type 0) where
  -- A turn of an actor by a hand leads from l to m: a miss of its next lock, or its next event.
  pub data Turned (t : Terms) (l : Here) (h : X) (m : Here) (g : X) (p : Progress) : Type 0 where
    waited : (k : LockNo) → plan t l ≡ Take k → misses h k g → m ≡ l → HasWaited p k
        → Turned t l h m g p
    took_it : (k : LockNo) (f : Next) (v : DiskHeld) → plan t l ≡ Take k → takes h k f v g
        → f l v ≡ took t l v → m ≡ took t l v → p ≡ progress.Moved → Turned t l h m g p
    gave_it : (k : LockNo) (f : Next) (v : DiskHeld) → plan t l ≡ Give k → gives h k f v g
        → f l v ≡ m → Works t l v m → HasMoved p l → Turned t l h m g p

  -- a turn of a call is one of each actor whose work it does
  abbrev pub Advanced : {D : Type 0} → Head → Scratch → Stage D → X → Scratch → Stage D → X → Progress → Type 0
  Advanced c r s h r' s' g p = (x : Frame) → IsWork c r x
      → Turned x.terms (here x r s) h (after x (here x r s) r' s' p) g p

  -- What a turn of a call leaves.
  pub record HasAdvanced {D : Type 0} (c : Head) (r : Scratch) (s : Stage D) (h : X) (r' : Scratch) (s' : Stage D)
      (g : X) (p : Progress) : Type 0 where
    pub fit : IsFit c r' s'
    pub turn : Advanced c r s h r' s' g p
    pub onward : IsOnward p s'
    pub work : (x : Frame) → IsWork c r x → IsWork c r' x
    pub table : r'.table ≡ r.table

-- the local of a call that has its page alone
abbrev pub owning : Frame → Scratch → At → Own → Option Object → Here
owning x r a own fresh = record {
  actor = x.actor;
  at = a;
  todo = x.part ∷ x.rest;
  held = (slot x.part.page, holds.Slot own.entry) ∷ [];
  done = x.done;
  fresh = fresh;
  pin = pin_by own.lent;
  owed = 0;
  ahead = None;
  behind = None;
  page = page_if r own.read;
  fail = None;
}

-- What a call is where its new page stands in the scratch.
pub record IsFormed {D : Type 0} (c : Head) (own : Own) (r' : Scratch) (s : Stage D) : Type 0 where
  pub fit : IsFit c r' s
  pub stage : (x : Frame)
      → here x r' s ≡ owning x r' (made_at (form_of r'.fresh) own.entry.kept) own None
  pub going : IsGoing s

-- the sectors beside the piece's are known: there are none, or a page that needs no object is at hand
abbrev pub HasOld : Piece → List ℕ → Kept → Type 0
HasOld p page k = (is_whole p ≡ true) ⊎ ((page ≡ plain_page k) × IsPlain k)

-- What a call is where it has its page's slot.
pub record HasEntered {D : Type 0} (c : Head) (r : Scratch) (e : EntryState) (r' : Scratch) (s : Stage D)
    : Type 0 where
  pub fit : IsFit c r' s
  pub stage : (x : Frame) → IsWork c r x
      → here x r' s ≡ owning x r'
      (entered_at x.part.op x.part.page (next_form x.part None e.kept) e.kept)
      (record { entry = e; lent = None; read = false }) None
  pub going : IsGoing s
  pub work : (x : Frame) → IsWork c r x → IsWork c r' x
  pub table : r'.table ≡ r.table

-- What a call is where its page was read from a cell.
pub record HasRead {D : Type 0} (c : Head) (r : Scratch) (e : EntryState) (y : Lent) (r' : Scratch) (s : Stage D)
    : Type 0 where
  pub fit : IsFit c r' s
  pub stage : (x : Frame) → IsWork c r x
      → here x r' s ≡ owning x r'
      (pinned_at x.part.op (next_form x.part (Some r.page) e.kept) e.kept)
      (record { entry = e; lent = Some y; read = true }) None
  pub going : IsGoing s
  pub work : (x : Frame) → IsWork c r x → IsWork c r' x
  pub table : r'.table ≡ r.table
  pub page : r'.page ≡ r.page

-- What a call is where its page was read from the device.
pub record HasFetched {D : Type 0} (c : Head) (r : Scratch) (e : EntryState) (r' : Scratch)
    (s : Stage D) : Type 0 where
  pub fit : IsFit c r' s
  pub stage : (x : Frame) → IsWork c r x
      → here x r' s ≡ owning x r'
      (fetched_at x.part.op (next_form x.part (Some r.page) e.kept) e.kept)
      (record { entry = e; lent = None; read = true }) None
  pub going : IsGoing s
  pub work : (x : Frame) → IsWork c r x → IsWork c r' x
  pub table : r'.table ≡ r.table
  pub page : r'.page ≡ r.page

-- Another new page and its packing stand in the scratch.
pub record Keeps (r r' : Scratch) : Type 0 where
  pub page : r'.page ≡ r.page
  pub fresh : r'.fresh ≡ r.fresh
  pub table : r'.table ≡ r.table

-- The cell has a page's bytes.
pub record CanRead (y : Lent) : Type 0 where
  pub bytes : List ℕ
  pub stored : IsStored y.object.handle.0 bytes y.cell
  pub kept : IsKept y.object bytes
