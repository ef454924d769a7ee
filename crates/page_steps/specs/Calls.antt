-- A call of a page: what it stands for as an actor's local, what its values are, and its turns.
use Rattle.std.specs.Prelude.{◌≡◌, ◌⊎◌, ℕ, ◌+◌, ◌-◌, ◌*◌, ◌<◌, ◌≤◌, ◌==◌, nat_lt, ⊤, Bool, true, false, cond, List, [], ◌∷◌, length, Option, Some, None, slice_get}
use Rattle.zr_base.specs.declared.op.Op.{Op}
use Rattle.zr_base.specs.declared.op.Op.TheVariants.{Write, Read, Discard}
use Rattle.zr_base.specs.declared.op.OpEnd.TheVariants as ends
use Rattle.zr_base.specs.declared.op.Piece.{Piece}
use Rattle.zr_base.specs.declared.op.Tag.{Tag}
use Rattle.zr_base.specs.declared.op.Stuff.{Stuff}
use Rattle.zr_base.specs.Sectors.{page_sector}
use Rattle.zr_base.specs.Plain.{is_beyond, is_maintenance, covers, stuff_sector}
use Rattle.zr_base.specs.Pieces.{IsPieceOf}
use Rattle.class_pool.specs.Pool.{PoolState, IsAtHome, IsLent}
use Rattle.mem_account.specs.Counters.{Counters, counted}
use Rattle.mem_account.specs.declared.weight.Weight.{Weight}
use Rattle.mem_account.specs.declared.weight.Delta.TheVariants as delta
use Rattle.call_history.specs.declared.part.Part.{Part}
use Rattle.call_history.specs.declared.part.PartEnd.{PartEnd}
use Rattle.call_history.specs.declared.part.PartEnd.TheVariants as over
use Rattle.call_history.specs.declared.part.Done.{Done}
use Rattle.call_history.specs.Shows.{got_from, tag_by}
use Rattle.lock_row.specs.declared.names.LockNo.{LockNo}
use Rattle.lock_row.specs.declared.names.LockNo.TheVariants as lock
use Rattle.lock_row.specs.declared.names.Held.TheVariants as holds
use Rattle.lock_row.specs.declared.names.At.{At}
use Rattle.lock_row.specs.declared.names.At.TheVariants as at
use Rattle.lock_row.specs.declared.names.Plan.{Plan}
use Rattle.lock_row.specs.declared.names.Plan.TheVariants.{Finished, Take, Give}
use Rattle.lock_row.specs.declared.names.Object.{Object}
use Rattle.lock_row.specs.declared.names.Pin.{Pin}
use Rattle.block_map.specs.declared.state.BlockState.TheVariants.{Owned}
use Rattle.slot_entry.specs.declared.kept.Stored.{Stored}
use Rattle.slot_entry.specs.declared.kept.Kept.{Kept}
use Rattle.slot_entry.specs.declared.kept.Kept.TheVariants as kept
use Rattle.slot_entry.specs.Entries.{EntryState, IsPlain, plain_page, weight_of}
use Rattle.slot_entry.specs.Forms.{PageForm, Blank, Pooled, form_of, form_weight, class_in, object_class}
use Rattle.page_steps.specs.Steps.{Terms, DiskHeld, Here, slot}
use Rattle.page_steps.specs.Givings.{kept_by, old_weight}
use Rattle.page_steps.specs.Nexts.{pin_of}
use Rattle.page_steps.specs.Fits.{CanPin, CanStore, CanCharge, CanPay, HasPlace}
use Rattle.page_steps.specs.declared.call.PageCall.{PageCall}
use Rattle.page_steps.specs.declared.stage.Work.{Work}
use Rattle.page_steps.specs.declared.stage.Work.TheVariants as work
use Rattle.page_steps.specs.declared.stage.Head.{Head}
use Rattle.page_steps.specs.declared.stage.Lent.{Lent}
use Rattle.page_steps.specs.declared.stage.Own.{Own}
use Rattle.page_steps.specs.declared.stage.New.{New}
use Rattle.page_steps.specs.declared.stage.Due.{Due}
use Rattle.page_steps.specs.declared.stage.Outcome.{Outcome}
use Rattle.page_steps.specs.declared.stage.Outcome.TheVariants as outcome
use Rattle.page_steps.specs.declared.stage.PieceEnd.{PieceEnd}
use Rattle.page_steps.specs.declared.stage.PieceEnd.TheVariants as piece
use Rattle.page_steps.specs.declared.stage.Scratch.{Scratch}
use Rattle.page_steps.specs.declared.stage.Stage.{Stage}
use Rattle.page_steps.specs.declared.stage.Stage.TheVariants as stage

-- ---- ends

-- how a piece ended, as the machine says it
abbrev pub end_of : PieceEnd → PartEnd
end_of (piece.Read at) = over.Carried
end_of (piece.Wrote at) = over.Carried
end_of (piece.Discarded at) = over.Carried
end_of piece.Skipped = over.Carried
end_of piece.Range = over.Whole ends.Range
end_of (piece.AtLimit pages need limit) = over.AtLimit pages need limit
end_of piece.NoMemory = over.NoMemory
end_of (piece.Eio fault) = over.Eio fault
end_of (piece.Marked pages) = over.Whole (ends.Marked pages)
end_of (piece.Written wrote lost) = over.Whole (ends.Written wrote lost)
end_of (piece.Budget wrote lost) = over.Whole (ends.Budget wrote lost)
end_of (piece.NoBlock wrote lost) = over.Whole (ends.NoBlock wrote lost)
end_of (piece.WriteEio fault wrote lost) = over.Whole (ends.WriteEio fault wrote lost)
end_of (piece.Compacted moves frames) = over.Whole (ends.Compacted moves frames)

-- the sectors that a piece with such an end has read, where its page is this one
abbrev pub got_of : PieceEnd → List ℕ → Part → List (List ℕ)
got_of (piece.Read at) page p = got_from page p
got_of end page p = []

-- the end says where the piece's tag stands, after so many tags; a discard that is skipped ends no
-- turn
abbrev pub IsPlaced : PieceEnd → ℕ → Type 0
IsPlaced (piece.Read at) n = at ≡ n
IsPlaced (piece.Wrote at) n = at ≡ n
IsPlaced (piece.Discarded at) n = at ≡ n
IsPlaced piece.Skipped n = ⊥
IsPlaced end n = ⊤

-- an end that refuses a write
abbrev pub IsRefusal : PieceEnd → Type 0
IsRefusal (piece.AtLimit pages need limit) = ⊤
IsRefusal piece.NoMemory = ⊤
IsRefusal end = ⊥

-- the refusal, as the machine says it
abbrev pub ends_of : Option PieceEnd → Option PartEnd
ends_of None = None
ends_of (Some end) = Some (end_of end)

-- ---- the local of a stage

-- the bytes of a new object
abbrev pub bytes_by : Scratch → Bool → List ℕ
bytes_by r huge = cond huge r.fresh r.packed.items

-- the new object of a form that is to be put
abbrev pub object_of : Scratch → Kept → Option Object
object_of r (kept.Obj o) =
    Some (record { class = o.class; handle = o.handle.0; bytes = bytes_by r o.huge })
object_of r k = None

-- the new object that was made, if one was
abbrev pub made_of : Scratch → Outcome → Option Object
made_of r (outcome.Object o) = object_of r (kept.Obj o)
made_of r (outcome.Refused end) = None

-- the refusal of a new object
abbrev pub refused_by : Outcome → Option PartEnd
refused_by (outcome.Object o) = None
refused_by (outcome.Refused end) = Some (end_of end)

-- the cell that is lent, as the machine says it
abbrev pub pin_by : Option Lent → Option Pin
pin_by None = None
pin_by (Some y) = Some (pin_of y.object y.cell)

-- the page that was read, if it was
abbrev pub page_if : Scratch → Bool → Option (List ℕ)
page_if r true = Some r.page
page_if r false = None

-- the stage's name
abbrev pub at_of : {D : Type 0} → Stage D → At
at_of stage.Start = at.Start
at_of stage.Beyond = at.Start
at_of (stage.Refusing a) = at.Refusing
at_of (stage.Seen e o) = at.Seen
at_of (stage.Pinning e o q) = at.Pinning
at_of (stage.Pinned e y end) = at.Pinned
at_of (stage.Unpinning e y end q) = at.Unpinning
at_of (stage.Plain e) = at.Leaving
at_of (stage.Leaving e) = at.Leaving
at_of (stage.Refused e read end) = at.Leaving
at_of (stage.Missed e fault) = at.Missed
at_of (stage.Away e b) = at.Away
at_of (stage.Fetching e b d) = at.Fetching
at_of (stage.Failing e fault) = at.Failing
at_of (stage.Counting e fault a) = at.Counting
at_of (stage.Wanting own new) = at.Wanting
at_of (stage.Inside own new q) = at.Inside
at_of (stage.Both own new q a) = at.Both
at_of (stage.Made own class q y) = at.Made
at_of (stage.Old own o next) = at.Old
at_of (stage.Freeing own o next q) = at.Freeing
at_of (stage.Backed own b next) = at.Backed
at_of (stage.Releasing own b next x) = at.Releasing
at_of (stage.Owing due frames ahead) = at.Owing
at_of (stage.Giving due frames ahead a) = at.Giving
at_of (stage.Ready due ahead behind) = at.Ready
at_of stage.Over = at.Start

-- the locks that a call on a page holds
abbrev pub held_of : {D : Type 0} → ℕ → Stage D → List (LockNo × DiskHeld)
held_of p stage.Start = []
held_of p stage.Beyond = []
held_of p (stage.Refusing a) = (lock.Account, holds.Account a) ∷ []
held_of p (stage.Seen e o) = (slot p, holds.Slot e) ∷ []
held_of p (stage.Pinning e o q) = (lock.Class o.class, holds.Class q) ∷ (slot p, holds.Slot e) ∷ []
held_of p (stage.Pinned e y end) = (slot p, holds.Slot e) ∷ []
held_of p (stage.Unpinning e y end q) =
    (lock.Class y.object.class, holds.Class q) ∷ (slot p, holds.Slot e) ∷ []
held_of p (stage.Plain e) = (slot p, holds.Slot e) ∷ []
held_of p (stage.Leaving e) = (slot p, holds.Slot e) ∷ []
held_of p (stage.Refused e read end) = (slot p, holds.Slot e) ∷ []
held_of p (stage.Missed e fault) = (slot p, holds.Slot e) ∷ []
held_of p (stage.Away e b) = (slot p, holds.Slot e) ∷ []
held_of p (stage.Fetching e b d) = (lock.Device, holds.Device d) ∷ (slot p, holds.Slot e) ∷ []
held_of p (stage.Failing e fault) = (slot p, holds.Slot e) ∷ []
held_of p (stage.Counting e fault a) =
    (lock.Account, holds.Account a) ∷ (slot p, holds.Slot e) ∷ []
held_of p (stage.Wanting own new) = (slot p, holds.Slot own.entry) ∷ []
held_of p (stage.Inside own new q) =
    (lock.Class new.class, holds.Class q) ∷ (slot p, holds.Slot own.entry) ∷ []
held_of p (stage.Both own new q a) =
    (lock.Account, holds.Account a) ∷ (lock.Class new.class, holds.Class q)
    ∷ (slot p, holds.Slot own.entry) ∷ []
held_of p (stage.Made own class q y) =
    (lock.Class class, holds.Class q) ∷ (slot p, holds.Slot own.entry) ∷ []
held_of p (stage.Old own o next) = (slot p, holds.Slot own.entry) ∷ []
held_of p (stage.Freeing own o next q) =
    (lock.Class o.class, holds.Class q) ∷ (slot p, holds.Slot own.entry) ∷ []
held_of p (stage.Backed own b next) = (slot p, holds.Slot own.entry) ∷ []
held_of p (stage.Releasing own b next x) =
    (lock.Blocks, holds.Blocks x) ∷ (slot p, holds.Slot own.entry) ∷ []
held_of p (stage.Owing due frames ahead) = (slot p, holds.Slot due.entry) ∷ []
held_of p (stage.Giving due frames ahead a) =
    (lock.Account, holds.Account a) ∷ (slot p, holds.Slot due.entry) ∷ []
held_of p (stage.Ready due ahead behind) = (slot p, holds.Slot due.entry) ∷ []
held_of p stage.Over = []

-- the new object
abbrev pub fresh_of : {D : Type 0} → Scratch → Stage D → Option Object
fresh_of r (stage.Made own class q y) = made_of r y
fresh_of r (stage.Old own o next) = object_of r next
fresh_of r (stage.Freeing own o next q) = object_of r next
fresh_of r (stage.Backed own b next) = object_of r next
fresh_of r (stage.Releasing own b next x) = object_of r next
fresh_of r (stage.Owing due frames ahead) = object_of r due.next
fresh_of r (stage.Giving due frames ahead a) = object_of r due.next
fresh_of r (stage.Ready due ahead behind) = object_of r due.next
fresh_of r s = None

-- the pinned cell
abbrev pub cell_in : {D : Type 0} → Stage D → Option Pin
cell_in (stage.Pinned e y end) = pin_by (Some y)
cell_in (stage.Unpinning e y end q) = pin_by (Some y)
cell_in (stage.Wanting own new) = pin_by own.lent
cell_in (stage.Inside own new q) = pin_by own.lent
cell_in (stage.Both own new q a) = pin_by own.lent
cell_in (stage.Made own class q y) = pin_by own.lent
cell_in (stage.Old own o next) = pin_by own.lent
cell_in (stage.Freeing own o next q) = pin_by own.lent
cell_in (stage.Backed own b next) = pin_by own.lent
cell_in (stage.Releasing own b next x) = pin_by own.lent
cell_in s = None

-- the frames that are owed
abbrev pub owed_of : {D : Type 0} → Stage D → ℕ
owed_of (stage.Owing due frames ahead) = frames
owed_of (stage.Giving due frames ahead a) = frames
owed_of s = 0

-- what the account counts of the page, beside what the entry shows
abbrev pub ahead_of : {D : Type 0} → Stage D → Option Weight
ahead_of (stage.Owing due frames ahead) = ahead
ahead_of (stage.Giving due frames ahead a) = ahead
ahead_of (stage.Ready due ahead behind) = ahead
ahead_of s = None

-- what the entry shows, and the account doesn't count any more
abbrev pub behind_of : {D : Type 0} → Stage D → Option Weight
behind_of (stage.Ready due ahead behind) = behind
behind_of s = None

-- the page that was read from a cell or from the device
abbrev pub page_of : {D : Type 0} → Scratch → Stage D → Option (List ℕ)
page_of r (stage.Pinned e y end) = Some r.page
page_of r (stage.Unpinning e y end q) = Some r.page
page_of r (stage.Leaving e) = Some r.page
page_of r (stage.Refused e read end) = page_if r read
page_of r (stage.Wanting own new) = page_if r own.read
page_of r (stage.Inside own new q) = page_if r own.read
page_of r (stage.Both own new q a) = page_if r own.read
page_of r (stage.Made own class q y) = page_if r own.read
page_of r (stage.Old own o next) = page_if r own.read
page_of r (stage.Freeing own o next q) = page_if r own.read
page_of r (stage.Backed own b next) = page_if r own.read
page_of r (stage.Releasing own b next x) = page_if r own.read
page_of r (stage.Owing due frames ahead) = page_if r due.read
page_of r (stage.Giving due frames ahead a) = page_if r due.read
page_of r (stage.Ready due ahead behind) = page_if r due.read
page_of r s = None

-- the refusal that ends the piece
abbrev pub fail_of : {D : Type 0} → Stage D → Option PartEnd
fail_of (stage.Pinned e y end) = ends_of end
fail_of (stage.Unpinning e y end q) = ends_of end
fail_of (stage.Refused e read end) = Some (end_of end)
fail_of (stage.Missed e fault) = Some (over.Eio fault)
fail_of (stage.Failing e fault) = Some (over.Eio fault)
fail_of (stage.Counting e fault a) = Some (over.Eio fault)
fail_of (stage.Made own class q y) = refused_by y
fail_of s = None

-- What a call doesn't know of its actor: the phase's terms, the piece in work, the pieces that
-- follow and those that are over.
pub record Frame : Type 0 where
  pub terms : Terms
  pub actor : ℕ
  pub part : Part
  pub rest : List Part
  pub done : List Done

-- the local of an actor whose call is at a stage
abbrev pub here : {D : Type 0} → Frame → Scratch → Stage D → Here
here x r s = record {
  actor = x.actor;
  at = at_of s;
  todo = x.part ∷ x.rest;
  held = held_of x.part.page s;
  done = x.done;
  fresh = fresh_of r s;
  pin = cell_in s;
  owed = owed_of s;
  ahead = ahead_of s;
  behind = behind_of s;
  page = page_of r s;
  fail = fail_of s;
}

-- the next event, by what the call knows
abbrev pub next_event : {D : Type 0} → Head → Stage D → Plan
next_event c stage.Start = Take (slot c.piece.page.0)
next_event c stage.Beyond = Take lock.Account
next_event c (stage.Refusing a) = Give lock.Account
next_event c (stage.Seen e o) = Take (lock.Class o.class)
next_event c (stage.Pinning e o q) = Give (lock.Class o.class)
next_event c (stage.Pinned e y end) = Take (lock.Class y.object.class)
next_event c (stage.Unpinning e y end q) = Give (lock.Class y.object.class)
next_event c (stage.Plain e) = Give (slot c.piece.page.0)
next_event c (stage.Leaving e) = Give (slot c.piece.page.0)
next_event c (stage.Refused e read end) = Give (slot c.piece.page.0)
next_event c (stage.Missed e fault) = Give (slot c.piece.page.0)
next_event c (stage.Away e b) = Take lock.Device
next_event c (stage.Fetching e b d) = Give lock.Device
next_event c (stage.Failing e fault) = Take lock.Account
next_event c (stage.Counting e fault a) = Give lock.Account
next_event c (stage.Wanting own new) = Take (lock.Class new.class)
next_event c (stage.Inside own new q) = Take lock.Account
next_event c (stage.Both own new q a) = Give lock.Account
next_event c (stage.Made own class q y) = Give (lock.Class class)
next_event c (stage.Old own o next) = Take (lock.Class o.class)
next_event c (stage.Freeing own o next q) = Give (lock.Class o.class)
next_event c (stage.Backed own b next) = Take lock.Blocks
next_event c (stage.Releasing own b next x) = Give lock.Blocks
next_event c (stage.Owing due frames ahead) = Take lock.Account
next_event c (stage.Giving due frames ahead a) = Give lock.Account
next_event c (stage.Ready due ahead behind) = Give (slot c.piece.page.0)
next_event c stage.Over = Finished

-- ---- the piece of a call

-- whether the call counts a request beyond the disk
abbrev pub is_count : Work → Bool
is_count work.Counts = true
is_count w = false

-- whether it writes
abbrev pub is_write : Work → Bool
is_write work.Writes = true
is_write w = false

-- whether the piece has its whole page
abbrev pub is_whole : Piece → Bool
is_whole p = p.count == 8

-- The page has a write's sectors, each at its place.
pub record Brings (p : Piece) (start count : ℕ) (stuff : Stuff) (fresh : List ℕ) : Type 0 where
  pub cut : IsPieceOf start count p.page.0 p
  pub sectors : (k : ℕ) → k < 8 → covers start count (8 * p.page.0 + k) ≡ true
      → page_sector fresh k ≡ stuff_sector stuff (8 * p.page.0 + k - start)

-- the operation is of the call's kind, and a write's sectors are in the scratch
abbrev pub Asks : Work → Piece → List ℕ → Op → Type 0
Asks work.Reads p fresh (Read start count) = ⊤
Asks work.Writes p fresh (Write start count stuff) = Brings p start count stuff fresh
Asks work.Discards p fresh (Discard start count) = ⊤
Asks w p fresh op = ⊥

-- The call is of an actor's piece, at the phase's time.
pub record IsCallOf (c : Head) (r : Scratch) (x : Frame) : Type 0 where
  pub tag : c.tag ≡ tag_by x.actor x.part
  pub page : c.piece.page.0 ≡ x.part.page
  pub clock : c.now ≡ x.terms.clock
  pub asks : Asks c.work c.piece r.fresh x.part.op

-- The call does an actor's work: its piece, or the count of a request beyond the disk.
pub record IsWork (c : Head) (r : Scratch) (x : Frame) : Type 0 where
  pub chain : r.table ≡ x.terms.chain
  pub request : is_maintenance x.part.op ≡ false
  pub beyond : is_beyond x.terms.size x.part.op ≡ is_count c.work
  pub call : is_count c.work ≡ false → IsCallOf c r x

-- ---- what the call's values are

-- the piece is one of a page
abbrev pub IsWithin : Piece → Type 0
IsWithin p = p.first + p.count ≤ 8

-- the sector of a page is none of the piece's
abbrev pub IsBeside : Piece → ℕ → Type 0
IsBeside p k = (k < p.first) ⊎ (p.first + p.count ≤ k)

-- The sectors beside the piece's are those of a page.
pub record KeepsRest (p : Piece) (page fresh : List ℕ) : Type 0 where
  pub sectors : (k : ℕ) → k < 8 → IsBeside p k → page_sector fresh k ≡ page_sector page k

-- the new page is the old one beside the piece's sectors; a page with an object or on the device that
-- wasn't read is written as a whole
abbrev pub IsMerged : Piece → List ℕ → Option (List ℕ) → Kept → Type 0
IsMerged p fresh (Some page) k = KeepsRest p page fresh
IsMerged p fresh None (kept.Obj o) = is_whole p ≡ true
IsMerged p fresh None (kept.Wb b) = is_whole p ≡ true
IsMerged p fresh None k = KeepsRest p (plain_page k) fresh

-- The new page stands in the scratch.
pub record IsFresh (p : Piece) (fresh : List ℕ) (page : Option (List ℕ)) (k : Kept) : Type 0 where
  pub long : length fresh ≡ 4096
  pub merged : IsMerged p fresh page k

-- what is to be put stands in the scratch
abbrev pub IsDue : Work → Piece → List ℕ → Option (List ℕ) → Kept → Type 0
IsDue work.Writes p fresh page k = IsFresh p fresh page k
IsDue w p fresh page k = ⊤

-- the form that the piece leaves
abbrev pub form_by : Work → List ℕ → PageForm
form_by work.Writes fresh = form_of fresh
form_by w fresh = Blank

-- the cell that is lent is that of the entry's object
abbrev pub IsLentOf : Option Lent → Kept → Type 0
IsLentOf None k = ⊤
IsLentOf (Some y) k = k ≡ kept.Obj y.object

-- a page whose cell is lent was read
abbrev pub IsReadBy : Bool → Option Lent → Type 0
IsReadBy read None = ⊤
IsReadBy read (Some y) = read ≡ true

-- What the call has of its page.
pub record IsOwn (c : Head) (r : Scratch) (own : Own) : Type 0 where
  pub piece : is_count c.work ≡ false
  pub within : IsWithin c.piece
  pub place : HasPlace own.entry
  pub lent : IsLentOf own.lent own.entry.kept
  pub seen : IsReadBy own.read own.lent
  pub due : IsDue c.work c.piece r.fresh (page_if r own.read) own.entry.kept

-- The new form needs an object of this class.
pub record IsNew (c : Head) (r : Scratch) (new : New) : Type 0 where
  pub form : form_by c.work r.fresh ≡ Pooled (bytes_by r new.huge) new.huge
  pub class : new.class ≡ object_class r.table (bytes_by r new.huge) new.huge
  pub few : length (bytes_by r new.huge) ≤ 4096

-- The form is the one that the piece leaves, with its object.
pub record IsNext (c : Head) (r : Scratch) (next : Kept) : Type 0 where
  pub kept : next ≡ kept_by (form_by c.work r.fresh) (object_of r next)
  pub weight : weight_of next ≡ form_weight (form_by c.work r.fresh)

-- What is to be put.
pub record IsToPut (c : Head) (r : Scratch) (d : Due) : Type 0 where
  pub piece : is_count c.work ≡ false
  pub place : HasPlace d.entry
  pub due : IsDue c.work c.piece r.fresh (page_if r d.read) d.entry.kept
  pub next : IsNext c r d.next

-- The entry has an object, and room for a tag.
pub record HasObject (c : Head) (e : EntryState) (o : Stored) : Type 0 where
  pub piece : is_count c.work ≡ false
  pub within : IsWithin c.piece
  pub place : HasPlace e
  pub kept : e.kept ≡ kept.Obj o

-- The entry's page is in a block of the device, and the entry has room for a tag.
pub record IsAway (c : Head) (e : EntryState) (b : ℕ) : Type 0 where
  pub piece : is_count c.work ≡ false
  pub within : IsWithin c.piece
  pub place : HasPlace e
  pub kept : e.kept ≡ kept.Wb b

-- what came of making a new object
abbrev pub Makes : Head → Scratch → Outcome → Type 0
Makes c r (outcome.Object o) = IsNext c r (kept.Obj o)
Makes c r (outcome.Refused end) = IsRefusal end

-- the refusal, if there is one
abbrev pub AreRefusals : Option PieceEnd → Type 0
AreRefusals None = ⊤
AreRefusals (Some end) = IsRefusal end

-- the pool of an object that is to be freed: it is at home, or it is lent to this call
abbrev pub CanFree : Option Lent → Stored → PoolState → Type 0
CanFree None o q = IsAtHome q o.handle.0
CanFree (Some y) o q = IsLent q y.object.handle.0 y.cell

-- what holds of a call at its stage
abbrev pub IsFit : {D : Type 0} → Head → Scratch → Stage D → Type 0
IsFit c r stage.Start = (is_count c.work ≡ false) × IsWithin c.piece
IsFit c r stage.Beyond = is_count c.work ≡ true
IsFit c r (stage.Refusing a) = is_count c.work ≡ true
IsFit c r (stage.Seen e o) = HasObject c e o
IsFit c r (stage.Pinning e o q) = HasObject c e o × CanPin o q
IsFit c r (stage.Pinned e y end) = HasObject c e y.object × AreRefusals end
IsFit c r (stage.Unpinning e y end q) =
    HasObject c e y.object × AreRefusals end × IsLent q y.object.handle.0 y.cell
IsFit c r (stage.Plain e) = (is_count c.work ≡ false) × HasPlace e × IsPlain e.kept
IsFit c r (stage.Leaving e) = (is_count c.work ≡ false) × HasPlace e
IsFit c r (stage.Refused e read end) = (is_count c.work ≡ false) × IsRefusal end
IsFit c r (stage.Missed e fault) = (is_count c.work ≡ false) × HasPlace e
IsFit c r (stage.Away e b) = IsAway c e b
IsFit c r (stage.Fetching e b d) = IsAway c e b × (b < d.blocks)
IsFit c r (stage.Failing e fault) = (is_count c.work ≡ false) × HasPlace e
IsFit c r (stage.Counting e fault a) = (is_count c.work ≡ false) × HasPlace e
IsFit c r (stage.Wanting own new) = IsOwn c r own × IsNew c r new
IsFit c r (stage.Inside own new q) =
    IsOwn c r own × IsNew c r new × CanStore r.table (length (bytes_by r new.huge)) q
IsFit c r (stage.Both own new q a) =
    IsOwn c r own × IsNew c r new × CanStore r.table (length (bytes_by r new.huge)) q
    × CanCharge r.table a
IsFit c r (stage.Made own class q y) =
    IsOwn c r own × (class_in r.table (form_by c.work r.fresh) ≡ class) × Makes c r y
IsFit c r (stage.Old own o next) =
    IsOwn c r own × (own.entry.kept ≡ kept.Obj o) × IsNext c r next
IsFit c r (stage.Freeing own o next q) =
    IsOwn c r own × (own.entry.kept ≡ kept.Obj o) × IsNext c r next × CanFree own.lent o q
IsFit c r (stage.Backed own b next) =
    IsOwn c r own × (own.entry.kept ≡ kept.Wb b) × IsNext c r next
IsFit c r (stage.Releasing own b next x) =
    IsOwn c r own × (own.entry.kept ≡ kept.Wb b) × IsNext c r next
    × (slice_get x.states b ≡ Some Owned)
IsFit c r (stage.Owing due frames ahead) = IsToPut c r due
IsFit c r (stage.Giving due frames ahead a) =
    IsToPut c r due × CanPay frames (old_weight ahead due.entry.kept) (weight_of due.next) a
IsFit c r (stage.Ready due ahead behind) = IsToPut c r due
IsFit c r stage.Over = ⊤

-- the call isn't over
abbrev pub IsGoing : {D : Type 0} → Stage D → Type 0
IsGoing stage.Over = ⊥
IsGoing s = ⊤

-- what the account counts beside the page where a piece is over
abbrev pub tells_by : Work → Counters → Counters
tells_by work.Discards c = counted c delta.NotifyFree
tells_by w c = c

-- ---- stages that follow

-- what stands has to be given up, and this is to be put
abbrev pub settled_by : {D : Type 0} → Own → Kept → Kept → Stage D
settled_by own next (kept.Obj o) = stage.Old own o next
settled_by own next (kept.Wb b) = stage.Backed own b next
settled_by own next k =
    stage.Owing (record { entry = own.entry; read = own.read; next = next }) 0 None

-- a read has its page's slot
abbrev pub read_by : {D : Type 0} → EntryState → Kept → Stage D
read_by e (kept.Obj o) = stage.Seen e o
read_by e (kept.Wb b) = stage.Away e b
read_by e k = stage.Plain e

-- a discard has its page's slot
abbrev pub discard_by : {D : Type 0} → EntryState → Kept → Stage D
discard_by e kept.Empty =
    stage.Ready (record { entry = e; read = false; next = kept.Empty }) None None
discard_by e (kept.Same w) =
    stage.Owing (record { entry = e; read = false; next = kept.Empty }) 0 None
discard_by e (kept.Obj o) =
    stage.Old (record { entry = e; lent = None; read = false }) o kept.Empty
discard_by e (kept.Wb b) =
    stage.Backed (record { entry = e; lent = None; read = false }) b kept.Empty

-- none was made
abbrev pub quit_by : {D : Type 0} → EntryState → Bool → PieceEnd → Option Lent → Stage D
quit_by e read end None = stage.Refused e read end
quit_by e read end (Some y) = stage.Pinned e y (Some end)

-- a failure of the device is counted
abbrev pub fails_by : Work → Counters → Counters
fails_by work.Reads c = counted c delta.FailedRead
fails_by w c = counted c delta.FailedWrite

-- the cell is back
abbrev pub unpinned_by : {D : Type 0} → EntryState → Option PieceEnd → Stage D
unpinned_by e None = stage.Leaving e
unpinned_by e (Some end) = stage.Refused e true end

-- ---- calls that begin

-- a piece before its first event
abbrev pub started : {D : Type 0} → Work → Piece → Tag → ℕ → PageCall D
started w p tag now =
    record {
      head = record { work = w; piece = p; tag = tag; now = now };
      stage = stage.Start;
      fetched = false;
    }

-- the count of a request beyond the disk before its first event
abbrev pub counting : {D : Type 0} → PageCall D
counting = record {
  head = record {
    work = work.Counts;
    piece = record { page = record { 0 = 0 }; first = 0; count = 0 };
    tag = record { actor = 0; op = 0 };
    now = 0;
  };
  stage = stage.Beyond;
  fetched = false;
}

-- whether the call is a discard of a part of a page
abbrev pub skips : Work → Piece → Bool
skips work.Discards p = nat_lt p.count 8
skips w p = false

-- whether the call is over without an event
abbrev pub is_skipped : Head → Bool
is_skipped c = skips c.work c.piece

-- whether the next event gives the device
abbrev pub is_fetching : {D : Type 0} → Stage D → Bool
is_fetching (stage.Fetching e b d) = true
is_fetching s = false

-- whether the device has just failed
abbrev pub is_failing : {D : Type 0} → Stage D → Bool
is_failing (stage.Failing e fault) = true
is_failing s = false

-- whether the page was read from the device, after a turn from one stage to another
abbrev pub has_fetched : {D : Type 0} → Bool → Stage D → Stage D → Bool
has_fetched read (stage.Fetching e b d) (stage.Failing f fault) = read
has_fetched read (stage.Fetching e b d) s = true
has_fetched read s s' = read
