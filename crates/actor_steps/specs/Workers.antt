-- A worker, which has an actor's place and replies and its call in work, and the local that it
-- stands for.
use Rattle.std.specs.Prelude.{◌≡◌, ◌≢◌, ℕ, ◌+◌, ◌-◌, ◌*◌, ◌<◌, ◌≤◌, ◌^◌, ◌==◌, max, Bool, true, false, List, [], ◌∷◌, length, Option, Some, None, slice_get, vec_len, vec_capacity, if◌then◌else◌, ⊤}
use Rattle.zr_base.specs.declared.op.Op.{Op}
use Rattle.zr_base.specs.declared.op.Op.TheVariants.{Write, Read, Discard, Idle, Writeback, Compact}
use Rattle.plain_disk.specs.Ends.{is_single}
use Rattle.mem_account.specs.declared.weight.Weight.{Weight}
use Rattle.call_history.specs.declared.part.Part.{Part}
use Rattle.call_history.specs.declared.part.PartEnd.{PartEnd}
use Rattle.call_history.specs.declared.part.Done.{Done}
use Rattle.call_history.specs.Parts.{is_carried, left_by, got_of, op_end, end_as}
use Rattle.lock_row.specs.declared.names.LockNo.{LockNo}
use Rattle.lock_row.specs.declared.names.Plan.{Plan}
use Rattle.lock_row.specs.declared.names.Plan.TheVariants.{Finished, Take, Give}
use Rattle.lock_row.specs.declared.names.Pin.{Pin}
use Rattle.lock_row.specs.declared.names.At.{At}
use Rattle.lock_row.specs.declared.names.At.TheVariants as at
use Rattle.page_steps.specs.declared.stage.Stage.{Stage}
use Rattle.page_steps.specs.declared.stage.Stage.TheVariants as stage
use Rattle.page_steps.specs.Steps.{Terms, DiskHeld, Here, plan, took}
use Rattle.page_steps.specs.Nexts.{Next}
use Rattle.page_steps.specs.Givings.{Works}
use Rattle.page_steps.specs.Fits.{StageFits}
use Rattle.page_steps.specs.Calls.{Frame, at_of, held_of, fresh_of, cell_in, owed_of, ahead_of, behind_of, page_of, fail_of}
use Rattle.page_steps.specs.declared.stage.Scratch.{Scratch}
use Rattle.zr_base.specs.declared.op.Tag.{Tag}
use Rattle.call_history.specs.Shows.{tag_by}
use Rattle.page_steps.specs.Calls.{here as page_here, end_of as ending, got_of as got_of_piece}
use Rattle.post_steps.specs.Idle.{at_of as idle_at, held_of as idle_held}
use Rattle.post_steps.specs.Writeback.{at_of as writeback_at, held_of as writeback_held, pin_of as writeback_pin, owed_of as writeback_owed, ahead_of as writeback_ahead, behind_of as writeback_behind, page_of as writeback_page, fail_of as writeback_fail}
use Rattle.post_steps.specs.Compact.{at_of as compact_at, held_of as compact_held, owed_of as compact_owed}
use Rattle.page_steps.specs.declared.stage.PieceEnd.{PieceEnd}
use Rattle.page_steps.specs.declared.stage.Progress.{Progress}
use Rattle.page_steps.specs.declared.stage.Progress.TheVariants as progress
use Rattle.page_steps.specs.Turns.{Turned as CallTurned}
use Rattle.actor_steps.specs.declared.call.Call.{Call}
use Rattle.actor_steps.specs.declared.call.Call.TheVariants as call
use Rattle.actor_steps.specs.declared.place.Place.{Place}
use Rattle.actor_steps.specs.declared.reply.Reply.{Reply}
use Rattle.actor_steps.specs.declared.worker.Worker.{Worker}
use Rattle.actor_steps.specs.declared.worker.Turn.{Turn}
use Rattle.actor_steps.specs.declared.worker.Turn.TheVariants as turn
use Rattle.actor_steps.specs.Places.{AreRequests, todo_at, part_at, behind, IsPlace, IsSettled, IsOnward}
use Rattle.actor_steps.specs.Work.{reads}
use Rattle.actor_steps.specs.Calls.{Does, local, IsGoing, IsFit as IsCallFit}
use Rattle.actor_steps.specs.Replies.{HasRoomFor, HasMore}

-- ---- the local

-- the stage of the machine, by the call in work; a piece without one is before its first event
abbrev pub at_by : {D : Type 0} → Option (Call D) → At
at_by None = at.Start
at_by (Some (call.Page c)) = at_of c.stage
at_by (Some (call.Idle c)) = idle_at c.stage
at_by (Some (call.Writeback c)) = writeback_at c.stage
at_by (Some (call.Compact c)) = compact_at c.stage

-- the locks that are held with their values, for a piece of this page
abbrev pub held_by : {D : Type 0} → ℕ → Option (Call D) → List (LockNo × DiskHeld)
held_by page None = []
held_by page (Some (call.Page c)) = held_of page c.stage
held_by page (Some (call.Idle c)) = idle_held c.stage
held_by page (Some (call.Writeback c)) = writeback_held c.stage
held_by page (Some (call.Compact c)) = compact_held c.stage

-- the frames that are owed
abbrev pub owed_by : {D : Type 0} → Option (Call D) → ℕ
owed_by None = 0
owed_by (Some (call.Page c)) = owed_of c.stage
owed_by (Some (call.Idle c)) = 0
owed_by (Some (call.Writeback c)) = writeback_owed c.stage
owed_by (Some (call.Compact c)) = compact_owed c.stage

-- the stage of a page's call, or one at which there is nothing of what a page's call alone has
abbrev pub stage_of : {D : Type 0} → Option (Call D) → Stage D
stage_of None = stage.Start
stage_of (Some (call.Page c)) = c.stage
stage_of (Some (call.Idle c)) = stage.Start
stage_of (Some (call.Writeback c)) = stage.Start
stage_of (Some (call.Compact c)) = stage.Start

-- the cell that is pinned
abbrev pub pin_by : {D : Type 0} → Option (Call D) → Option Pin
pin_by (Some (call.Writeback c)) = writeback_pin c.stage
pin_by o = cell_in (stage_of o)

-- what the account counts of the page, beside what the entry shows
abbrev pub ahead_by : {D : Type 0} → Option (Call D) → Option Weight
ahead_by (Some (call.Writeback c)) = writeback_ahead c.stage
ahead_by o = ahead_of (stage_of o)

-- what the entry shows, and the account doesn't count any more
abbrev pub behind_by : {D : Type 0} → Option (Call D) → Option Weight
behind_by (Some (call.Writeback c)) = writeback_behind c.stage
behind_by o = behind_of (stage_of o)

-- the page that was read from a pinned cell or from the device
abbrev pub page_by : {D : Type 0} → Scratch → Option (Call D) → Option (List ℕ)
page_by r (Some (call.Writeback c)) = writeback_page r c.stage
page_by r o = page_of r (stage_of o)

-- the end that the piece will have, if that is known
abbrev pub fail_by : {D : Type 0} → Option (Call D) → Option PartEnd
fail_by (Some (call.Writeback c)) = writeback_fail c.stage
fail_by o = fail_of (stage_of o)

-- the local, where these pieces are over, on a disk of so many pages, which has a backing or none
abbrev pub here : {D : Type 0} → ℕ → Bool → List Op → Worker D → List Done → Here
here size backed ops w done = record {
  actor = w.actor;
  at = at_by w.call;
  todo = todo_at size backed ops w.place;
  held = held_by w.place.page w.call;
  done = done;
  fresh = fresh_of w.scratch (stage_of w.call);
  pin = pin_by w.call;
  owed = owed_by w.call;
  ahead = ahead_by w.call;
  behind = behind_by w.call;
  page = page_by w.scratch w.call;
  fail = fail_by w.call;
}

-- what it does next, whatever is over
abbrev pub next_event : {D : Type 0} → Terms → Bool → List Op → Worker D → Plan
next_event t backed ops w = plan t (here t.size backed ops w [])

-- what the terms of a phase are to a worker, by the disk's pages and the time
abbrev pub terms_of : {D : Type 0} → ℕ → ℕ → Worker D → Terms
terms_of size now w = record { size = size; chain = w.scratch.table; clock = now }

-- the worker with this call in work
abbrev pub with_call : {D : Type 0} → Worker D → Option (Call D) → Worker D
with_call w o = record {
  actor = w.actor;
  place = w.place;
  carried = w.carried;
  call = o;
  scratch = w.scratch;
  replies = w.replies;
}

-- ---- the pieces that are over

-- how many pieces of an operation are over
abbrev pub over_of : ℕ → List Done → ℕ
over_of nr [] = 0
over_of nr (d ∷ ds) = if d.part.nr == nr then 1 + over_of nr ds else over_of nr ds

-- each piece of an operation that is over was carried out
abbrev pub AllCarried : ℕ → List Done → Type 0
AllCarried nr [] = ⊤
AllCarried nr (d ∷ ds) = (d.part.nr ≡ nr → is_carried d.end ≡ true) × AllCarried nr ds

-- The replies have the ends of the operations by the pieces that are over, and what these have
-- read; of the operation in work so many pieces are over, all carried out, and none of a later one.
pub record Keeps {D : Type 0} (backed : Bool) (ops : List Op) (w : Worker D) (done : List Done)
    : Type 0 where
  pub ends : (k : ℕ) (op : Op) (r : Reply) → slice_get ops k ≡ Some op
      → slice_get w.replies.items k ≡ Some r → r.end ≡ end_as backed k op done
  pub sectors : (k : ℕ) (r : Reply) → slice_get w.replies.items k ≡ Some r
      → r.sectors.items ≡ got_of k done
  pub count : over_of w.place.nr done ≡ w.carried
  pub carried : AllCarried w.place.nr done
  pub later : (k : ℕ) → w.place.nr < k → over_of k done ≡ 0

-- ---- what a worker has to have

-- A reply has room for the sectors that are left to read, where the operation is the k-th.
pub record ReadFits (size : ℕ) (pl : Place) (k start count len room : ℕ) : Type 0 where
  pub later : pl.nr < k → is_single size (Read start count) ≡ false → len + count ≤ room
  pub here : pl.nr ≡ k → is_single size (Read start count) ≡ false
      → len + (start + count - max start (8 * pl.page)) ≤ room

-- the reply of the k-th operation has room for what is left to read; only reads on the disk have
-- sectors
abbrev pub ReplyFits : ℕ → Place → ℕ → Op → Reply → Type 0
ReplyFits size pl k (Write start count stuff) r = r.sectors.items ≡ []
ReplyFits size pl k (Read start count) r =
    ReadFits size pl k start count (vec_len r.sectors) (vec_capacity r.sectors)
    × (is_single size (Read start count) ≡ true → r.sectors.items ≡ [])
ReplyFits size pl k (Discard start count) r = r.sectors.items ≡ []
ReplyFits size pl k (Idle age) r = r.sectors.items ≡ []
ReplyFits size pl k (Writeback mode) r = r.sectors.items ≡ []
ReplyFits size pl k Compact r = r.sectors.items ≡ []

-- what the call in work doesn't know of its actor, where these pieces follow and these are over
abbrev pub frame : {D : Type 0} → Terms → Worker D → Op → List Part → List Done → Frame
frame t w op rest done = record {
  terms = t;
  actor = w.actor;
  part = part_at w.place op;
  rest = rest;
  done = done;
}

-- The call does the worker's piece, and goes on.
pub record IsCallOf {D : Type 0} (t : Terms) (ops : List Op) (w : Worker D) (c : Call D) : Type 0 where
  pub going : IsGoing c
  pub fit : IsCallFit c w.scratch
  pub work : (op : Op) (rest : List Part) (done : List Done) → slice_get ops w.place.nr ≡ Some op
      → Does c w.scratch (frame t w op rest done)

-- the call in work does the worker's piece, if there is one
abbrev pub HasCall : {D : Type 0} → Terms → List Op → Worker D → Option (Call D) → Type 0
HasCall t ops w None = ⊤
HasCall t ops w (Some c) = IsCallOf t ops w c

-- The worker is at a piece with events, or past all of them, with room for what is left to do, on a
-- disk that has a page.
pub record IsFit {D : Type 0} (t : Terms) (backed : Bool) (ops : List Op) (w : Worker D)
    : Type 0 where
  pub some : 0 < t.size
  pub requests : AreRequests ops
  pub few : length ops < 2 ^ 32
  pub place : IsPlace ops w.place
  pub settled : IsSettled t.size backed ops w.place
  pub chain : w.scratch.table ≡ t.chain
  pub most : t.chain ≤ 16
  pub carried : w.carried ≤ w.place.page
  pub call : HasCall t ops w w.call
  pub replies : length w.replies.items ≡ length ops
  pub reads : (k : ℕ) (op : Op) (r : Reply) → slice_get ops k ≡ Some op
      → slice_get w.replies.items k ≡ Some r → ReplyFits t.size w.place k op r

-- ---- pieces that begin

-- The call of an operation's piece on a page before its first event. With the page that stands in
-- the scratch it does the work of each actor at this piece.
pub record IsBegun {D : Type 0} (size now : ℕ) (tag : Tag) (op : Op) (page : ℕ) (fresh : List ℕ) (c : Call D)
    : Type 0 where
  pub going : IsGoing c
  pub fit : (r : Scratch) → r.table ≤ 16 → IsCallFit c r
  pub start : (x : Frame) (r : Scratch) → local c r x ≡ page_here {D = D} x r stage.Start
  pub work : (x : Frame) (r : Scratch) → x.terms.size ≡ size → x.terms.clock ≡ now
      → r.table ≡ x.terms.chain → x.part.op ≡ op → x.part.page ≡ page → tag ≡ tag_by x.actor x.part
      → r.fresh ≡ fresh → Does c r x

-- The worker's next piece has begun: it has a call, and stands for the local that it stood for.
pub record HasBegun {D : Type 0} (t : Terms) (backed : Bool) (ops : List Op) (w w' : Worker D)
    : Type 0 where
  pub call : w'.call ≢ None
  pub place : w'.place ≡ w.place
  pub table : w'.scratch.table ≡ w.scratch.table
  pub fit : IsFit t backed ops w'
  pub same : (done : List Done)
      → here t.size backed ops w done ≡ here t.size backed ops w' done
  pub keeps : (done : List Done) → Keeps backed ops w done → Keeps backed ops w' done

-- ---- ends of pieces

-- What a worker needs where its piece is over with this end.
pub record CanFinish {D : Type 0} (size : ℕ) (backed : Bool) (ops : List Op) (end : PieceEnd)
    (w : Worker D) : Type 0 where
  pub requests : AreRequests ops
  pub more : w.place.nr < length ops
  pub place : IsPlace ops w.place
  pub settled : IsSettled size backed ops w.place
  pub carried : w.carried ≤ w.place.page
  pub replies : length w.replies.items ≡ length ops
  pub room : (op : Op) (r : Reply) → slice_get ops w.place.nr ≡ Some op
      → slice_get w.replies.items w.place.nr ≡ Some r
      → HasRoomFor end (vec_len r.sectors + reads op w.place.page) (vec_capacity r.sectors)

-- The worker's piece is over with this end: its reply has that, and the place goes on.
pub record Finishes {D : Type 0} (size : ℕ) (backed : Bool) (ops : List Op) (end : PieceEnd)
    (w w' : Worker D) : Type 0 where
  pub actor : w'.actor ≡ w.actor
  pub call : w'.call ≡ w.call
  pub scratch : w'.scratch ≡ w.scratch
  pub place : IsPlace ops w'.place
  pub settled : IsSettled size backed ops w'.place
  pub onward : IsOnward (behind w.place) w'.place
  pub todo : todo_at size backed ops w'.place
      ≡ left_by (ending end) w.place.nr (todo_at size backed ops (behind w.place))
  pub later : is_carried (ending end) ≡ false → w.place.nr < w'.place.nr
  pub carried : w'.carried ≡ (if w'.place.nr == w.place.nr then w.carried + 1 else 0)
  pub replies : (op : Op) → slice_get ops w.place.nr ≡ Some op
      → HasMore w.place.nr (op_end (ending end) w.carried)
      (got_of_piece end w.scratch.page (part_at w.place op)) (reads op w.place.page)
      w.replies.items w'.replies.items

-- ---- turns

-- an event that takes a value may be told so, whatever is over
abbrev pub TakesAs : {D : Type 0} → Terms → Bool → List Op → Worker D → Next → Type 0
TakesAs t backed ops w f = (done : List Done) (v : DiskHeld)
    → f (here t.size backed ops w done) v ≡ took t (here t.size backed ops w done) v

-- an event that gives this value may be told so, whatever is over
abbrev pub GivesAs : {D : Type 0} → Terms → Bool → List Op → Worker D → Next → DiskHeld → Type 0
GivesAs t backed ops w f v = (done : List Done)
    → Works t (here t.size backed ops w done) v (f (here t.size backed ops w done) v)

module _ {X : Type 0} (can_take : X → LockNo → Next → Type 0)
    (takes : X → LockNo → Next → DiskHeld → X → Type 0)
    (can_give : X → LockNo → Next → DiskHeld → Type 0) where
  -- The hand allows the next event of a worker, and what it gives to a take fits.
  pub record Allows {D : Type 0} (t : Terms) (backed : Bool) (ops : List Op) (w : Worker D) (h : X)
      : Type 0 where
    pub take : (k : LockNo) (f : Next) → next_event t backed ops w ≡ Take k
        → TakesAs t backed ops w f → can_take h k f
    pub fits : (k : LockNo) (f : Next) (v : DiskHeld) (g : X) → next_event t backed ops w ≡ Take k
        → TakesAs t backed ops w f → takes h k f v g → StageFits t (here t.size backed ops w []) v
    pub give : (k : LockNo) (f : Next) (v : DiskHeld) → next_event t backed ops w ≡ Give k
        → GivesAs t backed ops w f v → can_give h k f v

-- what a turn of its call is to an actor
abbrev pub turn_of : Progress → Turn
turn_of progress.Moved = turn.Went
turn_of (progress.Waits k) = turn.Waited k
turn_of (progress.Done end) = turn.Went

module _ {X : Type 0} (takes : X → LockNo → Next → DiskHeld → X → Type 0)
    (misses : X → LockNo → X → Type 0)
    (gives : X → LockNo → Next → DiskHeld → X → Type 0) where
  -- One turn of an actor by a hand leads from l to m: nothing where it is finished, or else a turn of
  -- its call.
  pub data Turned (t : Terms) (l : Here) (h : X) (m : Here) (g : X) (n : Turn) : Type 0 where
    finished : plan t l ≡ Finished → m ≡ l → g ≡ h → n ≡ turn.Finished → Turned t l h m g n
    turned : (p : Progress) → CallTurned takes misses gives t l h m g p → n ≡ turn_of p
        → Turned t l h m g n

  -- that of a worker, where these pieces are over before it
  abbrev pub Advanced : {D : Type 0} → Terms → Bool → List Op → Worker D → X → Worker D → X → Turn
      → List Done → Type 0
  Advanced t backed ops w h w' g n done = (done' : List Done) × Keeps backed ops w' done'
      × Turned t (here t.size backed ops w done) h (here t.size backed ops w' done') g n
