-- A worker's turns are those of its call.
use Rattle.std.proofs.Common.{◌≡◌, ◌≢◌, ℕ, ◌≤◌, Bool, true, false, List, [], ◌∷◌, length, Option, Some, None, slice_get, refl, sym, ap, ◌∙◌, subst}
use Rattle.std.specs.Option.{is_some}
use Rattle.zr_base.specs.declared.op.Op.{Op}
use Rattle.call_history.specs.declared.part.Part.{Part}
use Rattle.call_history.specs.declared.part.Done.{Done}
use Rattle.lock_row.specs.declared.names.LockNo.{LockNo}
use Rattle.lock_row.specs.declared.names.Plan.{Plan}
use Rattle.lock_row.specs.declared.names.Plan.TheVariants.{Take, Give}
use Rattle.page_steps.specs.declared.stage.Scratch.{Scratch}
use Rattle.page_steps.specs.declared.stage.Progress.{Progress}
use Rattle.page_steps.specs.Steps.{Terms, DiskHeld, Here, plan, took}
use Rattle.page_steps.specs.Nexts.{Next}
use Rattle.page_steps.specs.Givings.{Works}
use Rattle.page_steps.specs.Fits.{StageFits}
use Rattle.page_steps.specs.Calls.{Frame, fresh_of}
use Rattle.page_steps.specs.Turns.{Turned as CallTurned}
use Rattle.post_steps.specs.Turns.{Allows as CallAllows, TakesAs as CallTakesAs, GivesAs as CallGivesAs}
use Rattle.actor_steps.specs.declared.call.Call.{Call}
use Rattle.actor_steps.specs.declared.call.Call.TheVariants as call
use Rattle.actor_steps.specs.declared.worker.Worker.{Worker}
use Rattle.actor_steps.specs.declared.worker.Turn.{Turn}
use Rattle.actor_steps.specs.declared.worker.Turn.TheVariants as turn
use Rattle.actor_steps.specs.Places.{todo_at, part_at, behind}
use Rattle.actor_steps.specs.Calls.{Does, local, IsGoing, next_event as call_event, IsFit as IsCallFit}
use Rattle.actor_steps.specs.Workers.{at_by, held_by, owed_by, stage_of, pin_by, ahead_by, behind_by, page_by, fail_by, here, next_event, with_call, frame, Keeps, IsBegun, IsFit, TakesAs, GivesAs, Allows, finished, turned, turn_of, Turned, Advanced}
use Rattle.actor_steps.proofs.Places.{todo_next, no_todo}
use Rattle.actor_steps.proofs.Calls.{PagePlans, CompactPlans, ScanPlans, VisitPlans, plan_is}

-- the worker after a turn in which its call goes on
abbrev pub gone_on : {D : Type 0} → Worker D → Scratch → Call D → Worker D
gone_on v r c = record {
  actor = v.actor;
  place = v.place;
  carried = v.carried;
  call = Some c;
  scratch = r;
  replies = v.replies;
}

-- nothing is left
module _ {D : Type 0} {X : Type 0} (takes : X → LockNo → Next → DiskHeld → X → Type 0)
    (misses : X → LockNo → X → Type 0) (gives : X → LockNo → Next → DiskHeld → X → Type 0)
    (t : Terms) (backed : Bool) (ops : List Op) (w : Worker D) (h : X) where
  pub at_end : (done : List Done) → length ops ≤ w.place.nr → Keeps backed ops w done
      → Advanced takes misses gives t backed ops w h w h turn.Finished done
  at_end done le keeps = (
    done,
    keeps,
    finished
        (ap (λ (ps : List Part). plan t (record (here t.size backed ops w done) { todo = ps }))
        (no_todo t.size backed w.place.nr ops w.place.page w.place.left le)) refl refl refl,
  )

module _ {D : Type 0} (t : Terms) (backed : Bool) (ops : List Op) (v : Worker D) (c : Call D)
    (fit : IsFit t backed ops (with_call v (Some c))) (op : Op)
    (at : slice_get ops v.place.nr ≡ Some op) where
  abbrev pub rest : List Part
  rest = todo_at t.size backed ops (behind v.place)

  abbrev pub x : List Done → Frame
  x done = frame t v op rest done

  todo_is : todo_at t.size backed ops v.place ≡ part_at v.place op ∷ rest
  todo_is = todo_next t.size backed ops v.place op at fit.settled

  -- the call's local is the worker's
  pub here_is : (r : Scratch) (d : Call D) (done : List Done)
      → local d r (x done) ≡ here t.size backed ops (gone_on v r d) done
  here_is r (call.Page d) done = λ i. record (local (call.Page d) r (x done)) { todo = sym todo_is i }
  here_is r (call.Idle d) done =
      λ i. record (local {D = D} (call.Idle d) r (x done)) { todo = sym todo_is i }
  here_is r (call.Writeback d) done =
      λ i. record (local (call.Writeback d) r (x done)) { todo = sym todo_is i }
  here_is r (call.Compact d) done =
      λ i. record (local {D = D} (call.Compact d) r (x done)) { todo = sym todo_is i }

  work : (done : List Done) → Does c v.scratch (x done)
  work done = fit.call.work op rest done at

  abbrev w : Worker D
  w = with_call v (Some c)

  -- what the hand allows the worker, it allows its call
  module _ {X : Type 0} (can_take : X → LockNo → Next → Type 0)
      (takes : X → LockNo → Next → DiskHeld → X → Type 0)
      (can_give : X → LockNo → Next → DiskHeld → Type 0) (h : X)
      (pages : PagePlans D) (compacts : CompactPlans) (scans : ScanPlans)
      (visits : VisitPlans D)
      (allows : Allows can_take takes can_give t backed ops w h) where
    next_is : (p : Plan) → call_event c ≡ p → next_event t backed ops w ≡ p
    next_is p e = sym (ap (plan t) (here_is v.scratch c []))
        ∙ plan_is pages compacts scans visits c v.scratch (x []) fit.call.fit fit.call.going (work []) ∙ e

    takes_as : (f : Next) → CallTakesAs (Does c v.scratch) (local c v.scratch) f → TakesAs t backed ops w f
    takes_as f says done u = subst (λ (l : Here). f l u ≡ took t l u) (here_is v.scratch c done)
        (says (x done) u (work done))

    gives_as : (f : Next) (u : DiskHeld) → CallGivesAs (Does c v.scratch) (local c v.scratch) f u
        → GivesAs t backed ops w f u
    gives_as f u says done = subst (λ (l : Here). Works t l u (f l u)) (here_is v.scratch c done)
        (says (x done) (work done))

    pub call_allows : CallAllows can_take takes can_give (Does c v.scratch) (local c v.scratch)
        (call_event c) h
    call_allows = record {
      take = λ k f what says. allows.take k f (next_is (Take k) what) (takes_as f says);
      fits = λ k f u g what says take. (
        x [],
        work [],
        subst (λ (l : Here). StageFits t l u) (sym (here_is v.scratch c []))
            (allows.fits k f u g (next_is (Take k) what) (takes_as f says) take),
      );
      give = λ k f u what says. allows.give k f u (next_is (Give k) what) (gives_as f u says);
    }

  -- a turn after which the call goes on
  module _ {X : Type 0} (takes : X → LockNo → Next → DiskHeld → X → Type 0)
      (misses : X → LockNo → X → Type 0) (gives : X → LockNo → Next → DiskHeld → X → Type 0)
      (h g : X) (r : Scratch) (d : Call D) (p : Progress)
      (turns : (y : Frame) → Does c v.scratch y
      → CallTurned takes misses gives y.terms (local c v.scratch y) h (local d r y) g p) where
    pub goes_on : (done : List Done) → Keeps backed ops v done
        → Advanced takes misses gives t backed ops w h (gone_on v r d) g (turn_of p) done
    goes_on done keeps = (
      done,
      record {
        ends = keeps.ends;
        sectors = keeps.sectors;
        count = keeps.count;
        carried = keeps.carried;
        later = keeps.later;
      },
      turned p
          (subst (λ (y : Here × Here). CallTurned takes misses gives t y.0 h y.1 g p)
          (λ i. (here_is v.scratch c done i, here_is r d done i)) (turns (x done) (work done)))
          refl,
    )

  pub still_fit : (r : Scratch) (d : Call D) → IsGoing d → IsCallFit d r
      → ((y : Frame) → Does c v.scratch y → Does d r y) → r.table ≡ v.scratch.table
      → IsFit t backed ops (gone_on v r d)
  still_fit r d going fits works table = record {
    some = fit.some;
    requests = fit.requests;
    few = fit.few;
    place = fit.place;
    settled = fit.settled;
    chain = table ∙ fit.chain;
    most = fit.most;
    carried = fit.carried;
    call = record {
      going = going;
      fit = fits;
      work = λ o ps done named. works (frame t v o ps done) (fit.call.work o ps done named);
    };
    replies = fit.replies;
    reads = fit.reads;
  }

-- ---- workers with one local

module _ {D : Type 0} (t : Terms) (backed : Bool) (ops : List Op) (w w' : Worker D)
    (same : (done : List Done) → here t.size backed ops w done ≡ here t.size backed ops w' done) where
  -- what the hand allows one of them, it allows the other
  pub allows_too : {X : Type 0} (can_take : X → LockNo → Next → Type 0)
      (takes : X → LockNo → Next → DiskHeld → X → Type 0)
      (can_give : X → LockNo → Next → DiskHeld → Type 0) (h : X)
      → Allows can_take takes can_give t backed ops w h → Allows can_take takes can_give t backed ops w' h
  allows_too can_take takes can_give h allows = record {
    take = λ k f what says. allows.take k f (ap (plan t) (same []) ∙ what) (takes_too f says);
    fits = λ k f u g what says take. subst (λ (l : Here). StageFits t l u) (same [])
        (allows.fits k f u g (ap (plan t) (same []) ∙ what) (takes_too f says) take);
    give = λ k f u what says. allows.give k f u (ap (plan t) (same []) ∙ what)
        (λ done. subst (λ (l : Here). Works t l u (f l u)) (sym (same done)) (says done));
  } where
    takes_too : (f : Next) → TakesAs t backed ops w' f → TakesAs t backed ops w f
    takes_too f says done u = subst (λ (l : Here). f l u ≡ took t l u) (sym (same done))
        (says done u)

  -- and a turn of one is that of the other
  pub advanced_too : {X : Type 0} (takes : X → LockNo → Next → DiskHeld → X → Type 0)
      (misses : X → LockNo → X → Type 0) (gives : X → LockNo → Next → DiskHeld → X → Type 0)
      (h : X) (n : Worker D) (g : X) (p : Turn) (done : List Done)
      → Advanced takes misses gives t backed ops w' h n g p done
      → Advanced takes misses gives t backed ops w h n g p done
  advanced_too takes misses gives h n g p done turns = (
    turns.0,
    turns.1,
    subst (λ (l : Here). Turned takes misses gives t l h (here t.size backed ops n turns.0) g p)
        (sym (same done)) turns.2,
  )

-- ---- a call in its place

module _ {D : Type 0} (t : Terms) (backed : Bool) (ops : List Op) (w : Worker D) (c : Call D) (is : w.call ≡ Some c) where
  same_worker : with_call w (Some c) ≡ w
  same_worker = ap (with_call w) (sym is)

  same_here : (done : List Done)
      → here t.size backed ops w done ≡ here t.size backed ops (with_call w (Some c)) done
  same_here done = ap (λ (v : Worker D). here t.size backed ops v done) (sym same_worker)

  -- the worker with its own call is fit
  pub fit_with : IsFit t backed ops w → IsFit t backed ops (with_call w (Some c))
  fit_with fit = subst (IsFit t backed ops) (sym same_worker) fit

  -- is allowed the same
  pub allows_with : {X : Type 0} (can_take : X → LockNo → Next → Type 0)
      (takes : X → LockNo → Next → DiskHeld → X → Type 0)
      (can_give : X → LockNo → Next → DiskHeld → Type 0) (h : X)
      → Allows can_take takes can_give t backed ops w h
      → Allows can_take takes can_give t backed ops (with_call w (Some c)) h
  allows_with can_take takes can_give h allows =
      allows_too t backed ops w (with_call w (Some c)) same_here can_take takes can_give h allows

  -- and makes the same turns
  pub advanced_with : {X : Type 0} (takes : X → LockNo → Next → DiskHeld → X → Type 0)
      (misses : X → LockNo → X → Type 0) (gives : X → LockNo → Next → DiskHeld → X → Type 0)
      (h : X) (n : Worker D) (g : X) (p : Turn) (done : List Done)
      → Advanced takes misses gives t backed ops (with_call w (Some c)) h n g p done
      → Advanced takes misses gives t backed ops w h n g p done
  advanced_with takes misses gives h n g p done turns =
      advanced_too t backed ops w (with_call w (Some c)) same_here takes misses gives h n g p done turns

-- a worker whose call's place is filled has one
pub is_begun : {D : Type 0} (o : Option (Call D)) → is_some o ≡ true → o ≢ None
is_begun {D} o on none = let q : true ≡ false = sym on ∙ ap (λ (x : Option (Call D)). is_some x) none in cc

-- or else none
pub is_empty : {D : Type 0} (o : Option (Call D)) → is_some o ≡ false → None ≡ o
is_empty None off = refl
is_empty (Some c) off = absurd (let q : true ≡ false = off in cc)

-- ---- a piece that begins

-- the worker with the page that a write makes
abbrev pub with_fresh : {D : Type 0} → Worker D → List ℕ → Worker D
with_fresh v fresh = record {
  actor = v.actor;
  place = v.place;
  carried = v.carried;
  call = None;
  scratch = record {
    page = v.scratch.page;
    fresh = fresh;
    packed = v.scratch.packed;
    table = v.scratch.table;
  };
  replies = v.replies;
}

module _ {D : Type 0} (t : Terms) (backed : Bool) (ops : List Op) (v : Worker D) (empty : None ≡ v.call) (fit : IsFit t backed ops v)
    (op : Op) (at : slice_get ops v.place.nr ≡ Some op) (fresh : List ℕ) (c : Call D)
    (begins : IsBegun t.size t.clock (record { actor = v.actor; op = v.place.nr }) op v.place.page
    fresh c) where
  abbrev now : Worker D
  now = with_call (with_fresh v fresh) (Some c)

  pub begun_fit : IsFit t backed ops now
  begun_fit = record {
    some = fit.some;
    requests = fit.requests;
    few = fit.few;
    place = fit.place;
    settled = fit.settled;
    chain = fit.chain;
    most = fit.most;
    carried = fit.carried;
    call = record {
      going = begins.going;
      fit = begins.fit now.scratch (subst (λ (n : ℕ). n ≤ 16) (sym fit.chain) fit.most);
      work = λ o ps done named. begins.work (frame t now o ps done) now.scratch refl refl fit.chain
          (let q : Some o ≡ Some op = sym named ∙ at in cc) refl refl refl;
    };
    replies = fit.replies;
    reads = fit.reads;
  }

  pub begun_here : (done : List Done) → here t.size backed ops v done ≡ here t.size backed ops now done
  begun_here done = (λ i. record {
    actor = v.actor;
    at = at_by (sym empty i);
    todo = todo_is t backed ops now c begun_fit op at i;
    held = held_by v.place.page (sym empty i);
    done = done;
    fresh = fresh_of v.scratch (stage_of (sym empty i));
    pin = pin_by (sym empty i);
    owed = owed_by (sym empty i);
    ahead = ahead_by (sym empty i);
    behind = behind_by (sym empty i);
    page = page_by v.scratch (sym empty i);
    fail = fail_by (sym empty i);
  }) ∙ sym (begins.start (x t backed ops now c begun_fit op at done) now.scratch)
      ∙ here_is t backed ops now c begun_fit op at now.scratch c done
