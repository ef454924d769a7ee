-- The calls of a session, by what comes of them.
use Rattle.std.specs.Prelude.{⊤}
use Rattle.std.proofs.Common.{◌≡◌, ℕ, ◌≤◌, Bool, true, false, List, [], ◌∷◌, ◌++◌, length, take, Option, Some, None, Result, Ok, Err, IfErr, refl, sym, ap, ◌∙◌, subst, arith}
use Rattle.std.proofs.lemmas.List.{take_all}
use Rattle.std.specs.Io.KnownBytes.{Appends}
use Rattle.zr_base.specs.declared.op.Op.{Op}
use Rattle.backing_dev.specs.declared.backing.Backing.{Ghosts}
use Rattle.plain_disk.specs.Rests.{Rest}
use Rattle.page_steps.specs.Steps.{Terms, DiskHeld}
use Rattle.zr_base.specs.declared.op.Turns.{Turns}
use Rattle.zr_core.specs.Runs.{turns_of, AllOver}
use Rattle.zr_core.specs.declared.disk.World.{World}
use Rattle.zr_core.specs.declared.phase.Phase.{Phase}
use Rattle.zr_core.specs.Machines.{PhaseSteps, rounds_of}
use Rattle.zr_core.specs.Playing.{playing, lines_shown}
use Rattle.joint_rule.specs.Begins.{Begin}
use Rattle.zr_core.specs.declared.limits.TheConstants.{MOST_CHAIN}
use Rattle.zr_core.specs.Rests.{device_by, blocks_by, begun, RestsAs, IsEarly, IsAtRest}
use Rattle.zr_core.specs.States.{Playing, CanGoOn, IsPrepared, IsSetUpOn}
use Rattle.job_text.specs.declared.job.Item.{Item}
use Rattle.job_text.specs.declared.job.Item.TheVariants as items
use Rattle.job_text.specs.declared.job.PhaseText.{PhaseText}
use Rattle.job_session.specs.declared.sim.Status.{Status}
use Rattle.job_session.specs.declared.sim.Status.TheVariants as statuses
use Rattle.job_session.specs.declared.session.Next.TheVariants as next
use Rattle.job_session.specs.declared.session.Running.{Running}
use Rattle.job_session.specs.declared.session.Session.{Session}
use Rattle.job_session.specs.declared.session.Stage.TheVariants as stages
use Rattle.job_session.specs.declared.stop.Stop.{Stop}
use Rattle.job_session.specs.declared.stop.Stop.TheVariants as stops
use Rattle.job_session.specs.Stands.{Stands}
use Rattle.job_session.specs.Stepped.{Disk, without_pages, disk_of, Stepped, IsBySchedule}
use Rattle.job_session.specs.Runs.{BeginsWith}
use Rattle.job_session.specs.Telling.{StopCause, stop_status}
use Rattle.job_session.specs.Sessions.{Place, done_at, place, disk_at, session_disk, GoesOn, GivesUp, IsStarted, IsOver, IsOut, ComesBack, IsHome, NextIs, IsEnded, IsStopped, EndsBy, IsCutPhase, CutBy}
use Rattle.job_session.specs.Advances.{ended_status, outcome_of, Advances, IsSoFar, IsCutSoFar, SessionRan}
use Rattle.job_session.proofs.Devices.{is_run_on}
use Rattle.job_session.proofs.Jobs.{phase_steps}
use Rattle.job_session.proofs.Sending.{StopCause-later}
use Rattle.job_session.proofs.SoFar.{nothing_yet, went_on, gave_up}

-- ---- statuses

module _ {D : Type 0} {b : Ghosts D} (s t : Session D b) (u w : Option (List ℕ))
    (before now : ℕ) (stopped : Bool) where
  pub ends_with : (refused : Bool) → IsEnded s t u w before now stopped refused
      → EndsBy s t u w before now stopped (ended_status refused)
  ends_with false e = e
  ends_with true e = e

  pub stops_with : (stop : Stop) → IsStopped s t u w before now stopped
      → StopCause before now stopped stop
      → EndsBy s t u w before now stopped (stop_status stop)
  stops_with stops.Memory e cause = e
  stops_with stops.Write e cause = (e, cause)

  -- ---- a job that has ended

  module _ (first : Rest) (job : List Item) (v : Option (List ℕ)) (same : s.job ≡ job)
      (so_far : IsSoFar first (done_at (place s)) (session_disk s) (Appends v u) s.refused) where
    all_done : (refused : Bool) → IsEnded s t u w before now stopped refused
        → IsSoFar first job (session_disk t) (Appends v w) refused
    all_done refused e =
        let P : List Item × Bool → Type 0 =
        λ x. IsSoFar first x.0 (session_disk t) (Appends v w) x.1 in
        let all : take t.at t.job ≡ job =
        ap (λ (n : ℕ). take n t.job) e.2 ∙ take_all (length t.job) t.job (omega arith) ∙ e.0.job ∙ same in
        subst P (λ i. (all i, e.3 i))
        (went_on first (place s) (session_disk s) (session_disk t) [] ⊤ v u w so_far tt (place t)
        e.0)

    given_up : IsStopped s t u w before now stopped
        → IsCutSoFar first job (session_disk t) (BeginsWith v w)
    given_up e = gave_up first (place s) (session_disk s) (session_disk t) [] ⊤ v u w so_far tt job
        same e.1

    pub ran_by : (status : Status) → EndsBy s t u w before now stopped status
        → SessionRan first job (session_disk t) v w (outcome_of status)
    ran_by statuses.Done e = all_done false e
    ran_by statuses.Refused e = all_done true e
    ran_by statuses.Words e = absurd e
    ran_by statuses.Job e = absurd e
    ran_by statuses.ReadFault e = absurd e
    ran_by statuses.WriteFault e = given_up e.0
    ran_by statuses.NoMemory e = given_up e

  pub ends_home : (status : Status) → EndsBy s t u w before now stopped status → IsHome t
  ends_home statuses.Done e = e.1
  ends_home statuses.Refused e = e.1
  ends_home statuses.Words e = absurd e
  ends_home statuses.Job e = absurd e
  ends_home statuses.ReadFault e = absurd e
  ends_home statuses.WriteFault e = e.0.0
  ends_home statuses.NoMemory e = e.0

-- ---- up to the next phase

module _ {D : Type 0} {b : Ghosts D} (s t : Session D b) (u w : Option (List ℕ))
    (before now : ℕ) (stopped : Bool) where
  module _ (was : World D b) (here : s.stage ≡ stages.Here was) where
    first : disk_of s.clock was ≡ session_disk s
    first = ap (disk_at s.clock) (sym here)

    -- what an advance comes to, by its result
    abbrev To : (world : World D b) → Result (Option (Phase D)) Stop → Type 0
    To world r = Advances (place s) (place t) t.clock (disk_of s.clock was) world u w r

    pub phase_next : (running : Running D b) (r : Result (Option (Phase D)) Stop)
        → t.stage ≡ stages.Ready running → r ≡ Ok (Some running.phase) → To running.world r
        → NextIs s t u w before now stopped next.Phase
    phase_next running r is went to =
        let a = subst (To running.world) went to in (
          a.0,
          a.2.0,
          (running, is, a.2.1, a.2.2),
          subst (λ (d : Disk). GoesOn (place s) (place t) d [] ⊤ a.0 (Appends u w)) first a.1,
        )

    pub ended_next : (world : World D b) (r : Result (Option (Phase D)) Stop) (status : Status)
        → t.stage ≡ stages.Here world → r ≡ Ok None → status ≡ ended_status t.refused → To world r
        → NextIs s t u w before now stopped (next.Ended status)
    ended_next world r status is went by to =
        let a = subst (To world) went to in
        let all = ends_with s t u w before now stopped t.refused (
          subst (λ (x : Disk × Disk). GoesOn (place s) (place t) x.0 [] ⊤ x.1 (Appends u w))
              (λ i. (first i, (sym a.2.1 ∙ ap (disk_at t.clock) (sym is)) i)) a.1,
          (world, is, a.2.2),
          a.2.0,
          refl,
        ) in
        subst (EndsBy s t u w before now stopped) (sym by) all

    pub stopped_next : (world : World D b) (r : Result (Option (Phase D)) Stop) (status : Status)
        (stop : Stop) → t.stage ≡ stages.Here world → r ≡ Err stop → status ≡ stop_status stop
        → To world r → IfErr r (StopCause before now stopped)
        → NextIs s t u w before now stopped (next.Ended status)
    stopped_next world r status stop is went by to cause =
        let a = subst (To world) went to in
        let all = stops_with s t u w before now stopped stop (
          (world, is, a.1),
          subst (λ (x : Disk × Disk). GivesUp (place s) x.0 [] ⊤ x.1 (BeginsWith u w))
              (λ i. (first i, ap (disk_at t.clock) (sym is) i)) a.0,
        ) (subst (λ (x : Result (Option (Phase D)) Stop). IfErr x (StopCause before now stopped))
        went cause) in
        subst (EndsBy s t u w before now stopped) (sym by) all

-- ---- a phase that was given up

module _ {D : Type 0} {b : Ghosts D} (p : Place) (t : Session D b) (u w : Option (List ℕ))
    (before now : ℕ) (stopped : Bool) (d : Disk) (text : PhaseText) (turns : List ℕ) where
  abbrev Cut : Type 0
  Cut = IsCutPhase p t u w before now stopped d text turns

  abbrev By : Status → Type 0
  By = CutBy p t u w before now stopped d text turns

  cut_with : (stop : Stop) → Cut → StopCause before now stopped stop → By (stop_status stop)
  cut_with stops.Memory e cause = e
  cut_with stops.Write e cause = (e, cause)

  pub cut_by : (r : Result Bool Stop) (stop : Stop) (status : Status) → r ≡ Err stop
      → status ≡ stop_status stop → Cut → IfErr r (StopCause before now stopped) → By status
  cut_by r stop status went by cut cause =
      subst By (sym by)
      (cut_with stop cut
      (subst (λ (x : Result Bool Stop). IfErr x (StopCause before now stopped)) went cause))

  pub cut_ran : (origin : Rest) (job : List Item) (v : Option (List ℕ)) → p.job ≡ job
      → IsSoFar origin (done_at p) d (Appends v u) p.refused
      → IsBySchedule text.actors text.schedule turns → (status : Status) → By status
      → SessionRan origin job (session_disk t) v w (outcome_of status)
  cut_ran origin job v same so_far own statuses.Done e = absurd e
  cut_ran origin job v same so_far own statuses.Refused e = absurd e
  cut_ran origin job v same so_far own statuses.Words e = absurd e
  cut_ran origin job v same so_far own statuses.Job e = absurd e
  cut_ran origin job v same so_far own statuses.ReadFault e = absurd e
  cut_ran origin job v same so_far own statuses.WriteFault e =
      gave_up origin p d (session_disk t) (turns ∷ []) _ v u w so_far own job same e.0.1
  cut_ran origin job v same so_far own statuses.NoMemory e =
      gave_up origin p d (session_disk t) (turns ∷ []) _ v u w so_far own job same e.1

  pub cut_home : (status : Status) → By status → IsHome t
  cut_home statuses.Done e = absurd e
  cut_home statuses.Refused e = absurd e
  cut_home statuses.Words e = absurd e
  cut_home statuses.Job e = absurd e
  cut_home statuses.ReadFault e = absurd e
  cut_home statuses.WriteFault e = e.0.0
  cut_home statuses.NoMemory e = e.0

  pub cut_cause : (earlier : ℕ) → earlier ≤ before → (status : Status) → By status
      → IfErr (outcome_of status) (StopCause earlier now stopped)
  cut_cause earlier le statuses.Done e = absurd e
  cut_cause earlier le statuses.Refused e = absurd e
  cut_cause earlier le statuses.Words e = absurd e
  cut_cause earlier le statuses.Job e = absurd e
  cut_cause earlier le statuses.ReadFault e = absurd e
  cut_cause earlier le statuses.WriteFault e =
      StopCause-later earlier before now stopped stops.Write le e.1
  cut_cause earlier le statuses.NoMemory e = tt

-- ---- phases

module _ {D : Type 0} {b : Ghosts D} (d : Disk) (clock : ℕ) (text : PhaseText) (x : Playing D)
    (world : World D b) (phase : Phase D) (turns : List ℕ)
    (started : IsStarted d text.actors x) (time : d.clock ≡ clock)
    (over : IsOver d x turns (playing world phase text.actors)) where
  -- the steps of a phase that is over, on the disk of its world
  pub over_steps : IsEarly world.pages world.spare
      → Stepped d (items.Phase text ∷ []) (turns ∷ [])
      (lines_shown (playing world phase text.actors)) (disk_of clock world)
  over_steps early =
      phase_steps d (disk_of clock world) text turns _
      (is_run_on d clock world.backed x.spare world.spare x.terms.size world.pages world.limit x.cells
      world.row.cells over.spare (ap (λ (t : Terms). t.size) over.same)
      (ap (λ (t : Terms). t.size) started.goes_by) (over.limit ∙ started.limit) (over.backed ∙ started.backed) (sym time)
      started.device started.blocks early over.rest.rests)
      (subst (λ (y : Terms × Bool). PhaseSteps y.0 y.1 text.actors d.row turns
      (lines_shown (playing world phase text.actors)) world.row.cells)
      (λ i. (started.goes_by i, started.backed i)) over.steps)

-- a phase that was prepared on the disk d
pub started_by : {D : Type 0} {b : Ghosts D} (d : Disk) (world : World D b) (phase : Phase D)
    (actors js : List (List Op)) → js ≡ actors → world.pages ≡ d.size → phase.clock ≡ d.clock
    → world.limit ≡ d.limit → world.backed ≡ d.backed → device_by world.spare world.pages world.row.cells ≡ d.device
    → blocks_by world.spare world.pages world.row.cells ≡ d.blocks
    → CanGoOn (playing world phase js) → IsSetUpOn d.row (playing world phase js)
    → ((g : Begin) → RestsAs g d.size d.row
    → IsPrepared (begun g d.backed js d.clock) (playing world phase js))
    → IsStarted d actors (playing world phase actors)
started_by d world phase actors js same size time limit backed device blocks can set_up prepared = record {
  goes_by = λ i. record { size = size i; chain = MOST_CHAIN; clock = time i };
  acting = refl;
  limit = limit;
  backed = backed;
  device = device;
  blocks = blocks;
  can = subst (λ (x : List (List Op)). CanGoOn (playing world phase x)) same can;
  set_up = subst (λ (x : List (List Op)). IsSetUpOn d.row (playing world phase x)) same set_up;
  prepared = λ g rests. subst (λ (x : List (List Op)). IsPrepared (begun g d.backed x d.clock)
      (playing world phase x)) same (prepared g rests);
}

-- a phase that was run by its schedule comes back
module _ {D : Type 0} {b : Ghosts D} (d : Disk) (text : PhaseText) (s : Session D b)
    (w0 w1 : World D b) (f0 f1 : Phase D) (js : List (List Op)) (schedule : List Turns)
    (same : js ≡ text.actors) (is : schedule ≡ text.schedule) (out : IsOut s d text)
    (started : IsStarted d text.actors (playing w0 f0 text.actors))
    (goes_by : (playing w1 f1 js).terms ≡ (playing w0 f0 js).terms) (spare : w1.spare ≡ w0.spare)
    (limit : w1.limit ≡ w0.limit) (backed : w1.backed ≡ w0.backed) (can : CanGoOn (playing w1 f1 js))
    (over : AllOver js f1.workers.items)
    (rest : IsAtRest w1.pages w1.noted.items w1.row.cells)
    (steps : (before : List (Option DiskHeld)) → IsSetUpOn before (playing w0 f0 js)
    → (rounds : ℕ) × PhaseSteps (playing w0 f0 js).terms w0.backed js before
    (turns_of schedule ++ rounds_of (length js) rounds) (lines_shown (playing w1 f1 js))
    w1.row.cells) where
  abbrev pub run : (rounds : ℕ) × PhaseSteps (playing w0 f0 js).terms w0.backed js d.row
      (turns_of schedule ++ rounds_of (length js) rounds) (lines_shown (playing w1 f1 js))
      w1.row.cells
  run = steps d.row
      (subst (λ (x : List (List Op)). IsSetUpOn d.row (playing w0 f0 x)) (sym same) started.set_up)

  abbrev pub own_turns : List ℕ
  own_turns = turns_of text.schedule ++ rounds_of (length text.actors) run.0

  abbrev pub are_own : IsBySchedule text.actors text.schedule own_turns
  are_own = (run.0, refl)

  abbrev pub comes_back : ComesBack s w1 f1
  comes_back = record {
    disk = d;
    text = text;
    start = playing w0 f0 text.actors;
    turns = own_turns;
    out = out;
    started = started;
    over = record {
      same = goes_by;
      spare = spare;
      limit = limit;
      backed = backed;
      can = subst (λ (x : List (List Op)). CanGoOn (playing w1 f1 x)) same can;
      over = subst (λ (x : List (List Op)). AllOver x f1.workers.items) same over;
      rest = rest;
      steps = subst (λ (x : List (List Op) × List Turns). PhaseSteps (playing w0 f0 js).terms w0.backed x.0
          d.row (turns_of x.1 ++ rounds_of (length x.0) run.0) (lines_shown (playing w1 f1 x.0))
          w1.row.cells) (λ i. (same i, is i)) run.1;
    };
  }

-- before the first item
pub at_start : {D : Type 0} {b : Ghosts D} (first : Rest) (s : Session D b) (u : Option (List ℕ))
    → Stands first (session_disk s) → session_disk s ≡ without_pages first.device → s.at ≡ 0
    → s.refused ≡ false → IsSoFar first (done_at (place s)) (session_disk s) (Appends u u) s.refused
at_start first s u stands bare none quiet =
    subst (λ (x : ℕ × Bool). IsSoFar first (take x.0 s.job) (session_disk s) (Appends u u) x.1)
    (λ i. (sym none i, sym quiet i)) (nothing_yet first (session_disk s) u stands bare)
