-- What the calls of a session do: where it stands in its job, and how each call extends the outputs so
-- far.
use Rattle.std.specs.Prelude.{◌≡◌, ℕ, ◌+◌, ◌≤◌, Bool, true, false, ◌||◌, List, [], ◌∷◌, ◌++◌, length, take, drop, Option, Some, Result, Ok, Err, slice_get, ⊤}
use Rattle.std.specs.Io.KnownBytes.{Appends}
use Rattle.zr_base.specs.declared.op.Op.{Op}
use Rattle.backing_dev.specs.Dev.{DeviceState}
use Rattle.backing_dev.specs.declared.backing.Backing.{Ghosts}
use Rattle.plain_disk.specs.Output.{OutLine, any_refusal}
use Rattle.plain_disk.specs.Rests.{Rest}
use Rattle.plain_disk.specs.Legal.{IsFirst}
use Rattle.joint_rule.specs.Begins.{Begin}
use Rattle.zr_core.specs.declared.disk.World.{World}
use Rattle.zr_core.specs.declared.phase.Phase.{Phase}
use Rattle.zr_core.specs.Machines.{PhaseSteps}
use Rattle.zr_core.specs.Playing.{playing, lines_shown}
use Rattle.zr_core.specs.Rests.{no_device, device_by, blocks_by, IsAtRest, RestsAs, begun}
use Rattle.zr_core.specs.Runs.{AllOver}
use Rattle.zr_core.specs.States.{Playing, CanGoOn, IsPrepared, IsSetUpOn}
use Rattle.job_text.specs.declared.job.Item.{Item}
use Rattle.job_text.specs.declared.job.Item.TheVariants as items
use Rattle.job_text.specs.declared.job.PhaseText.{PhaseText}
use Rattle.job_print.specs.Texts.{text}
use Rattle.job_session.specs.declared.sim.Status.{Status}
use Rattle.job_session.specs.declared.sim.Status.TheVariants as statuses
use Rattle.job_session.specs.declared.session.Next.{Next}
use Rattle.job_session.specs.declared.session.Next.TheVariants as next
use Rattle.job_session.specs.declared.session.Stage.{Stage}
use Rattle.job_session.specs.declared.session.Stage.TheVariants as stages
use Rattle.job_session.specs.declared.session.Running.{Running}
use Rattle.job_session.specs.declared.session.Session.{Session}
use Rattle.job_session.specs.Legal.{Legal}
use Rattle.job_session.specs.Stands.{Stands}
use Rattle.job_session.specs.Stepped.{Disk, without_pages, disk_of, terms_of, Stepped, IsBySchedule, AreOwn}
use Rattle.job_session.specs.Runs.{BeginsWith, WriteCause}
use Rattle.job_session.specs.Telling.{MayStand, StandsForSome}

-- ---- outputs so far

-- where a session stands in its job: how many items are done, and whether something was refused
pub record Place : Type 0 where
  pub job : List Item
  pub at : ℕ
  pub refused : Bool

-- the items that are done
abbrev pub done_at : Place → List Item
done_at p = take p.at p.job

-- and those that are left
abbrev pub left_at : Place → List Item
left_at p = drop p.at p.job

-- On the disk d some first items of a job were done, and now these are: those between them, by these
-- turns, lead from d to m and print these lines. So the lines extend every output that the plain disk
-- allows of the first ones, where d stands for its last rest, and every output of the machine's that
-- led to d, by these turns more. They are the job's own where Own holds.
pub record Extends (front whole : List Item) (d : Disk) (turns : List (List ℕ)) (Own : Type 0)
    (more : List OutLine) (m : Disk) : Type 0 where
  pub between : List Item
  pub parts : whole ≡ front ++ between
  pub alone : Stepped d between turns more m
  pub legal : (first last : Rest) (lines : List OutLine) → Legal first front lines last
      → Stands last d → (r : Rest) × Legal first whole (lines ++ more) r × Stands r m
  pub stepped : (from : Disk) (others : List (List ℕ)) (lines : List OutLine)
      → Stepped from front others lines d → Stepped from whole (others ++ turns) (lines ++ more) m
  pub own : (others : List (List ℕ)) → AreOwn front others → Own
      → AreOwn whole (others ++ turns)

-- A session went on in its job, from the disk d to the disk m: what was written is the text of lines
-- that extend each output so far.
pub record GoesOn (p q : Place) (d : Disk) (turns : List (List ℕ)) (Own : Type 0) (m : Disk)
    (Writes : List ℕ → Type 0) : Type 0 where
  pub job : q.job ≡ p.job
  pub on : p.at ≤ q.at
  pub lines : List OutLine
  pub extends : Extends (done_at p) (done_at q) d turns Own lines m
  pub refused : q.refused ≡ (p.refused || any_refusal lines)
  pub output : Writes (text lines)

-- A session was given up: what was written is of lines that extend each output so far by some items
-- more, cut after the item in work. The device is what these items left.
pub record GivesUp (p : Place) (d : Disk) (turns : List (List ℕ)) (Own : Type 0) (m : Disk)
    (Writes : List ℕ → Type 0) : Type 0 where
  pub front : List Item
  pub later : List Item
  pub parts : p.job ≡ front ++ later
  pub lines : List OutLine
  pub last : Disk
  pub extends : Extends (done_at p) front d turns Own lines last
  pub device : last.device ≡ m.device
  pub output : Writes (text lines)

-- ---- places in a job

-- The world is at rest at a place of a job: the items that are left may stand there, and the disk
-- stands for a rest of the plain disk.
pub record IsAt {D : Type 0} {b : Ghosts D} (p : Place) (clock : ℕ) (world : World D b)
    : Type 0 where
  pub within : p.at ≤ length p.job
  pub rest : IsAtRest world.pages world.noted.items world.row.cells
  pub may : MayStand world.pages clock (left_at p)
  pub stands : StandsForSome (disk_of clock world)

-- the next item is a phase
abbrev pub IsNext : Place → PhaseText → Type 0
IsNext p text = slice_get p.job p.at ≡ Some (items.Phase text)

-- The next item is a phase, which may stand on the disk d; this stands for a rest of the plain disk.
pub record IsAtPhase (p : Place) (clock : ℕ) (d : Disk) (text : PhaseText) : Type 0 where
  pub item : IsNext p text
  pub time : d.clock ≡ clock
  pub may : MayStand d.size d.clock (left_at p)
  pub stands : StandsForSome d

-- A phase of these actors stands before its first turn, on the disk d.
pub record IsStarted {D : Type 0} (d : Disk) (actors : List (List Op)) (x : Playing D)
    : Type 0 where
  pub goes_by : x.terms ≡ terms_of d
  pub acting : x.actors ≡ actors
  pub limit : x.limit ≡ d.limit
  pub backed : x.backed ≡ d.backed
  pub device : device_by x.spare x.terms.size x.cells ≡ d.device
  pub blocks : blocks_by x.spare x.terms.size x.cells ≡ d.blocks
  pub can : CanGoOn x
  pub set_up : IsSetUpOn d.row x
  pub prepared : (g : Begin) → RestsAs g d.size d.row
      → IsPrepared (begun g d.backed actors d.clock) x

-- A phase that began as x, on the disk d, has come to y: by these turns of its actors alone, after
-- which all are finished and the row is at rest.
pub record IsOver {D : Type 0} (d : Disk) (x : Playing D) (turns : List ℕ) (y : Playing D)
    : Type 0 where
  pub same : y.terms ≡ x.terms
  pub spare : y.spare ≡ x.spare
  pub limit : y.limit ≡ x.limit
  pub backed : y.backed ≡ x.backed
  pub can : CanGoOn y
  pub over : AllOver y.actors y.workers
  pub rest : IsAtRest y.terms.size y.noted y.cells
  pub steps : PhaseSteps x.terms x.backed y.actors d.row turns (lines_shown y) y.cells

-- ---- sessions

module _ {D : Type 0} {b : Ghosts D} where
  -- where a session stands
  abbrev pub place : Session D b → Place
  place s = record { job = s.job; at = s.at; refused = s.refused }

  -- the disk of a world that is here, at this time
  abbrev pub disk_at : ℕ → Stage D b → Disk
  disk_at clock (stages.Here world) = disk_of clock world
  disk_at clock (stages.Ready running) = disk_of clock running.world
  disk_at clock stages.Out = record (without_pages no_device) { clock = clock }

  -- the disk of a session whose world is here
  abbrev pub session_disk : Session D b → Disk
  session_disk s = disk_at s.clock s.stage

  -- the world is here and at rest
  abbrev pub IsHome : Session D b → Type 0
  IsHome s = (world : World D b) × (s.stage ≡ stages.Here world)
      × IsAtRest world.pages world.noted.items world.row.cells

  -- the world is here, between two items
  abbrev pub IsBetween : Session D b → Type 0
  IsBetween s = (world : World D b) × (s.stage ≡ stages.Here world)
      × IsAt (place s) s.clock world

  -- the next item is a phase, which is prepared on the disk d
  abbrev pub IsReady : Session D b → Disk → PhaseText → Type 0
  IsReady s d text = (running : Running D b) × (s.stage ≡ stages.Ready running)
      × IsAtPhase (place s) s.clock d text
      × IsStarted d text.actors (playing running.world running.phase text.actors)

  -- the next item is a phase, which began on the disk d, and is out
  abbrev pub IsOut : Session D b → Disk → PhaseText → Type 0
  IsOut s d text = (s.stage ≡ stages.Out) × IsAtPhase (place s) s.clock d text

  -- Nothing is done yet: the disk is the one over this device, without pages, which stands for a rest
  -- before the first item.
  pub record IsNew (s : Session D b) (job : List Item) (device : DeviceState) : Type 0 where
    pub whole : s.job ≡ job
    pub none : s.at ≡ 0
    pub quiet : s.refused ≡ false
    pub disk : session_disk s ≡ without_pages device
    pub first : Rest
    pub is_first : IsFirst device first
    pub stands : Stands first (without_pages device)

  -- What comes back is the phase that is out, after turns of it alone, with all its actors finished.
  pub record ComesBack (s : Session D b) (world : World D b) (phase : Phase D) : Type 0 where
    pub disk : Disk
    pub text : PhaseText
    pub start : Playing D
    pub turns : List ℕ
    pub out : IsOut s disk text
    pub started : IsStarted disk text.actors start
    pub over : IsOver disk start turns (playing world phase text.actors)

  -- ---- what comes of a call

  module _ (s t : Session D b) (u w : Option (List ℕ)) (before now : ℕ) (stopped : Bool) where
    -- all items are done
    abbrev pub IsEnded : Bool → Type 0
    IsEnded refused = GoesOn (place s) (place t) (session_disk s) [] ⊤ (session_disk t) (Appends u w)
        × IsHome t × (t.at ≡ length t.job) × (t.refused ≡ refused)

    -- the items up to the next phase were given up
    abbrev pub IsStopped : Type 0
    IsStopped = IsHome t × GivesUp (place s) (session_disk s) [] ⊤ (session_disk t) (BeginsWith u w)

    -- the job has ended at this status: all items are done, or those up to the next phase were given up
    abbrev pub EndsBy : Status → Type 0
    EndsBy statuses.Done = IsEnded false
    EndsBy statuses.Refused = IsEnded true
    EndsBy statuses.Words = ⊥
    EndsBy statuses.Job = ⊥
    EndsBy statuses.ReadFault = ⊥
    EndsBy statuses.WriteFault = IsStopped × WriteCause before now stopped
    EndsBy statuses.NoMemory = IsStopped

    -- the items up to the next phase are done, which is prepared, or up to the end
    abbrev pub NextIs : Next → Type 0
    NextIs next.Phase = (m : Disk) × (text : PhaseText)
        × IsReady t m text × GoesOn (place s) (place t) (session_disk s) [] ⊤ m (Appends u w)
    NextIs (next.Ended status) = EndsBy status

  module _ (p : Place) (t : Session D b) (u w : Option (List ℕ)) (before now : ℕ) (stopped : Bool)
      (d : Disk) (text : PhaseText) (turns : List ℕ) where
    -- the turns are the phase's own
    abbrev pub Own : Type 0
    Own = IsBySchedule text.actors text.schedule turns

    -- the lines of the phase were cut
    abbrev pub IsCutPhase : Type 0
    IsCutPhase = IsHome t × GivesUp p d (turns ∷ []) Own (session_disk t) (BeginsWith u w)

    -- the job has ended at this status, while the lines of the phase were written
    abbrev pub CutBy : Status → Type 0
    CutBy statuses.Done = ⊥
    CutBy statuses.Refused = ⊥
    CutBy statuses.Words = ⊥
    CutBy statuses.Job = ⊥
    CutBy statuses.ReadFault = ⊥
    CutBy statuses.WriteFault = IsCutPhase × WriteCause before now stopped
    CutBy statuses.NoMemory = IsCutPhase

    -- the phase is done, and its lines are written
    abbrev pub FinishIs : Result (Unit {0}) Status → Type 0
    FinishIs (Ok x) = GoesOn p (place t) d (turns ∷ []) Own (session_disk t) (Appends u w)
        × IsBetween t × (t.at ≡ p.at + 1)
    FinishIs (Err status) = CutBy status
