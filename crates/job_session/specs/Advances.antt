-- The words of the calls inside a session, and of the loop over its phases.
use Rattle.std.specs.Prelude.{◌≡◌, ℕ, Bool, true, false, List, [], ◌++◌, length, Option, Some, None, Result, Ok, Err, ⊤}
use Rattle.std.specs.Io.KnownBytes.{Appends}
use Rattle.backing_dev.specs.declared.backing.Backing.{Ghosts}
use Rattle.plain_disk.specs.Output.{OutLine, any_refusal}
use Rattle.plain_disk.specs.Rests.{Rest}
use Rattle.zr_core.specs.declared.disk.World.{World}
use Rattle.zr_core.specs.declared.phase.Phase.{Phase}
use Rattle.zr_core.specs.Playing.{playing}
use Rattle.zr_core.specs.Rests.{IsAtRest}
use Rattle.job_text.specs.declared.job.Item.{Item}
use Rattle.job_text.specs.declared.job.PhaseText.{PhaseText}
use Rattle.job_print.specs.Texts.{text}
use Rattle.job_session.specs.declared.sim.Status.{Status}
use Rattle.job_session.specs.declared.sim.Status.TheVariants as statuses
use Rattle.job_session.specs.declared.stop.Stop.{Stop}
use Rattle.job_session.specs.declared.stop.Stop.TheVariants as stops
use Rattle.job_session.specs.Legal.{Legal}
use Rattle.job_session.specs.Stands.{Stands}
use Rattle.job_session.specs.Stepped.{Disk, without_pages, disk_of, Stepped, AreOwn}
use Rattle.job_session.specs.Runs.{BeginsWith}
use Rattle.job_session.specs.Sessions.{Place, GoesOn, GivesUp, IsAtPhase, IsStarted}

-- the status of a job that has ended
abbrev pub ended_status : Bool → Status
ended_status false = statuses.Done
ended_status true = statuses.Refused

-- whether something was refused, by the status of a job
abbrev pub outcome_of : Status → Result Bool Stop
outcome_of statuses.Done = Ok false
outcome_of statuses.Refused = Ok true
outcome_of statuses.Words = Err stops.Write
outcome_of statuses.Job = Err stops.Write
outcome_of statuses.ReadFault = Err stops.Write
outcome_of statuses.WriteFault = Err stops.Write
outcome_of statuses.NoMemory = Err stops.Memory

-- ---- up to the next phase

-- the items before the next phase are done, or were given up
abbrev pub GoesTo : Place → Place → Disk → Disk → Option (List ℕ) → Option (List ℕ)
    → Result (Unit {0}) Stop → Type 0
GoesTo p q d m u w (Ok x) = GoesOn p q d [] ⊤ m (Appends u w)
GoesTo p q d m u w (Err stop) = GivesUp p d [] ⊤ m (BeginsWith u w)

-- a phase is prepared on the world, which stood for the disk d, or there is no item left
abbrev pub Prepares : {D : Type 0} {b : Ghosts D} → Place → ℕ → Disk → World D b → Option (Phase D)
    → Type 0
Prepares p clock d world None =
    (p.at ≡ length p.job) × (disk_of clock world ≡ d)
    × IsAtRest world.pages world.noted.items world.row.cells
Prepares p clock d world (Some phase) = (text : PhaseText) × IsAtPhase p clock d text
    × IsStarted d text.actors (playing world phase text.actors)

-- both
abbrev pub Advances : {D : Type 0} {b : Ghosts D} → Place → Place → ℕ → Disk → World D b
    → Option (List ℕ) → Option (List ℕ) → Result (Option (Phase D)) Stop → Type 0
Advances p q clock d world u w (Ok ready) =
    (m : Disk) × GoesOn p q d [] ⊤ m (Appends u w) × Prepares q clock m world ready
Advances p q clock d world u w (Err stop) =
    GivesUp p d [] ⊤ (disk_of clock world) (BeginsWith u w)
    × IsAtRest world.pages world.noted.items world.row.cells

-- ---- whole jobs

-- From the first rest on, some first items of a job have led to the disk d, and these are its lines.
pub record IsSoFar (first : Rest) (front : List Item) (d : Disk) (Writes : List ℕ → Type 0)
    (refused : Bool) : Type 0 where
  pub lines : List OutLine
  pub last : Rest
  pub legal : Legal first front lines last
  pub stands : Stands last d
  pub turns : List (List ℕ)
  pub stepped : Stepped (without_pages first.device) front turns lines d
  pub own : AreOwn front turns
  pub refused_is : refused ≡ any_refusal lines
  pub output : Writes (text lines)

-- The job was given up: some first items have led to a disk with this device.
pub record IsCutSoFar (first : Rest) (job : List Item) (m : Disk) (Writes : List ℕ → Type 0)
    : Type 0 where
  pub front : List Item
  pub later : List Item
  pub parts : job ≡ front ++ later
  pub refused : Bool
  pub last : Disk
  pub so_far : IsSoFar first front last Writes refused
  pub device : last.device ≡ m.device

-- a whole job has led to the disk m, or was given up
abbrev pub SessionRan : Rest → List Item → Disk → Option (List ℕ) → Option (List ℕ)
    → Result Bool Stop → Type 0
SessionRan first job m u w (Ok refused) = IsSoFar first job m (Appends u w) refused
SessionRan first job m u w (Err stop) = IsCutSoFar first job m (BeginsWith u w)
