-- How a job's lines are told: sent to a sink, or left waiting in the buffer before it.
use Rattle.std.specs.Prelude.{◌≡◌, ◌⊎◌, ◌≤◌, ◌<◌, ℕ, Bool, true, false, ◌||◌, List, [], ◌++◌, ◌∷◌, length, Option, Result, IfOk, OnOk, IfErr, ⊤}
use Rattle.std.specs.Io.KnownBytes.{Appends, Consumes}
use Rattle.plain_disk.specs.Output.{OutLine, any_refusal}
use Rattle.job_text.specs.declared.job.Item.{Item}
use Rattle.job_text.specs.declared.job.Item.TheVariants as items
use Rattle.job_text.specs.declared.limits.TheConstants.{MOST_BYTES}
use Rattle.job_text.specs.Jobs.{Used, MayFollow}
use Rattle.job_session.specs.declared.sim.Status.{Status}
use Rattle.job_session.specs.declared.sim.Status.TheVariants as statuses
use Rattle.job_session.specs.declared.stop.Stop.{Stop}
use Rattle.job_session.specs.declared.stop.Stop.TheVariants as stops
use Rattle.job_session.specs.declared.stop.NoText.{NoText}
use Rattle.job_session.specs.declared.stop.NoText.TheVariants as no
use Rattle.job_session.specs.Runs.{Seen, BeginsWith, WriteCause, IsTextRun, IsNoJob, IsTextCut}
use Rattle.plain_disk.specs.Rests.{Rest}
use Rattle.job_session.specs.Stands.{Stands}
use Rattle.job_session.specs.Stepped.{Disk, Stepped, AreOwn}
use Rattle.job_print.specs.Texts.{text}

-- ---- why a call was given up

-- why a call that only writes was given up
abbrev pub StopCause : ℕ → ℕ → Bool → Stop → Type 0
StopCause before now stopped stops.Memory = ⊤
StopCause before now stopped stops.Write = WriteCause before now stopped

-- more bytes were read than a job has at most
abbrev pub IsLong : Option (List ℕ) → Option (List ℕ) → Type 0
IsLong before after = (bytes : List ℕ) × Consumes before after bytes × (MOST_BYTES < length bytes)

-- why no text was read
abbrev pub ReadCause : Option (List ℕ) → Option (List ℕ) → ℕ → ℕ → NoText → Type 0
ReadCause left left_after before now no.Memory = ⊤
ReadCause left left_after before now no.Failed = before < now
ReadCause left left_after before now no.Long = IsLong left left_after

-- ---- an output

-- An output in the making: what the sink was given, where it tells that; the bytes that wait before
-- it; whether some line said that something was refused; how often the sink has failed; whether it
-- has stopped; the loan by which it is held.
pub record OutputState : Type 0 where
  pub sent : Option (List ℕ)
  pub waits : List ℕ
  pub refused : Bool
  pub faults : ℕ
  pub stopped : Bool
  pub loan : ℕ

-- These lines were told: what waited and their text were sent in part, and all but what waits now
-- where nothing went wrong.
pub record Tells (o m : OutputState) (r : Result (Unit {0}) Stop)
    (lines : List OutLine) : Type 0 where
  pub sends : BeginsWith o.sent m.sent (o.waits ++ text lines)
  pub whole : OnOk r ((sends.rest ≡ m.waits) × (m.refused ≡ (o.refused || any_refusal lines)))
  pub loan : m.loan ≡ o.loan
  pub later : o.faults ≤ m.faults
  pub cause : IfErr r (StopCause o.faults m.faults m.stopped)

-- ---- items

-- items that may stand where the disk has so many pages, and the time is this
pub record MayStand (pages clock : ℕ) (items : List Item) : Type 0 where
  pub used : Used
  pub sized : pages ≡ 0 → used.disk ≡ false
  pub timed : used.clock ≡ clock
  pub may : MayFollow used items

-- the row of the disk stands for some rest of the plain disk
abbrev pub StandsForSome : Disk → Type 0
StandsForSome d = (r : Rest) × Stands r d

-- Items were run one after the other by their own turns, on the disk d, and their lines were told.
-- Where nothing went wrong these are all items of the job, and the disk m is the one after them; else
-- it has the device that these items left.
pub record ItemsTold (d : Disk) (job : List Item) (m : Disk) (o p : OutputState)
    (r : Result (Unit {0}) Stop) : Type 0 where
  pub front : List Item
  pub later : List Item
  pub parts : job ≡ front ++ later
  pub turns : List (List ℕ)
  pub lines : List OutLine
  pub last : Disk
  pub stepped : Stepped d front turns lines last
  pub own : AreOwn front turns
  pub told : Tells o p r lines
  pub whole : OnOk r ((later ≡ []) × (last ≡ m))
  pub device : last.device ≡ m.device

-- none of these items is a phase
abbrev pub NoPhases : List Item → Type 0
NoPhases [] = ⊤
NoPhases (items.Attr attr ∷ more) = NoPhases more
NoPhases (items.Report report ∷ more) = NoPhases more
NoPhases (items.Phase text ∷ more) = ⊥

-- Lines were sent, or a beginning of them: all where nothing went wrong, and it is said whether some
-- line tells of a refusal.
pub record LinesSent (lines : List OutLine) (before after : Option (List ℕ))
    (r : Result Bool Stop) : Type 0 where
  pub sends : BeginsWith before after (text lines)
  pub whole : IfOk r (λ refused. Appends before after (text lines)
      × (refused ≡ any_refusal lines))

-- Items without phases were run one after the other, on the disk d, and their lines were sent. Where
-- nothing went wrong these are all items, and the disk m is the one after them; else it has the device
-- that these items left.
pub record ItemsSent (d : Disk) (job : List Item) (m : Disk) (before after : Option (List ℕ))
    (r : Result Bool Stop) : Type 0 where
  pub front : List Item
  pub later : List Item
  pub parts : job ≡ front ++ later
  pub lines : List OutLine
  pub last : Disk
  pub stepped : Stepped d front [] lines last
  pub own : AreOwn front []
  pub sent : LinesSent lines before after r
  pub whole : OnOk r ((later ≡ []) × (last ≡ m))
  pub device : last.device ≡ m.device

-- ---- texts

module _ (bytes : List ℕ) (Untouched : Type 0) (entry exit : Seen) where
  -- what came of a text that was run, where it may have left the device untouched
  abbrev pub TextEnds : Option (List ℕ) → Option (List ℕ) → Status → Type 0
  TextEnds before after statuses.Done = IsTextRun entry exit (Appends before after) false bytes
  TextEnds before after statuses.Refused = IsTextRun entry exit (Appends before after) true bytes
  TextEnds before after statuses.Words = ⊥
  TextEnds before after statuses.Job = IsNoJob (Appends before after) bytes × Untouched
  TextEnds before after statuses.ReadFault = ⊥
  TextEnds before after statuses.WriteFault = ⊥
  TextEnds before after statuses.NoMemory = ⊥

  -- what a text that was given up has written: nothing yet, a beginning of the line of its fault, or
  -- of its job's output
  abbrev pub TextStops : Option (List ℕ) → Option (List ℕ) → Stop → Type 0
  TextStops before after stops.Memory = (Appends before after [] × Untouched)
      ⊎ IsTextCut entry exit (BeginsWith before after) bytes
  TextStops before after stops.Write = (IsNoJob (BeginsWith before after) bytes × Untouched)
      ⊎ IsTextCut entry exit (BeginsWith before after) bytes

-- what was written of a line that was given up: nothing yet, or a beginning of it
abbrev pub LineStops : List ℕ → Option (List ℕ) → Option (List ℕ) → Stop → Type 0
LineStops line before after stops.Memory = Appends before after []
LineStops line before after stops.Write = BeginsWith before after line

-- the status of a run that was given up
abbrev pub stop_status : Stop → Status
stop_status stops.Memory = statuses.NoMemory
stop_status stops.Write = statuses.WriteFault
