-- The words of the calls that run a generated job, and of those that read the words of the command
-- line.
use Rattle.std.specs.Prelude.{◌≡◌, ◌⊎◌, ℕ, zero, suc, Bool, true, false, List, [], ◌∷◌, Option, Result, Ok, Err, ⊤}
use Rattle.std.specs.Io.KnownBytes.{Appends}
use Rattle.std.specs.Borrow.{Bor}
use Rattle.backing_dev.specs.declared.backing.Backing.{Ghosts}
use Rattle.plain_disk.specs.Rests.{Rest}
use Rattle.job_text.specs.declared.job.Item.{Item}
use Rattle.job_text.specs.declared.job.Item.TheVariants as items
use Rattle.job_print.specs.Texts.{text}
use Rattle.job_session.specs.declared.sim.Status.{Status}
use Rattle.job_session.specs.declared.sim.Status.TheVariants as statuses
use Rattle.job_session.specs.declared.stop.Stop.{Stop}
use Rattle.job_session.specs.declared.stop.Stop.TheVariants as stops
use Rattle.job_session.specs.declared.words.Asked.{Asked}
use Rattle.job_session.specs.declared.words.Asked.TheVariants as asks
use Rattle.job_session.specs.declared.session.Session.{Session}
use Rattle.job_session.specs.Stepped.{Disk}
use Rattle.job_session.specs.Runs.{Seen, BeginsWith, IsRunWord, AreGenNumbers, IsGenWords, IsOtherWords, last_three, IsGenerated, IsCutGenerated}
use Rattle.job_session.specs.Sessions.{place, done_at, left_at, session_disk, IsHome, IsBetween}
use Rattle.job_session.specs.Advances.{IsSoFar, IsCutSoFar}

-- what the words ask for
abbrev pub Asks : List (Bor (List ℕ)) → Asked → Type 0
Asks words asks.Run = IsRunWord words
Asks words (asks.Gen pages seed) = IsGenWords words pages seed
Asks words asks.Nothing = IsOtherWords words

-- what two words after `gen` ask for
abbrev pub GenAsks : List ℕ → List ℕ → Asked → Type 0
GenAsks first second asks.Run = ⊥
GenAsks first second (asks.Gen pages seed) = AreGenNumbers first second pages seed
GenAsks first second asks.Nothing = (pages seed : ℕ) → ¬ AreGenNumbers first second pages seed

-- ---- phases

-- some item is a phase
abbrev pub HasPhase : List Item → Type 0
HasPhase [] = ⊥
HasPhase (items.Attr attr ∷ more) = HasPhase more
HasPhase (items.Report report ∷ more) = HasPhase more
HasPhase (items.Phase text ∷ more) = ⊤

-- the items after the first phase
abbrev pub after_phase : List Item → List Item
after_phase [] = []
after_phase (items.Attr attr ∷ more) = after_phase more
after_phase (items.Report report ∷ more) = after_phase more
after_phase (items.Phase text ∷ more) = more

-- the items after so many phases
abbrev pub after_phases : ℕ → List Item → List Item
after_phases zero job = job
after_phases (suc n) job = after_phase (after_phases n job)

-- from the first rest on, some first items have led to the disk d, whatever was written of their lines
abbrev pub HaveLed : Rest → List Item → Disk → Bool → Type 0
HaveLed first front d refused = IsSoFar first front d (λ bytes. ⊤) refused

module _ {D : Type 0} {b : Ghosts D} where
  -- The items up to the next phase are done, and this phase: they go on from what the items so far
  -- have led to.
  pub record Passes (s t : Session D b) : Type 0 where
    pub between : IsBetween t
    pub same : t.job ≡ s.job
    pub left : left_at (place t) ≡ after_phase (left_at (place s))
    pub led : (first : Rest) → HaveLed first (done_at (place s)) (session_disk s) s.refused
        → HaveLed first (done_at (place t)) (session_disk t) t.refused

  -- They were given up, for want of memory.
  pub record PassStops (s t : Session D b) (stop : Stop) : Type 0 where
    pub memory : stop ≡ stops.Memory
    pub home : IsHome t
    pub led : (first : Rest) → HaveLed first (done_at (place s)) (session_disk s) s.refused
        → IsCutSoFar first s.job (session_disk t) (λ bytes. ⊤)

-- ---- the lines of the reports

-- The whole job has led to a disk with the device of m, and so much was written of the last three of
-- its lines.
pub record LastTold (first : Rest) (job : List Item) (m : Disk) (Writes : List ℕ → Type 0)
    (refused : Bool) : Type 0 where
  pub last : Disk
  pub led : HaveLed first job last refused
  pub device : last.device ≡ m.device
  pub output : Writes (text (last_three led.lines))

module _ (first : Rest) (job : List Item) (m : Disk) (u w : Option (List ℕ)) where
  -- the last three lines were cut
  abbrev pub IsCutLast : Type 0
  IsCutLast = (refused : Bool) × LastTold first job m (BeginsWith u w) refused

  -- the job was given up before its last lines, or these were cut
  abbrev pub LastStops : Stop → Type 0
  LastStops stops.Memory = (Appends u w [] × IsCutSoFar first job m (λ bytes. ⊤)) ⊎ IsCutLast
  LastStops stops.Write = IsCutLast

  -- a whole job has led to the disk m, and its last three lines were written, or it was given up
  abbrev pub LastRan : Result Bool Stop → Type 0
  LastRan (Ok refused) = LastTold first job m (Appends u w) refused
  LastRan (Err stop) = LastStops stop

-- ---- generated jobs

module _ (pages seed : ℕ) (entry exit : Seen) (u w : Option (List ℕ)) (Untouched : Type 0) where
  -- what was written of a generated job that was given up, where it may have left the device untouched
  abbrev pub GenStops : Stop → Type 0
  GenStops stops.Memory = IsCutGenerated pages seed entry exit Untouched u w
  GenStops stops.Write = (refused : Bool) × IsGenerated pages seed entry exit (BeginsWith u w) refused

  -- what came of a generated job, by its status
  abbrev pub GenEnds : Status → Type 0
  GenEnds statuses.Done = IsGenerated pages seed entry exit (Appends u w) false
  GenEnds statuses.Refused = IsGenerated pages seed entry exit (Appends u w) true
  GenEnds statuses.Words = ⊥
  GenEnds statuses.Job = ⊥
  GenEnds statuses.ReadFault = ⊥
  GenEnds statuses.WriteFault = GenStops stops.Write
  GenEnds statuses.NoMemory = GenStops stops.Memory
