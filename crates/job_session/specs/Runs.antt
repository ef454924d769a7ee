-- The words of the top call: what was read and what was written, by the status.
use Rattle.std.specs.Prelude.{◌≡◌, ◌⊎◌, ◌-◌, ◌^◌, ◌<◌, ◌≤◌, ℕ, Bool, true, false, IsTrue, List, [], ◌∷◌, ◌++◌, map, length, drop, Option, Some, codes, ⊤}
use Rattle.std.specs.Borrow.{Bor}
use Rattle.std.specs.Io.KnownBytes.{Appends, Consumes, IsAtEnd}
use Rattle.std.specs.Str.{bytes_eq}
use Rattle.std.specs.Str.Parse.{IsNumeral, digits_value}
use Rattle.backing_dev.specs.Dev.{DeviceState}
use Rattle.plain_disk.specs.Output.{OutLine, any_refusal}
use Rattle.job_text.specs.declared.fault.JobFault.{JobFault}
use Rattle.job_text.specs.declared.job.Item.{Item}
use Rattle.job_text.specs.Faults.{first_fault}
use Rattle.job_text.specs.declared.limits.TheConstants.{MOST_BYTES, MOST_GENERATED}
use Rattle.job_text.specs.Generator.{generated}
use Rattle.job_text.specs.Jobs.{IsJob}
use Rattle.job_session.specs.declared.sim.Status.{Status}
use Rattle.job_session.specs.declared.sim.Status.TheVariants as statuses
use Rattle.plain_disk.specs.Rests.{Rest}
use Rattle.plain_disk.specs.Legal.{IsFirst, first_settings}
use Rattle.job_session.specs.Legal.{plain_item, Legal}
use Rattle.job_session.specs.Complete.{HaveRoom, RefuseForMemory}
use Rattle.job_session.specs.Stepped.{Disk, without_pages, Stepped, AreOwn}
use Rattle.job_print.specs.Texts.{text, fault_text}

-- the exit status of the program
abbrev pub status_number : Status → ℕ
status_number statuses.Done = 0
status_number statuses.Refused = 1
status_number statuses.Words = 2
status_number statuses.Job = 3
status_number statuses.ReadFault = 4
status_number statuses.WriteFault = 5
status_number statuses.NoMemory = 6

-- whether the words are the one word `run`
abbrev pub is_run_word : List (List ℕ) → Bool
is_run_word [] = false
is_run_word (word ∷ []) = bytes_eq word (codes "run")
is_run_word (word ∷ other ∷ more) = false

-- the words of the command line are the one word `run`
abbrev pub IsRunWord : List (Bor (List ℕ)) → Type 0
IsRunWord words = IsTrue (is_run_word (map (λ word. word.now) words))

-- One or more decimal digits, which stand for this number.
pub record IsDecimal (word : List ℕ) (n : ℕ) : Type 0 where
  pub digits : IsNumeral 10 word
  pub value : digits_value 10 word ≡ n

-- Two words of decimal digits: the first stands for a number of pages from 1 to 16,384, the second for
-- a seed below 2^64.
pub record AreGenNumbers (first second : List ℕ) (pages seed : ℕ) : Type 0 where
  pub for_pages : IsDecimal first pages
  pub some : 1 ≤ pages
  pub most : pages ≤ MOST_GENERATED
  pub for_seed : IsDecimal second seed
  pub fits : seed < 2 ^ 64

-- The words of the command line are `gen` and two such words.
pub record IsGenWords (words : List (Bor (List ℕ))) (pages seed : ℕ) : Type 0 where
  pub first : List ℕ
  pub second : List ℕ
  pub three : map (λ word. word.now) words ≡ codes "gen" ∷ first ∷ second ∷ []
  pub numbers : AreGenNumbers first second pages seed

-- the words of the command line ask for a generated job, of whose pages and seed this holds
abbrev pub IsGenWith : List (Bor (List ℕ)) → (ℕ → ℕ → Type 0) → Type 0
IsGenWith words P = (pages : ℕ) × (seed : ℕ) × IsGenWords words pages seed × P pages seed

-- The words of the command line are neither the one word `run`, nor `gen` with two such words.
pub record IsOtherWords (words : List (Bor (List ℕ))) : Type 0 where
  pub not_run : ¬ IsRunWord words
  pub not_gen : (pages seed : ℕ) → ¬ IsGenWords words pages seed

-- ---- the device

-- What is seen of a device: how many blocks it has, their bytes, if it tells them, how many of its
-- calls failed, and how many were made, if it tells that.
pub record Seen : Type 0 where
  pub blocks : ℕ
  pub contents : Option (List (List ℕ))
  pub faults : ℕ
  pub calls : Option ℕ

-- what is seen of a device by these members of its bound
abbrev pub seen : {D : Type 0} → (D → ℕ) → (D → Option (List (List ℕ))) → (D → ℕ) → (D → Option ℕ)
    → D → Seen
seen blocks contents faults calls dev = record {
  blocks = blocks dev;
  contents = contents dev;
  faults = faults dev;
  calls = calls dev;
}

-- The device shows what is seen so, by whatever references it is reached.
pub record Shows (seen : Seen) (d : DeviceState) : Type 0 where
  pub blocks : d.blocks ≡ seen.blocks
  pub contents : d.contents ≡ seen.contents
  pub faults : d.faults ≡ seen.faults
  pub calls : d.calls ≡ seen.calls

-- The device shows what is seen so, and none of its calls is counted yet.
pub record IsUncounted (seen : Seen) (d : DeviceState) : Type 0 where
  pub shows : Shows seen d
  pub reads : d.reads ≡ 0
  pub writes : d.writes ≡ 0

-- ---- words and bytes

-- a write fault comes only where the sink has failed since, or has taken nothing of some bytes
abbrev pub WriteCause : ℕ → ℕ → Bool → Type 0
WriteCause before now stopped = (before < now) ⊎ (stopped ≡ true)

-- Of a text a beginning was written: some of its bytes, from the first on.
pub record BeginsWith (written written_after : Option (List ℕ)) (whole : List ℕ) : Type 0 where
  pub sent : List ℕ
  pub rest : List ℕ
  pub parts : whole ≡ sent ++ rest
  pub appended : Appends written written_after sent

-- The source was read to its end, and what it had is such a text.
pub record IsRead (left left_after : Option (List ℕ)) (Is : List ℕ → Type 0) : Type 0 where
  pub bytes : List ℕ
  pub taken : Consumes left left_after bytes
  pub at_end : IsAtEnd left_after
  pub is : Is bytes

-- ---- a text that is a job

-- What was written is the text of lines that these items may print, from a rest without a disk on,
-- and that their phases print by their own turns; some line says that something was refused, or none
-- does. The device of the first rest is what is seen at entry, with no call counted, and that of the
-- last rest is what is seen at exit. Where the items ask for no more than there is, and the device
-- hasn't failed, each refusal is one for want of memory.
pub record IsWritten (job : List Item) (entry exit : Seen) (Writes : List ℕ → Type 0)
    (refused : Bool) : Type 0 where
  pub lines : List OutLine
  pub first : Rest
  pub last : Rest
  pub is_first : IsFirst first.device first
  pub at_entry : IsUncounted entry first.device
  pub legal : Legal first job lines last
  pub at_exit : Shows exit last.device
  pub turns : List (List ℕ)
  pub disk : Disk
  pub stepped : Stepped (without_pages first.device) job turns lines disk
  pub over : disk.device ≡ last.device
  pub own : AreOwn job turns
  pub refused_is : refused ≡ any_refusal lines
  pub complete : HaveRoom entry.blocks 0 first_settings (map plain_item job)
      → exit.faults ≡ entry.faults → RefuseForMemory lines
  pub output : Writes (text lines)

-- the text is a job, and what it may print was written
pub record IsTextRun (entry exit : Seen) (Writes : List ℕ → Type 0) (refused : Bool)
    (bytes : List ℕ) : Type 0 where
  pub job : List Item
  pub is_job : IsJob bytes job
  pub run : IsWritten job entry exit Writes refused

-- What some first items of the job may print was written: its output is cut after the item in work.
pub record IsCut (job : List Item) (entry exit : Seen) (Writes : List ℕ → Type 0) : Type 0 where
  pub front : List Item
  pub later : List Item
  pub parts : job ≡ front ++ later
  pub refused : Bool
  pub run : IsWritten front entry exit Writes refused

-- the text is a job, and its output so far was written
pub record IsTextCut (entry exit : Seen) (Writes : List ℕ → Type 0) (bytes : List ℕ) : Type 0 where
  pub job : List Item
  pub is_job : IsJob bytes job
  pub cut : IsCut job entry exit Writes

-- the source was read to its end, what it had is the text of a job, and what this job may print was
-- written
abbrev pub IsRun : Option (List ℕ) → Option (List ℕ) → Seen → Seen → (List ℕ → Type 0) → Bool
    → Type 0
IsRun left left_after entry exit Writes refused =
    IsRead left left_after (IsTextRun entry exit Writes refused)

-- the same of a job that was given up
abbrev pub IsCutRun : Option (List ℕ) → Option (List ℕ) → Seen → Seen → (List ℕ → Type 0) → Type 0
IsCutRun left left_after entry exit Writes = IsRead left left_after (IsTextCut entry exit Writes)

-- ---- a generated job

-- the last three of an output's lines
abbrev pub last_three : List OutLine → List OutLine
last_three lines = drop (length lines - 3) lines

-- What was written is the text of the last three lines of an output that the generated job may have;
-- of its lines all stands that stands of those of a job that was read.
pub record IsGenerated (pages seed : ℕ) (entry exit : Seen) (Writes : List ℕ → Type 0)
    (refused : Bool) : Type 0 where
  pub whole : IsWritten (generated pages seed) entry exit (λ bytes. ⊤) refused
  pub output : Writes (text (last_three whole.lines))

-- A generated job was given up. Either nothing was written, and the device is untouched, or what some
-- first items of the job left; or a beginning was written of the last three lines of an output that
-- the job may have.
abbrev pub IsCutGenerated : ℕ → ℕ → Seen → Seen → Type 0 → Option (List ℕ) → Option (List ℕ) → Type 0
IsCutGenerated pages seed entry exit Untouched written written_after =
    (Appends written written_after []
    × (Untouched ⊎ IsCut (generated pages seed) entry exit (λ bytes. ⊤)))
    ⊎ ((refused : Bool) × IsGenerated pages seed entry exit (BeginsWith written written_after) refused)

-- ---- a text that is none

-- The bytes are no job, and the line of their first fault was written.
pub record IsNoJob (Writes : List ℕ → Type 0) (bytes : List ℕ) : Type 0 where
  pub fault : JobFault
  pub told : first_fault bytes ≡ Some fault
  pub no_job : (job : List Item) → IsJob bytes job → ⊥
  pub output : Writes (fault_text fault)

-- The source was read to its end, or more bytes were read than a job has at most, and they are no
-- job.
pub record IsRefused (left left_after : Option (List ℕ)) (Writes : List ℕ → Type 0) : Type 0 where
  pub bytes : List ℕ
  pub taken : Consumes left left_after bytes
  pub whole : (MOST_BYTES < length bytes) ⊎ IsAtEnd left_after
  pub refusal : IsNoJob Writes bytes
