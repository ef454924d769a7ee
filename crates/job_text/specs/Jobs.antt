-- The job that a text is.
use Rattle.std.specs.Prelude.{◌≡◌, ℕ, ◌+◌, ◌^◌, ◌<◌, ◌≤◌, Bool, true, false, ◌==◌, ◌&&◌, ◌||◌, nat_lt, nat_le, List, [], ◌∷◌, ◌++◌, length, map, Option, Some, None, Result, Ok, Err, if◌then◌else◌, ⊤}
use Rattle.std.specs.List.{slice_split, flat_map}
use Rattle.zr_base.specs.Plain.{IsRequest}
use Rattle.zr_base.specs.Pieces.{pages_of}
use Rattle.zr_base.specs.declared.op.Op.{Op}
use Rattle.zr_base.specs.declared.op.Op.TheVariants.{Write, Read, Discard, Idle, Writeback, Compact}
use Rattle.zr_base.specs.declared.op.Turns.{Turns}
use Rattle.zr_base.specs.declared.limits.TheConstants.{MOST_PAGES, MOST_ACTORS, MOST_OPERATIONS}
use Rattle.job_text.specs.declared.limits.TheConstants.{MOST_BLOCKS, MOST_BUDGET, MOST_BYTES, MOST_LIMIT_PAGES, MOST_PHASES, MOST_PIECES, MOST_SCANNED, MOST_SECTORS_READ, MOST_TURNS}
use Rattle.job_text.specs.declared.fault.Cause.{Cause}
use Rattle.job_text.specs.declared.job.Attr.{Attr}
use Rattle.job_text.specs.declared.job.Attr.TheVariants.{DiskPages, LimitPages, Backing, WritebackLimit, WritebackLimitEnable, Clock, LowerMax}
use Rattle.job_text.specs.declared.job.Report.{Report}
use Rattle.job_text.specs.declared.job.Item.{Item}
use Rattle.job_text.specs.declared.job.Item.TheVariants as items
use Rattle.job_text.specs.declared.line.Line.{Line}
use Rattle.job_text.specs.declared.line.Line.TheVariants.{Blank, Attribute, Tell, Actor, Operation, Schedule, Run}
use Rattle.job_text.specs.Lines.{words_of, line_of}

-- ---- what a text says

-- the lines of a text
abbrev pub text_lines : List ℕ → List (List ℕ)
text_lines bytes = slice_split (λ b. b == 10) bytes

-- What lines say, piece by piece: the turns of several `schedule` lines are one row.
pub data Saying : Type 0 where
  says_attr : Attr → Saying
  says_report : Report → Saying
  says_actor : Saying
  says_operation : Op → Saying
  says_turns : Turns → Saying
  says_run : Saying

-- what a line says
abbrev pub said_by : Line → List Saying
said_by Blank = []
said_by (Attribute attr) = says_attr attr ∷ []
said_by (Tell report) = says_report report ∷ []
said_by Actor = says_actor ∷ []
said_by (Operation op) = says_operation op ∷ []
said_by (Schedule turns) = map says_turns turns
said_by Run = says_run ∷ []

-- what a line says, and then others; nothing where one of them is faulty by its words
abbrev pub said_before : Result Line Cause → Option (List Saying) → Option (List Saying)
said_before (Ok line) (Some more) = Some (said_by line ++ more)
said_before (Ok line) None = None
said_before (Err cause) more = None

-- what lines say one after the other, where none is faulty by its words
abbrev pub sayings : List (List ℕ) → Option (List Saying)
sayings [] = Some []
sayings (line ∷ lines) = said_before (line_of (words_of line)) (sayings lines)

-- what the lines of an actor say
abbrev pub actor_sayings : List Op → List Saying
actor_sayings ops = says_actor ∷ map says_operation ops

-- what the lines say that stand for an item
abbrev pub item_sayings : Item → List Saying
item_sayings (items.Attr attr) = says_attr attr ∷ []
item_sayings (items.Report report) = says_report report ∷ []
item_sayings (items.Phase text) =
    flat_map actor_sayings text.actors ++ map says_turns text.schedule ++ says_run ∷ []

-- ---- the limits

-- What of a job's limits is used: whether the disk's size was given, the pages that were given
-- first, the time, how many phases have begun, and how many operations, pieces of requests, sectors
-- to read, pages to scan and turns there were.
pub record Used : Type 0 where
  pub disk : Bool
  pub pages : ℕ
  pub clock : ℕ
  pub phases : ℕ
  pub operations : ℕ
  pub pieces : ℕ
  pub sectors : ℕ
  pub scanned : ℕ
  pub turns : ℕ

-- the start of a job
abbrev pub nothing_used : Used
nothing_used = record {
  disk = false;
  pages = 0;
  clock = 0;
  phases = 0;
  operations = 0;
  pieces = 0;
  sectors = 0;
  scanned = 0;
  turns = 0;
}

-- the sectors that an operation reads
abbrev pub sectors_to_read : Op → ℕ
sectors_to_read (Write start count stuff) = 0
sectors_to_read (Read start count) = count
sectors_to_read (Discard start count) = 0
sectors_to_read (Idle age) = 0
sectors_to_read (Writeback mode) = 0
sectors_to_read Compact = 0

-- the pages that an operation scans, on a disk of so many
abbrev pub pages_to_scan : ℕ → Op → ℕ
pages_to_scan pages (Write start count stuff) = 0
pages_to_scan pages (Read start count) = 0
pages_to_scan pages (Discard start count) = 0
pages_to_scan pages (Idle age) = pages
pages_to_scan pages (Writeback mode) = pages
pages_to_scan pages Compact = 0

-- the sum of the turns that a schedule gives
abbrev pub turns_in : List Turns → ℕ
turns_in [] = 0
turns_in (turns ∷ more) = turns.times + turns_in more

-- whether an attribute is the disk's size
abbrev pub is_disk_size : Attr → Bool
is_disk_size (DiskPages pages) = true
is_disk_size (LimitPages pages) = false
is_disk_size (Backing blocks) = false
is_disk_size (WritebackLimit units) = false
is_disk_size (WritebackLimitEnable on) = false
is_disk_size (Clock seconds) = false
is_disk_size LowerMax = false

-- the pages of a disk that were given first, after an attribute
abbrev pub pages_with : Used → Attr → ℕ
pages_with u (DiskPages pages) = if u.disk then u.pages else pages
pages_with u (LimitPages pages) = u.pages
pages_with u (Backing blocks) = u.pages
pages_with u (WritebackLimit units) = u.pages
pages_with u (WritebackLimitEnable on) = u.pages
pages_with u (Clock seconds) = u.pages
pages_with u LowerMax = u.pages

-- the time after an attribute
abbrev pub clock_with : Used → Attr → ℕ
clock_with u (DiskPages pages) = u.clock
clock_with u (LimitPages pages) = u.clock
clock_with u (Backing blocks) = u.clock
clock_with u (WritebackLimit units) = u.clock
clock_with u (WritebackLimitEnable on) = u.clock
clock_with u (Clock seconds) = seconds
clock_with u LowerMax = u.clock

-- after an attribute
abbrev pub with_attr : Used → Attr → Used
with_attr u attr = record u {
  disk = is_disk_size attr || u.disk;
  pages = pages_with u attr;
  clock = clock_with u attr;
}

-- with one phase more
abbrev pub with_phase : Used → Used
with_phase u = record u { phases = u.phases + 1 }

-- with an operation more
abbrev pub with_op : Used → Op → Used
with_op u op = record u {
  operations = u.operations + 1;
  pieces = u.pieces + pages_of op;
  sectors = u.sectors + sectors_to_read op;
  scanned = u.scanned + pages_to_scan u.pages op;
}

-- with the operations of an actor
abbrev pub with_ops : Used → List Op → Used
with_ops u [] = u
with_ops u (op ∷ ops) = with_ops (with_op u op) ops

-- with the operations of all actors
abbrev pub with_actors : Used → List (List Op) → Used
with_actors u [] = u
with_actors u (ops ∷ more) = with_actors (with_ops u ops) more

-- with the turns of a schedule
abbrev pub with_turns : Used → List Turns → Used
with_turns u turns = record u { turns = u.turns + turns_in turns }

-- the limit on phases leaves one more
abbrev pub has_phase_left : Used → Bool
has_phase_left u = nat_le (u.phases + 1) MOST_PHASES

-- the limits on operations, on pieces of requests, on sectors to read and on pages to scan leave an
-- operation
abbrev pub has_left_for : Used → Op → Bool
has_left_for u op =
    nat_le (u.operations + 1) MOST_OPERATIONS
    && nat_le (u.pieces + pages_of op) MOST_PIECES
    && nat_le (u.sectors + sectors_to_read op) MOST_SECTORS_READ
    && nat_le (u.scanned + pages_to_scan u.pages op) MOST_SCANNED

-- the limit on turns leaves those of a schedule
abbrev pub has_turns_left : Used → List Turns → Bool
has_turns_left u turns = nat_le (u.turns + turns_in turns) MOST_TURNS

-- ---- the order of items

-- an attribute in its range: a disk of one page at least, any limit on memory, one block at least of
-- a backing device, any limit on writebacks, on or off, any time, and none too great
abbrev pub MaySet : Attr → Type 0
MaySet (DiskPages pages) = (1 ≤ pages) × (pages ≤ MOST_PAGES)
MaySet (LimitPages pages) = pages ≤ MOST_LIMIT_PAGES
MaySet (Backing blocks) = (1 ≤ blocks) × (blocks ≤ MOST_BLOCKS)
MaySet (WritebackLimit units) = units ≤ MOST_BUDGET
MaySet (WritebackLimitEnable on) = ⊤
MaySet (Clock seconds) = seconds < 2 ^ 64
MaySet LowerMax = ⊤

-- whether an attribute sets the clock to a time before that which was counted
abbrev pub is_set_back : Used → Attr → Bool
is_set_back u (DiskPages pages) = false
is_set_back u (LimitPages pages) = false
is_set_back u (Backing blocks) = false
is_set_back u (WritebackLimit units) = false
is_set_back u (WritebackLimitEnable on) = false
is_set_back u (Clock seconds) = nat_lt seconds u.clock
is_set_back u LowerMax = false

-- an attribute after what was counted: the time doesn't fall
abbrev pub KeepsTime : Used → Attr → Type 0
KeepsTime u (DiskPages pages) = ⊤
KeepsTime u (LimitPages pages) = ⊤
KeepsTime u (Backing blocks) = ⊤
KeepsTime u (WritebackLimit units) = ⊤
KeepsTime u (WritebackLimitEnable on) = ⊤
KeepsTime u (Clock seconds) = u.clock ≤ seconds
KeepsTime u LowerMax = ⊤

-- operations after those that were counted
abbrev pub MayOperate : Used → List Op → Type 0
MayOperate u [] = ⊤
MayOperate u (op ∷ ops) = IsRequest op × (has_left_for u op ≡ true) × MayOperate (with_op u op) ops

-- the operations of all actors of a phase
abbrev pub MayAct : Used → List (List Op) → Type 0
MayAct u [] = ⊤
MayAct u (ops ∷ more) = MayOperate u ops × MayAct (with_ops u ops) more

-- each turn of a schedule is one of so many actors, and is given once at least
abbrev pub MayTurn : ℕ → List Turns → Type 0
MayTurn actors [] = ⊤
MayTurn actors (turns ∷ more) =
    (turns.actor < actors) × (1 ≤ turns.times) × (turns.times ≤ MOST_TURNS) × MayTurn actors more

-- a phase's actors stand after a disk's size
abbrev pub HasDisk : Used → List (List Op) → Type 0
HasDisk u [] = ⊤
HasDisk u (ops ∷ more) = u.disk ≡ true

-- with a whole phase
abbrev pub with_text : Used → List (List Op) → List Turns → Used
with_text u actors schedule = with_turns (with_actors (with_phase u) actors) schedule

-- A phase that may stand after what was counted: with few enough actors, after the disk's size.
pub record MayRun (u : Used) (actors : List (List Op)) (schedule : List Turns) : Type 0 where
  pub phase_left : has_phase_left u ≡ true
  pub few_actors : length actors ≤ MOST_ACTORS
  pub has_disk : HasDisk u actors
  pub may_act : MayAct (with_phase u) actors
  pub may_turn : MayTurn (length actors) schedule
  pub turns_left : has_turns_left (with_actors (with_phase u) actors) schedule ≡ true

-- the items of a job after others: attributes in their range with no time before the last, reports,
-- and phases within the limits
abbrev pub MayFollow : Used → List Item → Type 0
MayFollow u [] = ⊤
MayFollow u (items.Attr attr ∷ more) =
    MaySet attr × KeepsTime u attr × MayFollow (with_attr u attr) more
MayFollow u (items.Report report ∷ more) = MayFollow u more
MayFollow u (items.Phase text ∷ more) =
    MayRun u text.actors text.schedule × MayFollow (with_text u text.actors text.schedule) more

-- the bytes are the text of the job
pub record IsJob (bytes : List ℕ) (job : List Item) : Type 0 where
  pub size : length bytes ≤ MOST_BYTES
  pub lines : sayings (text_lines bytes) ≡ Some (flat_map item_sayings job)
  pub lawful : MayFollow nothing_used job
