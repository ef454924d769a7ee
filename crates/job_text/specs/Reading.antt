-- How far the reading of a job has come.
use Rattle.std.specs.Prelude.{◌≡◌, ℕ, ◌+◌, ◌==◌, Bool, false, not, ◌&&◌, ◌||◌, nat_lt, nat_le, List, [], ◌∷◌, ◌++◌, length, Option, Some, None, Result, Ok, Err, if◌then◌else◌, option_map, option_and_then}
use Rattle.std.specs.Borrow.{Bor}
use Rattle.zr_base.specs.declared.op.Op.{Op}
use Rattle.zr_base.specs.declared.op.Turns.{Turns}
use Rattle.zr_base.specs.declared.limits.TheConstants.{MOST_ACTORS}
use Rattle.job_text.specs.declared.limits.TheConstants.{MOST_BYTES}
use Rattle.job_text.specs.declared.fault.Cause.{Cause}
use Rattle.job_text.specs.declared.fault.Cause.TheVariants as causes
use Rattle.job_text.specs.declared.fault.JobFault.{JobFault}
use Rattle.job_text.specs.declared.fault.NotTaken.{NotTaken}
use Rattle.job_text.specs.declared.fault.NotTaken.TheVariants as untaken
use Rattle.job_text.specs.declared.job.Item.{Item}
use Rattle.job_text.specs.declared.job.Item.TheVariants as items
use Rattle.job_text.specs.declared.job.PhaseText.{PhaseText}
use Rattle.job_text.specs.declared.line.Line.{Line}
use Rattle.job_text.specs.declared.line.Line.TheVariants.{Blank, Attribute, Tell, Actor, Operation, Schedule, Run}
use Rattle.job_text.specs.declared.begun.Begun.{Begun}
use Rattle.job_text.specs.declared.reading.Reading.{Reading}
use Rattle.job_text.specs.Lines.{words_of}
use Rattle.job_text.specs.Jobs.{Saying, says_attr, says_report, says_actor, says_operation, says_turns, says_run, text_lines, sayings, Used, nothing_used, is_set_back, with_attr, with_phase, with_op, with_turns, has_phase_left, has_left_for, has_turns_left}
use Rattle.job_text.specs.Faults.{Phase, names_no_actor, sets_back, is_misplaced, lacks_disk, passes_limit, cause_of, used_with, phase_with, first_fault_from}

-- ---- a reader's state

-- what of the limits was used so far
abbrev pub used_by : Reading → Used
used_by r = record {
  disk = r.has_disk;
  pages = r.pages;
  clock = r.clock;
  phases = r.phases;
  operations = r.operations;
  pieces = r.pieces;
  sectors = r.sectors;
  scanned = r.scanned;
  turns = r.turns;
}

-- a phase has a `schedule` already
abbrev pub is_scheduled : Begun → Bool
is_scheduled begun = not (length begun.schedule == 0)

-- whether the phase that is read has its schedule
abbrev pub is_scheduled_in : Option Begun → Bool
is_scheduled_in None = false
is_scheduled_in (Some begun) = is_scheduled begun

-- the phase that began at a line, as its actors and turns so far show it
abbrev pub phase_at : ℕ → Option Begun → Option Phase
phase_at first None = None
phase_at first (Some begun) = Some (record {
  first = first;
  actors = length begun.actors + 1;
  scheduled = is_scheduled begun;
})

-- the phase that has begun
abbrev pub phase_of : Reading → Option Phase
phase_of r = phase_at r.first r.begun

-- attributes and reports stand outside a phase
abbrev pub outside_of : Option Begun → Result (Unit {0}) Cause
outside_of None = Ok tt
outside_of (Some begun) = Err causes.Order

-- the phase's actors, its last one too
abbrev pub all_actors : Begun → List (List Op)
all_actors begun = begun.actors ++ begun.last ∷ []

-- the text of the phase that ends; an empty one where none has begun
abbrev pub text_of : Option Begun → PhaseText
text_of None = record { actors = []; schedule = [] }
text_of (Some begun) = record { actors = all_actors begun; schedule = begun.schedule }

-- the first of the causes that a line has by its place
abbrev pub place_cause : Used → Option Phase → Line → Option Cause
place_cause u phase line =
    if sets_back u line || names_no_actor phase line then Some causes.Range
    else if is_misplaced phase line then Some causes.Order
    else if lacks_disk u line then Some causes.NoDisk
    else if passes_limit u phase line then Some causes.TooMany
    else None

-- a line was refused for this cause, or memory was refused
abbrev pub IsNotTaken : Option Cause → NotTaken → Type 0
IsNotTaken cause (untaken.Faulty told) = cause ≡ Some told
IsNotTaken cause (untaken.Memory e) = Unit {0}

-- a phase of one actor, which does nothing yet
abbrev pub fresh : Begun
fresh = record { actors = []; last = []; schedule = [] }

-- with one more actor
abbrev pub with_actor : Begun → Begun
with_actor begun = record begun { actors = all_actors begun; last = [] }

-- with one more operation of the last actor
abbrev pub with_operation : Begun → Op → Begun
with_operation begun op = record begun { last = begun.last ++ op ∷ [] }

-- with more turns
abbrev pub with_schedule : Begun → List Turns → Begun
with_schedule begun turns = record begun { schedule = begun.schedule ++ turns }

-- a line was refused at this state by its place, or memory was refused
abbrev pub IsRefusedAt : Reading → Line → NotTaken → Type 0
IsRefusedAt r line = IsNotTaken (place_cause (used_by r) (phase_of r) line)

-- the first of the causes that a line has at this state, by its words and its place
abbrev pub cause_at : Reading → List ℕ → Option Cause
cause_at r line = cause_of (used_by r) (phase_of r) (words_of line)

-- the phase that has begun, with one more line
abbrev pub begun_with : Option Begun → Line → Option Begun
begun_with begun Blank = begun
begun_with begun (Attribute attr) = begun
begun_with begun (Tell report) = begun
begun_with None Actor = Some fresh
begun_with (Some begun) Actor = Some (with_actor begun)
begun_with None (Operation op) = None
begun_with (Some begun) (Operation op) = Some (with_operation begun op)
begun_with None (Schedule turns) = None
begun_with (Some begun) (Schedule turns) = Some (with_schedule begun turns)
begun_with begun Run = None

-- the items that end with a line
abbrev pub items_by : Option Begun → Line → List Item
items_by begun Blank = []
items_by begun (Attribute attr) = items.Attr attr ∷ []
items_by begun (Tell report) = items.Report report ∷ []
items_by begun Actor = []
items_by begun (Operation op) = []
items_by begun (Schedule turns) = []
items_by begun Run = items.Phase (text_of begun) ∷ []

-- A line that has no cause was taken: what is used, the phase and the items are those after the
-- line of this number.
abbrev pub IsNext : Reading → ℕ → Line → Reading → Type 0
IsNext r number line next =
    (place_cause (used_by r) (phase_of r) line ≡ None)
    × (used_by next ≡ used_with (used_by r) (phase_of r) line)
    × (phase_of next ≡ phase_with number (phase_of r) line)
    × (next.begun ≡ begun_with r.begun line)
    × (next.items ≡ r.items ++ items_by r.begun line)

-- ---- the items that sayings give

-- The items that sayings give, where so much was used before them: in a phase that has begun, or in
-- none.
abbrev pub items_from : Used → Option Begun → List Saying → Option (List Item)
items_from u None [] = Some []
items_from u (Some begun) [] = None
items_from u None (says_attr attr ∷ more) =
    if not (is_set_back u attr)
    then option_map (λ later. items.Attr attr ∷ later) (items_from (with_attr u attr) None more)
    else None
items_from u (Some begun) (says_attr attr ∷ more) = None
items_from u None (says_report report ∷ more) =
    option_map (λ later. items.Report report ∷ later) (items_from u None more)
items_from u (Some begun) (says_report report ∷ more) = None
items_from u None (says_actor ∷ more) =
    if u.disk && has_phase_left u then items_from (with_phase u) (Some fresh) more else None
items_from u (Some begun) (says_actor ∷ more) =
    if not (is_scheduled begun) && u.disk && nat_le (length begun.actors + 1 + 1) MOST_ACTORS
    then items_from u (Some (with_actor begun)) more
    else None
items_from u None (says_operation op ∷ more) = None
items_from u (Some begun) (says_operation op ∷ more) =
    if not (is_scheduled begun) && has_left_for u op
    then items_from (with_op u op) (Some (with_operation begun op)) more
    else None
items_from u None (says_turns turns ∷ more) = None
items_from u (Some begun) (says_turns turns ∷ more) =
    if nat_lt turns.actor (length begun.actors + 1) && has_turns_left u (turns ∷ [])
    then items_from (with_turns u (turns ∷ [])) (Some (with_schedule begun (turns ∷ []))) more
    else None
items_from u None (says_run ∷ more) =
    if has_phase_left u
    then option_map (λ later. items.Phase (text_of None) ∷ later)
    (items_from (with_phase u) None more)
    else None
items_from u (Some begun) (says_run ∷ more) =
    option_map (λ later. items.Phase (text_of (Some begun)) ∷ later) (items_from u None more)

-- the items so far, and those that more sayings give
abbrev pub items_with : Reading → List Saying → Option (List Item)
items_with r more = option_map (λ later. r.items ++ later) (items_from (used_by r) r.begun more)

-- the job that a text is
abbrev pub job_of : List ℕ → Option (List Item)
job_of bytes =
    if nat_lt MOST_BYTES (length bytes) then None
    else option_and_then (items_from nothing_used None) (sayings (text_lines bytes))

-- ---- what is left of a text

-- the lines of the text that is left, if any
abbrev pub lines_left : Option (Bor (List ℕ)) → List (List ℕ)
lines_left None = []
lines_left (Some text) = text_lines text.now

-- one more than its bytes
abbrev pub bytes_left : Option (Bor (List ℕ)) → ℕ
bytes_left None = 0
bytes_left (Some text) = length text.now + 1

-- the items that more text gives
abbrev pub items_after : Reading → List (List ℕ) → Option (List Item)
items_after r lines = option_and_then (items_with r) (sayings lines)

-- the first fault in more text, counted from a number on
abbrev pub fault_after : Reading → ℕ → List (List ℕ) → Option JobFault
fault_after r number lines = first_fault_from (used_by r) (phase_of r) number lines

-- whatever comes after a line, its first fault is that after the state which the line leads to
abbrev pub KeepsFault : Reading → ℕ → List ℕ → Reading → Type 0
KeepsFault r number line next =
    (rest : List (List ℕ))
    → fault_after r number (line ∷ rest) ≡ fault_after next (number + 1) rest

-- whatever comes after a line, its items are those after the state which the line leads to
abbrev pub KeepsItems : Reading → List ℕ → Reading → Type 0
KeepsItems r line next =
    (rest : List (List ℕ)) → items_after r (line ∷ rest) ≡ items_after next rest

-- whatever comes after a line, this is the first fault
abbrev pub HasFault : Reading → ℕ → List ℕ → JobFault → Type 0
HasFault r number line fault =
    (rest : List (List ℕ)) → fault_after r number (line ∷ rest) ≡ Some fault
