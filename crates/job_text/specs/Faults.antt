-- The first faulty line of a text, and its cause.
use Rattle.std.specs.Prelude.{ℕ, ◌+◌, Bool, true, false, not, ◌||◌, nat_lt, nat_le, List, [], ◌∷◌, length, Option, Some, None, if◌then◌else◌}
use Rattle.std.specs.List.{list_all}
use Rattle.zr_base.specs.declared.limits.TheConstants.{MOST_ACTORS}
use Rattle.job_text.specs.declared.limits.TheConstants.{MOST_BYTES}
use Rattle.job_text.specs.declared.fault.Cause.{Cause}
use Rattle.job_text.specs.declared.fault.Cause.TheVariants as causes
use Rattle.job_text.specs.declared.fault.JobFault.{JobFault}
use Rattle.job_text.specs.declared.line.Line.{Line}
use Rattle.job_text.specs.declared.line.Line.TheVariants.{Blank, Attribute, Tell, Actor, Operation, Schedule, Run}
use Rattle.job_text.specs.Lines.{Form, words_of, form_of, is_malformed, meaning, is_out_of_range}
use Rattle.job_text.specs.Jobs.{Used, nothing_used, is_set_back, with_attr, with_phase, with_op, with_turns, has_phase_left, has_left_for, has_turns_left, text_lines}

-- A phase that has begun: the line of its first `actor`, its actors so far, and whether it has a
-- `schedule` already.
pub record Phase : Type 0 where
  pub first : ℕ
  pub actors : ℕ
  pub scheduled : Bool

-- ---- causes that a line has by its place

-- a turn of a `schedule` names no actor of the phase; outside a phase none does
abbrev pub names_no_actor : Option Phase → Line → Bool
names_no_actor phase Blank = false
names_no_actor phase (Attribute attr) = false
names_no_actor phase (Tell report) = false
names_no_actor phase Actor = false
names_no_actor phase (Operation op) = false
names_no_actor None (Schedule turns) = true
names_no_actor (Some phase) (Schedule turns) =
    not (list_all (λ t. nat_lt t.actor phase.actors) turns)
names_no_actor phase Run = false

-- the clock is set to a time before the last
abbrev pub sets_back : Used → Line → Bool
sets_back u Blank = false
sets_back u (Attribute attr) = is_set_back u attr
sets_back u (Tell report) = false
sets_back u Actor = false
sets_back u (Operation op) = false
sets_back u (Schedule turns) = false
sets_back u Run = false

-- Attributes and reports stand outside a phase. Operations and turns belong to a phase that has
-- begun, and after a `schedule` come only more of it and the `run`.
abbrev pub is_misplaced : Option Phase → Line → Bool
is_misplaced phase Blank = false
is_misplaced None (Attribute attr) = false
is_misplaced (Some phase) (Attribute attr) = true
is_misplaced None (Tell report) = false
is_misplaced (Some phase) (Tell report) = true
is_misplaced None Actor = false
is_misplaced (Some phase) Actor = phase.scheduled
is_misplaced None (Operation op) = true
is_misplaced (Some phase) (Operation op) = phase.scheduled
is_misplaced None (Schedule turns) = true
is_misplaced (Some phase) (Schedule turns) = false
is_misplaced phase Run = false

-- an actor begins before the disk has a size
abbrev pub lacks_disk : Used → Line → Bool
lacks_disk u Blank = false
lacks_disk u (Attribute attr) = false
lacks_disk u (Tell report) = false
lacks_disk u Actor = not u.disk
lacks_disk u (Operation op) = false
lacks_disk u (Schedule turns) = false
lacks_disk u Run = false

-- A limit is passed. A phase begins at its first `actor`, or at its `run` where it has none, and
-- has at most 64 actors.
abbrev pub passes_limit : Used → Option Phase → Line → Bool
passes_limit u phase Blank = false
passes_limit u phase (Attribute attr) = false
passes_limit u phase (Tell report) = false
passes_limit u None Actor = not (has_phase_left u)
passes_limit u (Some phase) Actor = not (nat_le (phase.actors + 1) MOST_ACTORS)
passes_limit u phase (Operation op) = not (has_left_for u op)
passes_limit u phase (Schedule turns) = not (has_turns_left u turns)
passes_limit u None Run = not (has_phase_left u)
passes_limit u (Some phase) Run = false

-- ---- the cause of a line

-- what a line says whose words are of their forms; nothing where it has no form
abbrev pub said_in : Option Form → Line
said_in None = Blank
said_in (Some form) = meaning form

-- the cause of a line where it stands
abbrev pub cause_in : Used → Option Phase → Option Form → Option Cause
cause_in u phase None = Some causes.Word
cause_in u phase (Some form) =
    if is_malformed form then Some causes.Number
    else if is_out_of_range form || (sets_back u (meaning form) || names_no_actor phase (meaning form))
    then Some causes.Range
    else if is_misplaced phase (meaning form) then Some causes.Order
    else if lacks_disk u (meaning form) then Some causes.NoDisk
    else if passes_limit u phase (meaning form) then Some causes.TooMany
    else None

-- the first of the causes that a line of these words has, after what was counted and in this
-- phase, if it has one
abbrev pub cause_of : Used → Option Phase → List (List ℕ) → Option Cause
cause_of u phase words = cause_in u phase (form_of words)

-- ---- from line to line

-- what is used with a line that has no cause
abbrev pub used_with : Used → Option Phase → Line → Used
used_with u phase Blank = u
used_with u phase (Attribute attr) = with_attr u attr
used_with u phase (Tell report) = u
used_with u None Actor = with_phase u
used_with u (Some phase) Actor = u
used_with u phase (Operation op) = with_op u op
used_with u phase (Schedule turns) = with_turns u turns
used_with u None Run = with_phase u
used_with u (Some phase) Run = u

-- the phase after the line of this number, if it has no cause
abbrev pub phase_with : ℕ → Option Phase → Line → Option Phase
phase_with number phase Blank = phase
phase_with number phase (Attribute attr) = phase
phase_with number phase (Tell report) = phase
phase_with number None Actor = Some (record { first = number; actors = 1; scheduled = false })
phase_with number (Some phase) Actor = Some (record phase { actors = phase.actors + 1 })
phase_with number phase (Operation op) = phase
phase_with number None (Schedule turns) = None
phase_with number (Some phase) (Schedule turns) = Some (record phase { scheduled = true })
phase_with number phase Run = None

-- a fault in the line of this number, or else a later one
abbrev pub fault_at : ℕ → Option Cause → Option JobFault → Option JobFault
fault_at number (Some cause) later = Some (record { line = number; cause = cause })
fault_at number None later = later

-- The first fault in lines that are counted from a number on, and in their end: there no phase is
-- left without a `run`.
abbrev pub first_fault_from : Used → Option Phase → ℕ → List (List ℕ) → Option JobFault
first_fault_from u None number [] = None
first_fault_from u (Some phase) number [] =
    Some (record { line = phase.first; cause = causes.Order })
first_fault_from u phase number (line ∷ lines) =
    (let said = said_in (form_of (words_of line)) in
    fault_at number (cause_of u phase (words_of line))
    (first_fault_from (used_with u phase said) (phase_with number phase said) (number + 1) lines))

-- the first fault of a text, if it has one
abbrev pub first_fault : List ℕ → Option JobFault
first_fault bytes =
    if nat_lt MOST_BYTES (length bytes) then Some (record { line = 0; cause = causes.TooMany })
    else first_fault_from nothing_used None 1 (text_lines bytes)
