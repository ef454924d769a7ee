-- Texts, their jobs and their faults.
use Rattle.std.proofs.Common.{◌≡◌, ℕ, ◌≤◌, false, cond, nat_lt, List, [], ◌∷◌, ◌++◌, length, map, Option, Some, None, option_and_then, Result, Ok, Err, refl, sym, ap, ◌∙◌, arith}
use Rattle.std.specs.List.{AllByRecursion}
use Rattle.std.proofs.lemmas.Bool.{le-ltb, ltb-false}
use Rattle.zr_base.specs.declared.op.Turns.{Turns}
use Rattle.zr_base.specs.declared.limits.TheConstants.{MOST_ACTORS}
use Rattle.job_text.specs.declared.limits.TheConstants.{MOST_BYTES, MOST_TURNS}
use Rattle.job_text.specs.declared.fault.Cause.{Cause}
use Rattle.job_text.specs.declared.fault.Cause.TheVariants as causes
use Rattle.job_text.specs.declared.fault.JobFault.{JobFault}
use Rattle.job_text.specs.declared.job.Item.{Item}
use Rattle.job_text.specs.declared.line.Line.{Line}
use Rattle.job_text.specs.declared.line.Line.TheVariants.{Blank, Attribute, Tell, Actor, Operation, Schedule, Run}
use Rattle.job_text.specs.Lines.{words_of, line_of}
use Rattle.job_text.specs.Jobs.{Saying, says_turns, said_by, said_before, sayings, text_lines, nothing_used, MayTurn, IsJob}
use Rattle.job_text.specs.Faults.{first_fault, first_fault_from}
use Rattle.job_text.specs.Answers.{IsInRange}
use Rattle.job_text.specs.Reading.{items_from, job_of}
use Rattle.job_text.proofs.Lawful.{IfRead, line-lawful}
use Rattle.job_text.proofs.Steps.{no_items}
use Rattle.job_text.proofs.Spelling.{spelled_read}
use Rattle.job_text.proofs.Unspelling.{IsSaid, free_of, unspelled}

-- ---- what lines say is in its range

said_turns : (actors : ℕ) (turns : List Turns) (more : List Saying) → MayTurn actors turns
    → AllByRecursion IsSaid more → AllByRecursion IsSaid (map says_turns turns ++ more)
said_turns actors [] more may rest = rest
said_turns actors (t ∷ ts) more may rest = ((may.1, may.2), said_turns actors ts more may.3 rest)

said_more : (line : Line) (more : List Saying) → IsInRange line → AllByRecursion IsSaid more
    → AllByRecursion IsSaid (said_by line ++ more)
said_more Blank more is rest = rest
said_more (Attribute attr) more is rest = (is, rest)
said_more (Tell report) more is rest = (tt, rest)
said_more Actor more is rest = (tt, rest)
said_more (Operation op) more is rest = (is, rest)
said_more (Schedule turns) more is rest = said_turns MOST_ACTORS turns more is.1 rest
said_more Run more is rest = (tt, rest)

abbrev IfSaid : Option (List Saying) → Type 0
IfSaid None = Unit {0}
IfSaid (Some said) = AllByRecursion IsSaid said

sayings_said : (texts : List (List ℕ)) → IfSaid (sayings texts)
sayings_said [] = tt
sayings_said (text ∷ texts) =
    by (line_of (words_of text)) (line-lawful (words_of text)) (sayings texts) (sayings_said texts)
  where
    by : (read : Result Line Cause) → IfRead IsInRange read → (more : Option (List Saying))
        → IfSaid more
        → IfSaid (said_before read more)
    by (Err cause) is more rest = tt
    by (Ok line) is None rest = tt
    by (Ok line) is (Some more) rest = said_more line more is rest

-- ---- the job of a text

pub is_job : (bytes : List ℕ) (job : List Item) → job_of bytes ≡ Some job → IsJob bytes job
is_job bytes job e =
    let small = free_of (nat_lt MOST_BYTES (length bytes)) _ job e in
    by (sayings (text_lines bytes)) refl (sayings_said (text_lines bytes)) small.1
    (ltb-false _ _ small.0)
  where
    by : (said : Option (List Saying)) → sayings (text_lines bytes) ≡ said → IfSaid said
        → option_and_then (items_from nothing_used None) said ≡ Some job → length bytes ≤ MOST_BYTES
        → IsJob bytes job
    by None is are read small = cc
    by (Some said) is are read small =
        let none : nothing_used.turns ≤ MOST_TURNS = omega arith in
        let spelled = unspelled nothing_used nothing_used None said job (refl, none) are read in
        record { size = small; lines = is ∙ ap Some (sym spelled.0); lawful = spelled.1 }

pub job_is : (bytes : List ℕ) (job : List Item) → IsJob bytes job → job_of bytes ≡ Some job
job_is bytes job is =
    let none : nothing_used.turns ≤ MOST_TURNS = omega arith in
    ap (λ b. cond b None (option_and_then (items_from nothing_used None)
    (sayings (text_lines bytes)))) (le-ltb _ _ is.size)
    ∙ ap (option_and_then (items_from nothing_used None)) is.lines
    ∙ spelled_read nothing_used job none is.lawful

-- a text with a fault is no job
pub no_job : (bytes : List ℕ) (fault : JobFault) (job : List Item) → first_fault bytes ≡ Some fault
    → IsJob bytes job → ⊥
no_job bytes fault job first is =
    let none : nothing_used.turns ≤ MOST_TURNS = omega arith in
    let small : nat_lt MOST_BYTES (length bytes) ≡ false = le-ltb _ _ is.size in
    let later = sym (ap (λ b. cond b (Some (record { line = 0; cause = causes.TooMany }))
    (first_fault_from nothing_used None 1 (text_lines bytes))) small) ∙ first in
    let nothing = no_items (text_lines bytes) fault nothing_used None 0 1 none later in
    let read = ap (option_and_then (items_from nothing_used None)) (sym is.lines) ∙ nothing in
    let job_read = spelled_read nothing_used job none is.lawful in
    cc
