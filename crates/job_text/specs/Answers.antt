-- How the reader answers for words.
use Rattle.std.specs.Prelude.{◌≡◌, ℕ, ◌+◌, ◌-◌, ◌*◌, ◌/◌, ◌^◌, ◌==◌, ◌≤◌, nat_lt, min, List, length, map, position, Option, Result, Ok, Err, if◌then◌else◌}
use Rattle.std.specs.List.{list_all}
use Rattle.zr_base.specs.declared.op.Turns.{Turns}
use Rattle.zr_base.specs.declared.limits.TheConstants.{MOST_ACTORS}
use Rattle.job_text.specs.declared.fault.Cause.{Cause}
use Rattle.job_text.specs.declared.fault.Cause.TheVariants as causes
use Rattle.job_text.specs.declared.fault.NotTaken.{NotTaken}
use Rattle.job_text.specs.declared.fault.NotTaken.TheVariants as untaken
use Rattle.zr_base.specs.Plain.{IsRequest}
use Rattle.job_text.specs.declared.line.Line.{Line}
use Rattle.job_text.specs.declared.line.Line.TheVariants.{Blank, Attribute, Tell, Actor, Operation, Schedule, Run}
use Rattle.job_text.specs.Numbers.{is_number, number_of, turn_of}
use Rattle.job_text.specs.Lines.{may_give}
use Rattle.job_text.specs.Jobs.{MaySet, MayTurn}

-- ---- words

-- a number as the reader keeps it: one that is too great for 8 bytes stands for the greatest
abbrev pub saturated : ℕ → ℕ
saturated n = min n (2 ^ 64 - 1)

-- a number with one more digit, where it is one that 8 bytes hold
abbrev pub with_last : ℕ → ℕ → Result ℕ Cause
with_last value digit =
    if nat_lt digit 10
    then (if nat_lt (value * 10 + digit) (2 ^ 64) then Ok (value * 10 + digit)
    else Err causes.Range)
    else Err causes.Number

-- the number of a word, where it is one that 8 bytes hold
abbrev pub exact_of : List ℕ → Result ℕ Cause
exact_of word =
    if is_number word
    then (if nat_lt (number_of word) (2 ^ 64) then Ok (number_of word) else Err causes.Range)
    else Err causes.Number

-- the pages of a size, as far as they are counted
abbrev pub saturated_pages : ℕ → ℕ
saturated_pages bytes = (saturated bytes + 4095) / 4096

-- the turns of one item of a schedule, as far as they are counted
abbrev pub saturated_turn : Turns → ℕ × ℕ
saturated_turn turns = (saturated turns.actor, saturated turns.times)

-- where the first `#` of a line stands
abbrev pub hash_in : List ℕ → Option ℕ
hash_in line = position (λ c. c == 35) line

-- ---- answers

-- a call has answered what there was to answer, or memory was refused
abbrev pub Answers : {A : Type 0} → Result A Cause → Result A NotTaken → Type 0
Answers told (Ok value) = told ≡ Ok value
Answers told (Err (untaken.Faulty cause)) = told ≡ Err cause
Answers told (Err (untaken.Memory e)) = Unit {0}

-- the turns that words give, where all may be given
abbrev pub turns_with : List (List ℕ) → Result (List Turns) Cause
turns_with words =
    if list_all may_give (map turn_of words) then Ok (map turn_of words)
    else Err causes.Range

-- what a line says is in its range
abbrev pub IsInRange : Line → Type 0
IsInRange Blank = Unit {0}
IsInRange (Attribute attr) = MaySet attr
IsInRange (Tell report) = Unit {0}
IsInRange Actor = Unit {0}
IsInRange (Operation op) = IsRequest op
IsInRange (Schedule turns) = (1 ≤ length turns) × MayTurn MOST_ACTORS turns
IsInRange Run = Unit {0}
