-- What one line of a job says.
use Rattle.std.specs.Prelude.{ℕ, ◌-◌, ◌*◌, ◌^◌, Bool, true, false, not, ◌&&◌, ◌||◌, ◌==◌, nat_lt, nat_le, List, [], ◌∷◌, length, filter, map, take, get_or, Option, Some, None, Result, Ok, Err, if◌then◌else◌, codes}
use Rattle.std.specs.List.{slice_split, position_or_len, list_all, concat}
use Rattle.std.specs.Str.{bytes_eq}
use Rattle.zr_base.specs.declared.op.Op.{Op}
use Rattle.zr_base.specs.declared.op.Op.TheVariants.{Write, Read, Discard, Idle, Writeback, Compact}
use Rattle.zr_base.specs.declared.op.Mode.{Mode}
use Rattle.zr_base.specs.declared.op.Mode.TheVariants as modes
use Rattle.zr_base.specs.declared.op.Stuff.TheVariants.{Fill, Seq, Hex}
use Rattle.zr_base.specs.declared.op.Turns.{Turns}
use Rattle.zr_base.specs.declared.limits.TheConstants.{MOST_PAGES, MOST_SECTORS, MOST_ACTORS}
use Rattle.job_text.specs.declared.limits.TheConstants.{MOST_BLOCKS, MOST_BUDGET, MOST_LIMIT_PAGES, MOST_TURNS}
use Rattle.job_text.specs.declared.job.Attr.{Attr}
use Rattle.job_text.specs.declared.job.Attr.TheVariants.{DiskPages, LimitPages, Backing, WritebackLimit, WritebackLimitEnable, Clock, LowerMax}
use Rattle.job_text.specs.declared.job.Report.{Report}
use Rattle.job_text.specs.declared.job.Report.TheVariants.{MmStat, IoStat, BdStat, States, Classes}
use Rattle.job_text.specs.declared.line.Line.{Line}
use Rattle.job_text.specs.declared.line.Line.TheVariants.{Blank, Attribute, Tell, Actor, Operation, Schedule, Run}
use Rattle.job_text.specs.declared.fault.Cause.{Cause}
use Rattle.job_text.specs.declared.fault.Cause.TheVariants as causes
use Rattle.job_text.specs.Numbers.{are_digits, is_number, number_of, is_word, word_of, bytes_by, is_size, size_pages, is_turn, turn_of}

-- ---- the words

-- a line without the byte 0d at its end, if there is one
abbrev pub without_return : List ℕ → List ℕ
without_return line =
    if get_or line (length line - 1) 0 == 13 then take (length line - 1) line else line

-- the part of a line before its first `#`
abbrev pub before_comment : List ℕ → List ℕ
before_comment line = take (position_or_len (λ c. c == 35) line) line

-- the bytes between words: space and tab
abbrev pub is_blank : ℕ → Bool
is_blank c = c == 32 || c == 9

-- the parts of a line between blanks, its comment left out
abbrev pub words_of : List ℕ → List (List ℕ)
words_of line =
    filter (λ word. not (length word == 0))
    (slice_split is_blank (before_comment (without_return line)))

-- ---- the forms of lines

-- A form of a line, with the words that stand for its values.
pub data Form : Type 0 where
  blank_form : Form
  disk_form : (size : List ℕ) → Form
  limit_form : (size : List ℕ) → Form
  backing_form : (number : List ℕ) → Form
  budget_form : (number : List ℕ) → Form
  budgeted_form : (number : List ℕ) → Form
  clock_form : (number : List ℕ) → Form
  max_form : (number : List ℕ) → Form
  report_form : Report → Form
  actor_form : Form
  fill_form : (start count word : List ℕ) → Form
  seq_form : (start count base step : List ℕ) → Form
  hex_form : (start count : List ℕ) (digits : List (List ℕ)) → Form
  read_form : (start count : List ℕ) → Form
  discard_form : (start count : List ℕ) → Form
  idle_all_form : Form
  idle_form : (number : List ℕ) → Form
  writeback_form : Mode → Form
  compact_form : Form
  schedule_form : (turns : List (List ℕ)) → Form
  run_form : Form

-- a form with no word after the first
abbrev pub alone : Form → List (List ℕ) → Option Form
alone form [] = Some form
alone form (word ∷ words) = None

-- a form with one word after the first
abbrev pub with_word : (List ℕ → Form) → List (List ℕ) → Option Form
with_word form (word ∷ []) = Some (form word)
with_word form words = None

-- the report of this name, if there is one
abbrev pub report_named : List ℕ → Option Report
report_named name =
    if bytes_eq name (codes "mm_stat") then Some MmStat
    else if bytes_eq name (codes "io_stat") then Some IoStat
    else if bytes_eq name (codes "bd_stat") then Some BdStat
    else if bytes_eq name (codes "states") then Some States
    else if bytes_eq name (codes "classes") then Some Classes
    else None

-- what stands after a report's name
abbrev pub report_in : Option Report → List (List ℕ) → Option Form
report_in None words = None
report_in (Some report) words = alone (report_form report) words

-- what stands after `read`
abbrev pub read_in : List (List ℕ) → Option Form
read_in (start ∷ count ∷ []) = Some (read_form start count)
read_in words = None

-- what stands after `discard`
abbrev pub discard_in : List (List ℕ) → Option Form
discard_in (start ∷ count ∷ []) = Some (discard_form start count)
discard_in words = None

-- `idle` with this word: `all`, or a number
unfoldable pub idle_with : List ℕ → Form
idle_with word = if bytes_eq word (codes "all") then idle_all_form else idle_form word

-- what stands after `idle`
abbrev pub idle_in : List (List ℕ) → Option Form
idle_in (word ∷ []) = Some (idle_with word)
idle_in words = None

-- the mode of a writeback of this name, if there is one
abbrev pub mode_named : List ℕ → Option Mode
mode_named name =
    if bytes_eq name (codes "idle") then Some modes.Idle
    else if bytes_eq name (codes "huge") then Some modes.Huge
    else if bytes_eq name (codes "huge_idle") then Some modes.HugeIdle
    else None

-- `writeback` with this mode, if there is one
abbrev pub writeback_with : Option Mode → Option Form
writeback_with None = None
writeback_with (Some mode) = Some (writeback_form mode)

-- what stands after `writeback`
abbrev pub writeback_in : List (List ℕ) → Option Form
writeback_in (word ∷ []) = writeback_with (mode_named word)
writeback_in words = None

-- what stands after `write START COUNT fill`
abbrev pub fill_in : List ℕ → List ℕ → List (List ℕ) → Option Form
fill_in start count (word ∷ []) = Some (fill_form start count word)
fill_in start count words = None

-- what stands after `write START COUNT seq`
abbrev pub seq_in : List ℕ → List ℕ → List (List ℕ) → Option Form
seq_in start count (base ∷ step ∷ []) = Some (seq_form start count base step)
seq_in start count words = None

-- what stands after `write START COUNT hex`, at least one word
abbrev pub hex_in : List ℕ → List ℕ → List (List ℕ) → Option Form
hex_in start count [] = None
hex_in start count (digits ∷ more) = Some (hex_form start count (digits ∷ more))

-- what stands after `write START COUNT`
unfoldable pub stuff_in : List ℕ → List ℕ → List ℕ → List (List ℕ) → Option Form
stuff_in start count kind words =
    if bytes_eq kind (codes "fill") then fill_in start count words
    else if bytes_eq kind (codes "seq") then seq_in start count words
    else if bytes_eq kind (codes "hex") then hex_in start count words
    else None

-- what stands after `write`
abbrev pub write_in : List (List ℕ) → Option Form
write_in (start ∷ count ∷ kind ∷ words) = stuff_in start count kind words
write_in words = None

-- what stands after `schedule`, at least one word
abbrev pub schedule_in : List (List ℕ) → Option Form
schedule_in [] = None
schedule_in (turn ∷ more) = Some (schedule_form (turn ∷ more))

-- what stands after a line's first word
unfoldable pub named_in : List ℕ → List (List ℕ) → Option Form
named_in name words =
    if bytes_eq name (codes "disksize") then with_word disk_form words
    else if bytes_eq name (codes "mem_limit") then with_word limit_form words
    else if bytes_eq name (codes "backing") then with_word backing_form words
    else if bytes_eq name (codes "writeback_limit") then with_word budget_form words
    else if bytes_eq name (codes "writeback_limit_enable") then with_word budgeted_form words
    else if bytes_eq name (codes "clock") then with_word clock_form words
    else if bytes_eq name (codes "mem_used_max") then with_word max_form words
    else if bytes_eq name (codes "actor") then alone actor_form words
    else if bytes_eq name (codes "write") then write_in words
    else if bytes_eq name (codes "read") then read_in words
    else if bytes_eq name (codes "discard") then discard_in words
    else if bytes_eq name (codes "idle") then idle_in words
    else if bytes_eq name (codes "writeback") then writeback_in words
    else if bytes_eq name (codes "compact") then alone compact_form words
    else if bytes_eq name (codes "schedule") then schedule_in words
    else if bytes_eq name (codes "run") then alone run_form words
    else report_in (report_named name) words

-- the form of a line of these words, if it has one: else a word isn't known, or there are too few
-- or too many
abbrev pub form_of : List (List ℕ) → Option Form
form_of [] = Some blank_form
form_of (name ∷ words) = named_in name words

-- ---- the values

-- whether so many digits are those of so many sectors, where the sectors are a request's
abbrev pub fill_sectors : ℕ → ℕ → Bool
fill_sectors digits count =
    not (nat_le 1 count && nat_le count MOST_SECTORS) || digits == 1024 * count

-- a word isn't of its form, or there are too few or too many digits
unfoldable pub is_malformed : Form → Bool
is_malformed blank_form = false
is_malformed (disk_form size) = not (is_size size)
is_malformed (limit_form size) = not (is_size size)
is_malformed (backing_form number) = not (is_number number)
is_malformed (budget_form number) = not (is_number number)
is_malformed (budgeted_form number) = not (is_number number)
is_malformed (clock_form number) = not (is_number number)
is_malformed (max_form number) = not (is_number number)
is_malformed (report_form report) = false
is_malformed actor_form = false
is_malformed (fill_form start count word) = not (is_number start && is_number count && is_word word)
is_malformed (seq_form start count base step) =
    not (is_number start && is_number count && is_word base && is_word step)
is_malformed (hex_form start count digits) =
    not (is_number start && is_number count && are_digits 16 (concat digits)
    && fill_sectors (length (concat digits)) (number_of count))
is_malformed (read_form start count) = not (is_number start && is_number count)
is_malformed (discard_form start count) = not (is_number start && is_number count)
is_malformed idle_all_form = false
is_malformed (idle_form number) = not (is_number number)
is_malformed (writeback_form mode) = false
is_malformed compact_form = false
is_malformed (schedule_form turns) = not (list_all is_turn turns)
is_malformed run_form = false

-- what a line says whose words are of their forms
unfoldable pub meaning : Form → Line
meaning blank_form = Blank
meaning (disk_form size) = Attribute (DiskPages (size_pages size))
meaning (limit_form size) = Attribute (LimitPages (size_pages size))
meaning (backing_form number) = Attribute (Backing (number_of number))
meaning (budget_form number) = Attribute (WritebackLimit (number_of number))
meaning (budgeted_form number) = Attribute (WritebackLimitEnable (number_of number == 1))
meaning (clock_form number) = Attribute (Clock (number_of number))
meaning (max_form number) = Attribute LowerMax
meaning (report_form report) = Tell report
meaning actor_form = Actor
meaning (fill_form start count word) =
    Operation (Write (number_of start) (number_of count) (Fill (word_of word)))
meaning (seq_form start count base step) =
    Operation (Write (number_of start) (number_of count) (Seq (word_of base) (word_of step)))
meaning (hex_form start count digits) =
    Operation (Write (number_of start) (number_of count) (Hex (bytes_by (concat digits))))
meaning (read_form start count) = Operation (Read (number_of start) (number_of count))
meaning (discard_form start count) = Operation (Discard (number_of start) (number_of count))
meaning idle_all_form = Operation (Idle None)
meaning (idle_form number) = Operation (Idle (Some (number_of number)))
meaning (writeback_form mode) = Operation (Writeback mode)
meaning compact_form = Operation Compact
meaning (schedule_form turns) = Schedule (map turn_of turns)
meaning run_form = Run

-- a disk's size of one page at least and of no more than the most, a limit on memory up to the
-- greatest, one block at least of a backing device and no more than the most, a limit on writebacks up
-- to the greatest, or whether it is on, seconds that 8 bytes hold, or a maximum that is lowered
abbrev pub may_set : Attr → Bool
may_set (DiskPages pages) = nat_le 1 pages && nat_le pages MOST_PAGES
may_set (LimitPages pages) = nat_le pages MOST_LIMIT_PAGES
may_set (Backing blocks) = nat_le 1 blocks && nat_le blocks MOST_BLOCKS
may_set (WritebackLimit units) = nat_le units MOST_BUDGET
may_set (WritebackLimitEnable on) = true
may_set (Clock seconds) = nat_lt seconds (2 ^ 64)
may_set LowerMax = true

-- a request's sectors begin below 2 ^ 32, and are 1 to the most that a request has
abbrev pub are_bounds : ℕ → ℕ → Bool
are_bounds start count = nat_lt start (2 ^ 32) && nat_le 1 count && nat_le count MOST_SECTORS

-- the seconds of an age are such that 8 bytes hold, where they are given
abbrev pub may_age : Option ℕ → Bool
may_age None = true
may_age (Some age) = nat_lt age (2 ^ 64)

-- an operation's sectors are those that a request may have, and its age is one that may be given; a
-- writeback and a compaction ask for nothing
abbrev pub may_ask : Op → Bool
may_ask (Write start count stuff) = are_bounds start count
may_ask (Read start count) = are_bounds start count
may_ask (Discard start count) = are_bounds start count
may_ask (Idle age) = may_age age
may_ask (Writeback mode) = true
may_ask Compact = true

-- a turn of an actor that a phase may have, given once at least and no more often than a job's
-- limit
abbrev pub may_give : Turns → Bool
may_give turns =
    nat_lt turns.actor MOST_ACTORS && nat_le 1 turns.times
    && nat_le turns.times MOST_TURNS

-- a value that is never allowed
abbrev pub has_bad_value : Line → Bool
has_bad_value Blank = false
has_bad_value (Attribute attr) = not (may_set attr)
has_bad_value (Tell report) = false
has_bad_value Actor = false
has_bad_value (Operation op) = not (may_ask op)
has_bad_value (Schedule turns) = not (list_all may_give turns)
has_bad_value Run = false

-- the number of a form that takes 0 alone, or 0 and 1 alone, is another
abbrev pub has_other_number : Form → Bool
has_other_number (budgeted_form number) = not (nat_le (number_of number) 1)
has_other_number (max_form number) = not (number_of number == 0)
has_other_number form = false

-- a value out of its range, by the word that stands for it or by what the line says
abbrev pub is_out_of_range : Form → Bool
is_out_of_range form = has_other_number form || has_bad_value (meaning form)

-- ---- the line

-- a malformed word is told before a value that is never allowed
abbrev pub line_by : Form → Result Line Cause
line_by form =
    if is_malformed form then Err causes.Number
    else if is_out_of_range form then Err causes.Range
    else Ok (meaning form)

-- a line without a form has the cause Word
abbrev pub line_with : Option Form → Result Line Cause
line_with None = Err causes.Word
line_with (Some form) = line_by form

-- what a line of these words says; else the first of the causes that it has by its words alone
abbrev pub line_of : List (List ℕ) → Result Line Cause
line_of words = line_with (form_of words)
