-- What the reader's own steps say of one another: what words and lines are read as.
use Rattle.std.specs.Prelude.{ℕ, ◌+◌, ◌-◌, ◌*◌, ◌^◌, ◌==◌, nat_lt, Bool, ◌&&◌, ◌||◌, List, [], ◌∷◌, ◌++◌, take, drop, length, get_or, position, codes, Option, None, Some, option_map, option_and_then, if◌then◌else◌}
use Rattle.std.specs.List.{slice_split}
use Rattle.std.specs.Char.{is_ascii_digit}
use Rattle.std.specs.Str.{bytes_eq}
use Rattle.std.specs.Int.{w64, from_be_bytes}
use Rattle.zr_base.specs.declared.op.Tag.{Tag}
use Rattle.zr_base.specs.declared.op.OpEnd.{OpEnd}
use Rattle.zr_base.specs.declared.op.OpEnd.TheVariants as ends
use Rattle.mem_account.specs.declared.account.MmStat.{MmStat}
use Rattle.mem_account.specs.declared.account.IoStat.{IoStat}
use Rattle.backing_dev.specs.declared.stat.BdStat.{BdStat}
use Rattle.size_class.specs.declared.stat.ClassStat.{ClassStat}
use Rattle.job_text.specs.declared.fault.Cause.{Cause}
use Rattle.job_text.specs.declared.fault.Cause.TheVariants as causes
use Rattle.job_print.specs.declared.line.Refusal.{Refusal}
use Rattle.job_print.specs.declared.line.Refusal.TheVariants as refusals
use Rattle.job_print.specs.declared.line.OutLine.{OutLine}
use Rattle.job_print.specs.declared.line.OutLine.TheVariants as lines
use Rattle.job_print.specs.Texts.{is_filled}

-- ---- steps that may fail

infixl 10 ◌>>=◌
-- what the first gives, handed on
abbrev pub ◌>>=◌ : {A B : Type 0} → Option A → (A → Option B) → Option B
o >>= f = option_and_then f o

-- what each item of a list is read as, where all can be read
abbrev pub all_in : {A B : Type 0} → (A → Option B) → List A → Option (List B)
all_in read [] = Some []
all_in read (x ∷ xs) = do
  y ← read x
  ys ← all_in read xs
  Some (y ∷ ys)

-- those items after others
abbrev pub after : {A : Type 0} → List A → Option (List A) → Option (List A)
after xs o = option_map (λ ys. xs ++ ys) o

-- ---- numbers

-- a number with one more digit, where that is a number of 8 bytes
abbrev pub with_digit : ℕ → ℕ → Option ℕ
with_digit value c =
    if is_ascii_digit c && nat_lt (10 * value + (c - 48)) (2 ^ 64)
    then Some (10 * value + (c - 48)) else None

-- the number that digits give after others
abbrev pub digits_from : ℕ → List ℕ → Option ℕ
digits_from value [] = Some value
digits_from value (c ∷ cs) = do
  n ← with_digit value c
  digits_from n cs

-- no number is written with no digit, nor with a zero before other digits
abbrev pub is_bare : List ℕ → Bool
is_bare word = length word == 0 || (nat_lt 1 (length word) && get_or word 0 0 == 48)

-- a number of 8 bytes
unfoldable pub number_in : List ℕ → Option ℕ
number_in word = if is_bare word then None else digits_from 0 word

-- a number below a bound
abbrev pub below : ℕ → ℕ → Option ℕ
below bound n = if nat_lt n bound then Some n else None

-- a number of 4 bytes
unfoldable pub short_in : List ℕ → Option ℕ
short_in word = number_in word >>= below (2 ^ 32)

-- ---- hexadecimal digits

-- a lower-case digit
abbrev pub digit_in : ℕ → Option ℕ
digit_in c =
    if nat_lt 47 c && nat_lt c 58 then Some (c - 48)
    else if nat_lt 96 c && nat_lt c 103 then Some (c - 87)
    else None

-- a byte by its two digits
unfoldable pub byte_in : ℕ → ℕ → Option ℕ
byte_in high low = do
  a ← digit_in high
  b ← digit_in low
  Some (16 * a + b)

-- bytes by two digits each
abbrev pub bytes_in : List ℕ → Option (List ℕ)
bytes_in [] = Some []
bytes_in (high ∷ []) = None
bytes_in (high ∷ low ∷ digits) = do
  b ← byte_in high low
  bs ← bytes_in digits
  Some (b ∷ bs)

-- a word of 8 bytes by its sixteen digits
abbrev pub word_in : List ℕ → Option ℕ
word_in digits =
    if length digits == 16 then option_map (from_be_bytes w64) (bytes_in digits) else None

-- a sector whose words aren't all equal
abbrev pub other_sector : List ℕ → Option OutLine
other_sector bytes = if is_filled bytes then None else Some (lines.Hex bytes)

-- such a sector by its digits
abbrev pub sector_in : List ℕ → Option OutLine
sector_in digits =
    if length digits == 1024 then bytes_in digits >>= other_sector else None

-- ---- words

-- a call of an order, whose colon stands there
abbrev pub tag_at : Option ℕ → List ℕ → Option Tag
tag_at None word = None
tag_at (Some colon) word = do
  actor ← short_in (take colon word)
  op ← short_in (drop (colon + 1) word)
  Some (record { actor = actor; op = op })

-- a call of an order
unfoldable pub tag_in : List ℕ → Option Tag
tag_in word = tag_at (position (λ c. c == 58) word) word

-- the end of an operation that was refused at the limit
abbrev pub limit_in : List (List ℕ) → List ℕ → Option OpEnd
limit_in numbers done = do
  ns ← all_in number_in numbers
  d ← short_in done
  Some (ends.AtLimit (get_or ns 0 0) (get_or ns 1 0) (get_or ns 2 0) d)

-- the end of an operation that has one word
unfoldable pub plain_end_in : List ℕ → Option OpEnd
plain_end_in word =
    if bytes_eq word (codes "ok") then Some ends.Ok
    else if bytes_eq word (codes "range") then Some ends.Range
    else if bytes_eq word (codes "nobacking") then Some ends.NoBacking
    else None

-- the end of an operation that was refused at the limit, if the words say so
unfoldable pub limit_end_in : List ℕ → List (List ℕ) → List ℕ → List ℕ → Option OpEnd
limit_end_in word numbers name done =
    if bytes_eq word (codes "limit") && bytes_eq name (codes "done") then limit_in numbers done
    else None

-- the end of an operation that was refused for want of memory, if the words say so
unfoldable pub memory_end_in : List ℕ → List ℕ → List ℕ → Option OpEnd
memory_end_in word name done =
    if bytes_eq word (codes "nomem") && bytes_eq name (codes "done")
    then option_map ends.NoMemory (short_in done) else None

-- the end of a request that the device failed, by the words of its numbers
abbrev pub eio_in : List ℕ → List ℕ → Option OpEnd
eio_in fault done = do
  f ← number_in fault
  d ← short_in done
  Some (ends.Eio f d)

-- the end of a request that the device failed, if the words after the first say so
unfoldable pub fault_end_in : List ℕ → List ℕ → List ℕ → Option OpEnd
fault_end_in fault name done = if bytes_eq name (codes "done") then eio_in fault done else None

-- two numbers of 4 bytes
abbrev pub pair_in : List ℕ → List ℕ → Option (ℕ × ℕ)
pair_in first second = do
  n ← short_in first
  k ← short_in second
  Some (n, k)

-- how many pages a writeback left on the device and how many it wrote in vain, if the words say so
unfoldable pub written_in : List ℕ → List ℕ → List ℕ → List ℕ → Option (ℕ × ℕ)
written_in name wrote other lost =
    if bytes_eq name (codes "wrote") && bytes_eq other (codes "lost") then pair_in wrote lost
    else None

-- the end of a writeback that the device failed, if the words after the first say so
abbrev pub write_fault_in : List ℕ → List ℕ → List ℕ → List ℕ → List ℕ → Option OpEnd
write_fault_in fault name wrote other lost = do
  f ← number_in fault
  n ← written_in name wrote other lost
  Some (ends.WriteEio f n.0 n.1)

-- the end of an operation that has four words
unfoldable pub four_end_in : List ℕ → List ℕ → List ℕ → List ℕ → Option OpEnd
four_end_in word second third fourth =
    if bytes_eq word (codes "eio") then fault_end_in second third fourth
    else option_map (λ n. ends.Written n.0 n.1) (written_in word second third fourth)

-- the end of a writeback that was cut short, if the words say so
unfoldable pub cut_end_in : List ℕ → List ℕ → List ℕ → List ℕ → List ℕ → Option OpEnd
cut_end_in word name wrote other lost =
    if bytes_eq word (codes "budget")
    then option_map (λ n. ends.Budget n.0 n.1) (written_in name wrote other lost)
    else if bytes_eq word (codes "noblock")
    then option_map (λ n. ends.NoBlock n.0 n.1) (written_in name wrote other lost)
    else None

-- the end of an operation that has six words
unfoldable pub six_end_in : List ℕ → List ℕ → List ℕ → List ℕ → List ℕ → List ℕ → Option OpEnd
six_end_in word second third fourth fifth sixth =
    if bytes_eq word (codes "eio") then write_fault_in second third fourth fifth sixth
    else limit_end_in word (second ∷ third ∷ fourth ∷ []) fifth sixth

-- the end of a compaction, by the words of its numbers
abbrev pub compacted_in : List ℕ → List ℕ → Option OpEnd
compacted_in moves frames = do
  m ← number_in moves
  f ← number_in frames
  Some (ends.Compacted m f)

-- the end of an operation that has three words
unfoldable pub triple_end_in : List ℕ → List ℕ → List ℕ → Option OpEnd
triple_end_in word second third =
    if bytes_eq word (codes "compacted") then compacted_in second third
    else memory_end_in word second third

-- the end of an operation that has marked pages, if the words say so
unfoldable pub marked_end_in : List ℕ → List ℕ → Option OpEnd
marked_end_in word pages =
    if bytes_eq word (codes "marked") then option_map ends.Marked (short_in pages) else None

-- the end of an operation, by its words
unfoldable pub end_in : List (List ℕ) → Option OpEnd
end_in (word ∷ []) = plain_end_in word
end_in (word ∷ pages ∷ []) = marked_end_in word pages
end_in (word ∷ second ∷ third ∷ []) = triple_end_in word second third
end_in (word ∷ second ∷ third ∷ fourth ∷ []) = four_end_in word second third fourth
end_in (word ∷ name ∷ wrote ∷ other ∷ lost ∷ []) = cut_end_in word name wrote other lost
end_in (word ∷ second ∷ third ∷ fourth ∷ fifth ∷ sixth ∷ []) =
    six_end_in word second third fourth fifth sixth
end_in words = None

-- whether a byte is the letter, or a dot
abbrev pub is_letter : ℕ → ℕ → Bool
is_letter letter c = c == letter || c == 46

-- the letters of a page
unfoldable pub letters_in : List ℕ → Option (List ℕ)
letters_in (s ∷ w ∷ h ∷ i ∷ []) =
    if is_letter 115 s && is_letter 119 w && is_letter 104 h && is_letter 105 i
    then Some (s ∷ w ∷ h ∷ i ∷ []) else None
letters_in letters = None

-- the cause of a fault
unfoldable pub cause_in : List ℕ → Option Cause
cause_in word =
    if bytes_eq word (codes "word") then Some causes.Word
    else if bytes_eq word (codes "number") then Some causes.Number
    else if bytes_eq word (codes "range") then Some causes.Range
    else if bytes_eq word (codes "nodisk") then Some causes.NoDisk
    else if bytes_eq word (codes "toomany") then Some causes.TooMany
    else if bytes_eq word (codes "order") then Some causes.Order
    else None

-- why an attribute was refused, by its name and the word after it
unfoldable pub refusal_in : List ℕ → List ℕ → Option Refusal
refusal_in attr why =
    if bytes_eq attr (codes "disksize") && bytes_eq why (codes "busy")
    then Some refusals.DisksizeBusy
    else if bytes_eq attr (codes "backing") && bytes_eq why (codes "busy")
    then Some refusals.BackingBusy
    else if bytes_eq attr (codes "backing") && bytes_eq why (codes "range")
    then Some refusals.BackingRange
    else None

-- ---- lines

-- the words after `op`
unfoldable pub op_in : List (List ℕ) → Option OutLine
op_in (actor ∷ op ∷ words) = do
  a ← short_in actor
  k ← short_in op
  end ← end_in words
  Some (lines.Op a k end)
op_in words = None

-- the words after `fill`
unfoldable pub fill_in : List (List ℕ) → Option OutLine
fill_in (digits ∷ []) = option_map lines.Fill (word_in digits)
fill_in words = None

-- the words after `hex`
unfoldable pub hex_in : List (List ℕ) → Option OutLine
hex_in (digits ∷ []) = sector_in digits
hex_in words = None

-- the words after `order`
unfoldable pub order_in : List (List ℕ) → Option OutLine
order_in (page ∷ tag ∷ tags) = do
  p ← short_in page
  ts ← all_in tag_in (tag ∷ tags)
  Some (lines.Order p ts)
order_in words = None

-- the statistics of the memory, by their numbers
abbrev pub memory_of : List ℕ → MmStat
memory_of ns = record {
  orig = get_or ns 0 0;
  compr = get_or ns 1 0;
  used = get_or ns 2 0;
  limit = get_or ns 3 0;
  max = get_or ns 4 0;
  same = get_or ns 5 0;
  compacted = get_or ns 6 0;
  huge = get_or ns 7 0;
  huge_since = get_or ns 8 0;
}

-- the words after `mm_stat`
unfoldable pub memory_in : List (List ℕ) → Option OutLine
memory_in words =
    if length words == 9
    then option_map (λ ns. lines.Mm (memory_of ns)) (all_in number_in words) else None

-- the statistics of calls, by their numbers
abbrev pub calls_of : List ℕ → IoStat
calls_of ns = record {
  failed_reads = get_or ns 0 0;
  failed_writes = get_or ns 1 0;
  invalid_io = get_or ns 2 0;
  notify_free = get_or ns 3 0;
}

-- the words after `io_stat`
unfoldable pub calls_in : List (List ℕ) → Option OutLine
calls_in words =
    if length words == 4
    then option_map (λ ns. lines.Io (calls_of ns)) (all_in number_in words) else None

-- the statistics of the backing device, by their numbers
abbrev pub device_of : List ℕ → BdStat
device_of ns = record {
  count = get_or ns 0 0;
  reads = get_or ns 1 0;
  writes = get_or ns 2 0;
}

-- the words after `bd_stat`
unfoldable pub device_in : List (List ℕ) → Option OutLine
device_in words =
    if length words == 3
    then option_map (λ ns. lines.Bd (device_of ns)) (all_in number_in words) else None

-- the words after `attr`
unfoldable pub refused_in : List (List ℕ) → Option OutLine
refused_in (attr ∷ why ∷ []) = option_map lines.Refused (refusal_in attr why)
refused_in words = None

-- the words after `state`
unfoldable pub state_in : List (List ℕ) → Option OutLine
state_in (page ∷ letters ∷ touched ∷ []) = do
  p ← short_in page
  ls ← letters_in letters
  t ← number_in touched
  Some (lines.State p ls t)
state_in words = None

-- the statistics of a class, by their numbers
abbrev pub stat_by : ℕ → List ℕ → List ℕ → ClassStat
stat_by class ns groups = record {
  class = class;
  size = get_or ns 0 0;
  chain = get_or ns 1 0;
  per = get_or ns 2 0;
  used = get_or ns 3 0;
  zspages = get_or ns 4 0;
  groups = groups;
}

-- a number of one byte
abbrev pub class_number_in : List ℕ → Option ℕ
class_number_in word = number_in word >>= below 256

-- a class by the words of its numbers
unfoldable pub numbered_class : List ℕ → List (List ℕ) → List (List ℕ) → Option OutLine
numbered_class class numbers groups = do
  k ← class_number_in class
  ns ← all_in short_in numbers
  gs ← all_in short_in groups
  Some (lines.Class (stat_by k ns gs))

-- whether the words are the names of a class's numbers
abbrev pub are_names : List ℕ → List ℕ → List ℕ → List ℕ → List ℕ → Bool
are_names pages per used zspages groups =
    bytes_eq pages (codes "pages") && bytes_eq per (codes "per") && bytes_eq used (codes "used")
    && bytes_eq zspages (codes "zspages") && bytes_eq groups (codes "groups")

-- the words after `class`
unfoldable pub class_in : List (List ℕ) → Option OutLine
class_in (class ∷ size ∷ a ∷ chain ∷ b ∷ per ∷ c ∷ used ∷ d ∷ zspages ∷ e ∷ groups) =
    if length groups == 11 && are_names a b c d e
    then numbered_class class (size ∷ chain ∷ per ∷ used ∷ zspages ∷ []) groups else None
class_in words = None

-- the words after `job`
unfoldable pub fault_in : List (List ℕ) → Option OutLine
fault_in (line ∷ cause ∷ []) = do
  n ← short_in line
  c ← cause_in cause
  Some (lines.Job (record { line = n; cause = c }))
fault_in words = None

-- whether the words are those of the first form of the command line
abbrev pub is_run : List ℕ → List ℕ → Bool
is_run program word = bytes_eq program (codes "zramsim") && bytes_eq word (codes "run")

-- whether the words are a bar and those of the second form
abbrev pub is_gen : List ℕ → List ℕ → List ℕ → List ℕ → List ℕ → Bool
is_gen bar program word pages seed =
    bytes_eq bar (codes "|") && bytes_eq program (codes "zramsim") && bytes_eq word (codes "gen")
    && bytes_eq pages (codes "PAGES") && bytes_eq seed (codes "SEED")

-- the words after `usage:`
unfoldable pub usage_in : List (List ℕ) → Option OutLine
usage_in (program ∷ word ∷ bar ∷ again ∷ other ∷ pages ∷ seed ∷ []) =
    if is_run program word && is_gen bar again other pages seed then Some lines.Usage else None
usage_in words = None

-- the words after the first
unfoldable pub named_in : List ℕ → List (List ℕ) → Option OutLine
named_in name words =
    if bytes_eq name (codes "fill") then fill_in words
    else if bytes_eq name (codes "hex") then hex_in words
    else if bytes_eq name (codes "op") then op_in words
    else if bytes_eq name (codes "order") then order_in words
    else if bytes_eq name (codes "state") then state_in words
    else if bytes_eq name (codes "class") then class_in words
    else if bytes_eq name (codes "mm_stat") then memory_in words
    else if bytes_eq name (codes "io_stat") then calls_in words
    else if bytes_eq name (codes "bd_stat") then device_in words
    else if bytes_eq name (codes "attr") then refused_in words
    else if bytes_eq name (codes "job") then fault_in words
    else if bytes_eq name (codes "usage:") then usage_in words
    else None

-- a line of these words
abbrev pub line_by : List (List ℕ) → Option OutLine
line_by [] = None
line_by (name ∷ words) = named_in name words

-- a line, without the byte that ends it
unfoldable pub line_in : List ℕ → Option OutLine
line_in line = line_by (slice_split (λ c. c == 32) line)
