-- The text of an output.
use Rattle.std.specs.Prelude.{ℕ, ◌≡◌, ◌<◌, ◌+◌, ◌*◌, ◌/◌, ◌%◌, ◌==◌, nat_lt, Bool, List, [], ◌∷◌, ◌++◌, take, drop, map, length, sum, count_by, slice_index, codes, if◌then◌else◌}
use Rattle.std.specs.List.{flat_map, range_with_len}
use Rattle.std.specs.Str.{bytes_eq}
use Rattle.std.specs.Fmt.{decimal}
use Rattle.std.specs.Int.{w64, from_le_bytes, to_be_bytes}
use Rattle.zr_base.specs.declared.op.Tag.{Tag}
use Rattle.zr_base.specs.declared.op.OpEnd.{OpEnd}
use Rattle.zr_base.specs.declared.op.OpEnd.TheVariants as ends
use Rattle.mem_account.specs.declared.account.MmStat.{MmStat}
use Rattle.mem_account.specs.declared.account.IoStat.{IoStat}
use Rattle.backing_dev.specs.declared.stat.BdStat.{BdStat}
use Rattle.mem_account.specs.declared.weight.Weight.{Weight}
use Rattle.mem_account.specs.declared.weight.Weight.TheVariants as weights
use Rattle.size_class.specs.declared.stat.ClassStat.{ClassStat}
use Rattle.size_class.specs.Classes.{class_size, chain_of, per_of}
use Rattle.size_class.specs.Groups.{group_of}
use Rattle.plain_disk.specs.Output.{OutLine as PlainLine, StateLine, ClassLine, AttrRefusal, disksize_busy, backing_busy, backing_range, ended, sector, ordered, memory, calls, device_calls, refused, state, class_of}
use Rattle.job_text.specs.declared.fault.Cause.{Cause}
use Rattle.job_text.specs.declared.fault.Cause.TheVariants as causes
use Rattle.job_text.specs.declared.fault.JobFault.{JobFault}
use Rattle.job_print.specs.declared.line.Refusal.{Refusal}
use Rattle.job_print.specs.declared.line.Refusal.TheVariants as refusals
use Rattle.job_print.specs.declared.line.OutLine.{OutLine}
use Rattle.job_print.specs.declared.line.OutLine.TheVariants as lines

-- ---- words

-- a digit in lower case
abbrev pub hex_digit : ℕ → ℕ
hex_digit d = if nat_lt d 10 then 48 + d else 87 + d

-- the two digits of a byte
abbrev pub hex_byte : ℕ → List ℕ
hex_byte b = hex_digit (b / 16) ∷ hex_digit (b % 16) ∷ []

-- the sixteen digits of a word of 8 bytes, its greatest first
unfoldable pub word_digits : ℕ → List ℕ
word_digits word = flat_map hex_byte (to_be_bytes w64 word)

-- a call of an order
abbrev pub tag_word : Tag → List ℕ
tag_word tag = decimal tag.actor ++ 58 ∷ decimal tag.op

-- the words of how many pages a writeback left on the device, and of how many it wrote in vain
abbrev pub written_words : ℕ → ℕ → List (List ℕ)
written_words wrote lost = codes "wrote" ∷ decimal wrote ∷ codes "lost" ∷ decimal lost ∷ []

-- the words of an operation's end
abbrev pub end_words : OpEnd → List (List ℕ)
end_words ends.Ok = codes "ok" ∷ []
end_words ends.Range = codes "range" ∷ []
end_words (ends.AtLimit pages need limit done) =
    codes "limit" ∷ decimal pages ∷ decimal need ∷ decimal limit ∷ codes "done" ∷ decimal done ∷ []
end_words (ends.NoMemory done) = codes "nomem" ∷ codes "done" ∷ decimal done ∷ []
end_words (ends.Eio fault done) = codes "eio" ∷ decimal fault ∷ codes "done" ∷ decimal done ∷ []
end_words (ends.Marked pages) = codes "marked" ∷ decimal pages ∷ []
end_words (ends.Written wrote lost) = written_words wrote lost
end_words (ends.Budget wrote lost) = codes "budget" ∷ written_words wrote lost
end_words (ends.NoBlock wrote lost) = codes "noblock" ∷ written_words wrote lost
end_words ends.NoBacking = codes "nobacking" ∷ []
end_words (ends.WriteEio fault wrote lost) =
    codes "eio" ∷ decimal fault ∷ written_words wrote lost
end_words (ends.Compacted moves frames) = codes "compacted" ∷ decimal moves ∷ decimal frames ∷ []

-- the nine numbers of `mm_stat`, in zram's order
abbrev pub memory_numbers : MmStat → List ℕ
memory_numbers m =
    m.orig ∷ m.compr ∷ m.used ∷ m.limit ∷ m.max ∷ m.same ∷ m.compacted ∷ m.huge ∷ m.huge_since ∷ []

-- the four numbers of `io_stat`, in zram's order
abbrev pub calls_numbers : IoStat → List ℕ
calls_numbers c = c.failed_reads ∷ c.failed_writes ∷ c.invalid_io ∷ c.notify_free ∷ []

-- the three numbers of `bd_stat`, in zram's order
abbrev pub device_numbers : BdStat → List ℕ
device_numbers d = d.count ∷ d.reads ∷ d.writes ∷ []

-- the words of a class, its cells and its chains
abbrev pub cell_words : ClassStat → List (List ℕ)
cell_words c =
    decimal c.class ∷ decimal c.size ∷ codes "pages" ∷ decimal c.chain ∷ codes "per" ∷ decimal c.per
    ∷ []

-- the words of what of a class is used
abbrev pub use_words : ClassStat → List (List ℕ)
use_words c =
    codes "used" ∷ decimal c.used ∷ codes "zspages" ∷ decimal c.zspages ∷ codes "groups"
    ∷ map decimal c.groups

-- the word of a cause
abbrev pub cause_word : Cause → List ℕ
cause_word causes.Word = codes "word"
cause_word causes.Number = codes "number"
cause_word causes.Range = codes "range"
cause_word causes.NoDisk = codes "nodisk"
cause_word causes.TooMany = codes "toomany"
cause_word causes.Order = codes "order"

-- the words of a refusal: the attribute, and why it was refused
abbrev pub refusal_words : Refusal → List (List ℕ)
refusal_words refusals.DisksizeBusy = codes "disksize" ∷ codes "busy" ∷ []
refusal_words refusals.BackingBusy = codes "backing" ∷ codes "busy" ∷ []
refusal_words refusals.BackingRange = codes "backing" ∷ codes "range" ∷ []

-- ---- lines

-- the first word of a line
unfoldable pub name_of : OutLine → List ℕ
name_of (lines.Op actor op end) = codes "op"
name_of (lines.Fill word) = codes "fill"
name_of (lines.Hex bytes) = codes "hex"
name_of (lines.Order page tags) = codes "order"
name_of (lines.Mm stat) = codes "mm_stat"
name_of (lines.Io stat) = codes "io_stat"
name_of (lines.Bd stat) = codes "bd_stat"
name_of (lines.Refused refusal) = codes "attr"
name_of (lines.State page letters touched) = codes "state"
name_of (lines.Class stat) = codes "class"
name_of (lines.Job fault) = codes "job"
name_of lines.Usage = codes "usage:"

-- the words after it
unfoldable pub words_of : OutLine → List (List ℕ)
words_of (lines.Op actor op end) = decimal actor ∷ decimal op ∷ end_words end
words_of (lines.Fill word) = word_digits word ∷ []
words_of (lines.Hex bytes) = flat_map hex_byte bytes ∷ []
words_of (lines.Order page tags) = decimal page ∷ map tag_word tags
words_of (lines.Mm stat) = map decimal (memory_numbers stat)
words_of (lines.Io stat) = map decimal (calls_numbers stat)
words_of (lines.Bd stat) = map decimal (device_numbers stat)
words_of (lines.Refused refusal) = refusal_words refusal
words_of (lines.State page letters touched) = decimal page ∷ letters ∷ decimal touched ∷ []
words_of (lines.Class stat) = cell_words stat ++ use_words stat
words_of (lines.Job fault) = decimal fault.line ∷ cause_word fault.cause ∷ []
words_of lines.Usage = codes "zramsim" ∷ codes "run" ∷ codes "|" ∷ codes "zramsim" ∷ codes "gen"
    ∷ codes "PAGES" ∷ codes "SEED" ∷ []

-- each word after a space
abbrev pub spaced : List (List ℕ) → List ℕ
spaced words = flat_map (λ word. 32 ∷ word) words

-- a line: its words between single spaces, and the byte that ends it
abbrev pub out_line : OutLine → List ℕ
out_line line = name_of line ++ spaced (words_of line) ++ 10 ∷ []

-- the text of lines
abbrev pub out_text : List OutLine → List ℕ
out_text lines = flat_map out_line lines

-- ---- what is printed of a plain disk's lines

-- the 8 bytes of a sector's word, the least first
abbrev pub word_at : List ℕ → ℕ → List ℕ
word_at bytes j = take 8 (drop (8 * j) bytes)

-- all 64 words of a sector are equal
abbrev pub IsFilled : List ℕ → Type 0
IsFilled bytes = (j : ℕ) → j < 64 → word_at bytes j ≡ word_at bytes 0

-- whether all words of a sector are equal: without its first word it is as without its last
abbrev pub is_filled : List ℕ → Bool
is_filled bytes = bytes_eq (drop 8 bytes) (take 504 bytes)

-- a sector as the word that all its words are, or else as its bytes
unfoldable pub sector_line : List ℕ → OutLine
sector_line bytes =
    if is_filled bytes then lines.Fill (from_le_bytes w64 (take 8 bytes)) else lines.Hex bytes

-- the letters of a page: `s` same-filled, `w` on the device, `h` huge, `i` idle, which only a page of
-- the pool can be; `.` in the place of each other
abbrev pub letters_of : Weight → Bool → List ℕ
letters_of weights.Empty idle = codes "...."
letters_of weights.Same idle = codes "s..."
letters_of (weights.Packed bytes) idle = if idle then codes "...i" else codes "...."
letters_of weights.Huge idle = if idle then codes "..hi" else codes "..h."
letters_of weights.Back idle = codes ".w.."

-- how many zspages with so many cells, of which these are used, are in a fullness group
abbrev pub in_group : ℕ → List ℕ → ℕ → ℕ
in_group per used group = count_by (λ u. group_of u per == group) used

-- the statistics of a class, by the used cells of its zspages
abbrev pub stat_of : ClassLine → ClassStat
stat_of c = record {
  class = c.class;
  size = class_size c.class;
  chain = chain_of c.chain c.class;
  per = per_of c.chain c.class;
  used = sum c.used;
  zspages = length c.used;
  groups = map (in_group (per_of c.chain c.class) c.used) (range_with_len 1 11);
}

-- what is printed of a refusal
abbrev pub refusal_of : AttrRefusal → Refusal
refusal_of disksize_busy = refusals.DisksizeBusy
refusal_of backing_busy = refusals.BackingBusy
refusal_of backing_range = refusals.BackingRange

-- the refusal of which that is printed
abbrev pub why_of : Refusal → AttrRefusal
why_of refusals.DisksizeBusy = disksize_busy
why_of refusals.BackingBusy = backing_busy
why_of refusals.BackingRange = backing_range

-- what is printed of a line
abbrev pub shown : PlainLine → OutLine
shown (ended tag end) = lines.Op tag.actor tag.op end
shown (sector bytes) = sector_line bytes
shown (ordered page tags) = lines.Order page tags
shown (memory stat) = lines.Mm stat
shown (calls stat) = lines.Io stat
shown (device_calls stat) = lines.Bd stat
shown (refused why) = lines.Refused (refusal_of why)
shown (state s) = lines.State s.page (letters_of s.kept s.idle) s.touched
shown (class_of c) = lines.Class (stat_of c)

-- the text of a line
abbrev pub line_text : PlainLine → List ℕ
line_text line = out_line (shown line)

-- the text of an output
abbrev pub text : List PlainLine → List ℕ
text lines = flat_map line_text lines

-- the line of a text that is no job
abbrev pub fault_text : JobFault → List ℕ
fault_text fault = out_line (lines.Job fault)

-- the usage line
abbrev pub usage_text : List ℕ
usage_text = out_line lines.Usage

-- a page's line has this number, these letters and this time
pub record IsStateOf (s : StateLine) (p : ℕ) (ls : List ℕ) (t : ℕ) : Type 0 where
  pub page : s.page ≡ p
  pub letters : letters_of s.kept s.idle ≡ ls
  pub touched : s.touched ≡ t

-- a class's statistics sum up the used cells of its zspages
pub record IsSummary (c : ClassLine) (stat : ClassStat) : Type 0 where
  pub class : stat.class ≡ c.class
  pub size : stat.size ≡ class_size c.class
  pub chain : stat.chain ≡ chain_of c.chain c.class
  pub per : stat.per ≡ per_of c.chain c.class
  pub used : stat.used ≡ sum c.used
  pub zspages : stat.zspages ≡ length c.used
  pub all : length stat.groups ≡ 11
  pub groups : (g : ℕ) → g < 11 → slice_index stat.groups g ≡ in_group (per_of c.chain c.class) c.used (g + 1)
