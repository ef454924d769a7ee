-- The lines that may be printed.
use Rattle.std.specs.Prelude.{ℕ, ◌≡◌, ◌<◌, ◌≤◌, ◌^◌, ◌⊎◌, List, length, get_or}
use Rattle.std.specs.List.{AllByRecursion}
use Rattle.zr_base.specs.declared.op.Tag.{Tag}
use Rattle.zr_base.specs.declared.op.OpEnd.{OpEnd}
use Rattle.zr_base.specs.declared.op.OpEnd.TheVariants as ends
use Rattle.size_class.specs.declared.stat.ClassStat.{ClassStat}
use Rattle.job_print.specs.declared.line.OutLine.{OutLine}
use Rattle.job_print.specs.declared.line.OutLine.TheVariants as lines
use Rattle.job_print.specs.Texts.{memory_numbers, calls_numbers, device_numbers, IsFilled}

-- the numbers are those of 8 bytes
abbrev pub AreLong : List ℕ → Type 0
AreLong numbers = AllByRecursion (λ n. n < 2 ^ 64) numbers

-- the numbers are those of 4 bytes
abbrev pub AreShort : List ℕ → Type 0
AreShort numbers = AllByRecursion (λ n. n < 2 ^ 32) numbers

-- the numbers of an operation's end are of their types
abbrev pub IsProperEnd : OpEnd → Type 0
IsProperEnd ends.Ok = Unit {0}
IsProperEnd ends.Range = Unit {0}
IsProperEnd (ends.AtLimit pages need limit done) =
    (pages < 2 ^ 64) × (need < 2 ^ 64) × (limit < 2 ^ 64) × (done < 2 ^ 32)
IsProperEnd (ends.NoMemory done) = done < 2 ^ 32
IsProperEnd (ends.Eio fault done) = (fault < 2 ^ 64) × (done < 2 ^ 32)
IsProperEnd (ends.Marked pages) = pages < 2 ^ 32
IsProperEnd (ends.Written wrote lost) = (wrote < 2 ^ 32) × (lost < 2 ^ 32)
IsProperEnd (ends.Budget wrote lost) = (wrote < 2 ^ 32) × (lost < 2 ^ 32)
IsProperEnd (ends.NoBlock wrote lost) = (wrote < 2 ^ 32) × (lost < 2 ^ 32)
IsProperEnd ends.NoBacking = Unit {0}
IsProperEnd (ends.WriteEio fault wrote lost) =
    (fault < 2 ^ 64) × (wrote < 2 ^ 32) × (lost < 2 ^ 32)
IsProperEnd (ends.Compacted moves frames) = (moves < 2 ^ 64) × (frames < 2 ^ 64)

-- the numbers of a tag are of their types
abbrev pub IsProperTag : Tag → Type 0
IsProperTag tag = (tag.actor < 2 ^ 32) × (tag.op < 2 ^ 32)

-- the numbers of a class are of their types, eleven of them those of its groups
abbrev pub IsProperStat : ClassStat → Type 0
IsProperStat c =
    (c.class < 2 ^ 8) × (c.size < 2 ^ 32) × (c.chain < 2 ^ 32) × (c.per < 2 ^ 32)
    × (c.used < 2 ^ 32) × (c.zspages < 2 ^ 32) × (length c.groups ≡ 11) × AreShort c.groups

-- the byte is the letter, or a dot
abbrev pub IsLetter : ℕ → ℕ → Type 0
IsLetter letter byte = (byte ≡ letter) ⊎ (byte ≡ 46)

-- each of four letters is that of its place in `swhi`, or a dot
abbrev pub AreLetters : List ℕ → Type 0
AreLetters letters =
    (length letters ≡ 4) × IsLetter 115 (get_or letters 0 0) × IsLetter 119 (get_or letters 1 0)
    × IsLetter 104 (get_or letters 2 0) × IsLetter 105 (get_or letters 3 0)

-- each number of a line is of its type, a sector that is told by its bytes has 512 whose words
-- aren't all equal, and an order has some call
abbrev pub IsProper : OutLine → Type 0
IsProper (lines.Op actor op end) = (actor < 2 ^ 32) × (op < 2 ^ 32) × IsProperEnd end
IsProper (lines.Fill word) = word < 2 ^ 64
IsProper (lines.Hex bytes) =
    (length bytes ≡ 512) × AllByRecursion (λ b. b < 2 ^ 8) bytes × (¬ IsFilled bytes)
IsProper (lines.Order page tags) =
    (page < 2 ^ 32) × (1 ≤ length tags) × AllByRecursion IsProperTag tags
IsProper (lines.Mm stat) = AreLong (memory_numbers stat)
IsProper (lines.Io stat) = AreLong (calls_numbers stat)
IsProper (lines.Bd stat) = AreLong (device_numbers stat)
IsProper (lines.Refused refusal) = Unit {0}
IsProper (lines.State page letters touched) =
    (page < 2 ^ 32) × AreLetters letters × (touched < 2 ^ 64)
IsProper (lines.Class stat) = IsProperStat stat
IsProper (lines.Job fault) = fault.line < 2 ^ 32
IsProper lines.Usage = Unit {0}
