-- The counters as sums over the disk's pages.
use Rattle.std.specs.Prelude.{◌≡◌, ℕ, List, ◌∷◌, ◌++◌, sum_by}
use Rattle.mem_account.specs.Counters.{Counters}
use Rattle.mem_account.specs.declared.weight.Weight.{Weight}
use Rattle.mem_account.specs.declared.weight.Weight.TheVariants.{Empty, Same, Packed, Huge, Back}
use Rattle.mem_account.specs.declared.weight.Delta.{Delta}
use Rattle.mem_account.specs.declared.weight.Delta.TheVariants.{Kept, FailedRead, FailedWrite, InvalidIo, NotifyFree, Compacted}

-- 1 for a page kept as one repeated word, else 0
abbrev pub same_of : Weight → ℕ
same_of Empty = 0
same_of Same = 1
same_of (Packed len) = 0
same_of Huge = 0
same_of Back = 0

-- 1 for a page kept packed, else 0
abbrev pub packed_of : Weight → ℕ
packed_of Empty = 0
packed_of Same = 0
packed_of (Packed len) = 1
packed_of Huge = 0
packed_of Back = 0

-- the bytes of a page kept packed, else 0
abbrev pub packed_bytes_of : Weight → ℕ
packed_bytes_of Empty = 0
packed_bytes_of Same = 0
packed_bytes_of (Packed len) = len
packed_bytes_of Huge = 0
packed_bytes_of Back = 0

-- 1 for a page kept as its 4096 bytes, else 0
abbrev pub huge_of : Weight → ℕ
huge_of Empty = 0
huge_of Same = 0
huge_of (Packed len) = 0
huge_of Huge = 1
huge_of Back = 0

-- 1 for a page on the backing device, else 0
abbrev pub back_of : Weight → ℕ
back_of Empty = 0
back_of Same = 0
back_of (Packed len) = 0
back_of Huge = 0
back_of Back = 1

-- the counters are the sums over pages of these weights
pub record IsTally (c : Counters) (pages : List Weight) : Type 0 where
  pub same : c.same ≡ sum_by same_of pages
  pub packed : c.packed ≡ sum_by packed_of pages
  pub packed_bytes : c.packed_bytes ≡ sum_by packed_bytes_of pages
  pub huge : c.huge ≡ sum_by huge_of pages
  pub back : c.back ≡ sum_by back_of pages

-- sums over pages stay sums over pages: one page changes its weight, or none
abbrev pub KeepsTally : Counters → Counters → Delta → Type 0
KeepsTally c d (Kept old new) =
    (front rest : List Weight) → IsTally c (front ++ old ∷ rest) → IsTally d (front ++ new ∷ rest)
KeepsTally c d FailedRead = (pages : List Weight) → IsTally c pages → IsTally d pages
KeepsTally c d FailedWrite = (pages : List Weight) → IsTally c pages → IsTally d pages
KeepsTally c d InvalidIo = (pages : List Weight) → IsTally c pages → IsTally d pages
KeepsTally c d NotifyFree = (pages : List Weight) → IsTally c pages → IsTally d pages
KeepsTally c d (Compacted frames) = (pages : List Weight) → IsTally c pages → IsTally d pages
