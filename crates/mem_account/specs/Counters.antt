-- The counters of a disk's memory, the rule of the limit, and what each piece of news changes.
use Rattle.std.specs.Prelude.{◌≡◌, ℕ, ◌+◌, ◌-◌, ◌*◌, ◌^◌, ◌<◌, ◌≤◌, ⊤, min, max}
use Rattle.mem_account.specs.declared.account.Charge.{Charge}
use Rattle.mem_account.specs.declared.account.Charge.TheVariants.{Charged, AtLimit}
use Rattle.mem_account.specs.declared.weight.Weight.{Weight}
use Rattle.mem_account.specs.declared.weight.Weight.TheVariants.{Empty, Same, Packed, Huge, Back}
use Rattle.mem_account.specs.declared.weight.Delta.{Delta}
use Rattle.mem_account.specs.declared.weight.Delta.TheVariants.{Kept, FailedRead, FailedWrite, InvalidIo, NotifyFree, Compacted}

-- frames of 4096 bytes that are charged, their limit (0 is none) and their greatest number since it
-- was last lowered, or from the start;
-- the disk's pages by the form that they are kept in; and what happened so far
pub record Counters : Type 0 where
  pub pages : ℕ
  pub limit : ℕ
  pub most : ℕ
  pub same : ℕ
  pub packed : ℕ
  pub packed_bytes : ℕ
  pub huge : ℕ
  pub back : ℕ
  pub huge_since : ℕ
  pub compacted : ℕ
  pub failed_reads : ℕ
  pub failed_writes : ℕ
  pub invalid_io : ℕ
  pub notify_free : ℕ

-- nothing charged, kept or happened
abbrev pub no_counts : Counters
no_counts = record {
  pages = 0;
  limit = 0;
  most = 0;
  same = 0;
  packed = 0;
  packed_bytes = 0;
  huge = 0;
  back = 0;
  huge_since = 0;
  compacted = 0;
  failed_reads = 0;
  failed_writes = 0;
  invalid_io = 0;
  notify_free = 0;
}

-- the limit rule: there is a limit, and with so many frames more the account would pass it
abbrev pub IsPastLimit : Counters → ℕ → Type 0
IsPastLimit c need = (0 < c.limit) × (c.limit < c.pages + need)

-- the other side of the limit rule
abbrev pub IsWithinLimit : Counters → ℕ → Type 0
IsWithinLimit c need = 0 < c.limit → c.pages + need ≤ c.limit

-- the answer to a charge: a refusal has the frames charged, the need and the limit
abbrev pub AnswersCharge : Counters → ℕ → Charge → Type 0
AnswersCharge c need Charged = IsWithinLimit c need
AnswersCharge c need (AtLimit pages more limit) =
    IsPastLimit c need × (pages ≡ c.pages) × (more ≡ need) × (limit ≡ c.limit)

-- the counters with so many frames more
abbrev pub charged : Counters → ℕ → Counters
charged c need = record c { pages = c.pages + need; most = max c.most (c.pages + need) }

-- orig_data_size: the bytes of the pages that aren't empty, those on the backing device among them
abbrev pub original_size : Counters → ℕ
original_size c = 4096 * (c.same + c.packed + c.huge + c.back)

-- compr_data_size: the bytes that the pages in the pool are packed in
abbrev pub packed_size : Counters → ℕ
packed_size c = c.packed_bytes + 4096 * c.huge

-- a count that only rises stands still at its type's end
abbrev pub at_most_end : ℕ → ℕ
at_most_end n = min n (2 ^ 64 - 1)

-- a page of this weight is among those counted
abbrev pub IsCounted : Counters → Weight → Type 0
IsCounted c Empty = ⊤
IsCounted c Same = 1 ≤ c.same
IsCounted c (Packed len) = (1 ≤ c.packed) × (len ≤ c.packed_bytes)
IsCounted c Huge = 1 ≤ c.huge
IsCounted c Back = 1 ≤ c.back

-- the counters without_one a page of this weight
abbrev pub without_one : Counters → Weight → Counters
without_one c Empty = c
without_one c Same = record c { same = c.same - 1 }
without_one c (Packed len) = record c { packed = c.packed - 1; packed_bytes = c.packed_bytes - len }
without_one c Huge = record c { huge = c.huge - 1 }
without_one c Back = record c { back = c.back - 1 }

-- the counters with one page more, of this weight
abbrev pub with_one : Counters → Weight → Counters
with_one c Empty = c
with_one c Same = record c { same = c.same + 1 }
with_one c (Packed len) = record c { packed = c.packed + 1; packed_bytes = c.packed_bytes + len }
with_one c Huge = record c { huge = c.huge + 1; huge_since = at_most_end (c.huge_since + 1) }
with_one c Back = record c { back = c.back + 1 }

-- the counters after a piece of news
abbrev pub counted : Counters → Delta → Counters
counted c (Kept old new) = with_one (without_one c old) new
counted c FailedRead = record c { failed_reads = at_most_end (c.failed_reads + 1) }
counted c FailedWrite = record c { failed_writes = at_most_end (c.failed_writes + 1) }
counted c InvalidIo = record c { invalid_io = at_most_end (c.invalid_io + 1) }
counted c NotifyFree = record c { notify_free = at_most_end (c.notify_free + 1) }
counted c (Compacted frames) = record c { compacted = at_most_end (c.compacted + frames) }

-- the page that the news speaks of was counted with the weight that it had before
abbrev pub IsOldCounted : Counters → Delta → Type 0
IsOldCounted c (Kept old new) = IsCounted c old
IsOldCounted c FailedRead = ⊤
IsOldCounted c FailedWrite = ⊤
IsOldCounted c InvalidIo = ⊤
IsOldCounted c NotifyFree = ⊤
IsOldCounted c (Compacted frames) = ⊤

-- the two sizes in bytes fit a u64
abbrev pub HasFittingSizes : Counters → Type 0
HasFittingSizes c = (original_size c < 2 ^ 64) × (packed_size c < 2 ^ 64)

-- what holds of every account: numbers of frames stay below 2^52, so that their bytes fit a u64
pub record IsAccount (c : Counters) : Type 0 where
  pub pages : c.pages ≤ c.most
  pub most : c.most < 2 ^ 52
  pub limit : c.limit < 2 ^ 52
  pub original : original_size c < 2 ^ 64
  pub packed : packed_size c < 2 ^ 64
