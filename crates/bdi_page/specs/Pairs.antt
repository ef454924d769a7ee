-- What the steps of packing and unpacking say, two lines or one at a time: private contracts cite
-- it.
use Rattle.std.specs.Prelude.{ℕ, ◌+◌, ◌*◌, ◌≤◌, ◌≡◌, List, ◌++◌, length, take, drop, slice_index}
use Rattle.std.specs.Simd.Lanes.{chunk}
use Rattle.bdi_line.specs.Coded.{IsByteLine, code_number}
use Rattle.bdi_line.specs.Packed.{code_of, payload_of}

-- the first line of pair j of a page
abbrev pub first_line : List ℕ → ℕ → List ℕ
first_line page j = chunk (128 * j) 64 page

-- the second line of pair j of a page
abbrev pub second_line : List ℕ → ℕ → List ℕ
second_line page j = chunk (128 * j + 64) 64 page

-- the number of a line's code
abbrev pub number_in : List ℕ → ℕ
number_in line = code_number (code_of line)

-- a line whose code has this number has its payload at `at`, before rest
pub record HasLine (bytes : List ℕ) (number at : ℕ) (line rest : List ℕ) : Type 0 where
  pub line_is : IsByteLine line
  pub number_is : number_in line ≡ number
  pub here : drop at bytes ≡ payload_of line ++ rest

-- bytes were put as line i of a page; what is left after the line's payload begins at next
pub record IsLinePut (bytes : List ℕ) (i : ℕ) (old new line rest : List ℕ) (next : ℕ) : Type 0 where
  pub lines : take (64 * (i + 1)) new ≡ take (64 * i) old ++ line
  pub rest_is : rest ≡ drop next bytes
  pub within : next ≤ length bytes

-- line i was read: its payload is at `at`, and ends at next, and no other line can stand there
pub record IsLineRead (bytes : List ℕ) (number at i : ℕ) (old new : List ℕ) (next : ℕ) : Type 0
  where
    pub line : List ℕ
    pub long : length line ≡ 64
    pub number_is : number_in line ≡ number
    pub payload_is : take next bytes ≡ take at bytes ++ payload_of line
    pub from : at ≤ next
    pub within : next ≤ length bytes
    pub lines : take (64 * (i + 1)) new ≡ take (64 * i) old ++ line
    pub only : (other rest : List ℕ) → HasLine bytes number at other rest
        → (other ≡ line) × (rest ≡ drop next bytes)

-- two lines have their payloads at `at`, before rest
pub record HasPair (bytes : List ℕ) (j at : ℕ) (first second rest : List ℕ) : Type 0 where
  pub first_is : IsByteLine first
  pub second_is : IsByteLine second
  pub byte_is : slice_index bytes j ≡ number_in first + 16 * number_in second
  pub here : drop at bytes ≡ payload_of first ++ (payload_of second ++ rest)

-- bytes were put as pair j of a page; what is left after the pair's payloads begins at next
pub record IsPairPut (bytes : List ℕ) (j : ℕ) (old new first second rest : List ℕ) (next : ℕ) : Type
    0 where
  pub lines : take (128 * (j + 1)) new ≡ take (128 * j) old ++ (first ++ second)
  pub rest_is : rest ≡ drop next bytes
  pub within : next ≤ length bytes

-- pair j was read: its payloads are at `at`, and end at next, and no other pair can stand there
pub record IsPairRead (bytes : List ℕ) (j at : ℕ) (old new : List ℕ) (next : ℕ) : Type 0 where
  pub first : List ℕ
  pub second : List ℕ
  pub first_is : length first ≡ 64
  pub second_is : length second ≡ 64
  pub byte_is : slice_index bytes j ≡ number_in first + 16 * number_in second
  pub payloads_are : take next bytes ≡ take at bytes ++ (payload_of first ++ payload_of second)
  pub from : at ≤ next
  pub within : next ≤ length bytes
  pub lines : take (128 * (j + 1)) new ≡ take (128 * j) old ++ (first ++ second)
  pub only : (one two rest : List ℕ) → HasPair bytes j at one two rest
      → (one ≡ first) × (two ≡ second) × (rest ≡ drop next bytes)
