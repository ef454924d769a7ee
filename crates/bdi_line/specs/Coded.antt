-- Which code and payload a line has.
use Rattle.std.specs.Prelude.{ℕ, ◌<◌, ◌≤◌, ◌≡◌, List, [], ◌⊎◌, All, take, slice_index, length}
use Rattle.bdi_line.specs.Line.{values, FitsSplit, IsSplit, b8d1, b8d2, b8d4, b4d1, b4d2, b2d1}
use Rattle.bdi_line.specs.declared.codes.Code.{Code}
use Rattle.bdi_line.specs.declared.codes.Code.TheVariants.{Zeros, Repeated, B8D1, B8D2, B8D4, B4D1, B4D2, B2D1, Raw}

-- the number that stands for a code in a packing
abbrev pub code_number : Code → ℕ
code_number Zeros = 0
code_number Repeated = 1
code_number B8D1 = 2
code_number B8D2 = 3
code_number B8D4 = 4
code_number B4D1 = 5
code_number B4D2 = 6
code_number B2D1 = 7
code_number Raw = 8

-- the length of a payload
abbrev pub size_of : Code → ℕ
size_of Zeros = 0
size_of Repeated = 8
size_of B8D1 = 17
size_of B8D2 = 25
size_of B8D4 = 41
size_of B4D1 = 22
size_of B4D2 = 38
size_of B2D1 = 38
size_of Raw = 64

-- the line can be kept under the code
abbrev pub FitsCode : Code → List ℕ → Type 0
FitsCode Zeros line = All (λ b. b ≡ 0) line
FitsCode Repeated line =
    (j : ℕ) → j < 8 → slice_index (values 8 8 line) j ≡ slice_index (values 8 8 line) 0
FitsCode B8D1 line = FitsSplit b8d1 (values 8 8 line)
FitsCode B8D2 line = FitsSplit b8d2 (values 8 8 line)
FitsCode B8D4 line = FitsSplit b8d4 (values 8 8 line)
FitsCode B4D1 line = FitsSplit b4d1 (values 4 16 line)
FitsCode B4D2 line = FitsSplit b4d2 (values 4 16 line)
FitsCode B2D1 line = FitsSplit b2d1 (values 2 32 line)
FitsCode Raw line = Unit {0}

-- payload is what the line is kept as under the code
abbrev pub IsPayload : Code → List ℕ → List ℕ → Type 0
IsPayload Zeros line payload = payload ≡ []
IsPayload Repeated line payload = payload ≡ take 8 line
IsPayload B8D1 line payload = IsSplit b8d1 (values 8 8 line) payload
IsPayload B8D2 line payload = IsSplit b8d2 (values 8 8 line) payload
IsPayload B8D4 line payload = IsSplit b8d4 (values 8 8 line) payload
IsPayload B4D1 line payload = IsSplit b4d1 (values 4 16 line) payload
IsPayload B4D2 line payload = IsSplit b4d2 (values 4 16 line) payload
IsPayload B2D1 line payload = IsSplit b2d1 (values 2 32 line) payload
IsPayload Raw line payload = payload ≡ line

-- no code that the line fits has a smaller payload, or one of this size and a lower number
abbrev pub IsLeast : Code → List ℕ → Type 0
IsLeast code line = (other : Code) → FitsCode other line
    → (size_of code < size_of other)
    ⊎ ((size_of code ≡ size_of other) × (code_number code ≤ code_number other))

-- the line is packed by this code as this payload
pub record IsCoded (line : List ℕ) (code : Code) (payload : List ℕ) : Type 0 where
  pub fits : FitsCode code line
  pub size_is : length payload ≡ size_of code
  pub payload_is : IsPayload code line payload
  pub least : IsLeast code line

-- 64 bytes
abbrev pub IsByteLine : List ℕ → Type 0
IsByteLine line = (length line ≡ 64) × All (λ b. b < 256) line
