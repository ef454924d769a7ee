-- What the packing of a page is: 32 bytes of codes, and then the payloads of its 64 lines.
use Rattle.std.specs.Prelude.{ℕ, zero, suc, ◌+◌, ◌*◌, ◌<◌, ◌≤◌, ◌≡◌, List, [], ◌∷◌, ◌++◌, map, length, take, drop, All}
use Rattle.std.specs.List.{flat_map}
use Rattle.bdi_line.specs.Coded.{IsCoded, code_number}
use Rattle.bdi_line.specs.Packed.{code_of, payload_of}
use Rattle.bdi_line.specs.declared.codes.Code.{Code}

-- two numbers a byte, the first in its low four bits
abbrev pub code_bytes : List Code → List ℕ
code_bytes [] = []
code_bytes (a ∷ []) = code_number a ∷ []
code_bytes (a ∷ b ∷ cs) = (code_number a + 16 * code_number b) ∷ code_bytes cs

-- the payloads of the lines of a page, one after another
abbrev pub AreCoded : List Code → List ℕ → List ℕ → Type 0
AreCoded [] page payloads = (page ≡ []) × (payloads ≡ [])
AreCoded (c ∷ cs) page payloads = (payload : List ℕ) × (rest : List ℕ)
    × (payloads ≡ payload ++ rest) × (64 ≤ length page) × IsCoded (take 64 page) c payload
    × AreCoded cs (drop 64 page) rest

-- the page is packed as these bytes
pub record IsPacking (page bytes : List ℕ) : Type 0 where
  pub codes : List Code
  pub payloads : List ℕ
  pub count : length codes ≡ 64
  pub bytes_is : bytes ≡ code_bytes codes ++ payloads
  pub coded : AreCoded codes page payloads

-- 4096 bytes
abbrev pub IsPage : List ℕ → Type 0
IsPage page = (length page ≡ 4096) × All (λ b. b < 256) page

-- the lines of the first n pairs of lines of a page
abbrev pub lines_of : ℕ → List ℕ → List (List ℕ)
lines_of zero page = []
lines_of (suc n) page = take 64 page ∷ take 64 (drop 64 page) ∷ lines_of n (drop 128 page)

-- the codes of some lines, two a byte
abbrev pub codes_of : List (List ℕ) → List ℕ
codes_of lines = code_bytes (map code_of lines)

-- the payloads of some lines, one after another
abbrev pub payloads_of : List (List ℕ) → List ℕ
payloads_of lines = flat_map payload_of lines

-- the packing of a page
unfoldable pub packed : List ℕ → List ℕ
packed page = codes_of (lines_of 32 page) ++ payloads_of (lines_of 32 page)

-- the page has its packing, and no other
pub record HasOnePacking (page : List ℕ) : Type 0 where
  pub packing : IsPacking page (packed page)
  pub one : (bytes : List ℕ) → IsPacking page bytes → bytes ≡ packed page
