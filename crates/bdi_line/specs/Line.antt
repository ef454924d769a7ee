-- Base-Delta-Immediate coding of a line of 64 bytes by two bases, one of them zero, in whole
-- numbers.
use Rattle.std.specs.Prelude.{ℕ, ◌+◌, ◌-◌, ◌*◌, ◌/◌, ◌%◌, ◌^◌, ◌<◌, ◌≡◌, List, [], ◌∷◌, ◌++◌, Bool, false, not, ◌&&◌, nat_lt, nat_le, cond, length, slice_index, ◌⊎◌}
use Rattle.std.specs.List.{prefix_len}
use Rattle.std.specs.Simd.Lanes.{number_l, digits_l}

-- the count values of width bytes in a line, little endian
unfoldable pub values : ℕ → ℕ → List ℕ → List ℕ
values width count line = digits_l (256 ^ width) count (number_l 256 line)

-- a number below m, read as a signed one, is neither from 0 to h - 1 nor from -h to -1
abbrev pub is_large : ℕ → ℕ → ℕ → Bool
is_large h m v = nat_le h v && nat_lt (v + h) m

-- the first value that is large, or 0
unfoldable pub base_of : ℕ → ℕ → List ℕ → ℕ
base_of h m vs = slice_index vs (prefix_len (λ v. not (is_large h m v)) vs)

-- v - base, where the difference wraps at m
abbrev pub difference : ℕ → ℕ → ℕ → ℕ
difference m base v = (v + (m - base)) % m

-- the low n bytes of each number, in order
abbrev pub low_bytes : ℕ → List ℕ → List ℕ
low_bytes n [] = []
low_bytes n (x ∷ xs) = digits_l 256 n x ++ low_bytes n xs

-- How a line is split: the width of its values and of their deltas in bytes, and how many values
-- there are.
pub record Shape : Type 0 where
  pub width : ℕ
  pub delta : ℕ
  pub count : ℕ

-- the bound below which a delta is small
abbrev pub bound_of : Shape → ℕ
bound_of s = 256 ^ s.delta / 2

-- the number at which a value wraps
abbrev pub modulus_of : Shape → ℕ
modulus_of s = 256 ^ s.width

-- payload is the mask, the base and the deltas of these values: h bounds a small one, and m is
-- where
-- they wrap
pub record IsSplitBy (h m : ℕ) (s : Shape) (vs payload : List ℕ) : Type 0 where
  pub mask : ℕ
  pub deltas : List ℕ
  pub payload_is : payload ≡ digits_l 256 (s.count / 8) mask
      ++ digits_l 256 s.width (base_of h m vs) ++ low_bytes s.delta deltas
  pub mask_fits : mask < 2 ^ s.count
  -- bit j is set exactly where value j is large
  pub marked : (j : ℕ) → j < s.count
      → mask / 2 ^ j % 2 ≡ cond (is_large h m (slice_index vs j)) 1 0
  pub count_is : length deltas ≡ s.count
  -- each delta is small, as a signed number of s.delta bytes is
  pub small : (j : ℕ) → j < s.count → is_large h m (slice_index deltas j) ≡ false
  pub below : (j : ℕ) → j < s.count → slice_index deltas j < m
  -- value j is delta j, plus the base where bit j is set, and wraps at its width
  pub value_is : (j : ℕ) → j < s.count
      → slice_index vs j ≡ (slice_index deltas j + mask / 2 ^ j % 2 * base_of h m vs) % m

-- payload is the mask, the base and the deltas of values of this shape
abbrev pub IsSplit : Shape → List ℕ → List ℕ → Type 0
IsSplit s vs payload = IsSplitBy (bound_of s) (modulus_of s) s vs payload

-- each of the count values is small, or near the base
abbrev pub AreNear : ℕ → ℕ → ℕ → List ℕ → Type 0
AreNear count h m vs = (j : ℕ) → j < count
    → (is_large h m (slice_index vs j) ≡ false)
    ⊎ (is_large h m (difference m (base_of h m vs) (slice_index vs j)) ≡ false)

-- each value is small, or near the base
abbrev pub FitsSplit : Shape → List ℕ → Type 0
FitsSplit s vs = AreNear s.count (bound_of s) (modulus_of s) vs

-- values of 8 bytes with deltas of 1
abbrev pub b8d1 : Shape
b8d1 = record { width = 8; delta = 1; count = 8 }

-- values of 8 bytes with deltas of 2
abbrev pub b8d2 : Shape
b8d2 = record { width = 8; delta = 2; count = 8 }

-- values of 8 bytes with deltas of 4
abbrev pub b8d4 : Shape
b8d4 = record { width = 8; delta = 4; count = 8 }

-- values of 4 bytes with deltas of 1
abbrev pub b4d1 : Shape
b4d1 = record { width = 4; delta = 1; count = 16 }

-- values of 4 bytes with deltas of 2
abbrev pub b4d2 : Shape
b4d2 = record { width = 4; delta = 2; count = 16 }

-- values of 2 bytes with deltas of 1
abbrev pub b2d1 : Shape
b2d1 = record { width = 2; delta = 1; count = 32 }
