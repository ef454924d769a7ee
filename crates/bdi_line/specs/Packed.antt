-- The code and the payload of a line as functions of it.
use Rattle.std.specs.Prelude.{ℕ, ◌/◌, ◌==◌, ◌≡◌, Bool, true, List, [], ◌∷◌, ◌++◌, map, cond, not, take, slice_index}
use Rattle.std.specs.Simd.Lanes.{digits_l, mask_l}
use Rattle.bdi_line.specs.Line.{values, is_large, base_of, difference, low_bytes, Shape, bound_of, modulus_of, b8d1, b8d2, b8d4, b4d1, b4d2, b2d1}
use Rattle.bdi_line.specs.Coded.{IsCoded}
use Rattle.bdi_line.specs.declared.codes.Code.{Code}
use Rattle.bdi_line.specs.declared.codes.Code.TheVariants.{Zeros, Repeated, B8D1, B8D2, B8D4, B4D1, B4D2, B2D1, Raw}

-- what is kept of a value: a small one itself, and of a large one its difference from the base
abbrev pub delta_of : ℕ → ℕ → ℕ → ℕ → ℕ
delta_of h m base v = cond (is_large h m v) (difference m base v) v

-- the deltas of values
abbrev pub deltas_of : ℕ → ℕ → List ℕ → List ℕ
deltas_of h m vs = map (delta_of h m (base_of h m vs)) vs

-- the marks of those that pass a test: bit j is set where number j does
abbrev pub marks_of : (ℕ → Bool) → List ℕ → ℕ
marks_of test xs = mask_l (map test xs)

-- no delta is large
abbrev pub is_near : ℕ → ℕ → List ℕ → Bool
is_near h m vs = marks_of (is_large h m) (deltas_of h m vs) == 0

-- all of them are this number
abbrev pub is_all : ℕ → List ℕ → Bool
is_all x xs = marks_of (λ y. not (y == x)) xs == 0

-- whether a line can be kept under a code
abbrev pub fits : Code → List ℕ → Bool
fits Zeros line = is_all 0 line
fits Repeated line = is_all (slice_index (values 8 8 line) 0) (values 8 8 line)
fits B8D1 line = is_near (bound_of b8d1) (modulus_of b8d1) (values 8 8 line)
fits B8D2 line = is_near (bound_of b8d2) (modulus_of b8d2) (values 8 8 line)
fits B8D4 line = is_near (bound_of b8d4) (modulus_of b8d4) (values 8 8 line)
fits B4D1 line = is_near (bound_of b4d1) (modulus_of b4d1) (values 4 16 line)
fits B4D2 line = is_near (bound_of b4d2) (modulus_of b4d2) (values 4 16 line)
fits B2D1 line = is_near (bound_of b2d1) (modulus_of b2d1) (values 2 32 line)
fits Raw line = true

-- the codes after B8D1 but the last, by size, and by number where sizes are equal
abbrev pub wider : List Code
wider = B4D1 ∷ B8D2 ∷ B4D2 ∷ B2D1 ∷ B8D4 ∷ []

-- all codes in this order but the last, that of a line as it is
abbrev pub by_size : List Code
by_size = Zeros ∷ Repeated ∷ B8D1 ∷ wider

-- the first of these codes that passes, or else that of a line as it is
abbrev pub first_code : (Code → Bool) → List Code → Code
first_code test [] = Raw
first_code test (c ∷ cs) = cond (test c) c (first_code test cs)

-- the code of a line: the first that it fits
unfoldable pub code_of : List ℕ → Code
code_of line = first_code (λ c. fits c line) by_size

-- the mask, the base and the deltas of values: h bounds a small one, and m is where they wrap
abbrev pub payload_by : ℕ → ℕ → Shape → List ℕ → List ℕ
payload_by h m s vs =
    digits_l 256 (s.count / 8) (marks_of (is_large h m) vs)
    ++ digits_l 256 s.width (base_of h m vs)
    ++ low_bytes s.delta (deltas_of h m vs)

-- the mask, the base and the deltas of values of this shape
unfoldable pub split_payload : Shape → List ℕ → List ℕ
split_payload s vs = payload_by (bound_of s) (modulus_of s) s vs

-- what a line is kept as under a code
abbrev pub payload_under : Code → List ℕ → List ℕ
payload_under Zeros line = []
payload_under Repeated line = take 8 line
payload_under B8D1 line = split_payload b8d1 (values 8 8 line)
payload_under B8D2 line = split_payload b8d2 (values 8 8 line)
payload_under B8D4 line = split_payload b8d4 (values 8 8 line)
payload_under B4D1 line = split_payload b4d1 (values 4 16 line)
payload_under B4D2 line = split_payload b4d2 (values 4 16 line)
payload_under B2D1 line = split_payload b2d1 (values 2 32 line)
payload_under Raw line = line

-- the payload of a line
abbrev pub payload_of : List ℕ → List ℕ
payload_of line = payload_under (code_of line) line

-- the line has its code and payload, and no others
pub record HasOneCoding (line : List ℕ) : Type 0 where
  pub coded : IsCoded line (code_of line) (payload_of line)
  pub one : (code : Code) (payload : List ℕ) → IsCoded line code payload
      → (code ≡ code_of line) × (payload ≡ payload_of line)
