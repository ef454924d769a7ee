-- What the mask, the base and the deltas of a payload give back.
use Rattle.std.proofs.Common.{◌≡◌, ℕ, suc, ◌+◌, ◌-◌, ◌*◌, ◌/◌, ◌%◌, ◌^◌, ◌<◌, ◌≤◌, inl, inr, List, [], ◌∷◌, ◌++◌, Bool, true, false, cond, eqb, leb, length, get_or, map, take, drop, sym, ap, subst, ◌∙◌, arith, lit<, append_assoc, length-append, length-drop}
use Rattle.std.proofs.Math.Nat.{mod-eq_of_lt, add-mul-mod_self_left}
use Rattle.std.proofs.lemmas.Bool.{cases_lt}
use Rattle.std.proofs.lemmas.Bool.Decides.{nat_tests}
use Rattle.std.proofs.lemmas.Grind.{same_number_lists}
use Rattle.std.proofs.lemmas.List.{length-map, get_or-map, take_at, drop_at, take_all}
use Rattle.std.specs.Simd.Lanes.{number_l, digits_l, chunk, Each1}
use Rattle.bdi_line.specs.Line.{is_large, base_of, low_bytes, Shape, IsSplitBy}
use Rattle.bdi_line.proofs.Digits.{number-digits, length-digits, length-low_bytes, low_numbers}
use Rattle.bdi_line.proofs.Split.{base_below}

-- ---- three parts of a list

chunk_parts : (xs bs cs p : List ℕ) (k w n : ℕ) → p ≡ xs ++ bs ++ cs
    → length xs ≡ k → length bs ≡ w → length cs ≡ n
    → (chunk 0 k p ≡ xs) × (chunk k w p ≡ bs) × (chunk (k + w) n p ≡ cs)
chunk_parts xs bs cs p k w n e ex eb ec =
    let turned : p ≡ xs ++ (bs ++ cs) = e ∙ append_assoc xs bs cs in
    let both : length (xs ++ bs) ≡ k + w = length-append xs bs ∙ omega (arith, ex, eb) in (
      ap (take k) turned ∙ take_at xs (bs ++ cs) k ex,
      ap (λ l. take w (drop k l)) turned
          ∙ ap (take w) (drop_at xs (bs ++ cs) k ex) ∙ take_at bs cs w eb,
      ap (λ l. take n (drop (k + w) l)) e
          ∙ ap (take n) (drop_at (xs ++ bs) cs (k + w) both) ∙ take_all n cs (omega (arith, ec)),
    )

-- ---- one delta

-- a small number is told by its low digits, read as signed
signed_back : (h q c m x : ℕ) → q ≡ 2 * h → m ≡ q * suc c → x < m → is_large h m x ≡ false
    → cond (leb h (x % q)) ((x % q + (m - q)) % m) (x % q) ≡ x
signed_back h q c m x twice multiple lt small = elim (cases_lt x h) [
  | inl low ↦
      let same : x % q ≡ x = mod-eq_of_lt (omega arith) in
      rw same (grind (arith, nat_tests))
  | inr high ↦
      let wide : q ≤ m = omega arith in
      let near : m ≤ x + h = grind (arith, nat_tests) in
      let y : ℕ = x - (m - q) in
      let parts : x ≡ y + q * c = omega (arith, wide, near) in
      let rest : x % q ≡ y =
      ap (λ n. n % q) parts ∙ add-mul-mod_self_left y q c
      ∙ mod-eq_of_lt (omega (arith, wide, near)) in
      let back : y + (m - q) ≡ x = omega (arith, wide, near) in
      let reaches : leb h y ≡ true = grind (arith, nat_tests, wide, near) in
      rw rest (rw reaches (ap (λ n. n % m) back ∙ mod-eq_of_lt lt))
]

based_back : (t : Bool) (x d b m v : ℕ) → x ≡ cond t 1 0 → d < m → v ≡ (d + x * b) % m
    → cond (eqb x 1) ((d + b) % m) d ≡ v
based_back true x d b m v e lt is =
    let one : x * b ≡ b = ap (λ n. n * b) e ∙ omega arith in
    ap (λ n. cond (eqb n 1) ((d + b) % m) d) e ∙ sym (is ∙ ap (λ n. (d + n) % m) one)
based_back false x d b m v e lt is =
    let zero : x * b ≡ 0 = ap (λ n. n * b) e ∙ omega arith in
    let none : d + x * b ≡ d = omega (arith, zero) in
    ap (λ n. cond (eqb n 1) ((d + b) % m) d) e
    ∙ sym (is ∙ ap (λ n. n % m) none ∙ mod-eq_of_lt lt)

-- ---- all values

-- a delta as a number that wraps at m
abbrev signed_by : ℕ → ℕ → ℕ → ℕ → ℕ
signed_by h m q x = cond (leb h x) ((x + (m - q)) % m) x

module _ (h q c m : ℕ) (s : Shape) (vs p : List ℕ) (k : IsSplitBy h m s vs p)
    (eq : q ≡ 256 ^ s.delta) (twice : q ≡ 2 * h) (multiple : m ≡ q * suc c)
    (mask_bytes : 2 ^ s.count ≡ 256 ^ (s.count / 8)) (width : m ≡ 256 ^ s.width)
    (long : length vs ≡ s.count) (below : Each1 (λ v. v < m) vs) (pos : 0 < m) where
  parts : (chunk 0 (s.count / 8) p ≡ digits_l 256 (s.count / 8) k.mask)
      × (chunk (s.count / 8) s.width p ≡ digits_l 256 s.width (base_of h m vs))
      × (chunk (s.count / 8 + s.width) (s.delta * s.count) p ≡ low_bytes s.delta k.deltas)
  parts =
      chunk_parts (digits_l 256 (s.count / 8) k.mask) (digits_l 256 s.width (base_of h m vs))
      (low_bytes s.delta k.deltas) p (s.count / 8) s.width (s.delta * s.count) k.payload_is
      (length-digits 256 (s.count / 8) k.mask) (length-digits 256 s.width _)
      (length-low_bytes s.delta k.deltas ∙ ap (λ n. s.delta * n) k.count_is)

  mask_read : number_l 256 (chunk 0 (s.count / 8) p) ≡ k.mask
  mask_read =
      let P : ℕ → Type 0 = λ n. k.mask < n in
      ap (number_l 256) parts.0 ∙ number-digits 256 (s.count / 8) k.mask (lit< tt)
      ∙ mod-eq_of_lt (subst P mask_bytes k.mask_fits)

  base_read : number_l 256 (chunk (s.count / 8) s.width p) ≡ base_of h m vs
  base_read =
      let P : ℕ → Type 0 = λ n. base_of h m vs < n in
      ap (number_l 256) parts.1 ∙ number-digits 256 s.width _ (lit< tt)
      ∙ mod-eq_of_lt (subst P width (base_below h m vs pos below))

  low_read : digits_l q s.count (number_l 256 (chunk (s.count / 8 + s.width) (s.delta * s.count) p))
      ≡ map (λ x. x % q) k.deltas
  low_read =
      ap (λ l. digits_l q s.count (number_l 256 l)) parts.2
      ∙ ap (λ n. digits_l q n (number_l 256 (low_bytes s.delta k.deltas))) (sym k.count_is)
      ∙ low_numbers s.delta q k.deltas eq

  signed_read : (j : ℕ) → j < s.count
      → get_or (map (signed_by h m q) (map (λ x. x % q) k.deltas)) j 0 ≡ get_or k.deltas j 0
  signed_read j lt =
      let within : j < length k.deltas = omega (arith, k.count_is) in
      get_or-map (signed_by h m q) (map (λ x. x % q) k.deltas) j 0 0
      (omega (arith, length-map k.deltas (λ x. x % q)))
      ∙ ap (signed_by h m q) (get_or-map (λ x. x % q) k.deltas j 0 0 within)
      ∙ signed_back h q c m (get_or k.deltas j 0) twice multiple (k.below j lt) (k.small j lt)

  -- the values are those that are read: marks, base and low numbers, these signed, and then based
  pub values_read : (marks b : ℕ) (low signed result : List ℕ)
      → marks ≡ number_l 256 (chunk 0 (s.count / 8) p)
      → b ≡ number_l 256 (chunk (s.count / 8) s.width p)
      → low ≡ digits_l q s.count (number_l 256
      (chunk (s.count / 8 + s.width) (s.delta * s.count) p))
      → signed ≡ map (signed_by h m q) low
      → length result ≡ s.count
      → ((j : ℕ) → j < s.count → get_or result j 0
      ≡ cond (eqb (marks / 2 ^ j % 2) 1) ((get_or signed j 0 + b) % m) (get_or signed j 0))
      → result ≡ vs
  values_read marks b low signed result e1 e2 e3 e4 len at =
      same_number_lists result vs (len ∙ sym long) (λ j inside.
      let lt : j < s.count = omega (arith, len) in
      let base_is : b ≡ base_of h m vs = e2 ∙ base_read in
      let one : get_or signed j 0 ≡ get_or k.deltas j 0 =
      ap (λ l. get_or l j 0) (e4 ∙ ap (map (signed_by h m q)) (e3 ∙ low_read)) ∙ signed_read j lt in
      at j lt
      ∙ ap (λ n. cond (eqb (n / 2 ^ j % 2) 1) ((get_or signed j 0 + b) % m) (get_or signed j 0))
      (e1 ∙ mask_read)
      ∙ ap (λ d. cond (eqb (k.mask / 2 ^ j % 2) 1) ((d + b) % m) d) one
      ∙ based_back (is_large h m (get_or vs j 0)) (k.mask / 2 ^ j % 2) (get_or k.deltas j 0) b m
      (get_or vs j 0) (k.marked j lt) (k.below j lt) (rw base_is (k.value_is j lt)))

  -- a value is told by the payload
  pub value_read : (j : ℕ) → j < s.count → get_or vs j 0
      ≡ (get_or (map (signed_by h m q) (digits_l q s.count (number_l 256
      (chunk (s.count / 8 + s.width) (s.delta * s.count) p)))) j 0
      + number_l 256 (chunk 0 (s.count / 8) p) / 2 ^ j % 2
      * number_l 256 (chunk (s.count / 8) s.width p)) % m
  value_read j lt =
      k.value_is j lt
      ∙ sym (λ i. ((ap (λ l. get_or (map (signed_by h m q) l) j 0) low_read ∙ signed_read j lt) i
      + mask_read i / 2 ^ j % 2 * base_read i) % m)

-- ---- reading from a place on

pub chunk_tail : (n k : ℕ) (xs : List ℕ)
    → chunk 0 n (take (length xs - k) (drop k xs)) ≡ chunk k n xs
chunk_tail n k xs =
    ap (take n) (take_all (length xs - k) (drop k xs) (omega (arith, length-drop k xs)))

pub first_byte : (xs : List ℕ) → 1 ≤ length xs → get_or xs 0 0 ≡ number_l 256 (chunk 0 1 xs)
first_byte [] le = absurd (omega arith)
first_byte (x ∷ xs) le = omega arith
