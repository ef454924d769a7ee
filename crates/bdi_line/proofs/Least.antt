-- The code of a line fits it, and no code that fits comes before it, by size and then by number.
use Rattle.std.proofs.Common.{◌≡◌, ℕ, ◌+◌, ◌*◌, ◌/◌, ◌<◌, ◌≤◌, ◌⊎◌, inl, inr, List, [], ◌∷◌, ◌++◌, length, get_or, Bool, true, false, not, eqb, leb, ◌&&◌, ◌||◌, refl, sym, ap, subst, ◌∙◌, arith, lit<, lit≤, length-append, length-take}
use Rattle.std.proofs.lemmas.Bool.{cases_lt, cond_both, eqb-true, eq-eqb, leb-true, not-false}
use Rattle.std.proofs.lemmas.Grind.{get_or_default_zero}
use Rattle.std.specs.Simd.Lanes.{digits_l}
use Rattle.bdi_line.specs.Line.{values, base_of, bound_of, modulus_of, low_bytes, Shape, IsSplit, FitsSplit, b8d1, b8d2, b8d4, b4d1, b4d2, b2d1}
use Rattle.bdi_line.specs.Packed.{is_all, is_near, fits, by_size, first_code, code_of, split_payload, payload_under, payload_of}
use Rattle.bdi_line.specs.Coded.{code_number, size_of, FitsCode, IsPayload, IsCoded}
use Rattle.bdi_line.specs.declared.codes.Code.{Code}
use Rattle.bdi_line.specs.declared.codes.Code.TheVariants.{Zeros, Repeated, B8D1, B8D2, B8D4, B4D1, B4D2, B2D1, Raw}
use Rattle.bdi_line.proofs.Bits.{none_passes, no_marks}
use Rattle.bdi_line.proofs.Digits.{length-digits, length-low_bytes, length-values, values_below}
use Rattle.bdi_line.proofs.Split.{near_true, true_near, split_of}

-- ---- codes and their numbers

pub code_number-le : (c : Code) → code_number c ≤ 8
code_number-le Zeros = lit≤ tt
code_number-le _ = lit≤ tt

code_at : ℕ → Code
code_at n = first_code (λ c. eqb n (code_number c)) by_size

code_back : (c : Code) → code_at (code_number c) ≡ c
unfolding code_at
code_back Zeros = refl
code_back _ = refl

-- two codes have two numbers
pub same_code : (a b : Code) → code_number a ≡ code_number b → a ≡ b
same_code a b e = sym (code_back a) ∙ ap code_at e ∙ code_back b

-- ---- whether a code fits, as a test

all_true : (x : ℕ) (xs : List ℕ) → is_all x xs ≡ true → (j : ℕ) → j < length xs → get_or xs j 0 ≡ x
all_true x xs e j lt = eqb-true _ x (not-false _ (none_passes (λ y. not (eqb y x)) xs e j lt))

true_all : (x : ℕ) (xs : List ℕ) → ((j : ℕ) → j < length xs → get_or xs j 0 ≡ x)
    → is_all x xs ≡ true
true_all x xs h = no_marks (λ y. not (eqb y x)) xs (λ j lt. ap not (eq-eqb _ x (h j lt)))

near_split : (s : Shape) (line : List ℕ) → let vs = values s.width s.count line in
    is_near (bound_of s) (modulus_of s) vs ≡ true → FitsSplit s vs
near_split s line =
    near_true s.count (bound_of s) (modulus_of s) (values s.width s.count line)
    (length-values s.width s.count line)

split_near : (s : Shape) (line : List ℕ) → let vs = values s.width s.count line in
    FitsSplit s vs → is_near (bound_of s) (modulus_of s) vs ≡ true
split_near s line =
    true_near s.count (bound_of s) (modulus_of s) (values s.width s.count line)
    (length-values s.width s.count line)

pub true_fits : (c : Code) (line : List ℕ) → fits c line ≡ true → FitsCode c line
true_fits Zeros line e = λ k d lt. get_or_default_zero line k d lt ∙ all_true 0 line e k lt
true_fits Repeated line e = λ j lt. all_true _ (values 8 8 line) e j
    (omega (arith, length-values 8 8 line))
true_fits B8D1 line e = near_split b8d1 line e
true_fits B8D2 line e = near_split b8d2 line e
true_fits B8D4 line e = near_split b8d4 line e
true_fits B4D1 line e = near_split b4d1 line e
true_fits B4D2 line e = near_split b4d2 line e
true_fits B2D1 line e = near_split b2d1 line e
true_fits Raw line e = tt

pub fits_true : (c : Code) (line : List ℕ) → FitsCode c line → fits c line ≡ true
fits_true Zeros line h = true_all 0 line (λ j lt. h j 0 lt)
fits_true Repeated line h = true_all _ (values 8 8 line)
    (λ j lt. h j (omega (arith, length-values 8 8 line)))
fits_true B8D1 line h = split_near b8d1 line h
fits_true B8D2 line h = split_near b8d2 line h
fits_true B8D4 line h = split_near b8d4 line h
fits_true B4D1 line h = split_near b4d1 line h
fits_true B4D2 line h = split_near b4d2 line h
fits_true B2D1 line h = split_near b2d1 line h
fits_true Raw line h = refl

-- ---- the first code that fits

-- where a code stands in the order of sizes and then of numbers
abbrev rank : Code → ℕ
rank c = 16 * size_of c + code_number c

-- the code is the last one, or one of these, and none of those before it has a greater rank
listed : List Code → Code → Bool
listed [] d = eqb (code_number d) 8
listed (c ∷ cs) d = eqb (code_number d) (code_number c) || (leb (rank c) (rank d) && listed cs d)

all_listed : (d : Code) → listed by_size d ≡ true
unfolding listed
all_listed Zeros = refl
all_listed _ = refl

either : (a b : Bool) → (a || b) ≡ true → (a ≡ true) ⊎ (b ≡ true)
either true b e = inl refl
either false b e = inr e

pub both : (a b : Bool) → (a && b) ≡ true → (a ≡ true) × (b ≡ true)
both true b e = (refl, e)
both false b e = absurd (cc)

first_passes : (test : Code → Bool) (cs : List Code) → test Raw ≡ true
    → test (first_code test cs) ≡ true
first_passes test [] raw = raw
first_passes test (c ∷ cs) raw =
    cond_both (test c) c (first_code test cs) (λ d. test d ≡ true) (λ e. e)
    (λ _. first_passes test cs raw)

first_least : (test : Code → Bool) (cs : List Code) (d : Code) → test d ≡ true → listed cs d ≡ true
    → rank (first_code test cs) ≤ rank d
unfolding listed
first_least test [] d passes in_list =
    let P : Code → Type 0 = λ c. rank Raw ≤ rank c in
    subst P (sym (same_code d Raw (eqb-true _ 8 in_list))) (omega arith)
first_least test (c ∷ cs) d passes in_list =
    let is = either (eqb (code_number d) (code_number c)) (leb (rank c) (rank d) && listed cs d)
    in_list in
    cond_both (test c) c (first_code test cs) (λ x. rank x ≤ rank d)
    (λ _. elim is as (λ _. rank c ≤ rank d) [
      | inl same ↦ let e = ap rank (same_code d c (eqb-true _ _ same)) in omega (arith, e)
      | inr more ↦ leb-true (rank c) (rank d) (both _ _ more).0
    ])
    (λ no. elim is as (λ _. rank (first_code test cs) ≤ rank d) [
      | inl same ↦
          let e : test d ≡ test c = ap test (same_code d c (eqb-true _ _ same)) in
          absurd (cc)
      | inr more ↦ first_least test cs d passes (both _ _ more).1
    ])

by_rank : (c d : Code) → rank c ≤ rank d
    → (size_of c < size_of d) ⊎ ((size_of c ≡ size_of d) × (code_number c ≤ code_number d))
by_rank c d le = elim (cases_lt (size_of c) (size_of d)) [
  | inl lt ↦ inl lt
  | inr ge ↦
      inr (
        omega (arith, code_number-le c, code_number-le d),
        omega (arith, code_number-le c, code_number-le d),
      )
]

-- ---- the payload

length_split : (s : Shape) (vs p : List ℕ) → IsSplit s vs p
    → length p ≡ s.count / 8 + s.width + s.delta * s.count
length_split s vs p k =
    let mask = digits_l 256 (s.count / 8) k.mask in
    let base = digits_l 256 s.width (base_of (bound_of s) (modulus_of s) vs) in
    let deltas = low_bytes s.delta k.deltas in
    ap length k.payload_is
    ∙ length-append (mask ++ base) deltas
    ∙ ap (λ n. n + length deltas) (length-append mask base)
    ∙ ap (λ n. n + length base + length deltas) (length-digits 256 (s.count / 8) k.mask)
    ∙ ap (λ n. s.count / 8 + n + length deltas) (length-digits 256 s.width _)
    ∙ ap (λ n. s.count / 8 + s.width + n)
    (length-low_bytes s.delta k.deltas ∙ ap (λ n. s.delta * n) k.count_is)

length_payload : (c : Code) (line p : List ℕ) → length line ≡ 64 → IsPayload c line p
    → length p ≡ size_of c
length_payload Zeros line p long k = ap length k
length_payload Repeated line p long k = ap length k ∙ omega (arith, length-take 8 line)
length_payload B8D1 line p long k = length_split b8d1 (values 8 8 line) p k
length_payload B8D2 line p long k = length_split b8d2 (values 8 8 line) p k
length_payload B8D4 line p long k = length_split b8d4 (values 8 8 line) p k
length_payload B4D1 line p long k = length_split b4d1 (values 4 16 line) p k
length_payload B4D2 line p long k = length_split b4d2 (values 4 16 line) p k
length_payload B2D1 line p long k = length_split b2d1 (values 2 32 line) p k
length_payload Raw line p long k = ap length k ∙ long

payload_split : (s : Shape) (line : List ℕ) → 0 < modulus_of s → let vs =
    values s.width s.count line in
    FitsSplit s vs → IsSplit s vs (split_payload s vs)
unfolding split_payload
payload_split s line pos =
    split_of (bound_of s) (modulus_of s) s (values s.width s.count line)
    (length-values s.width s.count line)
    (values_below s.width s.count line pos) pos

payload_is : (c : Code) (line : List ℕ) → FitsCode c line → IsPayload c line (payload_under c line)
payload_is Zeros line h = refl
payload_is Repeated line h = refl
payload_is B8D1 line h = payload_split b8d1 line (lit< tt) h
payload_is B8D2 line h = payload_split b8d2 line (lit< tt) h
payload_is B8D4 line h = payload_split b8d4 line (lit< tt) h
payload_is B4D1 line h = payload_split b4d1 line (lit< tt) h
payload_is B4D2 line h = payload_split b4d2 line (lit< tt) h
payload_is B2D1 line h = payload_split b2d1 line (lit< tt) h
payload_is Raw line h = refl

-- each line has its code and its payload
pub coded_line : (line : List ℕ) → length line ≡ 64 → IsCoded line (code_of line) (payload_of line)
unfolding code_of
coded_line line long =
    let c = first_code (λ c. fits c line) by_size in
    let fit = true_fits c line (first_passes (λ c. fits c line) by_size refl) in
    let is = payload_is c line fit in
    record {
      fits = fit;
      size_is = length_payload c line _ long is;
      payload_is = is;
      least = λ d h. by_rank c d (first_least (λ c. fits c line) by_size d (fits_true d line h)
          (all_listed d));
    }
