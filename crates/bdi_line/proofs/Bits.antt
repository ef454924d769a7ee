-- Marks: what it says that none is set, and that a number is told by its bits.
use Rattle.std.proofs.Common.{◌≡◌, ℕ, suc, ◌+◌, ◌*◌, ◌/◌, ◌%◌, ◌^◌, ◌<◌, List, [], ◌∷◌, Bool, true, false, cond, eqb, length, get_or, map, refl, sym, ap, ◌∙◌, arith}
use Rattle.std.proofs.Math.Nat.{pow-zero, pow-suc, pow-succ', div-one, zero-div, div-div-eq-div-mul}
use Rattle.std.proofs.lemmas.Bool.{eqb-true, eq-eqb}
use Rattle.std.proofs.lemmas.List.{length-map, get_or-map}
use Rattle.std.proofs.lemmas.Simd.{bit_mask_l}
use Rattle.std.specs.Simd.Lanes.{mask_l}
use Rattle.bdi_line.specs.Packed.{marks_of}

abbrev bit : Bool → ℕ
bit b = cond b 1 0

unset : (b : Bool) → bit b ≡ 0 → b ≡ false
unset true e = absurd (omega arith)
unset false e = refl

no_mark : (bs : List Bool) → mask_l bs ≡ 0 → (j : ℕ) → get_or bs j false ≡ false
no_mark bs e j =
    unset (get_or bs j false)
    (sym (bit_mask_l bs j) ∙ ap (λ n. n / 2 ^ j % 2) e ∙ ap (λ n. n % 2) (zero-div (2 ^ j)))

unmarked : (bs : List Bool) → ((j : ℕ) → j < length bs → get_or bs j false ≡ false) → mask_l bs ≡ 0
unmarked [] h = refl
unmarked (b ∷ bs) h =
    let first : b ≡ false = h 0 (omega arith) in
    rw (first, unmarked bs (λ j lt. h (suc j) (omega arith)))

-- where no mark is set, no number passes the test
pub none_passes : (test : ℕ → Bool) (xs : List ℕ) → eqb (marks_of test xs) 0 ≡ true
    → (j : ℕ) → j < length xs → test (get_or xs j 0) ≡ false
none_passes test xs e j lt =
    sym (get_or-map test xs j 0 false lt) ∙ no_mark (map test xs) (eqb-true _ 0 e) j

-- and the other way round
pub no_marks : (test : ℕ → Bool) (xs : List ℕ)
    → ((j : ℕ) → j < length xs → test (get_or xs j 0) ≡ false) → eqb (marks_of test xs) 0 ≡ true
no_marks test xs h =
    eq-eqb _ 0 (unmarked (map test xs) (λ j lt.
    let within : j < length xs = omega (arith, length-map xs test) in
    get_or-map test xs j 0 false within ∙ h j within))

-- a number is told by its bits
pub mask_unique : (bs : List Bool) (x : ℕ) → x < 2 ^ length bs
    → ((j : ℕ) → j < length bs → x / 2 ^ j % 2 ≡ cond (get_or bs j false) 1 0) → x ≡ mask_l bs
mask_unique [] x lt h = omega (arith, pow-zero 2)
mask_unique (b ∷ bs) x lt h =
    let low : x % 2 ≡ cond b 1 0 =
    ap (λ n. n % 2) (sym (ap (λ n. x / n) (pow-zero 2) ∙ div-one x)) ∙ h 0 (omega arith) in
    let rest : x / 2 ≡ mask_l bs =
    mask_unique bs (x / 2) (omega (arith, pow-suc 2 (length bs))) (λ j small.
    ap (λ n. n % 2) (div-div-eq-div-mul x 2 (2 ^ j) ∙ ap (λ n. x / n) (sym (pow-succ' 2 j)))
    ∙ h (suc j) (omega arith)) in
    let whole : x ≡ x % 2 + 2 * (x / 2) = omega arith in
    whole ∙ ap (λ n. n + 2 * (x / 2)) low ∙ ap (λ n. bit b + 2 * n) rest

-- a bit as a factor
pub bit_times : (t : Bool) (x b : ℕ) → x ≡ cond t 1 0 → x * b ≡ cond t b 0
bit_times true x b e = ap (λ n. n * b) e ∙ omega arith
bit_times false x b e = ap (λ n. n * b) e ∙ omega arith
