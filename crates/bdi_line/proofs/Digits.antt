-- Digits in a base, least first, and the number that they spell.
use Rattle.std.proofs.Common.{◌≡◌, ℕ, zero, suc, ◌+◌, ◌*◌, ◌/◌, ◌%◌, ◌^◌, ◌<◌, ◌≤◌, List, [], ◌∷◌, ◌++◌, length, drop, get_or, map, refl, sym, ap, subst, ◌∙◌, arith, lit<, length-append}
use Rattle.std.proofs.Math.Nat.{add-mul-mod_self_left, mod-eq_of_lt, mod-lt, add-mul-div_left, div-eq_of_lt, pow-zero, pow-suc, pow-succ', one-le-pow, div-one, mod-one, div-div-eq-div-mul, mul_comm, one-mul}
use Rattle.std.proofs.Math.Arith.{digits_lt, mod-mul}
use Rattle.std.proofs.lemmas.Grind.{same_number_lists}
use Rattle.std.proofs.lemmas.List.{map-append}
use Rattle.std.proofs.lemmas.List.FromFn.{get_or-map-range_with_len, length-map-range_with_len}
use Rattle.std.proofs.Math.Seq.{drop-cons}
use Rattle.std.proofs.Math.ListN.{drop_of_length-le}
use Rattle.std.proofs.lemmas.Simd.{get_or_narrower, length-chunk}
use Rattle.std.specs.Int.{byte_at, bytes_low_first}
use Rattle.std.specs.List.{range_with_len}
use Rattle.std.specs.Simd.Lanes.{number_l, digits_l, Each1, pick_l, chunk}
use Rattle.bdi_line.specs.Line.{values, low_bytes}

-- ---- one digit

digit : (p x r : ℕ) → x < p → ((x + p * r) % p ≡ x) × ((x + p * r) / p ≡ r)
digit p x r lt = (
  add-mul-mod_self_left x p r
      ∙ mod-eq_of_lt lt,
  omega (arith, add-mul-div_left x r {y = p} (omega arith), div-eq_of_lt lt),
)

pub length-digits : (p n x : ℕ) → length (digits_l p n x) ≡ n
length-digits p zero x = refl
length-digits p (suc n) x = ap suc (length-digits p n (x / p))

pub digits_below : (p n x : ℕ) → 0 < p → Each1 (λ v. v < p) (digits_l p n x)
digits_below p zero x pos = tt
digits_below p (suc n) x pos = (mod-lt x pos, digits_below p n (x / p) pos)

pub get_or-digits : (p n x i : ℕ) → i < n → get_or (digits_l p n x) i 0 ≡ x / p ^ i % p
get_or-digits p zero x i lt = absurd (omega arith)
get_or-digits p (suc n) x zero lt = ap (λ y. y % p) (sym (ap (λ m. x / m) (pow-zero p) ∙ div-one x))
get_or-digits p (suc n) x (suc i) lt =
    get_or-digits p n (x / p) i (omega arith)
    ∙ ap (λ y. y % p) (div-div-eq-div-mul x p (p ^ i) ∙ ap (λ m. x / m) (sym (pow-succ' p i)))

-- ---- a number and its digits

pub number-append : (p : ℕ) (xs ys : List ℕ)
    → number_l p (xs ++ ys) ≡ number_l p xs + p ^ length xs * number_l p ys
number-append p [] ys = sym (ap (λ m. 0 + m * number_l p ys) (pow-zero p)
    ∙ omega (arith, one-mul (number_l p ys)))
number-append p (x ∷ xs) ys = ap (λ n. x + p * n) (number-append p xs ys)
    ∙ rw (pow-suc p (length xs)) (omega arith)

pub number-digits : (p n x : ℕ) → 0 < p → number_l p (digits_l p n x) ≡ x % p ^ n
number-digits p zero x pos = sym (ap (λ m. x % m) (pow-zero p) ∙ mod-one x)
number-digits p (suc n) x pos =
    ap (λ m. x % p + p * m) (number-digits p n (x / p) pos)
    ∙ omega (
      arith,
      mod-mul x {m = p ^ n} {c = p} (omega (arith, one-le-pow n p pos)) pos,
      mul_comm p (x / p % p ^ n),
    )
    ∙ ap (λ m. x % m) (sym (pow-suc p n))

pub number_lt : (p : ℕ) (xs : List ℕ) → Each1 (λ x. x < p) xs → number_l p xs < p ^ length xs
number_lt p [] h = omega (arith, pow-zero p)
number_lt p (x ∷ xs) h =
    omega (
      arith,
      pow-suc p (length xs),
      mul_comm p (number_l p xs),
      digits_lt {q = number_l p xs} {m = p ^ length xs} {r = x} {c = p} (number_lt p xs h.1) h.0,
    )

pub digits-number : (p : ℕ) (xs : List ℕ) → Each1 (λ x. x < p) xs
    → digits_l p (length xs) (number_l p xs) ≡ xs
digits-number p [] h = refl
digits-number p (x ∷ xs) h =
    let parts = digit p x (number_l p xs) h.0 in
    ap (λ y. y ∷ digits_l p (length xs) ((x + p * number_l p xs) / p)) parts.0
    ∙ ap (λ y. x ∷ digits_l p (length xs) y) parts.1
    ∙ ap (λ t. x ∷ t) (digits-number p xs h.1)

-- ---- a line and its values

pub length-values : (w n : ℕ) (line : List ℕ) → length (values w n line) ≡ n
unfolding values
length-values w n line = length-digits (256 ^ w) n (number_l 256 line)

pub values_below : (w n : ℕ) (line : List ℕ) → 0 < 256 ^ w
    → Each1 (λ v. v < 256 ^ w) (values w n line)
unfolding values
values_below w n line pos = digits_below (256 ^ w) n (number_l 256 line) pos

pub bytes_back : (w n : ℕ) (line : List ℕ) → length line ≡ 64 → Each1 (λ x. x < 256) line
    → 0 < 256 ^ w → (256 ^ w) ^ n ≡ 256 ^ 64
    → digits_l 256 64 (number_l (256 ^ w) (values w n line)) ≡ line
unfolding values
bytes_back w n line long bytes pos e =
    let P : ℕ → Type 0 = λ k. number_l 256 line < 256 ^ k in
    let below : number_l 256 line < 256 ^ 64 = subst P long (number_lt 256 line bytes) in
    ap (digits_l 256 64) (number-digits (256 ^ w) n (number_l 256 line) pos
    ∙ ap (λ m. number_l 256 line % m) e ∙ mod-eq_of_lt below)
    ∙ ap (λ k. digits_l 256 k (number_l 256 line)) (sym long)
    ∙ digits-number 256 line bytes

-- ---- the low bytes of several numbers

pub length-low_bytes : (d : ℕ) (xs : List ℕ) → length (low_bytes d xs) ≡ d * length xs
length-low_bytes d [] = omega arith
length-low_bytes d (x ∷ xs) = length-append (digits_l 256 d x) (low_bytes d xs)
    ∙ omega (arith, length-digits 256 d x, length-low_bytes d xs)

pub low_numbers : (d q : ℕ) (xs : List ℕ) → q ≡ 256 ^ d
    → digits_l q (length xs) (number_l 256 (low_bytes d xs)) ≡ map (λ x. x % q) xs
low_numbers d q [] e = refl
low_numbers d q (x ∷ xs) e =
    let rest = number_l 256 (low_bytes d xs) in
    let pos : 0 < q = omega (arith, one-le-pow d 256 (lit< tt)) in
    let number : number_l 256 (digits_l 256 d x ++ low_bytes d xs) ≡ x % q + q * rest =
    number-append 256 (digits_l 256 d x) (low_bytes d xs)
    ∙ ap (λ n. n + 256 ^ length (digits_l 256 d x) * rest) (number-digits 256 d x (lit< tt))
    ∙ ap (λ k. x % 256 ^ d + 256 ^ k * rest) (length-digits 256 d x)
    ∙ ap (λ n. x % n + n * rest) (sym e) in
    let parts = digit q (x % q) rest (mod-lt x pos) in
    ap (λ n. (n % q) ∷ digits_l q (length xs) (n / q)) number
    ∙ ap (λ y. y ∷ digits_l q (length xs) ((x % q + q * rest) / q)) parts.0
    ∙ ap (λ y. (x % q) ∷ digits_l q (length xs) y) parts.1
    ∙ ap (λ t. (x % q) ∷ t) (low_numbers d q xs e)

-- the places of the n low bytes of m values of w bytes, from value j on
abbrev pub places : ℕ → ℕ → ℕ → ℕ → List ℕ
places w n zero j = []
places w n (suc m) j = range_with_len (w * j) n ++ places w n m (suc j)

module _ (p w k : ℕ) (xs : List ℕ) (e : p ≡ 256 ^ w) (h : Each1 (λ x. x < p) xs) where
  one_picked : (n j : ℕ) → n ≤ w → w * j + n ≤ k
      → pick_l 0 (digits_l 256 k (number_l p xs)) (range_with_len (w * j) n) ≡ digits_l 256 n
      (get_or xs j 0)
  one_picked n j le within =
      same_number_lists _ _ (length-map-range_with_len _ (w * j) n
      ∙ sym (length-digits 256 n (get_or xs j 0))) (λ i lt.
      let small : i < n = omega (
        arith,
        length-map-range_with_len (λ b. get_or (digits_l 256 k (number_l p xs)) b 0) (w * j) n,
      ) in
      get_or-map-range_with_len (λ b. get_or (digits_l 256 k (number_l p xs)) b 0) (w * j) n i
      (w * j + i) 0 small refl
      ∙ get_or_narrower p w 256 k xs j i e h (omega arith) (omega arith)
      ∙ sym (get_or-digits 256 n (get_or xs j 0) i small))

  pub low_bytes_picked : (n m j : ℕ) → n ≤ w → w * (j + m) ≤ k → j + m ≡ length xs
      → pick_l 0 (digits_l 256 k (number_l p xs)) (places w n m j) ≡ low_bytes n (drop j xs)
  low_bytes_picked n zero j le within all =
      sym (ap (low_bytes n) (drop_of_length-le xs {i = j} (omega arith)))
  low_bytes_picked n (suc m) j le within all =
      map-append _ (range_with_len (w * j) n) (places w n m (suc j))
      ∙ ap (λ t. t ++ pick_l 0 (digits_l 256 k (number_l p xs)) (places w n m (suc j)))
      (one_picked n j le (omega arith))
      ∙ ap (λ t. digits_l 256 n (get_or xs j 0) ++ t)
      (low_bytes_picked n m (suc j) le (omega arith) (omega arith))
      ∙ sym (ap (low_bytes n) (drop-cons xs j 0 (omega arith)))

pub number_of_bytes : (i n : ℕ) (xs : List ℕ) → Each1 (λ x. x < 256) (chunk i n xs)
    → i + n ≤ length xs → number_l 256 (chunk i n xs) < 256 ^ n
number_of_bytes i n xs h le =
    let P : ℕ → Type 0 = λ k. number_l 256 (chunk i n xs) < 256 ^ k in
    subst P (length-chunk i n xs le) (number_lt 256 (chunk i n xs) h)

byte_is : (i n : ℕ) → byte_at i n ≡ n / 256 ^ i % 256
byte_is zero n = ap (λ m. m % 256) (sym (ap (λ m. n / m) (pow-zero 256) ∙ div-one n))
byte_is (suc i) n = refl

-- `to_le_bytes` gives the digits in base 256
bytes_from : (i k n : ℕ) → bytes_low_first i k n ≡ digits_l 256 k (n / 256 ^ i)
bytes_from i zero n = refl
bytes_from i (suc k) n =
    ap (λ t. byte_at i n ∷ t) (bytes_from (suc i) k n
    ∙ ap (digits_l 256 k) (ap (λ m. n / m) (pow-suc 256 i)
    ∙ sym (div-div-eq-div-mul n (256 ^ i) 256)))
    ∙ ap (λ x. x ∷ digits_l 256 k (n / 256 ^ i / 256)) (byte_is i n)

pub le_digits : (k n : ℕ) → bytes_low_first 0 k n ≡ digits_l 256 k n
le_digits k n = bytes_from 0 k n ∙ ap (digits_l 256 k) (ap (λ m. n / m) (pow-zero 256) ∙ div-one n)
