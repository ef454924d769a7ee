-- Numbers in decimal, read back.
use Rattle.std.proofs.Common.{◌≡◌, ℕ, ◌+◌, ◌-◌, ◌*◌, ◌<◌, ◌≤◌, ◌^◌, ◌⊎◌, inl, inr, Bool, true, false, ◌&&◌, ◌||◌, ◌==◌, cond, List, [], ◌∷◌, length, get_or, nat_lt, Option, Some, None, refl, ap, sym, subst, ◌∙◌, option_and_then, arith, rules}
use Rattle.std.specs.Str.{all_ascii_digits}
use Rattle.std.specs.Char.{is_ascii_digit}
use Rattle.std.specs.Fmt.{decimal}
use Rattle.std.proofs.lemmas.Bool.{cases_lt, lt-ltb, ltb-true, ne_eqb, and_parts}
use Rattle.std.proofs.lemmas.Bool.Decides.{nat_tests}
use Rattle.std.proofs.lemmas.Option.{option_and_then_some}
use Rattle.std.proofs.lemmas.Fmt.{digits_decimal, digits_value-decimal, decimal_nonempty, first_decimal, decimal_digit, decimal-digits_value}
use Rattle.std.proofs.lemmas.Str.Parse.{IsNumeralModel, numerals_by_fold}
use Rattle.job_print.specs.Reading.{with_digit, digits_from, is_bare, number_in, below, short_in}

-- the number that digits stand for, after others
abbrev read_on : ℕ → List ℕ → ℕ
read_on n [] = n
read_on n (c ∷ cs) = read_on (10 * n + (c - 48)) cs

own : IsNumeralModel (λ ds. all_ascii_digits ds ≡ true) (read_on 0)
own = numerals_by_fold _ (search rules) read_on (search rules)

pub some_cond : {A : Type 0} (b : Bool) (x y : A) → cond b (Some x) None ≡ Some y → (b ≡ true) × (x ≡ y)
some_cond true x y e = (refl, cc)
some_cond false x y e = cc

rises : (n : ℕ) (cs : List ℕ) → n ≤ read_on n cs
rises n [] = omega arith
rises n (c ∷ cs) = let more = rises (10 * n + (c - 48)) cs in omega arith

complete : (value : ℕ) (ds : List ℕ) → all_ascii_digits ds ≡ true → read_on value ds < 2 ^ 64
    → digits_from value ds ≡ Some (read_on value ds)
complete value [] all small = refl
complete value (c ∷ cs) all small =
    let parts = and_parts (is_ascii_digit c) (all_ascii_digits cs) all in
    let n = 10 * value + (c - 48) in
    let up : n ≤ read_on n cs = rises n cs in
    let fits : nat_lt n (2 ^ 64) ≡ true = lt-ltb n (2 ^ 64) (omega arith) in
    let one : with_digit value c ≡ Some n = ap (λ b. cond (b && nat_lt n (2 ^ 64)) (Some n) None) parts.0
    ∙ ap (λ b. cond b (Some n) None) fits in
    ap (λ (o : Option ℕ). option_and_then (λ m. digits_from m cs) o) one
    ∙ complete n cs parts.1 small

pub record AreDigits (value : ℕ) (ds : List ℕ) (n : ℕ) : Type 0 where
  all : all_ascii_digits ds ≡ true
  is : read_on value ds ≡ n
  small : n < 2 ^ 64

sound : (value : ℕ) (ds : List ℕ) (n : ℕ) → value < 2 ^ 64 → digits_from value ds ≡ Some n
    → AreDigits value ds n
sound value [] n small e =
    let is : value ≡ n = cc in record { all = refl; is = is; small = omega arith }
sound value (c ∷ cs) n small e =
    option_and_then_some (λ m. digits_from m cs) (with_digit value c) n e
    (λ m one rest.
    let next = 10 * value + (c - 48) in
    let found = some_cond (is_ascii_digit c && nat_lt next (2 ^ 64)) next m one in
    let tests = and_parts (is_ascii_digit c) (nat_lt next (2 ^ 64)) found.0 in
    let fits : next < 2 ^ 64 = ltb-true next (2 ^ 64) tests.1 in
    let P : ℕ → Type 0 = λ k. digits_from k cs ≡ Some n in
    let more = sound next cs n fits (subst P (sym found.1) rest) in
    record {
      all = ap (λ b. b && all_ascii_digits cs) tests.0 ∙ more.all;
      is = more.is;
      small = more.small;
    })

decimal_bare : (n : ℕ) → n < 2 ^ 64 → is_bare (decimal n) ≡ false
decimal_bare n small = by (cases_lt 0 n)
  where
    some : (length (decimal n) == 0) ≡ false
    some = let l = decimal_nonempty n small in ne_eqb _ _ (λ e. omega (arith, l, e))

    lead : (nat_lt 1 (length (decimal n)) && get_or (decimal n) 0 0 == 48) ≡ false → is_bare (decimal n) ≡ false
    lead e = ap (λ b. b || (nat_lt 1 (length (decimal n)) && get_or (decimal n) 0 0 == 48)) some ∙ e

    by : (0 < n) ⊎ (n ≤ 0) → is_bare (decimal n) ≡ false
    by (inl pos) =
        let first = first_decimal n pos small in
        let no : (get_or (decimal n) 0 0 == 48) ≡ false = ne_eqb _ _ (λ e. omega (arith, first, e)) in
        lead (ap (λ b. nat_lt 1 (length (decimal n)) && b) no ∙ off (nat_lt 1 (length (decimal n))))
      where
        off : (b : Bool) → (b && false) ≡ false
        off true = refl
        off false = refl
    by (inr none) =
        let zero : decimal n ≡ (48 + n) ∷ [] = decimal_digit n (omega arith) in
        let short : nat_lt 1 (length (decimal n)) ≡ false = ap (λ (ds : List ℕ). nat_lt 1 (length ds)) zero in
        lead (ap (λ b. b && get_or (decimal n) 0 0 == 48) short)

-- ---- the laws

pub number-decimal : (n : ℕ) → n < 2 ^ 64 → number_in (decimal n) ≡ Some n
unfolding number_in
number-decimal n small =
    let value : read_on 0 (decimal n) ≡ n = digits_value-decimal own n small in
    ap (λ b. cond b None (digits_from 0 (decimal n))) (decimal_bare n small)
    ∙ complete 0 (decimal n) (digits_decimal own n small) (omega arith)
    ∙ ap (λ m. Some m) value

pub none_when : {A : Type 0} (b : Bool) (o : Option A) (a : A) → cond b None o ≡ Some a
    → (b ≡ false) × (o ≡ Some a)
none_when true o a e = cc
none_when false o a e = (refl, e)

pub number_some : (word : List ℕ) (n : ℕ) → number_in word ≡ Some n → (decimal n ≡ word) × (n < 2 ^ 64)
unfolding number_in
number_some word n e =
    let parts = none_when (is_bare word) (digits_from 0 word) n e in
    let are = sound 0 word n (omega arith) parts.1 in
    let some : 0 < length word = grind (arith, nat_tests, parts.0) in
    let lead : get_or word 0 0 ≡ 48 → length word ≡ 1 = λ zero. grind (arith, nat_tests, parts.0) in (
      ap decimal (sym are.is)
          ∙ decimal-digits_value own word are.all some lead (let is = are.is in let small = are.small in omega arith),
      are.small,
    )

pub short-decimal : (n : ℕ) → n < 2 ^ 32 → short_in (decimal n) ≡ Some n
unfolding short_in
short-decimal n small =
    ap (λ (o : Option ℕ). option_and_then (below (2 ^ 32)) o) (number-decimal n (omega arith))
    ∙ ap (λ b. cond b (Some n) None) (lt-ltb n (2 ^ 32) small)

pub below_some : (bound n : ℕ) (word : List ℕ) → option_and_then (below bound) (number_in word) ≡ Some n
    → (decimal n ≡ word) × (n < bound)
below_some bound n word e = option_and_then_some (below bound) (number_in word) n e
    (λ m one rest.
    let found = some_cond (nat_lt m bound) m n rest in
    let fits : m < bound = ltb-true m bound found.0 in
    (ap decimal (sym found.1) ∙ (number_some word m one).0, omega (arith, found.1)))

pub short_some : (word : List ℕ) (n : ℕ) → short_in word ≡ Some n → (decimal n ≡ word) × (n < 2 ^ 32)
unfolding short_in
short_some word n e = below_some (2 ^ 32) n word e

pub decimal_digits : (n : ℕ) → n < 2 ^ 64 → all_ascii_digits (decimal n) ≡ true
decimal_digits n small = digits_decimal own n small
