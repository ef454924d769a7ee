-- The number that digits stand for, digit by digit.
use Rattle.std.proofs.Common.{◌≡◌, ℕ, suc, ◌+◌, ◌-◌, ◌*◌, ◌<◌, ◌≤◌, ◌^◌, ◌⊎◌, inl, inr, Bool, true, false, not, ◌&&◌, ◌==◌, cond, List, [], ◌∷◌, ◌++◌, length, take, drop, get_or, nat_lt, nat_le, Result, Ok, Err, refl, ap, sym, ◌∙◌, arith, mul-le-mul_left}
use Rattle.std.proofs.Math.Nat.{mul-one, mul-le-mul_right, mul_assoc, pow-zero, pow-succ', pow-le-pow_right}
use Rattle.std.proofs.lemmas.Bool.{cases_lt, lt-ltb, le-ltb, le-leb, ne_eqb, ltb-true, and_parts, and_right}
use Rattle.std.proofs.lemmas.List.{drop_more, drop_all, take-append-drop, length-append}
use Rattle.std.proofs.lemmas.List.Folds.{list_all-append}
use Rattle.job_text.specs.declared.fault.Cause.{Cause}
use Rattle.job_text.specs.declared.fault.Cause.TheVariants as causes
use Rattle.job_text.specs.Numbers.{digit_value, are_digits, value_from, is_number, is_word, word_of}
use Rattle.job_text.specs.Answers.{saturated, with_last, exact_of}

-- a number that is too great stays so
grown : (base value : ℕ) (cs : List ℕ) → 1 ≤ base → 2 ^ 64 - 1 ≤ value
    → 2 ^ 64 - 1 ≤ value_from base value cs
grown base value [] some large = large
grown base value (c ∷ cs) some large = grown base (value * base + digit_value c) cs some more
  where
    more : 2 ^ 64 - 1 ≤ value * base + digit_value c
    more = let n : value * 1 ≤ value * base = mul-le-mul_left value some in omega arith

pub saturated_first : (base value : ℕ) (cs : List ℕ) → 1 ≤ base
    → saturated (value_from base (saturated value) cs) ≡ saturated (value_from base value cs)
saturated_first base value cs some = by (cases_lt value (2 ^ 64 - 1))
  where
    by : (value < 2 ^ 64 - 1) ⊎ (2 ^ 64 - 1 ≤ value)
        → saturated (value_from base (saturated value) cs) ≡ saturated (value_from base value cs)
    by (inl small) = let same : saturated value ≡ value = omega arith in
        ap (λ v. saturated (value_from base v cs)) same
    by (inr large) =
        let a : 2 ^ 64 - 1 ≤ value_from base value cs = grown base value cs some large in
        let b : 2 ^ 64 - 1 ≤ value_from base (saturated value) cs =
        grown base (saturated value) cs some (omega arith) in
        omega arith

module _ (base value i : ℕ) (word : List ℕ) (below : i < length word) where
  pub digits_more : value_from base value (drop i word)
      ≡ value_from base (value * base + digit_value (get_or word i 0)) (drop (i + 1) word)
  digits_more = ap (value_from base value) (drop_more word i 0 below)

  pub saturated_more : (next : ℕ) → 1 ≤ base
      → next ≡ saturated (value * base + digit_value (get_or word i 0))
      → saturated (value_from base value (drop i word))
      ≡ saturated (value_from base next (drop (i + 1) word))
  saturated_more next some is =
      ap saturated digits_more
      ∙ sym (saturated_first base (value * base + digit_value (get_or word i 0))
      (drop (i + 1) word) some)
      ∙ ap (λ v. saturated (value_from base v (drop (i + 1) word))) (sym is)

  pub are_more : digit_value (get_or word i 0) < base
      → are_digits base (drop i word) ≡ are_digits base (drop (i + 1) word)
  are_more small =
      ap (are_digits base) (drop_more word i 0 below)
      ∙ ap (λ b. b && are_digits base (drop (i + 1) word)) (lt-ltb _ _ small)

-- ---- words of 8 bytes

-- so many digits of a base stand for less than its power
bounded : (base value : ℕ) (cs : List ℕ) → are_digits base cs ≡ true
    → value_from base value cs + 1 ≤ (value + 1) * base ^ length cs
bounded base value [] are =
    let one : (value + 1) * base ^ 0 ≡ value + 1 = ap (λ p. (value + 1) * p) (pow-zero base)
    ∙ mul-one (value + 1) in
    omega arith
bounded base value (c ∷ cs) are =
    let parts = and_parts (nat_lt (digit_value c) base) (are_digits base cs) are in
    let small : digit_value c < base = ltb-true _ _ parts.0 in
    let rest : value_from base
    (value * base + digit_value c) cs + 1 ≤ (value * base + digit_value c + 1) * base ^ length cs =
    bounded base (value * base + digit_value c) cs parts.1 in
    let first : value * base + digit_value c + 1 ≤ (value + 1) * base = omega arith in
    let grown : (value * base + digit_value c + 1) * base ^ length cs
    ≤ (value + 1) * base * base ^ length cs =
    mul-le-mul_right (base ^ length cs) first in
    let joined : (value + 1) * base * base ^ length cs ≡ (value + 1) * base ^ suc (length cs) =
    mul_assoc (value + 1) base (base ^ length cs)
    ∙ ap (λ p. (value + 1) * p) (sym (pow-succ' base (length cs))) in
    let last : value_from base
    (value * base + digit_value c) cs + 1 ≤ (value + 1) * base ^ suc (length cs) = omega arith in
    last

pub word_fits : (word : List ℕ) → length word ≤ 16 → are_digits 16 word ≡ true
    → value_from 16 0 word < 2 ^ 64
word_fits word short are =
    let one : value_from 16 0 word + 1 ≤ 1 * 16 ^ length word = bounded 16 0 word are in
    let some : 0 < 16 = omega arith in
    let all : 16 ^ length word ≤ 16 ^ 16 = pow-le-pow_right some short in
    omega arith

pub word_is : (word : List ℕ) (read : Result ℕ Cause) → (length word ≡ 0 → ⊥) → length word ≤ 16
    → read ≡ cond (are_digits 16 word) (Ok (saturated (value_from 16 0 word))) (Err causes.Number)
    → read ≡ cond (is_word word) (Ok (word_of word)) (Err causes.Number)
word_is word read some short is = is ∙ by (are_digits 16 word) refl
  where
    by : (b : Bool) → are_digits 16 word ≡ b
        → cond b (Ok (saturated (value_from 16 0 word))) (Err causes.Number)
        ≡ cond (not (length word == 0) && nat_le (length word) 16 && b) (Ok (word_of word))
        (Err causes.Number)
    by true are =
        let fits : value_from 16 0 word < 2 ^ 64 = word_fits word short are in
        let same : saturated (value_from 16 0 word) ≡ value_from 16 0 word = omega arith in
        let a : (length word == 0) ≡ false = ne_eqb _ _ some in
        let b : nat_le (length word) 16 ≡ true = le-leb _ _ short in
        rw (a, b, same) refl
    by false are = sym (ap (λ b. cond b (Ok (word_of word)) (Err causes.Number))
        (and_right (not (length word == 0) && nat_le (length word) 16) false refl))

-- ---- a number with its last digit

-- a word is what stands before its last byte, and this byte
whole_word : (word : List ℕ) → 1 ≤ length word
    → take (length word - 1) word ++ get_or word (length word - 1) 0 ∷ [] ≡ word
whole_word word some =
    let i = length word - 1 in
    let last : drop i word ≡ get_or word i 0 ∷ [] =
    drop_more word i 0 (omega arith)
    ∙ ap (λ (ys : List ℕ). get_or word i 0 ∷ ys) (drop_all (i + 1) word (omega arith)) in
    ap (λ (ys : List ℕ). take i word ++ ys) (sym last) ∙ take-append-drop i word

value_from-push : (base value : ℕ) (cs : List ℕ) (c : ℕ)
    → value_from base value (cs ++ c ∷ []) ≡ value_from base value cs * base + digit_value c
value_from-push base value [] c = refl
value_from-push base value (x ∷ cs) c = value_from-push base (value * base + digit_value x) cs c

-- a number that is too great before its last digit is so with it
last_saturated : (value digit : ℕ) → with_last (saturated value) digit ≡ with_last value digit
last_saturated value digit = by (cases_lt (value * 10 + digit) (2 ^ 64))
  where
    by : (value * 10 + digit < 2 ^ 64) ⊎ (2 ^ 64 ≤ value * 10 + digit)
        → with_last (saturated value) digit ≡ with_last value digit
    by (inl small) = let same : saturated value ≡ value = omega arith in
        ap (λ v. with_last v digit) same
    by (inr large) =
        let a : nat_lt (saturated value * 10 + digit) (2 ^ 64) ≡ false =
        le-ltb _ _ (omega arith) in
        let b : nat_lt (value * 10 + digit) (2 ^ 64) ≡ false = le-ltb _ _ large in
        rw (a, b) refl

module _ (front : List ℕ) (c : ℕ) where
  number-push : is_number (front ++ c ∷ []) ≡ (are_digits 10 front && nat_lt (digit_value c) 10)
  number-push =
      let some : (length (front ++ c ∷ []) == 0) ≡ false =
      ne_eqb _ _ (λ e. omega (arith, length-append front (c ∷ []))) in
      ap (λ b. not b && are_digits 10 (front ++ c ∷ [])) some
      ∙ list_all-append (λ x. nat_lt (digit_value x) 10) front (c ∷ [])
      ∙ ap (λ b. are_digits 10 front && b) (and_true (nat_lt (digit_value c) 10))
    where
      and_true : (b : Bool) → (b && true) ≡ b
      and_true true = refl
      and_true false = refl

  exact-push : exact_of (front ++ c ∷ [])
      ≡ cond (are_digits 10 front) (with_last (value_from 10 0 front) (digit_value c))
      (Err causes.Number)
  exact-push =
      ap (λ n. cond (is_number (front ++ c ∷ [])) (cond (nat_lt n (2 ^ 64)) (Ok n)
      (Err causes.Range)) (Err causes.Number)) (value_from-push 10 0 front c)
      ∙ ap (λ b. cond b (cond (nat_lt (value_from 10 0 front * 10 + digit_value c) (2 ^ 64))
      (Ok (value_from 10 0 front * 10 + digit_value c)) (Err causes.Range)) (Err causes.Number))
      number-push
      ∙ by (are_digits 10 front)
    where
      by : (b : Bool) → cond (b && nat_lt (digit_value c) 10)
          (cond (nat_lt (value_from 10 0 front * 10 + digit_value c) (2 ^ 64))
          (Ok (value_from 10 0 front * 10 + digit_value c)) (Err causes.Range)) (Err causes.Number)
          ≡ cond b (with_last (value_from 10 0 front) (digit_value c)) (Err causes.Number)
      by true = refl
      by false = refl

-- the number of a word, by that of the digits before the last
pub exact_is : (word : List ℕ) → 1 ≤ length word
    → exact_of word
    ≡ cond (are_digits 10 (take (length word - 1) word))
    (with_last (saturated (value_from 10 0 (take (length word - 1) word)))
    (digit_value (get_or word (length word - 1) 0))) (Err causes.Number)
exact_is word some =
    let front = take (length word - 1) word in
    let digit = digit_value (get_or word (length word - 1) 0) in
    ap exact_of (sym (whole_word word some))
    ∙ exact-push front (get_or word (length word - 1) 0)
    ∙ ap (λ r. cond (are_digits 10 front) r (Err causes.Number))
    (sym (last_saturated (value_from 10 0 front) digit))

-- the digits before the last are read, or they aren't digits
module _ (word : List ℕ) (some : 1 ≤ length word) where
  abbrev front_of : List ℕ
  front_of = take (length word - 1) word

  abbrev last_digit : ℕ
  last_digit = digit_value (get_or word (length word - 1) 0)

  abbrev FrontGives : Result ℕ Cause → Type 0
  FrontGives r =
      r ≡ cond (are_digits 10 front_of) (Ok (saturated (value_from 10 0 front_of)))
      (Err causes.Number)

  pub exact_ok : (value : ℕ) → FrontGives (Ok value)
      → with_last value last_digit ≡ exact_of word
  exact_ok value is = by (are_digits 10 front_of) refl is ∙ sym (exact_is word some)
    where
      by : (b : Bool) → are_digits 10 front_of ≡ b
          → Ok value ≡ cond b (Ok (saturated (value_from 10 0 front_of))) (Err causes.Number)
          → with_last value last_digit
          ≡ cond (are_digits 10 front_of)
          (with_last (saturated (value_from 10 0 front_of)) last_digit) (Err causes.Number)
      by true are is =
          let same : value ≡ saturated (value_from 10 0 front_of) = cc in
          rw (are, same) refl
      by false are is = cc

  pub exact_err : (cause : Cause) → FrontGives (Err cause) → Err cause ≡ exact_of word
  exact_err cause is = by (are_digits 10 front_of) refl is ∙ sym (exact_is word some)
    where
      by : (b : Bool) → are_digits 10 front_of ≡ b
          → Err cause ≡ cond b (Ok (saturated (value_from 10 0 front_of))) (Err causes.Number)
          → Err cause
          ≡ cond (are_digits 10 front_of)
          (with_last (saturated (value_from 10 0 front_of)) last_digit) (Err causes.Number)
      by true are is = cc
      by false are is = rw are is
