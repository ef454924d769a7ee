-- Hexadecimal digits, read back.
use Rattle.std.proofs.Common.{◌≡◌, ℕ, zero, suc, ◌==◌, option_map, ◌+◌, ◌-◌, ◌*◌, ◌/◌, ◌%◌, ◌<◌, ◌≤◌, ◌^◌, ◌⊎◌, inl, inr, Bool, true, false, ◌&&◌, cond, List, [], ◌∷◌, length, get_or, nat_lt, Option, Some, None, refl, ap, sym, subst, ◌∙◌, option_and_then, arith}
use Rattle.std.specs.List.{flat_map, AllByRecursion}
use Rattle.std.specs.Int.{w64, to_be_bytes, from_be_bytes}
use Rattle.std.proofs.lemmas.Bool.{cases_lt, lt-ltb, le-ltb, ltb-true, eqb-true, and_parts}
use Rattle.std.proofs.lemmas.Option.{option_and_then_some}
use Rattle.std.proofs.lemmas.Nat.{from_be_bytes-to_be_bytes_8, be_bytes_8}
use Rattle.job_print.specs.Texts.{hex_digit, hex_byte, word_digits}
use Rattle.job_print.specs.Reading.{digit_in, byte_in, bytes_in, word_in}

digit-hex : (d : ℕ) → d < 16 → digit_in (hex_digit d) ≡ Some d
digit-hex d small = by (cases_lt d 10)
  where
    by : (d < 10) ⊎ (10 ≤ d) → digit_in (hex_digit d) ≡ Some d
    by (inl low) =
        let a : nat_lt d 10 ≡ true = lt-ltb d 10 low in
        let b : nat_lt 47 (48 + d) ≡ true = lt-ltb 47 (48 + d) (omega arith) in
        let c : nat_lt (48 + d) 58 ≡ true = lt-ltb (48 + d) 58 (omega arith) in
        let e : 48 + d - 48 ≡ d = omega arith in
        rw (a, b, c, e) refl
    by (inr high) =
        let a : nat_lt d 10 ≡ false = le-ltb d 10 high in
        let b : nat_lt 47 (87 + d) ≡ true = lt-ltb 47 (87 + d) (omega arith) in
        let c : nat_lt (87 + d) 58 ≡ false = le-ltb (87 + d) 58 (omega arith) in
        let f : nat_lt 96 (87 + d) ≡ true = lt-ltb 96 (87 + d) (omega arith) in
        let g : nat_lt (87 + d) 103 ≡ true = lt-ltb (87 + d) 103 (omega arith) in
        let e : 87 + d - 87 ≡ d = omega arith in
        rw (a, b, c, f, g, e) refl

-- what a digit is, by the tests that it passes
digit_by : (c d : ℕ) (low high : Bool) → (nat_lt 47 c && nat_lt c 58) ≡ low
    → (nat_lt 96 c && nat_lt c 103) ≡ high
    → cond low (Some (c - 48)) (cond high (Some (c - 87)) None) ≡ Some d
    → (hex_digit d ≡ c) × (d < 16)
digit_by c d true high a b e =
    let is : c - 48 ≡ d = cc in
    let parts = and_parts (nat_lt 47 c) (nat_lt c 58) a in
    let low : 47 < c = ltb-true 47 c parts.0 in
    let up : c < 58 = ltb-true c 58 parts.1 in
    let test : nat_lt d 10 ≡ true = lt-ltb d 10 (omega arith) in
    let same : 48 + d ≡ c = omega arith in
    (ap (λ t. cond t (48 + d) (87 + d)) test ∙ same, omega arith)
digit_by c d false true a b e =
    let is : c - 87 ≡ d = cc in
    let parts = and_parts (nat_lt 96 c) (nat_lt c 103) b in
    let low : 96 < c = ltb-true 96 c parts.0 in
    let up : c < 103 = ltb-true c 103 parts.1 in
    let test : nat_lt d 10 ≡ false = le-ltb d 10 (omega arith) in
    let same : 87 + d ≡ c = omega arith in
    (ap (λ t. cond t (48 + d) (87 + d)) test ∙ same, omega arith)
digit_by c d false false a b e = cc

digit_some : (c d : ℕ) → digit_in c ≡ Some d → (hex_digit d ≡ c) × (d < 16)
digit_some c d e = digit_by c d (nat_lt 47 c && nat_lt c 58) (nat_lt 96 c && nat_lt c 103) refl refl e

byte-hex : (b : ℕ) → b < 2 ^ 8 → byte_in (hex_digit (b / 16)) (hex_digit (b % 16)) ≡ Some b
unfolding byte_in
byte-hex b small =
    let whole : 16 * (b / 16) + b % 16 ≡ b = omega arith in
    ap (λ (o : Option ℕ). option_and_then (λ x. option_and_then (λ y. Some (16 * x + y)) (digit_in (hex_digit (b % 16)))) o)
    (digit-hex (b / 16) (omega arith))
    ∙ ap (λ (o : Option ℕ). option_and_then (λ y. Some (16 * (b / 16) + y)) o)
    (digit-hex (b % 16) (omega arith))
    ∙ ap (λ n. Some n) whole

byte_some : (high low b : ℕ) → byte_in high low ≡ Some b
    → (hex_digit (b / 16) ≡ high) × (hex_digit (b % 16) ≡ low) × (b < 2 ^ 8)
unfolding byte_in
byte_some high low b e =
    option_and_then_some (λ x. option_and_then (λ y. Some (16 * x + y)) (digit_in low)) (digit_in high) b e
    (λ x one rest.
    option_and_then_some (λ y. Some (16 * x + y)) (digit_in low) b rest
    (λ y two last.
    let is : 16 * x + y ≡ b = cc in
    let p = digit_some high x one in
    let q = digit_some low y two in
    let a : b / 16 ≡ x = omega (arith, q.1) in
    let c : b % 16 ≡ y = omega (arith, q.1) in
    (ap hex_digit a ∙ p.0, ap hex_digit c ∙ q.0, omega (arith, p.1, q.1))))

pub some_when : {A : Type 0} (b : Bool) (o : Option A) (y : A) → cond b o None ≡ Some y
    → (b ≡ true) × (o ≡ Some y)
some_when true o y e = (refl, e)
some_when false o y e = cc

-- ---- the laws

abbrev pub AreBytes : List ℕ → Type 0
AreBytes bs = AllByRecursion (λ b. b < 2 ^ 8) bs

pub bytes-hex : (bs : List ℕ) → AreBytes bs → bytes_in (flat_map hex_byte bs) ≡ Some bs
bytes-hex [] are = refl
bytes-hex (b ∷ bs) are =
    ap (λ (o : Option ℕ). option_and_then (λ x. option_and_then (λ xs. Some (x ∷ xs))
    (bytes_in (flat_map hex_byte bs))) o) (byte-hex b are.0)
    ∙ ap (λ (o : Option (List ℕ)). option_and_then (λ xs. Some (b ∷ xs)) o) (bytes-hex bs are.1)

pub record IsHex (digits bs : List ℕ) : Type 0 where
  pub is : flat_map hex_byte bs ≡ digits
  pub are : AreBytes bs
  pub twice : 2 * length bs ≡ length digits

pub bytes_some : (digits bs : List ℕ) → bytes_in digits ≡ Some bs → IsHex digits bs
bytes_some [] bs e =
    let none : [] ≡ bs = cc in
    let P : List ℕ → Type 0 = IsHex [] in
    subst P none (record { is = refl; are = tt; twice = refl })
bytes_some (high ∷ []) bs e = cc
bytes_some (high ∷ low ∷ digits) bs e =
    option_and_then_some (λ x. option_and_then (λ xs. Some (x ∷ xs)) (bytes_in digits)) (byte_in high low) bs e
    (λ b one rest.
    option_and_then_some (λ xs. Some (b ∷ xs)) (bytes_in digits) bs rest
    (λ xs two last.
    let same : b ∷ xs ≡ bs = cc in
    let P : List ℕ → Type 0 = IsHex (high ∷ low ∷ digits) in
    let p = byte_some high low b one in
    let q = bytes_some digits xs two in
    let twice = q.twice in
    subst P same (record {
      is = ap (λ h. h ∷ hex_digit (b % 16) ∷ flat_map hex_byte xs) p.0
          ∙ ap (λ l. high ∷ l ∷ flat_map hex_byte xs) p.1
          ∙ ap (λ ds. high ∷ low ∷ ds) q.is;
      are = (p.2, q.are);
      twice = omega arith;
    })))

bytes_at : (bs : List ℕ) → AreBytes bs → (i : ℕ) → get_or bs i 0 < 256
bytes_at [] are i = omega arith
bytes_at (b ∷ bs) are zero = are.0
bytes_at (b ∷ bs) are (suc i) = bytes_at bs are.1 i

word_by : (n : ℕ) (bs : List ℕ) → length bs ≡ 8 → AreBytes bs → from_be_bytes w64 bs ≡ n
    → word_in (flat_map hex_byte bs) ≡ Some n
word_by n bs eight are is =
    let read = bytes-hex bs are in
    let twice = (bytes_some (flat_map hex_byte bs) bs read).twice in
    let size : length (flat_map hex_byte bs) ≡ 16 = omega arith in
    let test : (length (flat_map hex_byte bs) == 16) ≡ true = ap (λ k. k == 16) size in
    ap (λ b. cond b (option_map (from_be_bytes w64) (bytes_in (flat_map hex_byte bs))) None) test
    ∙ ap (λ (o : Option (List ℕ)). option_map (from_be_bytes w64) o) read
    ∙ ap (λ m. Some m) is

pub word-digits : (n : ℕ) → n < 2 ^ 64 → word_in (word_digits n) ≡ Some n
unfolding word_digits
word-digits n small = word_by n (to_be_bytes w64 n) refl
    (omega arith, (omega arith, (omega arith, (omega arith, (omega arith, (omega arith, (omega arith, (omega arith, tt))))))))
    (from_be_bytes-to_be_bytes_8 n small)

word_bound : (bs : List ℕ) → ((i : ℕ) → get_or bs i 0 < 256) → from_be_bytes w64 bs < 2 ^ 64
word_bound bs at = omega (arith, at 0, at 1, at 2, at 3, at 4, at 5, at 6, at 7)

pub word_some : (digits : List ℕ) (n : ℕ) → word_in digits ≡ Some n
    → (word_digits n ≡ digits) × (n < 2 ^ 64)
unfolding word_digits
word_some digits n e =
    let parts = some_when (length digits == 16) (option_map (from_be_bytes w64) (bytes_in digits)) n e in
    let size : length digits ≡ 16 = eqb-true (length digits) 16 parts.0 in
    option_and_then_some (λ bs. Some (from_be_bytes w64 bs)) (bytes_in digits) n parts.1
    (λ bs read last.
    let hex = bytes_some digits bs read in
    let twice = hex.twice in
    let at = bytes_at bs hex.are in
    let value : n ≡ from_be_bytes w64 bs = cc in
    let back : to_be_bytes w64 n ≡ bs = be_bytes_8 bs n (omega arith) at value in
    let bound : from_be_bytes w64 bs < 2 ^ 64 = word_bound bs at in
    let P : ℕ → Type 0 = λ m. m < 2 ^ 64 in
    (ap (flat_map hex_byte) back ∙ hex.is, subst P (sym value) bound))
