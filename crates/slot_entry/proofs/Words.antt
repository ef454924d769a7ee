-- Pages of one word.
use Rattle.std.proofs.Common.{◌≡◌, ℕ, zero, suc, ◌+◌, ◌*◌, ◌^◌, ◌<◌, List, [], ◌∷◌, ◌++◌, length, take, drop, refl, sym, ap, ◌∙◌, subst, arith, length-append, length-drop}
use Rattle.std.specs.Prelude.{All}
use Rattle.std.specs.Int.{w64, to_le_bytes, bytes_low_first, byte_at}
use Rattle.std.specs.List.{AllByRecursion}
use Rattle.std.proofs.Math.Nat.{pow-suc}
use Rattle.std.specs.Simd.Lanes.{number_l}
use Rattle.std.proofs.lemmas.List.{drop-drop, length-take-le, take-append-drop}
use Rattle.std.proofs.lemmas.List.Elements.{All-append, All-take, All-drop, All-from_recursion}
use Rattle.zr_base.specs.Plain.{words_from}
use Rattle.same_fill.specs.Filled.{word_at, IsFilled}
use Rattle.bdi_page.specs.Packing.{IsPage}
use Rattle.slot_entry.specs.Forms.{zero_page, filled_page}

abbrev pub AreBytes : List ℕ → Type 0
AreBytes bytes = All (λ b. b < 256) bytes

-- ---- a number tells its bytes

bytes_tail : (x : ℕ) (xs : List ℕ) → AreBytes (x ∷ xs) → AreBytes xs
bytes_tail x xs is k d lt = is (suc k) d (omega arith)

numbers_same : (xs ys : List ℕ) → length xs ≡ length ys → AreBytes xs → AreBytes ys
    → number_l 256 xs ≡ number_l 256 ys → xs ≡ ys
numbers_same [] [] long below low e = refl
numbers_same [] (y ∷ ys) long below low e = absurd (omega arith)
numbers_same (x ∷ xs) [] long below low e = absurd (omega arith)
numbers_same (x ∷ xs) (y ∷ ys) long below low e =
    let a : x < 256 = below 0 0 (omega arith) in
    let b : y < 256 = low 0 0 (omega arith) in
    let first : x ≡ y = omega arith in
    let rest = numbers_same xs ys (omega arith) (bytes_tail x xs below) (bytes_tail y ys low)
    (omega arith) in
    λ i. first i ∷ rest i

number_low : (n : ℕ) (xs : List ℕ) → length xs ≡ n → AreBytes xs → number_l 256 xs < 256 ^ n
number_low zero [] e is = omega arith
number_low zero (x ∷ xs) e is = absurd (omega arith)
number_low (suc n) [] e is = absurd (omega arith)
number_low (suc n) (x ∷ xs) e is =
    let a : x < 256 = is 0 0 (omega arith) in
    let b = number_low n xs (omega arith) (bytes_tail x xs is) in
    omega (arith, pow-suc 256 n)

-- ---- words tell their bytes

word_next : (p : List ℕ) (j : ℕ) → word_at (drop 8 p) j ≡ word_at p (suc j)
word_next p j =
    ap (λ l. number_l 256 (take 8 l)) (drop-drop (8 * j) 8 p)
    ∙ ap (λ n. number_l 256 (take 8 (drop n p))) (let e : 8 + 8 * j ≡ 8 * suc j = omega arith in e)

words_same : (n : ℕ) (p q : List ℕ) → length p ≡ 8 * n → length q ≡ 8 * n → AreBytes p
    → AreBytes q → ((j : ℕ) → j < n → word_at p j ≡ word_at q j) → p ≡ q
words_same zero [] [] long wide below low same = refl
words_same zero (x ∷ p) q long wide below low same = absurd (omega arith)
words_same zero [] (y ∷ q) long wide below low same = absurd (omega arith)
words_same (suc n) p q long wide below low same =
    let P : ℕ → Type 0 = λ b. b < 256 in
    let first : take 8 p ≡ take 8 q =
    numbers_same (take 8 p) (take 8 q)
    (length-take-le 8 p (omega arith) ∙ sym (length-take-le 8 q (omega arith)))
    (All-take P 8 p below) (All-take P 8 q low) (same 0 (omega arith)) in
    let rest : drop 8 p ≡ drop 8 q =
    words_same n (drop 8 p) (drop 8 q) (omega (arith, length-drop 8 p))
    (omega (arith, length-drop 8 q)) (All-drop P 8 p below) (All-drop P 8 q low)
    (λ j lt. word_next p j ∙ same (suc j) (omega arith) ∙ sym (word_next q j)) in
    sym (take-append-drop 8 p) ∙ (λ i. first i ++ rest i) ∙ take-append-drop 8 q

-- ---- words of one value

byte_low : (i n : ℕ) → byte_at i n < 256
byte_low zero n = omega arith
byte_low (suc i) n = omega arith

low_first_bytes : (i k n : ℕ) → AllByRecursion (λ b. b < 256) (bytes_low_first i k n)
low_first_bytes i zero n = tt
low_first_bytes i (suc k) n = (byte_low i n, low_first_bytes (suc i) k n)

module _ (w : ℕ) where
  abbrev words : ℕ → ℕ → List ℕ
  words from n = words_from (λ j. w) from n

  words_long : (from n : ℕ) → length (words from n) ≡ 8 * n
  words_long from zero = refl
  words_long from (suc n) =
      length-append (to_le_bytes w64 w) (words (from + 1) n)
      ∙ omega (arith, words_long (from + 1) n)

  words_bytes : (from n : ℕ) → AreBytes (words from n)
  words_bytes from zero k d lt = absurd (omega arith)
  words_bytes from (suc n) k d lt =
      All-append (λ b. b < 256) (to_le_bytes w64 w) (words (from + 1) n)
      (All-from_recursion (λ b. b < 256) (to_le_bytes w64 w) (low_first_bytes 0 8 w))
      (words_bytes (from + 1) n) k d lt

  words_are : w < 2 ^ 64 → (from n j : ℕ) → j < n → word_at (words from n) j ≡ w
  words_are low from zero j lt = absurd (omega arith)
  words_are low from (suc n) zero lt = omega arith
  words_are low from (suc n) (suc j) lt =
      sym (word_next (words from (suc n)) j) ∙ words_are low (from + 1) n j (omega arith)

pub filled_is : (w : ℕ) → IsPage (filled_page w)
unfolding filled_page
filled_is w = (words_long w 0 512, words_bytes w 0 512)

pub filled_words : (w : ℕ) → w < 2 ^ 64 → IsFilled (filled_page w) w
unfolding filled_page
filled_words w low j lt = words_are w low 0 512 j lt

pub zero_filled : zero_page ≡ filled_page 0
unfolding zero_page filled_page
zero_filled = refl

pub zero_is : IsPage zero_page
zero_is = subst IsPage (sym zero_filled) (filled_is 0)

-- ---- a page of one word is the one of that word

pub first_low : (page : List ℕ) → IsPage page → word_at page 0 < 2 ^ 64
first_low page is =
    number_low 8 (take 8 page) (length-take-le 8 page (omega (arith, is.0)))
    (All-take (λ b. b < 256) 8 page is.1)

pub word_low : (page : List ℕ) (w : ℕ) → IsPage page → IsFilled page w → w < 2 ^ 64
word_low page w is words =
    let e : word_at page 0 ≡ w = words 0 (omega arith) in
    let low : word_at page 0 < 2 ^ 64 = first_low page is in
    omega arith

pub filled_one : (page : List ℕ) (w : ℕ) → IsPage page → IsFilled page w → page ≡ filled_page w
filled_one page w is words =
    let other = filled_is w in
    words_same 512 page (filled_page w) is.0 other.0 is.1 other.1
    (λ j lt. words j lt ∙ sym (filled_words w (word_low page w is words) j lt))
