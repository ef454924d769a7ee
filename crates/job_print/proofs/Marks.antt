-- Where a byte stands first, and the words between spaces.
use Rattle.std.proofs.Common.{◌≡◌, ℕ, zero, suc, subst, ◌+◌, ◌<◌, ◌≤◌, Bool, true, false, not, ◌&&◌, ◌==◌, cond, List, [], ◌∷◌, ◌++◌, length, take, drop, get_or, nat_lt, position, Some, None, refl, ap, sym, ◌∙◌, arith}
use Rattle.std.specs.List.{list_all, slice_split, join_with_byte, position_or_len, All}
use Rattle.std.specs.Char.{is_ascii_digit}
use Rattle.std.specs.Str.{all_ascii_digits}
use Rattle.std.proofs.lemmas.Bool.{lt-ltb, ltb-true, ne_eqb, eqb-true, and_parts}
use Rattle.std.proofs.lemmas.Bool.Decides.{nat_tests}
use Rattle.std.proofs.lemmas.List.{take-append-drop, drop_more, length-append, append-nil}
use Rattle.std.proofs.lemmas.List.Folds.{list_all-append}
use Rattle.std.proofs.lemmas.List.Sums.{passes_at_first}
use Rattle.std.proofs.lemmas.List.Splits.{slice_split_none, slice_split_at, join_with_byte-slice_split}
use Rattle.job_print.specs.Texts.{spaced}
use Rattle.job_print.proofs.Numbers.{some_cond}

-- a byte stands nowhere in a list
abbrev pub lacks : ℕ → List ℕ → Bool
lacks b xs = list_all (λ c. not (c == b)) xs

-- a word's bytes are above the space
abbrev pub is_word : List ℕ → Bool
is_word xs = list_all (λ c. nat_lt 32 c) xs

not_at : (b c : ℕ) → not (c == b) ≡ true → (c == b) ≡ false
not_at b c e = by (c == b) e
  where
    by : (t : Bool) → not t ≡ true → t ≡ false
    by true e = cc
    by false e = refl

first_at : (b : ℕ) (xs ys : List ℕ) → lacks b xs ≡ true
    → position_or_len (λ c. c == b) (xs ++ b ∷ ys) ≡ length xs
first_at b [] ys none = let same : (b == b) ≡ true = grind (arith, nat_tests) in rw same refl
first_at b (x ∷ xs) ys none =
    let parts = and_parts (not (x == b)) (lacks b xs) none in
    let other : (x == b) ≡ false = not_at b x parts.0 in
    let rest = first_at b xs ys parts.1 in
    let more : position_or_len (λ c. c == b) (x ∷ xs ++ b ∷ ys) ≡ 1 + position_or_len (λ c. c == b) (xs ++ b ∷ ys) = rw other refl in
    omega arith

pub position-marked : (b : ℕ) (xs ys : List ℕ) → lacks b xs ≡ true
    → position (λ c. c == b) (xs ++ b ∷ ys) ≡ Some (length xs)
position-marked b xs ys none =
    let at = first_at b xs ys none in
    let all : length (xs ++ b ∷ ys) ≡ length xs + suc (length ys) = length-append xs (b ∷ ys) in
    let inside : nat_lt (position_or_len (λ c. c == b) (xs ++ b ∷ ys)) (length (xs ++ b ∷ ys)) ≡ true =
    lt-ltb _ _ (omega arith) in
    ap (λ t. cond t (Some (position_or_len (λ c. c == b) (xs ++ b ∷ ys))) None) inside
    ∙ ap (λ n. Some n) at

pub position_marks : (b i : ℕ) (xs : List ℕ) → position (λ c. c == b) xs ≡ Some i
    → take i xs ++ b ∷ drop (i + 1) xs ≡ xs
position_marks b i xs e =
    let n = position_or_len (λ c. c == b) xs in
    let found = some_cond (nat_lt n (length xs)) n i e in
    let inside : n < length xs = ltb-true n (length xs) found.0 in
    let mark : get_or xs n 0 ≡ b = eqb-true _ _ (passes_at_first (λ c. c == b) xs 0 inside) in
    let whole : take n xs ++ b ∷ drop (n + 1) xs ≡ xs =
    ap (λ c. take n xs ++ c ∷ drop (n + 1) xs) (sym mark)
    ∙ ap (λ ys. take n xs ++ ys) (sym (drop_more xs n 0 inside)) ∙ take-append-drop n xs in
    let P : ℕ → Type 0 = λ k. take k xs ++ b ∷ drop (k + 1) xs ≡ xs in
    subst P found.1 whole

-- ---- digits and words

digit_range : (c : ℕ) → is_ascii_digit c ≡ true → (48 ≤ c) × (c ≤ 57)
digit_range c e = grind (arith, nat_tests, e)

pub digits_word : (ds : List ℕ) → all_ascii_digits ds ≡ true → is_word ds ≡ true
digits_word [] all = refl
digits_word (c ∷ cs) all =
    let parts = and_parts (is_ascii_digit c) (all_ascii_digits cs) all in
    let range = digit_range c parts.0 in
    let test : nat_lt 32 c ≡ true = lt-ltb 32 c (omega (arith, range.0)) in
    ap (λ b. b && is_word cs) test ∙ digits_word cs parts.1

pub digits_lack : (ds : List ℕ) → all_ascii_digits ds ≡ true → lacks 58 ds ≡ true
digits_lack [] all = refl
digits_lack (c ∷ cs) all =
    let parts = and_parts (is_ascii_digit c) (all_ascii_digits cs) all in
    let range = digit_range c parts.0 in
    let test : (c == 58) ≡ false = ne_eqb c 58 (λ e. omega (arith, range.1, e)) in
    ap (λ b. not b && lacks 58 cs) test ∙ digits_lack cs parts.1

pub word_lacks : (b : ℕ) (xs : List ℕ) → b ≤ 32 → is_word xs ≡ true → lacks b xs ≡ true
word_lacks b [] low all = refl
word_lacks b (c ∷ cs) low all =
    let parts = and_parts (nat_lt 32 c) (is_word cs) all in
    let above : 32 < c = ltb-true 32 c parts.0 in
    let test : (c == b) ≡ false = ne_eqb c b (λ e. omega (arith, above, e)) in
    ap (λ t. not t && lacks b cs) test ∙ word_lacks b cs low parts.1

no_space : (xs : List ℕ) → lacks 32 xs ≡ true → All (λ c. (c == 32) ≡ false) xs
no_space [] none k d lt = absurd (omega (arith, lt))
no_space (x ∷ xs) none zero d lt = not_at 32 x (and_parts (not (x == 32)) (lacks 32 xs) none).0
no_space (x ∷ xs) none (suc k) d lt =
    no_space xs (and_parts (not (x == 32)) (lacks 32 xs) none).1 k d (omega (arith, lt))

-- ---- lines

pub split-spaced : (name : List ℕ) (words : List (List ℕ)) → is_word name ≡ true
    → list_all is_word words ≡ true
    → slice_split (λ c. c == 32) (name ++ spaced words) ≡ name ∷ words
split-spaced name [] first all =
    ap (slice_split (λ c. c == 32)) (append-nil name)
    ∙ slice_split_none (λ c. c == 32) name (no_space name (word_lacks 32 name (omega arith) first))
split-spaced name (word ∷ words) first all =
    let parts = and_parts (is_word word) (list_all is_word words) all in
    slice_split_at (λ c. c == 32) name 32 (word ++ spaced words)
    (no_space name (word_lacks 32 name (omega arith) first)) refl
    ∙ ap (λ ws. name ∷ ws) (split-spaced word words parts.0 parts.1)

join-spaced : (name : List ℕ) (words : List (List ℕ))
    → join_with_byte 32 (name ∷ words) ≡ name ++ spaced words
join-spaced name [] = sym (append-nil name)
join-spaced name (word ∷ words) = ap (λ ys. name ++ 32 ∷ ys) (join-spaced word words)

pub spaced_is : (line name : List ℕ) (words : List (List ℕ))
    → slice_split (λ c. c == 32) line ≡ name ∷ words → name ++ spaced words ≡ line
spaced_is line name words e =
    sym (join-spaced name words) ∙ ap (join_with_byte 32) (sym e) ∙ join_with_byte-slice_split 32 line

spaced_lacks : (words : List (List ℕ)) → list_all is_word words ≡ true
    → lacks 10 (spaced words) ≡ true
spaced_lacks [] all = refl
spaced_lacks (word ∷ words) all =
    let parts = and_parts (is_word word) (list_all is_word words) all in
    list_all-append (λ c. not (c == 10)) word (spaced words)
    ∙ ap (λ b. b && lacks 10 (spaced words)) (word_lacks 10 word (omega arith) parts.0)
    ∙ spaced_lacks words parts.1

pub line_lacks : (name : List ℕ) (words : List (List ℕ)) → is_word name ≡ true
    → list_all is_word words ≡ true → lacks 10 (name ++ spaced words) ≡ true
line_lacks name words first all =
    list_all-append (λ c. not (c == 10)) name (spaced words)
    ∙ ap (λ b. b && lacks 10 (spaced words)) (word_lacks 10 name (omega arith) first)
    ∙ spaced_lacks words all
