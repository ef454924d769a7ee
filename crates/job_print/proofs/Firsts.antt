-- Where a byte stands first, past bytes that are others; and the words of a line, one by one.
use Rattle.std.proofs.Common.{◌≡◌, ℕ, zero, suc, ◌+◌, ◌-◌, ◌<◌, ◌≤◌, ◌==◌, ◌⊎◌, inl, inr, true, false, cond, List, [], ◌∷◌, ◌++◌, length, take, drop, get_or, position, Option, Some, None, option_map, nat_lt, refl, sym, ap, ◌∙◌, length-drop, take_all, append_assoc, arith}
use Rattle.std.specs.List.{position_or_len, slice_split, All}
use Rattle.std.proofs.lemmas.Bool.{cases_lt, lt-ltb, le-ltb, ltb-true}
use Rattle.std.proofs.lemmas.List.{length-take}
use Rattle.std.proofs.lemmas.List.Splits.{slice_split_none, slice_split_first}
use Rattle.std.proofs.lemmas.List.Sums.{fails_before_first}
use Rattle.job_print.proofs.Numbers.{some_cond}

module _ (b : ℕ) where
  -- the first n bytes are others
  abbrev pub Others : ℕ → List ℕ → Type 0
  Others n xs = (k : ℕ) → k < n → (get_or xs k 0 == b) ≡ false

  first_past : (n : ℕ) (xs : List ℕ) → n ≤ length xs → Others n xs
      → position_or_len (λ c. c == b) xs ≡ n + position_or_len (λ c. c == b) (drop n xs)
  first_past zero xs le others = omega arith
  first_past (suc n) [] le others = absurd (omega arith)
  first_past (suc n) (x ∷ xs) le others =
      let other : (x == b) ≡ false = others 0 (omega arith) in
      let more : position_or_len (λ c. c == b) (x ∷ xs) ≡ 1 + position_or_len (λ c. c == b) xs =
      rw other refl in
      let rest = first_past n xs (omega arith) (λ k lt. others (suc k) (omega arith)) in
      omega arith

  position_past : (n : ℕ) (xs : List ℕ) → n ≤ length xs → Others n xs
      → position (λ c. c == b) xs ≡ option_map (λ i. n + i) (position (λ c. c == b) (drop n xs))
  position_past n xs le others = by (cases_lt at (length (drop n xs)))
    where
      at : ℕ
      at = position_or_len (λ c. c == b) (drop n xs)

      more : position_or_len (λ c. c == b) xs ≡ n + at
      more = first_past n xs le others

      by : (at < length (drop n xs)) ⊎ (length (drop n xs) ≤ at) → position (λ c. c == b) xs
          ≡ option_map (λ i. n + i) (position (λ c. c == b) (drop n xs))
      by (inl lt) =
          let size : length (drop n xs) ≡ length xs - n = length-drop n xs in
          let whole : nat_lt (position_or_len (λ c. c == b) xs) (length xs) ≡ true =
          lt-ltb _ _ (omega (arith, more)) in
          let part : nat_lt at (length (drop n xs)) ≡ true = lt-ltb _ _ lt in
          ap (λ t. cond t (Some (position_or_len (λ c. c == b) xs)) None) whole
          ∙ ap (λ i. Some i) more
          ∙ sym (ap (λ t. option_map (λ i. n + i) (cond t (Some at) None)) part)
      by (inr none) =
          let size : length (drop n xs) ≡ length xs - n = length-drop n xs in
          let whole : nat_lt (position_or_len (λ c. c == b) xs) (length xs) ≡ false =
          le-ltb _ _ (omega (arith, more)) in
          let part : nat_lt at (length (drop n xs)) ≡ false = le-ltb _ _ none in
          ap (λ t. cond t (Some (position_or_len (λ c. c == b) xs)) None) whole
          ∙ sym (ap (λ t. option_map (λ i. n + i) (cond t (Some at) None)) part)

  -- the same by what was found in the bytes after them
  pub found_past : (n : ℕ) (xs : List ℕ) (o : Option ℕ) → n ≤ length xs → Others n xs
      → o ≡ position (λ c. c == b) (take (length xs - n) (drop n xs))
      → option_map (λ i. n + i) o ≡ position (λ c. c == b) xs
  found_past n xs o le others is =
      let size : length (drop n xs) ≡ length xs - n = length-drop n xs in
      let all : take (length xs - n) (drop n xs) ≡ drop n xs =
      take_all (length xs - n) (drop n xs) (omega arith) in
      ap (option_map (λ i. n + i)) (is ∙ ap (position (λ c. c == b)) all)
      ∙ sym (position_past n xs le others)

-- the words of a line, one more: that before the first space of the rest
pub word_more : (words : List (List ℕ)) (rest : List ℕ) (i : ℕ)
    → Some i ≡ position (λ c. c == 32) rest
    → words ++ slice_split (λ c. c == 32) rest
    ≡ (words ++ take i rest ∷ [])
    ++ slice_split (λ c. c == 32) (take (length rest - (i + 1)) (drop (i + 1) rest))
word_more words rest i is =
    let n = position_or_len (λ c. c == 32) rest in
    let found = some_cond (nat_lt n (length rest)) n i (sym is) in
    let size : length (drop (i + 1) rest) ≡ length rest - (i + 1) = length-drop (i + 1) rest in
    let all : take (length rest - (i + 1)) (drop (i + 1) rest) ≡ drop (i + 1) rest =
    take_all (length rest - (i + 1)) (drop (i + 1) rest) (omega arith) in
    ap (λ (ws : List (List ℕ)). words ++ ws)
    (slice_split_first (λ c. c == 32) rest 0 (ltb-true n (length rest) found.0)
    ∙ ap (λ (k : ℕ). take k rest ∷ slice_split (λ c. c == 32) (drop (k + 1) rest)) found.1
    ∙ ap (λ (xs : List ℕ). take i rest ∷ slice_split (λ c. c == 32) xs) (sym all))
    ∙ sym (append_assoc words (take i rest ∷ []) _)

pub part_within : (k i n : ℕ) (xs : List ℕ) → length xs ≤ n → length (take k (drop i xs)) ≤ n
part_within k i n xs within = simp (length-take, length-drop) (omega arith)

-- and the last one: all that is left, if it has no space
pub word_last : (words : List (List ℕ)) (rest : List ℕ) → None ≡ position (λ c. c == 32) rest
    → words ++ rest ∷ [] ≡ words ++ slice_split (λ c. c == 32) rest
word_last words rest none =
    ap (λ (ws : List (List ℕ)). words ++ ws)
    (sym (slice_split_none (λ c. c == 32) rest (others (cases_lt n (length rest)))))
  where
    n : ℕ
    n = position_or_len (λ c. c == 32) rest

    others : (n < length rest) ⊎ (length rest ≤ n) → All (λ c. (c == 32) ≡ false) rest
    others (inl inside) =
        let some : position (λ c. c == 32) rest ≡ Some n =
        ap (λ t. cond t (Some n) None) (lt-ltb n (length rest) inside) in
        absurd (cc (some, none))
    others (inr past) = λ k d lt. fails_before_first (λ c. c == 32) rest k d (omega arith)
