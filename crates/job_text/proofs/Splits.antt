-- The first line of a text.
use Rattle.std.proofs.Common.{◌≡◌, ℕ, ◌+◌, ◌≤◌, ◌<◌, Bool, true, false, List, [], ◌∷◌, length, take, drop, Some, None, position, nat_lt, cond, refl, ap, ◌∙◌, arith}
use Rattle.std.specs.List.{slice_split, position_or_len, onto_first}
use borrow.Author.Tests.{ltb-true}
use Rattle.std.proofs.lemmas.Bool.Decides.{nat_tests}
use Rattle.std.proofs.lemmas.List.Splits.{slice_split_first, slice_split-cons_no}

module _ (p : ℕ → Bool) where
  -- where no element passes, there is one part
  split_whole : (xs : List ℕ) → length xs ≤ position_or_len p xs → slice_split p xs ≡ xs ∷ []
  split_whole [] h = refl
  split_whole (x ∷ xs) h = by (p x) refl (split_whole xs)
    where
      by : (b : Bool) → p x ≡ b → (length xs ≤ position_or_len p xs → slice_split p xs ≡ xs ∷ [])
          → slice_split p (x ∷ xs) ≡ (x ∷ xs) ∷ []
      by true e rest =
          let none : position_or_len p (x ∷ xs) ≡ 0 = rw e refl in
          absurd (omega arith)
      by false e rest =
          let more : position_or_len p (x ∷ xs) ≡ 1 + position_or_len p xs = rw e refl in
          slice_split-cons_no p x xs e ∙ ap (onto_first x) (rest (omega arith))

  some_is : (b : Bool) (n i : ℕ) → cond b (Some n) None ≡ Some i → (b ≡ true) × (n ≡ i)
  some_is true n i e = (refl, cc)
  some_is false n i e = cc

  pub split-Some : (xs : List ℕ) (i : ℕ) → position p xs ≡ Some i
      → slice_split p xs ≡ take i xs ∷ slice_split p (drop (i + 1) xs)
  split-Some xs i e =
      let is = some_is (nat_lt (position_or_len p xs) (length xs)) (position_or_len p xs) i e in
      let inside : position_or_len p xs < length xs = ltb-true _ _ is.0 in
      slice_split_first p xs 0 inside
      ∙ ap (λ (n : ℕ). take n xs ∷ slice_split p (drop (n + 1) xs)) is.1

  pub split-None : (xs : List ℕ) → position p xs ≡ None → slice_split p xs ≡ xs ∷ []
  split-None xs e = split_whole xs (grind (arith, nat_tests))
