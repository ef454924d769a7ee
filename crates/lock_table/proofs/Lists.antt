-- Lists read at a place after a write, by std's reading and by the table's.
use Rattle.std.proofs.Common.{◌≡◌, ◌≢◌, ◌⊎◌, ℕ, zero, suc, ◌<◌, List, [], ◌∷◌, ◌++◌, length, set, Some, slice_get, slice_set, refl, sym, ap, ◌∙◌, inl, inr, ⊎_elim, arith}
use mathlib.Core.Logic.{dite}
use mathlib.Core.Option.{some, some-injective, some-ne-none}
use native.Mathlib.Decide.{ℕ_discrete}
use lib.ListN.{get_elem?}

module _ {A : Type 0} where
  pub get_here : (l : List A) (i : ℕ) (a b : A) → slice_get l i ≡ Some b
      → slice_get (slice_set l i a) i ≡ Some a
  get_here [] i a b e = absurd (cc)
  get_here (x ∷ xs) zero a b e = refl
  get_here (x ∷ xs) (suc i) a b e = get_here xs i a b e

  pub get_else : (l : List A) (i j : ℕ) (a : A) → j ≢ i
      → slice_get (slice_set l i a) j ≡ slice_get l j
  get_else [] i j a n = refl
  get_else (x ∷ xs) zero zero a n = absurd (n refl)
  get_else (x ∷ xs) zero (suc j) a n = refl
  get_else (x ∷ xs) (suc i) zero a n = refl
  get_else (x ∷ xs) (suc i) (suc j) a n = get_else xs i j a (λ e. n (ap suc e))

  -- what stands at a place after a write of a place that was there
  pub get_set : (l : List A) (i j : ℕ) (a b c : A) → slice_get l i ≡ Some c
      → slice_get (slice_set l i a) j ≡ Some b
      → ((j ≡ i) × (a ≡ b)) ⊎ ((j ≢ i) × (slice_get l j ≡ Some b))
  get_set l i j a b c here e = dite (ℕ_discrete j i)
      (λ same. inl (
        same,
        let q : Some a ≡ Some b = sym (get_here l i a c here)
            ∙ (ap (λ k. slice_get (slice_set l i a) k) (sym same) ∙ e) in cc,
      ))
      (λ ne. inr (ne, sym (get_else l i j a ne) ∙ e))

  -- ---- by the table's reading

  pub at_set : (l : List A) (i j : ℕ) (a b : A) → get_elem? (set l i a) j ≡ some b
      → ((j ≡ i) × (a ≡ b)) ⊎ ((j ≢ i) × (get_elem? l j ≡ some b))
  at_set [] i j a b e = absurd (some-ne-none b (sym e))
  at_set (x ∷ xs) zero zero a b e = inl (refl, some-injective a b e)
  at_set (x ∷ xs) zero (suc j) a b e = inr ((λ h. omega arith), e)
  at_set (x ∷ xs) (suc i) zero a b e = inr ((λ h. omega arith), e)
  at_set (x ∷ xs) (suc i) (suc j) a b e = ⊎_elim (λ t. inl (ap suc t.0, t.1))
      (λ t. let n = t.0 in inr ((λ h. n (omega arith)), t.1)) (at_set xs i j a b e)

  pub set_here : (l : List A) (i : ℕ) (a : A) → i < length l → get_elem? (set l i a) i ≡ some a
  set_here [] i a h = absurd (omega arith)
  set_here (x ∷ xs) zero a h = refl
  set_here (x ∷ xs) (suc i) a h = set_here xs i a (omega arith)

  pub set_else : (l : List A) (i j : ℕ) (a : A) → j ≢ i → get_elem? (set l i a) j ≡ get_elem? l j
  set_else [] i j a n = refl
  set_else (x ∷ xs) zero zero a n = absurd (n refl)
  set_else (x ∷ xs) zero (suc j) a n = refl
  set_else (x ∷ xs) (suc i) zero a n = refl
  set_else (x ∷ xs) (suc i) (suc j) a n = set_else xs i j a (λ e. n (ap suc e))

  pub set_again : (l : List A) (i : ℕ) (a : A) → get_elem? l i ≡ some a → set l i a ≡ l
  set_again [] i a e = refl
  set_again (x ∷ xs) zero a e = λ k. sym (some-injective x a e) k ∷ xs
  set_again (x ∷ xs) (suc i) a e = λ k. x ∷ set_again xs i a e k

  pub at_end : (l : List A) (a b : A) (j : ℕ) → get_elem? (l ++ a ∷ []) j ≡ some b
      → (get_elem? l j ≡ some b) ⊎ ((j ≡ length l) × (a ≡ b))
  at_end [] a b zero e = inr (refl, some-injective a b e)
  at_end [] a b (suc j) e = absurd (some-ne-none b (sym e))
  at_end (x ∷ xs) a b zero e = inl e
  at_end (x ∷ xs) a b (suc j) e = ⊎_elim (λ t. inl t) (λ t. inr (ap suc t.0, t.1))
      (at_end xs a b j e)
