-- Lists read at a place after a write.
use Rattle.std.proofs.Common.{◌≡◌, ◌≢◌, ℕ, zero, suc, List, [], ◌∷◌, Some, slice_get, slice_set, refl, ap}

module _ {A : Type 0} where
  pub get_here : (l : List A) (i : ℕ) (a b : A) → slice_get l i ≡ Some b
      → slice_get (slice_set l i a) i ≡ Some a
  get_here [] i a b e = absurd (cc)
  get_here (x ∷ xs) zero a b e = refl
  get_here (x ∷ xs) (suc i) a b e = get_here xs i a b e

  pub get_else : (l : List A) (i j : ℕ) (a : A) → j ≢ i
      → slice_get (slice_set l i a) j ≡ slice_get l j
  get_else [] i j a n = refl
  get_else (x ∷ xs) zero zero a n = absurd (n refl)
  get_else (x ∷ xs) zero (suc j) a n = refl
  get_else (x ∷ xs) (suc i) zero a n = refl
  get_else (x ∷ xs) (suc i) (suc j) a n = get_else xs i j a (λ e. n (ap suc e))
