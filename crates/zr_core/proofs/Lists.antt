-- Lists read at a place.
use Rattle.std.proofs.Common.{◌≡◌, ◌≢◌, ◌⊎◌, ℕ, zero, suc, ◌+◌, ◌<◌, List, [], ◌∷◌, ◌++◌, length, get_or, Some, slice_get, slice_set, refl, sym, ap, ◌∙◌, arith, inl, inr}
use Rattle.std.proofs.lemmas.Option.{slice_get-get_or}
use mathlib.Core.Logic.{dite}
use native.Mathlib.Decide.{ℕ_discrete}

module _ {A : Type 0} where
  pub at_index : (xs : List A) (i : ℕ) (x : A) → i < length xs → x ≡ get_or xs i x
      → slice_get xs i ≡ Some x
  at_index xs i x lt e = slice_get-get_or xs i x lt ∙ ap Some (sym e)

  pub there_is : (xs : List A) (i : ℕ) → i < length xs → (x : A) × (slice_get xs i ≡ Some x)
  there_is [] i h = absurd (omega arith)
  there_is (x ∷ xs) zero h = (x, refl)
  there_is (x ∷ xs) (suc i) h = there_is xs i (omega arith)

  -- ---- a list joined

  pub get_left : (xs ys : List A) (i : ℕ) → i < length xs
      → slice_get (xs ++ ys) i ≡ slice_get xs i
  get_left [] ys i lt = absurd (omega arith)
  get_left (x ∷ xs) ys zero lt = refl
  get_left (x ∷ xs) ys (suc i) lt = get_left xs ys i (omega arith)

  pub get_right : (xs ys : List A) (i n : ℕ) → n ≡ length xs + i
      → slice_get (xs ++ ys) n ≡ slice_get ys i
  get_right [] ys i n e = ap (slice_get ys) (let q : n ≡ i = omega arith in q)
  get_right (x ∷ xs) ys i zero e = absurd (omega arith)
  get_right (x ∷ xs) ys i (suc n) e = get_right xs ys i n (omega arith)

  -- ---- a place that is written

  pub get_here : (l : List A) (i : ℕ) (a b : A) → slice_get l i ≡ Some b
      → slice_get (slice_set l i a) i ≡ Some a
  get_here [] i a b e = absurd (cc)
  get_here (x ∷ xs) zero a b e = refl
  get_here (x ∷ xs) (suc i) a b e = get_here xs i a b e

  pub get_else : (l : List A) (i j : ℕ) (a : A) → j ≢ i
      → slice_get (slice_set l i a) j ≡ slice_get l j
  get_else [] i j a n = refl
  get_else (x ∷ xs) zero zero a n = absurd (n refl)
  get_else (x ∷ xs) zero (suc j) a n = refl
  get_else (x ∷ xs) (suc i) zero a n = refl
  get_else (x ∷ xs) (suc i) (suc j) a n = get_else xs i j a (λ e. n (ap suc e))

  pub set_same : (xs : List A) (i : ℕ) (x : A) → slice_get xs i ≡ Some x → slice_set xs i x ≡ xs
  set_same [] i x e = refl
  set_same (y ∷ ys) zero x e = let q : y ≡ x = cc in λ i. sym q i ∷ ys
  set_same (y ∷ ys) (suc i) x e = ap (λ zs. y ∷ zs) (set_same ys i x e)

  pub set_twice : (xs : List A) (i : ℕ) (x y : A)
      → slice_set (slice_set xs i x) i y ≡ slice_set xs i y
  set_twice [] i x y = refl
  set_twice (z ∷ zs) zero x y = refl
  set_twice (z ∷ zs) (suc i) x y = ap (λ ws. z ∷ ws) (set_twice zs i x y)

-- what stands at a place after a write of it
pub get_set : {A : Type 0} (l : List A) (i j : ℕ) (a b c : A) → slice_get l i ≡ Some c
    → slice_get (slice_set l i a) j ≡ Some b
    → ((j ≡ i) × (a ≡ b)) ⊎ ((j ≢ i) × (slice_get l j ≡ Some b))
get_set l i j a b c here e =
    dite (ℕ_discrete j i)
    (λ same. inl (
      same,
      let q : Some a ≡ Some b = sym (get_here l i a c here)
          ∙ (ap (λ k. slice_get (slice_set l i a) k) (sym same) ∙ e) in cc,
    ))
    (λ ne. inr (ne, sym (get_else l i j a ne) ∙ e))
