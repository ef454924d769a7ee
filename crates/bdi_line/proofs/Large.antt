-- Which values are large, by a test on lanes that wraps.
use Rattle.std.proofs.Common.{◌≡◌, ℕ, List, ◌∷◌, [], ◌+◌, ◌-◌, ◌*◌, ◌%◌, ◌≤◌, ◌<◌, length, refl, sym, ap, ◌∙◌, arith, leb, Bool, map, get_or, not, cond, ◌^◌, ◌⊎◌, inl, inr}
use Rattle.std.proofs.Math.Nat.{mod-eq_of_lt, mod-eq-sub-mod}
use Rattle.std.proofs.lemmas.Bool.Decides.{nat_tests}
use Rattle.std.proofs.lemmas.Bool.{cases_lt, cases_eq}
use Rattle.std.proofs.lemmas.Simd.{below_from_Fits, leading_from_mask_l, trailing_mask_l}
use Rattle.std.proofs.lemmas.List.{get_or_past}
use Rattle.std.specs.Int.Count.{count_trailing_zeros, trailing_of_zero}
use Rattle.std.specs.List.{prefix_len}
use Rattle.std.specs.Simd.Lanes.{Each1, mask_l, sel_l, zip2}
use Rattle.std.specs.Prelude.{replicate}
use mir.Syntax.{Width}
use mir.Val.{Fits, bits}
use Rattle.bdi_line.specs.Line.{is_large, base_of}
use Rattle.bdi_line.specs.Packed.{delta_of, marks_of}
use Rattle.bdi_line.proofs.Lanes.{sum_in, less_in, reach, reached_mask, lowered}

pub same_on : {A B : Type 0} (P : A → Type 0) (f g : A → B) (xs : List A) → Each1 P xs
    → ((x : A) → P x → f x ≡ g x) → map f xs ≡ map g xs
same_on P f g [] h e = refl
same_on P f g (x ∷ xs) h e = λ i. e x h.0 i ∷ same_on P f g xs h.1 e i

pub wrapped : (h m v : ℕ) → v < m → h ≤ m
    → ((v + h < m) × ((v + h) % m ≡ v + h)) ⊎ ((m ≤ v + h) × ((v + h) % m ≡ v + h - m))
wrapped h m v lt le = elim (cases_lt (v + h) m)
    as (λ _. ((v + h < m) × ((v + h) % m ≡ v + h)) ⊎ ((m ≤ v + h) × ((v + h) % m ≡ v + h - m))) [
      | inl a ↦ inl (a, mod-eq_of_lt a)
      | inr b ↦ inr (b, mod-eq-sub-mod b ∙ mod-eq_of_lt (omega arith))
    ]

pub large_by_lanes : (h q m v : ℕ) → 0 < h → q ≡ 2 * h → q ≤ m → v < m
    → leb q ((v + h) % m) ≡ is_large h m v
large_by_lanes h q m v pos e le lt =
    elim (wrapped h m v lt (omega arith)) as (λ _. leb q ((v + h) % m) ≡ is_large h m v) [
      | inl a ↦ rw a.1 (grind (arith, nat_tests))
      | inr b ↦ rw b.1 (grind (arith, nat_tests))
    ]

-- the lanes that reach twice the bound once it is added are the large ones
module _ (w : Width) (n h q : ℕ) (vs : List ℕ) (count : length vs ≡ n) (fit : Each1 (Fits w) vs)
    (pos : 0 < h) (twice : q ≡ 2 * h) (le : q ≤ 2 ^ bits w) where
  each_large : (B : Type 0) (f : Bool → ℕ → B)
      → map (λ v. f (leb q (sum_in w v h)) v) vs ≡ map (λ v. f (is_large h (2 ^ bits w) v) v) vs
  each_large B f =
      same_on (λ (v : ℕ). v < 2 ^ bits w) _ _ vs (below_from_Fits w vs fit)
      (λ v lt. ap (λ b. f b v) (large_by_lanes h q (2 ^ bits w) v pos twice le lt))

  pub marks_by_lanes : n ≤ 64 → mask_l (reach w n q (zip2 (sum_in w) vs (replicate n h))) % 2 ^ 64
      ≡ marks_of (is_large h (2 ^ bits w)) vs
  marks_by_lanes few =
      reached_mask w n h q vs count few ∙ ap mask_l (each_large Bool (λ b v. b))

  pub deltas_by_lanes : (b : ℕ)
      → sel_l (reach w n q (zip2 (sum_in w) vs (replicate n h))) (zip2 (less_in w) vs (replicate n b))
      vs
      ≡ map (delta_of h (2 ^ bits w) b) vs
  deltas_by_lanes b =
      lowered w n h q b vs count ∙ each_large ℕ (λ t v. cond t (less_in w v b) v)

-- the lane at the lowest mark is the first that passes p, and there is none where no bit is set
pub at_first : (p : ℕ → Bool) (xs : List ℕ) (marks : ℕ) → length xs ≤ 64
    → marks ≡ mask_l (map p xs) →
    get_or xs (count_trailing_zeros 64 marks) 0 ≡ get_or xs (prefix_len (λ x. not (p x)) xs) 0
at_first p xs marks le e = elim (cases_eq (mask_l (map p xs)) 0)
    as (λ _. get_or xs (count_trailing_zeros 64 marks) 0 ≡ get_or xs
    (prefix_len (λ x. not (p x)) xs)
    0) [
      | inl z ↦
          ap (λ k. get_or xs k 0) (ap (count_trailing_zeros 64) (e ∙ z) ∙ trailing_of_zero 64)
          ∙ get_or_past xs 64 0 le
          ∙ sym (get_or_past xs (prefix_len (λ x. not (p x)) xs) 0
          (omega (arith, leading_from_mask_l p xs z)))
      | inr nz ↦
          let pos : 0 < mask_l (map p xs) = omega (arith, nz) in
          ap (λ k. get_or xs k 0) (ap (count_trailing_zeros 64) e ∙ trailing_mask_l p 64 xs le pos)
    ]

pub base_at : (h m : ℕ) (xs : List ℕ) (marks : ℕ) → length xs ≤ 64
    → marks ≡ mask_l (map (is_large h m) xs)
    → get_or xs (count_trailing_zeros 64 marks) 0 ≡ base_of h m xs
unfolding base_of
base_at h m xs marks le e = at_first (is_large h m) xs marks le e
