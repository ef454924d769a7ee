-- The classes of a compaction: the first one, and one after the other.
use Rattle.std.proofs.Common.{◌≡◌, ◌⊎◌, ℕ, zero, suc, ◌+◌, ◌-◌, ◌*◌, ◌/◌, ◌<◌, ◌≤◌, false, eqb, ltb, refl, ap, ◌∙◌, arith, inl, inr}
use Rattle.std.proofs.lemmas.Bool.{cases_Bool, and_parts, eqb-true}
use Rattle.size_class.specs.Classes.{waste, chain_of, per_of, shares_next, stands_below, stands_of}

some_frame : (m k : ℕ) → 1 ≤ chain_of m k
unfolding chain_of
some_frame zero k = omega arith
some_frame (suc m) k = elim (cases_Bool (ltb (waste (suc m) k) (waste (chain_of m k) k))) [
  | inl on ↦ rw on (omega arith)
  | inr off ↦ rw off (some_frame m k)
]

-- the cells of the first two classes are too different to be shared
first_alone : (m : ℕ) → shares_next m 0 ≡ false
first_alone m = elim (cases_Bool (shares_next m 0)) [
  | inl on ↦
      let both = and_parts (eqb (chain_of m 0) (chain_of m 1)) (eqb (per_of m 0) (per_of m 1)) on in
      let chains = eqb-true (chain_of m 0) (chain_of m 1) both.0 in
      let pers : chain_of m 0 * 4096 / 32 ≡ chain_of m 1 * 4096 / 48 =
      eqb-true (per_of m 0) (per_of m 1) both.1 in
      let some = some_frame m 0 in absurd (omega arith)
  | inr off ↦ off
]

-- a class stands for itself, or as the next one does
one_class : (m depth : ℕ) → (stands_below m (suc depth) ≡ stands_below m depth)
    ⊎ (stands_below m (suc depth) ≡ 253 - depth)
unfolding stands_below
one_class m depth = elim (cases_Bool (shares_next m (253 - depth))) [
  | inl on ↦ rw on (inl refl)
  | inr off ↦ rw off (inr refl)
]

pub first_stands : (m : ℕ) → stands_of m 0 ≡ 0
unfolding stands_below
first_stands m = rw (first_alone m) refl

step : (m k : ℕ) → k < 254 → (stands_of m k ≡ stands_of m (k + 1)) ⊎ (stands_of m k ≡ k)
step m k lt =
    let d : 254 - k ≡ suc (254 - (k + 1)) = omega arith in
    by_class (one_class m (254 - (k + 1))) d where
      by_class : (stands_below m (suc (254 - (k + 1))) ≡ stands_below m (254 - (k + 1)))
          ⊎ (stands_below m (suc (254 - (k + 1))) ≡ 253 - (254 - (k + 1)))
          → 254 - k ≡ suc (254 - (k + 1))
          → (stands_of m k ≡ stands_of m (k + 1)) ⊎ (stands_of m k ≡ k)
      by_class (inl e) d = inl (ap (stands_below m) d ∙ e)
      by_class (inr e) d =
          inr (ap (stands_below m) d ∙ e ∙ (let q : 253 - (254 - (k + 1)) ≡ k = omega arith in q))

-- a class below k that stands for itself, and after which k comes
abbrev pub Before : ℕ → ℕ → Type 0
Before m k = (j : ℕ) × (j < k) × (stands_of m j ≡ j) × (stands_of m (j + 1) ≡ k)

search_down : (m k j : ℕ) → j < k → k < 255 → stands_of m (j + 1) ≡ k → Before m k
search_down m k zero lt below e = (0, lt, first_stands m, e)
search_down m k (suc j) lt below e = by_step (step m (suc j) (omega arith))
    (search_down m k j (omega arith) below) where
      by_step : (stands_of m (suc j) ≡ stands_of m (suc j + 1)) ⊎ (stands_of m (suc j) ≡ suc j)
          → (stands_of m (j + 1) ≡ k → Before m k) → Before m k
      by_step (inl same) again =
          again (ap (stands_of m) (let q : j + 1 ≡ suc j = omega arith in q) ∙ same ∙ e)
      by_step (inr itself) again = (suc j, lt, itself, e)

pub before_it : (m k : ℕ) → 0 < k → k < 255 → stands_of m k ≡ k → Before m k
before_it m zero some below e = absurd (omega arith)
before_it m (suc k) some below e = search_down m (suc k) k (omega arith) below
    (ap (stands_of m) (let q : k + 1 ≡ suc k = omega arith in q) ∙ e)
