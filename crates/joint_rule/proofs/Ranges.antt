-- Sums over ranges of numbers and over rows.
use Rattle.std.proofs.Common.{◌≡◌, ◌≢◌, ◌+◌, ◌≤◌, ◌<◌, ◌∷◌, ◌∙◌, ℕ, zero, suc, List, [], map, length, sum_by, Option, None, get_or, refl, sym, ap, arith, inl, inr, zero-add}
use Rattle.joint_rule.specs.Weights.{behind}
use Rattle.lock_row.specs.Totals.{by_option, row_sum}
use Rattle.std.proofs.lemmas.Bool.{cases_eq}
use Rattle.std.proofs.lemmas.List.Sums.{sum_by-cons}
use Rattle.std.specs.List.{range_with_len}

-- the sum of G over n numbers from a on
abbrev pub range_sum : (ℕ → ℕ) → ℕ → ℕ → ℕ
range_sum G a zero = 0
range_sum G a (suc n) = G a + range_sum G (a + 1) n

pub range_same : (F G : ℕ → ℕ) (a n : ℕ) → ((i : ℕ) → a ≤ i → i < a + n → F i ≡ G i)
    → range_sum F a n ≡ range_sum G a n
range_same F G a zero h = refl
range_same F G a (suc n) h = λ i. h a (omega arith) (omega arith) i + range_same F G (a + 1) n
    (λ j le lt. h j (omega arith) (omega arith)) i

pub range_none : (G : ℕ → ℕ) (a n : ℕ) → ((i : ℕ) → a ≤ i → i < a + n → G i ≡ 0)
    → range_sum G a n ≡ 0
range_none G a zero h = refl
range_none G a (suc n) h = let x = h a (omega arith) (omega arith) in
    let y = range_none G (a + 1) n (λ j le lt. h j (omega arith) (omega arith)) in omega arith

pub range_split : (G : ℕ → ℕ) (a m n : ℕ) → range_sum G a (m + n)
    ≡ range_sum G a m + range_sum G (a + m) n
range_split G a zero n =
    let x = ap (range_sum G a) (zero-add n) in
    let z = ap (λ (b : ℕ). range_sum G b n) (let q : a ≡ a + 0 = omega arith in q) in omega arith
range_split G a (suc m) n =
    let x = ap (range_sum G a) (let q : suc m + n ≡ suc (m + n) = omega arith in q) in
    let y = range_split G (a + 1) m n in
    let z = ap (λ (b : ℕ). range_sum G b n) (let q : a + 1 + m ≡ a + suc m = omega arith in q) in
    omega arith

range_next : (G : ℕ → ℕ) (a n : ℕ) → range_sum G (a + 1) n ≡ range_sum (λ i. G (suc i)) a n
range_next G a zero = refl
range_next G a (suc n) = λ i. G ((let q : a + 1 ≡ suc a = omega arith in q) i) + range_next G
    (a + 1) n i

pub range_shift : (G : ℕ → ℕ) (b a n : ℕ) → range_sum G (b + a) n ≡ range_sum (λ i. G (b + i)) a n
range_shift G b a zero = refl
range_shift G b a (suc n) = λ i. G (b + a) + (ap (λ (x : ℕ). range_sum G x n)
    (let q : b + a + 1 ≡ b + (a + 1) = omega arith in q) ∙ range_shift G b (a + 1) n) i

-- where G is none but at one place
pub range_lone : (G : ℕ → ℕ) (k a n : ℕ) → a ≤ k → k < a + n → ((i : ℕ) → i ≢ k → G i ≡ 0)
    → range_sum G a n ≡ G k
range_lone G k a zero le lt h = absurd (omega arith)
range_lone G k a (suc n) le lt h = elim (cases_eq a k) [
  | inl e ↦ let x = range_none G (a + 1) n (λ i le lt. h i
      (λ s. absurd (let none : ⊥ = omega arith in none))) in
      let y : G a ≡ G k = ap G e in omega arith
  | inr ne ↦ let x = h a ne in let y = range_lone G k (a + 1) n (let d : a < k = omega arith in
      omega arith) (omega arith) h in omega arith
]

pub range_by : (f : ℕ → ℕ) (a n : ℕ) → sum_by f (range_with_len a n) ≡ range_sum f a n
range_by f a zero = refl
range_by f a (suc n) = sum_by-cons f a (range_with_len (a + 1) n)
    ∙ ap (λ (x : ℕ). f a + x) (range_by f (a + 1) n)

pub range_map : {A : Type 0} (g : A → ℕ) (f : ℕ → A) (a n : ℕ)
    → sum_by g (map f (range_with_len a n)) ≡ range_sum (λ i. g (f i)) a n
range_map g f a zero = refl
range_map g f a (suc n) = sum_by-cons g (f a) (map f (range_with_len (a + 1) n))
    ∙ ap (λ (x : ℕ). g (f a) + x) (range_map g f (a + 1) n)

module _ {V : Type 0} where
  -- what the value at a place weighs
  abbrev pub weight_at : (ℕ → V → ℕ) → List (Option V) → ℕ → ℕ
  weight_at f row i = by_option (f i) (get_or row i None)

  row_from : (f : ℕ → V → ℕ) (row : List (Option V)) → row_sum f row
      ≡ range_sum (weight_at f row) 0 (length row)
  row_from f [] = refl
  row_from f (x ∷ xs) = ap (λ (n : ℕ). by_option (f 0) x + n) (row_from (λ j. f (suc j)) xs
      ∙ sym (range_next (weight_at f (x ∷ xs)) 0 (length xs)))

  -- A row of which only n places from a on weigh something: there the value at place a + i weighs G
  -- i.
  pub row_part : (f : ℕ → V → ℕ) (G : ℕ → ℕ) (row : List (Option V)) (a n b : ℕ)
      → length row ≡ a + n + b
      → ((i : ℕ) → i < a → weight_at f row i ≡ 0) → ((i : ℕ) → i < n
      → weight_at f row (a + i) ≡ G i)
      → ((i : ℕ) → i < b → weight_at f row (a + n + i) ≡ 0) → row_sum f row ≡ range_sum G 0 n
  row_part f G row a n b e before here behind =
      let x = row_from f row ∙ ap (range_sum (weight_at f row) 0) e in
      let y = range_split (weight_at f row) 0 (a + n) b in
      let z = range_split (weight_at f row) 0 a n in
      let u = range_none (weight_at f row) 0 a (λ i le lt. before i (omega arith)) in
      let v = ap (λ (s : ℕ). range_sum (weight_at f row) s n)
      (let q : 0 + a ≡ a + 0 = omega arith in q)
      ∙ range_shift (weight_at f row) a 0 n ∙ range_same (λ i. weight_at f row (a + i)) G 0 n
      (λ i le lt. here i (omega arith)) in
      let w = ap (λ (s : ℕ). range_sum (weight_at f row) s b)
      (let q : 0 + (a + n) ≡ a + n + 0 = omega arith in q)
      ∙ range_shift (weight_at f row) (a + n) 0 b ∙ range_none
      (λ i. weight_at f row (a + n + i)) 0 b (λ i le lt. behind i (omega arith)) in
      omega arith
