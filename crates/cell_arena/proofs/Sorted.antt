-- The cells of a chain in any order, once they are sorted by their numbers.
use Rattle.std.proofs.Common.{◌≡◌, ℕ, zero, suc, ◌-◌, ◌<◌, ◌≤◌, ◌⊎◌, inl, inr, List, [], ◌∷◌, length, get_or, sym, ap, ◌∙◌, arith, min, nat_lt, if◌then◌else◌, subst}
use Rattle.std.specs.List.{All, sum_by}
use Rattle.std.specs.List.Sorted.{IsPermutation, IsNonDecreasingBy}
use Rattle.std.proofs.lemmas.List.{same_lists, get_or_append_left, get_or-append_right}
use Rattle.std.proofs.lemmas.List.Elements.{All-get_or, All-from_get_or}
use Rattle.std.proofs.lemmas.List.Sums.{sum_by-append, sum_by-cons}
use Rattle.std.proofs.lemmas.List.Sorted.{sum_by-IsPermutation, All-permutation, IsPermutation-sym, length_permutation, IsNonDecreasingBy-drop}
use denote.RawPtr.{Ptr}
use Rattle.cell_arena.specs.Chains.{CellState, cell_of, cells_of}
use Rattle.cell_arena.proofs.Cuts.{length-cells_of}

low_or_high : (a b : ℕ) → (a < b) ⊎ (b ≤ a)
low_or_high a b = grind arith

-- 1 for a cell whose number is below k
abbrev below : ℕ → CellState → ℕ
below k x = if nat_lt x.number k then 1 else 0

below_yes : (k : ℕ) (x : CellState) → x.number < k → below k x ≡ 1
below_yes k x lt = grind (arith, lt)

below_no : (k : ℕ) (x : CellState) → k ≤ x.number → below k x ≡ 0
below_no k x le = grind (arith, le)

abbrev counted : ℕ → List CellState → ℕ
counted k ys = sum_by (below k) ys

abbrev Sorted : List CellState → Type 0
Sorted ys = IsNonDecreasingBy (λ x. x.number) ys

tail_sorted : (y : CellState) (ys : List CellState) → Sorted (y ∷ ys) → Sorted ys
tail_sorted y ys up = IsNonDecreasingBy-drop (λ x. x.number) 1 (y ∷ ys) up

-- a number below k stands before the count of such numbers
place_low : (ys : List CellState) → Sorted ys → (i k : ℕ) (d : CellState) → i < length ys
    → (get_or ys i d).number < k → i < counted k ys
place_low [] up i k d lt low = omega arith
place_low (y ∷ ys) up zero k d lt low = omega (arith, sum_by-cons (below k) y ys, below_yes k y low)
place_low (y ∷ ys) up (suc i) k d lt low =
    let first : y.number ≤ (get_or ys i d).number = up 0 (suc i) d (omega arith) lt in
    omega (
      arith,
      sum_by-cons (below k) y ys,
      below_yes k y (omega arith),
      place_low ys (tail_sorted y ys up) i k d (omega arith) low,
    )

none : (y : CellState) (ys : List CellState) (k : ℕ) → Sorted (y ∷ ys) → k ≤ y.number
    → counted k (y ∷ ys) ≡ 0
none y [] k up high = omega (arith, sum_by-cons (below k) y [], below_no k y high)
none y (z ∷ ys) k up high =
    let next : y.number ≤ z.number = up 0 1 y (omega arith) (omega arith) in
    omega (
      arith,
      sum_by-cons (below k) y (z ∷ ys),
      below_no k y high,
      none z ys k (tail_sorted y (z ∷ ys) up) (omega arith),
    )

below_one : (k : ℕ) (x : CellState) → below k x ≤ 1
below_one k x = elim (low_or_high x.number k)
    [ inl lt ↦ omega (arith, below_yes k x lt) | inr le ↦ omega (arith, below_no k x le) ]

-- another one doesn't
place_high : (ys : List CellState) → Sorted ys → (i k : ℕ) (d : CellState) → i < length ys
    → k ≤ (get_or ys i d).number → counted k ys ≤ i
place_high [] up i k d lt high = omega arith
place_high (y ∷ ys) up zero k d lt high = omega (arith, none y ys k up high)
place_high (y ∷ ys) up (suc i) k d lt high =
    omega (
      arith,
      sum_by-cons (below k) y ys,
      below_one k y,
      place_high ys (tail_sorted y ys up) i k d (omega arith) high,
    )

module _ (c : Ptr) (s : ℕ) (bs : List ℕ) where
  counts : (k n : ℕ) → counted k (cells_of c s bs n) ≡ min k n
  counts k zero = omega arith
  counts k (suc n) =
      let x : CellState = cell_of c s bs n in
      let all = sum_by-append (below k) (cells_of c s bs n) (x ∷ []) in
      let one = sum_by-cons (below k) x [] in
      elim (low_or_high n k) [
        | inl lt ↦ omega (arith, all, one, below_yes k x lt, counts k n)
        | inr le ↦ omega (arith, all, one, below_no k x le, counts k n)
      ]

  pub get_or-cells_of : (n i : ℕ) (d : CellState) → i < n
      → get_or (cells_of c s bs n) i d ≡ cell_of c s bs i
  get_or-cells_of zero i d lt = absurd (omega (arith, lt))
  get_or-cells_of (suc n) i d lt =
      let long = length-cells_of c s bs n in let x : CellState = cell_of c s bs n in
      elim (low_or_high i n) [
        | inl less ↦ get_or_append_left (cells_of c s bs n) (x ∷ []) d i
            (omega (arith, long, less)) ∙ get_or-cells_of n i d less
        | inr le ↦
            let same : n ≡ i = omega (arith, lt, le) in
            subst (λ j. get_or (cells_of c s bs (suc n)) j d ≡ cell_of c s bs j) same
            (get_or-append_right (cells_of c s bs n) (x ∷ []) n n d long (omega arith)
            ∙ ap (λ j. get_or (x ∷ []) j d) {x = n - n} {y = 0} (omega arith))
      ]

  all_cells : (n : ℕ) → All (λ x. x ≡ cell_of c s bs x.number) (cells_of c s bs n)
  all_cells n = All-from_get_or (λ x. x ≡ cell_of c s bs x.number) (cells_of c s bs n)
      (cell_of c s bs 0) (λ i lt.
      let here = get_or-cells_of n i (cell_of c s bs 0)
      (omega (arith, lt, length-cells_of c s bs n)) in
      here ∙ sym (ap (λ (x : CellState). cell_of c s bs x.number) here))

  module _ (ys : List CellState) (n : ℕ) (moved : IsPermutation ys (cells_of c s bs n))
      (up : Sorted ys) where
    long : length ys ≡ n
    long = sym (length_permutation ys (cells_of c s bs n) moved) ∙ length-cells_of c s bs n

    count : (k : ℕ) → counted k ys ≡ min k n
    count k = sym (sum_by-IsPermutation (below k) ys (cells_of c s bs n) moved) ∙ counts k n

    at_place : (i : ℕ) (d : CellState) → i < length ys → (get_or ys i d).number ≡ i
    at_place i d lt =
        let m : ℕ = (get_or ys i d).number in
        elim (low_or_high m i) [
          | inl low ↦ omega (arith, place_low ys up i i d lt low, count i)
          | inr high ↦ elim (low_or_high i m) [
            | inl more ↦ omega (
              arith,
              place_high ys up i (suc i) d lt (omega (arith, more)),
              count (suc i),
              long,
              lt,
            )
            | inr less ↦ omega (arith, high, less)
          ]
        ]

    pub in_order : ys ≡ cells_of c s bs n
    in_order = same_lists ys (cells_of c s bs n) (long ∙ sym (length-cells_of c s bs n)) (λ k d lt.
        All-get_or (λ x. x ≡ cell_of c s bs x.number) ys k d lt
        (All-permutation (λ x. x ≡ cell_of c s bs x.number) (cells_of c s bs n) ys
        (IsPermutation-sym ys (cells_of c s bs n) moved) (all_cells n))
        ∙ ap (λ j. cell_of c s bs j) (at_place k d lt)
        ∙ sym (get_or-cells_of n k d (omega (arith, lt, long))))
