-- What is at each place after one zspage changes.
use Rattle.std.proofs.Common.{◌≡◌, ◌≢◌, ℕ, zero, suc, ◌<◌, ◌≤◌, ◌⊎◌, List, [], ◌∷◌, Option, None, Some, cond, length, replicate, refl, sym, ◌∙◌, ap, inl, inr, arith, get_or-set_same, get_or-set_other, Contains}
use Rattle.std.proofs.Math.ListN.{set}
use Rattle.std.proofs.lemmas.Bool.{cases_eq}
use Rattle.std.specs.Prelude.{is_some}
use Rattle.std.proofs.lemmas.List.Sums.{sum_by-cons}
use Rattle.std.proofs.lemmas.List.Elements.{Contains-append_cases, Contains-append_left, Contains-append_right}
use Rattle.zspage.specs.Cells.{UsedCell, used_of, entry}
use Rattle.class_pool.specs.Zspages.{Cells, IsLeastAbsent, put_at, use_in, use_at}
use Rattle.class_pool.specs.Pool.{used_cells_in, used_cells}
use Rattle.class_pool.proofs.Ranks.{entry_within}

-- ---- entries after a change

pub entry-set_same : {A : Type 0} (xs : List (Option A)) (i : ℕ) (y : Option A) → i < length xs
    → entry (set xs i y) i ≡ y
entry-set_same xs i y low = rw get_or-set_same refl

pub entry-set_other : {A : Type 0} (xs : List (Option A)) (i j : ℕ) (y : Option A) → j ≢ i
    → entry (set xs i y) j ≡ entry xs j
entry-set_other xs i j y other = rw get_or-set_other refl

pub entry-put_same : {A : Type 0} (xs : List (Option A)) (i : ℕ) (y : Option A) → i ≤ length xs
    → entry (put_at xs i y) i ≡ y
entry-put_same [] zero y low = refl
entry-put_same [] (suc i) y low = absurd (omega arith)
entry-put_same (x ∷ xs) zero y low = refl
entry-put_same (x ∷ xs) (suc i) y low = entry-put_same xs i y (omega arith)

pub entry-put_other : {A : Type 0} (xs : List (Option A)) (i j : ℕ) (y : Option A) → i ≤ length xs
    → j ≢ i
    → entry (put_at xs i y) j ≡ entry xs j
entry-put_other [] zero zero y low other = absurd (other refl)
entry-put_other [] zero (suc j) y low other = refl
entry-put_other [] (suc i) j y low other = absurd (omega arith)
entry-put_other (x ∷ xs) zero zero y low other = absurd (other refl)
entry-put_other (x ∷ xs) zero (suc j) y low other = refl
entry-put_other (x ∷ xs) (suc i) zero y low other = refl
entry-put_other (x ∷ xs) (suc i) (suc j) y low other =
    entry-put_other xs i j y (omega arith) (λ e. other (ap suc e))

pub length-put : {A : Type 0} (xs : List A) (i : ℕ) (y : A) → i ≤ length xs
    → length xs ≤ length (put_at xs i y)
length-put [] i y low = omega arith
length-put (x ∷ xs) zero y low = omega arith
length-put (x ∷ xs) (suc i) y low = omega (arith, length-put xs i y (omega arith))

-- where one entry is there, the others are not
none_there : {A : Type 0} (xs : List (Option A)) (j : ℕ) → used_of xs ≡ 0 → entry xs j ≡ None
none_there [] j none = refl
none_there (None ∷ xs) zero none = refl
none_there (None ∷ xs) (suc j) none = none_there xs j none
none_there (Some x ∷ xs) j none = absurd
    (omega (arith, none, sum_by-cons (λ o. cond (is_some o) 1 0) (Some x) xs))

pub alone : {A : Type 0} (xs : List (Option A)) (i j : ℕ) (x : A) → used_of xs ≡ 1
    → entry xs i ≡ Some x → j ≢ i
    → entry xs j ≡ None
alone [] i j x one at other = refl
alone (None ∷ xs) zero j x one at other = absurd (cc)
alone (None ∷ xs) (suc i) zero x one at other = refl
alone (None ∷ xs) (suc i) (suc j) x one at other = alone xs i j x one at (λ e. other (ap suc e))
alone (Some y ∷ xs) zero zero x one at other = absurd (other refl)
alone (Some y ∷ xs) zero (suc j) x one at other =
    none_there xs j (omega (arith, one, sum_by-cons (λ o. cond (is_some o) 1 0) (Some y) xs))
alone (Some y ∷ xs) (suc i) j x one at other =
    let none = sum_by-cons (λ o. cond (is_some o) 1 0) (Some y) xs in
    absurd (cc (none_there xs i (omega (arith, one, none)), at))

pub entry-free : {A : Type 0} (n j : ℕ) → entry (replicate {A = Option A} n None) j ≡ None
entry-free zero j = refl
entry-free (suc n) zero = refl
entry-free (suc n) (suc j) = entry-free n j

-- ---- uses after a change

-- the cell at one place is used so, and the others as before
pub record Changes (old new : List (Option Cells)) (i j : ℕ) (o : Option UsedCell) : Type 0 where
  pub here : use_at new i j ≡ o
  pub others : (k l : ℕ) → (k ≡ i → l ≢ j) → use_at new k l ≡ use_at old k l

-- a use that is there is in a zspage that is there
pub use_there : (zs : List (Option Cells)) (i j : ℕ) (cells : Cells) → entry zs i ≡ Some cells
    → use_at zs i j ≡ entry cells j
use_there zs i j cells at = ap (λ z. use_in z j) at

pub changes_cell : (zs : List (Option Cells)) (i j : ℕ) (cells : Cells) (o : Option UsedCell)
    → entry zs i ≡ Some cells → j < length cells
    → Changes zs (set zs i (Some (set cells j o))) i j o
changes_cell zs i j cells o at low =
    let within : i < length zs = entry_within zs i cells at in
    record {
      here = ap (λ z. use_in z j) (entry-set_same zs i (Some (set cells j o)) within)
          ∙ entry-set_same cells j o low;
      others = λ k l apart.
          elim (cases_eq k i) [
            | inl e ↦
                ap (λ n. use_at (set zs i (Some (set cells j o))) n l) e
                ∙ ap (λ z. use_in z l) (entry-set_same zs i (Some (set cells j o)) within)
                ∙ entry-set_other cells j l o (apart e)
                ∙ sym (use_there zs i l cells at)
                ∙ ap (λ n. use_at zs n l) (sym e)
            | inr other ↦ ap (λ z. use_in z l) (entry-set_other zs i k (Some (set cells j o)) other)
          ];
    }

pub changes_gone : (zs : List (Option Cells)) (i j : ℕ) (cells : Cells) (u : UsedCell)
    → entry zs i ≡ Some cells → entry cells j ≡ Some u → used_of cells ≡ 1
    → Changes zs (set zs i None) i j None
changes_gone zs i j cells u at here one =
    let within : i < length zs = entry_within zs i cells at in
    record {
      here = ap (λ z. use_in z j) (entry-set_same zs i None within);
      others = λ k l apart.
          elim (cases_eq k i) [
            | inl e ↦
                ap (λ n. use_at (set zs i None) n l) e
                ∙ ap (λ z. use_in z l) (entry-set_same zs i None within)
                ∙ sym (alone cells j l u one here (apart e))
                ∙ sym (use_there zs i l cells at)
                ∙ ap (λ n. use_at zs n l) (sym e)
            | inr other ↦ ap (λ z. use_in z l) (entry-set_other zs i k None other)
          ];
    }

-- a new zspage uses no cell
pub use_at-put : (zs : List (Option Cells)) (i n k l : ℕ) → IsLeastAbsent zs i
    → use_at (put_at zs i (Some (replicate n None))) k l ≡ use_at zs k l
use_at-put zs i n k l least =
    elim (cases_eq k i) [
      | inl e ↦
          ap (λ m. use_at (put_at zs i (Some (replicate n None))) m l) e
          ∙ ap (λ z. use_in z l) (entry-put_same zs i (Some (replicate n None)) least.within)
          ∙ entry-free n l
          ∙ sym (ap (λ z. use_in z l) least.absent)
          ∙ ap (λ m. use_at zs m l) (sym e)
      | inr other ↦ ap (λ z. use_in z l) (entry-put_other zs i k (Some (replicate n None))
          least.within other)
    ]

-- ---- a used cell has a place

pub contains_cons : {A : Type 0} (x : A) (xs : List A) (y : A) → Contains (x ∷ xs) y → (x ≡ y)
    ⊎ Contains xs y
contains_cons x xs y (zero, low, at) = inl at
contains_cons x xs y (suc k, low, at) = inr (k, omega arith, at)

find_in : (cells : Cells) (u : UsedCell) → Contains (used_cells_in cells) u → (j : ℕ)
    × (entry cells j ≡ Some u)
find_in [] u (k, low, at) = absurd (omega arith)
find_in (None ∷ cells) u among =
    let rest : (j : ℕ) × (entry cells j ≡ Some u) = find_in cells u among in (suc rest.0, rest.1)
find_in (Some v ∷ cells) u among =
    elim (contains_cons v (used_cells_in cells) u among) [
      | inl e ↦ (0, ap (λ x. Some x) e)
      | inr later ↦ let rest : (j : ℕ) × (entry cells j ≡ Some u) = find_in cells u later in
          (suc rest.0, rest.1)
    ]

pub find_use : (zs : List (Option Cells)) (u : UsedCell) → Contains (used_cells zs) u
    → (i : ℕ) × (j : ℕ) × (use_at zs i j ≡ Some u)
find_use [] u (k, low, at) = absurd (omega arith)
find_use (None ∷ zs) u among =
    let rest : (i : ℕ) × (j : ℕ) × (use_at zs i j ≡ Some u) = find_use zs u among in
    (suc rest.0, rest.1, rest.2)
find_use (Some cells ∷ zs) u among =
    elim (Contains-append_cases (used_cells_in cells) (used_cells zs) u among) [
      | inl here ↦ let at : (j : ℕ) × (entry cells j ≡ Some u) = find_in cells u here in
          (0, at.0, at.1)
      | inr later ↦
          let rest : (i : ℕ) × (j : ℕ) × (use_at zs i j ≡ Some u) = find_use zs u later in
          (suc rest.0, rest.1, rest.2)
    ]

-- the zspage and the cell of a use
pub use_parts : (zs : List (Option Cells)) (i j : ℕ) (u : UsedCell) → use_at zs i j ≡ Some u
    → (cells : Cells) × (entry zs i ≡ Some cells) × (entry cells j ≡ Some u)
use_parts zs i j u at = parts_of (entry zs i) j u refl at where
  parts_of : (o : Option Cells) (j : ℕ) (u : UsedCell) → entry zs i ≡ o → use_in o j ≡ Some u
      → (cells : Cells) × (entry zs i ≡ Some cells) × (entry cells j ≡ Some u)
  parts_of None j u e at = absurd (cc)
  parts_of (Some cells) j u e at = (cells, e, at)

contains_in : (cells : Cells) (j : ℕ) (u : UsedCell) → entry cells j ≡ Some u
    → Contains (used_cells_in cells) u
contains_in [] j u at = absurd (cc)
contains_in (None ∷ cells) zero u at = absurd (cc)
contains_in (None ∷ cells) (suc j) u at = contains_in cells j u at
contains_in (Some v ∷ cells) zero u at = let is : v ≡ u = cc in (0, omega arith, is)
contains_in (Some v ∷ cells) (suc j) u at =
    let rest : Contains (used_cells_in cells) u = contains_in cells j u at in
    (suc rest.0, omega (arith, rest.1), rest.2)

pub contains_use : (zs : List (Option Cells)) (i j : ℕ) (u : UsedCell) → use_at zs i j ≡ Some u
    → Contains (used_cells zs) u
contains_use [] i j u at = absurd (cc)
contains_use (None ∷ zs) zero j u at = absurd (cc)
contains_use (None ∷ zs) (suc i) j u at = contains_use zs i j u at
contains_use (Some cells ∷ zs) zero j u at =
    Contains-append_left (used_cells_in cells) (used_cells zs) u (contains_in cells j u at)
contains_use (Some cells ∷ zs) (suc i) j u at =
    Contains-append_right (used_cells_in cells) (used_cells zs) u (contains_use zs i j u at)
