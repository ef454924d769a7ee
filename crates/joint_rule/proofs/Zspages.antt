-- How many cells of each zspage of a pool are used: sums over them, and what is tight.
use Rattle.std.proofs.Common.{◌≡◌, ◌+◌, ◌-◌, ◌*◌, ◌≤◌, ◌<◌, ◌∷◌, ◌∙◌, ℕ, zero, suc, Bool, List, [], length, sum_by, Option, Some, None, cond, nat_lt, slice_set, refl, sym, ap, arith, inl, inr}
use Rattle.class_pool.specs.Endings.{IsTight, has_free}
use Rattle.class_pool.specs.Pool.{IsPlace, PoolState, used_cells, used_cells_in, with_cells}
use Rattle.class_pool.specs.Zspages.{Cells}
use Rattle.joint_rule.specs.Weights.{used_each}
use Rattle.plain_disk.specs.Compactions.{loose, with_free}
use Rattle.std.proofs.lemmas.Bool.{cases_Bool, cases_lt, le-leb, leb-true, lt-ltb}
use Rattle.std.proofs.lemmas.Grind.{div_ceil_times}
use Rattle.std.proofs.lemmas.List.Sums.{count_by-le-length, sum_by-append, sum_by-cons}
use Rattle.std.proofs.lemmas.Nat.{mul-le}
use Rattle.std.specs.Int.{div_ceil}
use Rattle.std.specs.List.{AllByRecursion}
use Rattle.std.specs.Prelude.{count_by, is_some, nat_le}
use Rattle.zspage.specs.Cells.{UsedCell, entry, used_of}

-- ---- sums

-- 1 for what is there
abbrev pub one_of : {A : Type 0} → Option A → ℕ
one_of o = cond (is_some o) 1 0

-- where each zspage has a used cell and so many cells
pub each_used : (per : ℕ) (zs : List (Option Cells))
    → ((k : ℕ) (cells : Cells) → entry zs k ≡ Some cells → 1 ≤ used_of cells)
    → ((k : ℕ) (cells : Cells) → entry zs k ≡ Some cells → length cells ≡ per)
    → AllByRecursion (λ n. (1 ≤ n) × (n ≤ per)) (used_each zs)
each_used per [] filled whole = tt
each_used per (None ∷ zs) filled whole = each_used per zs (λ k. filled (suc k)) (λ k. whole (suc k))
each_used per (Some cells ∷ zs) filled whole = (
  (
    filled 0 cells refl,
    (let l = count_by-le-length is_some cells in let w = whole 0 cells refl in
        omega arith),
  ),
  each_used per zs (λ k. filled (suc k)) (λ k. whole (suc k)),
)

pub ones_are : (f : UsedCell → ℕ) → ((u : UsedCell) → f u ≡ 1) → (cells : Cells)
    → sum_by f (used_cells_in cells) ≡ used_of cells
ones_are f e [] = refl
ones_are f e (None ∷ cells) = omega (
  arith,
  ones_are f e cells,
  sum_by-cons {X = Option UsedCell} one_of None cells,
)
ones_are f e (Some u ∷ cells) =
    omega (
      arith,
      ones_are f e cells,
      sum_by-cons f u (used_cells_in cells),
      e u,
      sum_by-cons one_of (Some u) cells,
    )

pub used_sum : (f : UsedCell → ℕ) → ((u : UsedCell) → f u ≡ 1) → (zs : List (Option Cells))
    → sum_by (λ n. n) (used_each zs) ≡ sum_by f (used_cells zs)
used_sum f e [] = refl
used_sum f e (None ∷ zs) = used_sum f e zs
used_sum f e (Some cells ∷ zs) =
    omega (
      arith,
      used_sum f e zs,
      sum_by-append f (used_cells_in cells) (used_cells zs),
      ones_are f e cells,
      sum_by-cons (λ n. n) (used_of cells) (used_each zs),
    )

pub used_length : (zs : List (Option Cells)) → length (used_each zs) ≡ used_of zs
used_length [] = refl
used_length (None ∷ zs) = omega (
  arith,
  used_length zs,
  sum_by-cons {X = Option Cells} one_of None zs,
)
used_length (Some cells ∷ zs) = omega (arith, used_length zs, sum_by-cons one_of (Some cells) zs)

-- ---- another use of a used cell

used_put : (cells : Cells) (ix : ℕ) (u v : UsedCell) → entry cells ix ≡ Some u
    → used_of (slice_set cells ix (Some v)) ≡ used_of cells
used_put [] ix u v at = refl
used_put (None ∷ cells) zero u v at = absurd (cc)
used_put (Some x ∷ cells) zero u v at =
    omega (arith, sum_by-cons one_of (Some x) cells, sum_by-cons one_of (Some v) cells)
used_put (None ∷ cells) (suc ix) u v at =
    omega (
      arith,
      used_put cells ix u v at,
      sum_by-cons {X = Option UsedCell} one_of None cells,
      sum_by-cons {X = Option UsedCell} one_of None (slice_set cells ix (Some v)),
    )
used_put (Some x ∷ cells) (suc ix) u v at =
    omega (
      arith,
      used_put cells ix u v at,
      sum_by-cons one_of (Some x) cells,
      sum_by-cons one_of (Some x) (slice_set cells ix (Some v)),
    )

used_set : (zs : List (Option Cells)) (id : ℕ) (old new : Cells) → entry zs id ≡ Some old
    → used_of new ≡ used_of old → used_each (slice_set zs id (Some new)) ≡ used_each zs
used_set [] id old new at same = absurd (cc)
used_set (None ∷ zs) zero old new at same = absurd (cc)
used_set (Some cells ∷ zs) zero old new at same =
    let is : cells ≡ old = cc in
    ap (λ (n : ℕ). n ∷ used_each zs) (same ∙ ap (λ (c : Cells). used_of c) (sym is))
used_set (None ∷ zs) (suc id) old new at same = used_set zs id old new at same
used_set (Some cells ∷ zs) (suc id) old new at same =
    ap (λ (ns : List ℕ). used_of cells ∷ ns) (used_set zs id old new at same)

pub used_with : (p q : PoolState) (handle id ix : ℕ) (cells : Cells) (u v : UsedCell)
    → IsPlace p handle id ix cells u → q ≡ with_cells p id (slice_set cells ix (Some v))
    → used_each q.zspages ≡ used_each p.zspages
used_with p q handle id ix cells u v at after =
    ap (λ (x : PoolState). used_each x.zspages) after
    ∙ used_set p.zspages id cells (slice_set cells ix (Some v)) at.zspage
    (used_put cells ix u v at.cell)

-- ---- zspages with a free cell

free_is : (per : ℕ) (zs : List (Option Cells))
    → with_free per (used_each zs) ≡ count_by (has_free per) zs
free_is per [] = refl
free_is per (None ∷ zs) = omega (
  arith,
  free_is per zs,
  sum_by-cons (λ (o : Option Cells). cond (has_free per o) 1 0) None zs,
)
free_is per (Some cells ∷ zs) =
    omega (
      arith,
      free_is per zs,
      sum_by-cons (λ (o : Option Cells). cond (has_free per o) 1 0) (Some cells) zs,
      sum_by-cons (λ (n : ℕ). cond (nat_lt n per) 1 0) (used_of cells) (used_each zs),
    )

pub loose_none : (per : ℕ) (used : List ℕ) → with_free per used ≤ 1 → loose per used ≡ 0
loose_none per used le = ap (λ (b : Bool). cond {A = ℕ} b 0 1) (le-leb (with_free per used) 1 le)

pub free_most : (per : ℕ) (used : List ℕ) → loose per used ≡ 0 → with_free per used ≤ 1
free_most per used e = elim (cases_Bool (nat_le (with_free per used) 1)) [
  | inl on ↦ leb-true (with_free per used) 1 on
  | inr off ↦ absurd (let z : loose per used ≡ 1 = ap (λ (b : Bool). cond {A = ℕ} b 0 1) off in
      let no : ⊥ = omega arith in no)
]

pub tight_none : (p : PoolState) → IsTight p → loose p.per (used_each p.zspages) ≡ 0
tight_none p t = loose_none p.per (used_each p.zspages)
    (let r = free_is p.per p.zspages in omega arith)

pub none_tight : (p : PoolState) → loose p.per (used_each p.zspages) ≡ 0 → IsTight p
none_tight p e = let r = free_is p.per p.zspages in
    let m = free_most p.per (used_each p.zspages) e in omega arith

-- where each zspage has a used cell
module _ (per : ℕ) where
  abbrev pub AreUsed : List ℕ → Type 0
  AreUsed used = AllByRecursion (λ n. (1 ≤ n) × (n ≤ per)) used

  -- 1 for a zspage with a free cell
  abbrev free_one : ℕ → ℕ
  free_one n = cond (nat_lt n per) 1 0

  free_few : (used : List ℕ) → AreUsed used → with_free per used ≤ sum_by (λ n. n) used
  free_few [] all = omega arith
  free_few (n ∷ ns) all =
      let r = free_few ns all.1 in let a = sum_by-cons free_one n ns in
      let b = sum_by-cons (λ m. m) n ns in let z = all.0.0 in
      elim (cases_Bool (nat_lt n per)) [
        | inl on ↦ let q : free_one n ≡ 1 = ap (λ (b : Bool). cond {A = ℕ} b 1 0) on in omega arith
        | inr off ↦ let q : free_one n ≡ 0 = ap (λ (b : Bool). cond {A = ℕ} b 1 0) off in
            omega arith
      ]

  -- a pool without objects is tight
  pub empty_none : (used : List ℕ) → AreUsed used → sum_by (λ n. n) used ≡ 0 → loose per used ≡ 0
  empty_none used all none =
      loose_none per used (let r = free_few used all in omega arith)

  abbrev free_cells : List ℕ → ℕ
  free_cells used = sum_by (λ n. per - n) used

  cells_all : (used : List ℕ) → AreUsed used
      → sum_by (λ n. n) used + free_cells used ≡ length used * per
  cells_all [] all = omega arith
  cells_all (n ∷ ns) all =
      let r = cells_all ns all.1 in let a = sum_by-cons (λ m. m) n ns in
      let b = sum_by-cons (λ m. per - m) n ns in let z = all.0.1 in
      let t : (length ns + 1) * per ≡ length ns * per + per = omega arith in
      let s : length (n ∷ ns) * per ≡ (length ns + 1) * per =
      ap (λ (i : ℕ). i * per) (let q : length (n ∷ ns) ≡ length ns + 1 = omega arith in q) in
      omega arith

  free_none : (used : List ℕ) → AreUsed used → with_free per used ≡ 0 → free_cells used ≡ 0
  free_none [] all e = refl
  free_none (n ∷ ns) all e =
      let a = sum_by-cons free_one n ns in let b = sum_by-cons (λ m. per - m) n ns in
      elim (cases_lt n per) [
        | inl less ↦ absurd (
            let q : free_one n ≡ 1 = ap (λ (b : Bool). cond {A = ℕ} b 1 0) (lt-ltb n per less) in
            let no : ⊥ = omega arith in no)
        | inr most ↦ let r = free_none ns all.1 (omega arith) in omega arith
      ]

  free_low : (used : List ℕ) → AreUsed used → 1 ≤ per → with_free per used ≤ 1
      → free_cells used < per
  free_low [] all some le = omega arith
  free_low (n ∷ ns) all some le =
      let a = sum_by-cons free_one n ns in let b = sum_by-cons (λ m. per - m) n ns in
      let z = all.0.0 in
      elim (cases_lt n per) [
        | inl less ↦
            let q : free_one n ≡ 1 = ap (λ (b : Bool). cond {A = ℕ} b 1 0) (lt-ltb n per less) in
            let r = free_none ns all.1 (omega arith) in omega arith
        | inr most ↦ let r = free_low ns all.1 some (omega arith) in omega arith
      ]

  -- two numbers of which the multiples are as near are the same
  same_times : (a b n : ℕ) → 1 ≤ per → n ≤ a * per → a * per < n + per → n ≤ b * per
      → b * per < n + per → a ≡ b
  same_times a b n some a_most a_less b_most b_less =
      elim (cases_lt a b) [
        | inl less ↦
            let more : (a + 1) * per ≤ b * per =
            mul-le (a + 1) per b per (omega arith) (omega arith) in
            absurd (omega (arith, more))
        | inr rest ↦ elim (cases_lt b a) [
          | inl less ↦
              let more : (b + 1) * per ≤ a * per =
              mul-le (b + 1) per a per (omega arith) (omega arith) in
              absurd (omega (arith, more))
          | inr most ↦ omega arith
        ]
      ]

  -- a tight pool has no more zspages than its objects need
  pub tight_least : (used : List ℕ) → AreUsed used → 1 ≤ per → with_free per used ≤ 1
      → length used ≡ div_ceil (sum_by (λ n. n) used) per
  tight_least used all some le =
      let n : ℕ = sum_by (λ n. n) used in
      let a = cells_all used all in let f = free_low used all some le in
      let b = div_ceil_times n per (omega arith) in
      same_times (length used) (div_ceil n per) n some (omega arith) (omega arith) b.0 b.1
