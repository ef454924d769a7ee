-- Where no object may move and none is out, there are as few zspages as can be.
use Rattle.std.proofs.Common.{◌≡◌, ◌≢◌, ◌⊎◌, ℕ, zero, suc, ◌+◌, ◌-◌, ◌*◌, ◌<◌, ◌≤◌, List, [], ◌∷◌, Option, None, Some, Bool, false, cond, length, sum_by, refl, sym, ◌∙◌, ap, inl, inr, arith}
use Rattle.std.specs.Prelude.{is_some}
use Rattle.std.specs.Int.{div_ceil}
use Rattle.std.proofs.Math.ListN.{set}
use Rattle.std.proofs.lemmas.Bool.{cases_eq, cases_lt, lt-ltb}
use Rattle.std.proofs.lemmas.Bool.Decides.{nat_tests}
use Rattle.std.proofs.lemmas.Grind.{div_ceil_times}
use Rattle.std.proofs.lemmas.Nat.{mul-le}
use Rattle.std.proofs.lemmas.List.{length-map}
use Rattle.std.proofs.lemmas.List.Sums.{sum_by-cons, count_by-le-length}
use Rattle.zspage.specs.Cells.{UsedCell, used_of, home_of, entry}
use Rattle.class_pool.specs.Zspages.{Cells, AreWhole}
use Rattle.zs_plan.specs.Plan.{IsPlan}
use Rattle.class_pool.specs.Rows.{row_of, rows}
use Rattle.class_pool.specs.Pool.{PoolState, object_of, objects, used_cells, IsPool}
use Rattle.class_pool.specs.Compaction.{home_in_partial, MayMove, IsNothingOut, IsLeast}
use Rattle.class_pool.specs.Endings.{has_free, IsTight}
use Rattle.class_pool.proofs.SumLaws.{one_of, in_zspage, sum_ones, sum_all, length_sum}
use Rattle.class_pool.proofs.UseLaws.{entry-set_same, entry-set_other, use_there, contains_use}
use Rattle.class_pool.proofs.PlanLaws.{row_among, one_small}
use Rattle.class_pool.proofs.PlannedLaws.{row_cells}
use Rattle.class_pool.proofs.SettledLaws.{one_home}
use Rattle.class_pool.proofs.RestLaws.{partial_home, without, all_zero, entry_le}
use Rattle.class_pool.proofs.Ranks.{entry_within}

-- ---- objects and free cells are the cells of all zspages

-- the free cells of a zspage
abbrev free_in : ℕ → Option Cells → ℕ
free_in per None = 0
free_in per (Some cells) = per - used_of cells

cells_all : (per : ℕ) (zs : List (Option Cells)) → AreWhole per zs
    → sum_by (in_zspage (λ u. 1)) zs + sum_by (free_in per) zs ≡ used_of zs * per
cells_all per [] whole = omega arith
cells_all per (None ∷ zs) whole =
    omega (
      arith,
      cells_all per zs (λ k. whole (suc k)),
      sum_by-cons (in_zspage (λ u. 1)) None zs,
      sum_by-cons (free_in per) None zs,
      sum_by-cons one_of None zs,
    )
cells_all per (Some cells ∷ zs) whole =
    let more : used_of (Some cells ∷ zs) ≡ used_of zs + 1 =
    omega (arith, sum_by-cons one_of (Some cells) zs) in
    let times : (used_of zs + 1) * per ≡ used_of zs * per + per = omega arith in
    let both = ap (λ n. n * per) more in
    omega (
      arith,
      cells_all per zs (λ k. whole (suc k)),
      sum_by-cons (in_zspage (λ u. 1)) (Some cells) zs,
      sum_by-cons (free_in per) (Some cells) zs,
      sum_ones cells,
      count_by-le-length is_some cells,
      whole zero cells refl,
      times,
      both,
    )

-- ---- with nothing out the used cells are at home

home_all : (cells : Cells) → ((j : ℕ) (u : UsedCell) → entry cells j ≡ Some u → u.out ≡ false)
    → home_of cells ≡ used_of cells
home_all [] home = refl
home_all (None ∷ cells) home =
    omega (
      arith,
      home_all cells (λ j. home (suc j)),
      sum_by-cons one_home None cells,
      sum_by-cons one_of None cells,
    )
home_all (Some u ∷ cells) home =
    omega (
      arith,
      home_all cells (λ j. home (suc j)),
      sum_by-cons one_home (Some u) cells,
      sum_by-cons one_of (Some u) cells,
      ap (λ b. one_home (Some (record u { out = b }))) (home zero u refl),
    )

all_in : (p : PoolState) (k : ℕ) (cells : Cells) → IsNothingOut p → entry p.zspages k ≡ Some cells
    → home_of cells ≡ used_of cells
all_in p k cells none at =
    home_all cells (λ j u here.
    none u (contains_use p.zspages k j u (use_there p.zspages k j cells at ∙ here)))

-- ---- at most one zspage has free cells

-- each zspage is full
abbrev AreFull : ℕ → List (Option Cells) → Type 0
AreFull per zs = (k : ℕ) (cells : Cells) → entry zs k ≡ Some cells → used_of cells ≡ per

full_zero : (f : Option Cells → ℕ) (per : ℕ) (zs : List (Option Cells)) → f None ≡ 0
    → ((cells : Cells) → used_of cells ≡ per → f (Some cells) ≡ 0) → AreFull per zs
    → sum_by f zs ≡ 0
full_zero f per zs none counts full = all_zero f zs (λ k. by_entry (entry zs k) (full k)) where
  by_entry : (o : Option Cells) → ((cells : Cells) → o ≡ Some cells → used_of cells ≡ per)
      → f o ≡ 0
  by_entry None full = none
  by_entry (Some cells) full = counts cells (full cells refl)

-- a zspage has a used cell, and no more than it has cells
fits : (p : PoolState) (k : ℕ) (cells : Cells) → IsPool p → entry p.zspages k ≡ Some cells
    → (1 ≤ used_of cells) × (used_of cells ≤ p.per)
fits p k cells pool at = (
  pool.filled k cells at,
  omega (arith, count_by-le-length is_some cells, pool.whole k cells at),
)

full_but_one : (p : PoolState) → IsPool p → IsNothingOut p → MayMove p 0
    → AreFull p.per p.zspages ⊎ ((id : ℕ) × (cells : Cells) × (entry p.zspages id ≡ Some cells)
    × AreFull p.per (set p.zspages id None))
full_but_one p pool none rest =
    let zs : List (Option Cells) = p.zspages in
    let per : ℕ = p.per in
    elim rest [
      | inl w ↦ inl (λ k cells at. elim (cases_lt (used_of cells) per) [
        | inl less ↦ absurd (w.0 (row_of k cells) (row_among k zs cells at)
            ((fits p k cells pool at).0, less))
        | inr most ↦ omega (arith, (fits p k cells pool at).1)
      ])
      | inr w ↦
          let zero_rest = without (home_in_partial per) zs w.0 w.1 refl w.2 in
          let here = partial_home per w.1 w.3.fits.1 in
          inr (
            w.0,
            w.1,
            w.2,
            λ k cells at. elim (cases_eq k w.0) [
              | inl e ↦
                  let gone = ap (entry (set zs w.0 None)) e
                  ∙ entry-set_same zs w.0 None (entry_within zs w.0 w.1 w.2) in
                  absurd (cc (gone, at))
              | inr other ↦
                  let was : entry zs k ≡ Some cells = sym (entry-set_other zs w.0 k None other)
                  ∙ at in
                  elim (cases_lt (used_of cells) per) [
                    | inl less ↦ absurd (omega (
                      arith,
                      zero_rest,
                      here,
                      w.4,
                      entry_le (home_in_partial per) (set zs w.0 None) k cells at,
                      partial_home per cells less,
                      all_in p k cells none was,
                      (fits p k cells pool was).0,
                    ))
                    | inr most ↦ omega (arith, (fits p k cells pool was).1)
                  ]
            ],
          )
    ]

few_free : (p : PoolState) → IsPool p → 1 ≤ p.per → IsNothingOut p → MayMove p 0
    → sum_by (free_in p.per) p.zspages < p.per
few_free p pool some none rest =
    let counts : (cells : Cells) → used_of cells ≡ p.per → free_in p.per (Some cells) ≡ 0 =
    λ cells full. omega (arith, full) in
    elim (full_but_one p pool none rest) [
      | inl full ↦ omega (arith, full_zero (free_in p.per) p.per p.zspages refl counts full)
      | inr w ↦ omega (
        arith,
        full_zero (free_in p.per) p.per (set p.zspages w.0 None) refl counts w.3,
        without (free_in p.per) p.zspages w.0 w.1 refl w.2,
        (fits p w.0 w.1 pool w.2).0,
      )
    ]

-- 1 for a zspage with a free cell
abbrev one_free : ℕ → Option Cells → ℕ
one_free per o = cond (has_free per o) 1 0

one_free_small : (per : ℕ) (o : Option Cells) → one_free per o ≤ 1
one_free_small per o = one_small (has_free per o)

pub tight_zspages : (p : PoolState) → IsPool p → MayMove p 0 → IsNothingOut p → IsTight p
tight_zspages p pool rest none =
    let counts : (cells : Cells) → used_of cells ≡ p.per → one_free p.per (Some cells) ≡ 0 =
    λ cells full. grind (arith, nat_tests) in
    elim (full_but_one p pool none rest) [
      | inl full ↦ omega (arith, full_zero (one_free p.per) p.per p.zspages refl counts full)
      | inr w ↦ omega (
        arith,
        full_zero (one_free p.per) p.per (set p.zspages w.0 None) refl counts w.3,
        without (one_free p.per) p.zspages w.0 w.1 refl w.2,
        one_free_small p.per (Some w.1),
      )
    ]

-- a plan has two zspages with a free cell
pub tight_no_plan : (p : PoolState) (from to : ℕ) → IsTight p
    → IsPlan p.per (rows p.zspages) from to → ⊥
tight_no_plan p from to tight plan =
    let zs : List (Option Cells) = p.zspages in
    let f : Option Cells → ℕ = one_free p.per in
    let s = row_cells zs plan.source.0 from plan.source.1.among plan.source.2 in
    let d = row_cells zs plan.destination.0 to plan.destination.1.among plan.destination.2 in
    let apart : to ≢ from = λ e. plan.source.1.fits.2 (plan.source.2 ∙ sym e) in
    let one : (cells : Cells) → used_of cells < p.per → f (Some cells) ≡ 1 =
    λ cells less. ap (λ (b : Bool). cond b 1 0) (lt-ltb (used_of cells) p.per less) in
    omega (
      arith,
      tight,
      without f zs from s.0 refl s.1,
      entry_le f (set zs from None) to d.0 (entry-set_other zs from to None apart ∙ d.1),
      one s.0 (omega (arith, ap (λ r. r.used) s.2, plan.source.1.fits.0.1)),
      one d.0 (omega (arith, ap (λ r. r.used) d.2, plan.destination.1.fits.1)),
    )

-- ---- the number of zspages

-- two numbers of which the multiples are as near are the same
same_times : (a b per n : ℕ) → 1 ≤ per → n ≤ a * per → a * per < n + per → n ≤ b * per
    → b * per < n + per → a ≡ b
same_times a b per n some a_most a_less b_most b_less =
    elim (cases_lt a b) [
      | inl less ↦
          let more : (a + 1) * per ≤ b * per =
          mul-le (a + 1) per b per (omega arith) (omega arith) in
          absurd (omega (arith, more))
      | inr rest ↦ elim (cases_lt b a) [
        | inl less ↦
            let more : (b + 1) * per ≤ a * per =
            mul-le (b + 1) per a per (omega arith) (omega arith) in
            absurd (omega (arith, more))
        | inr most ↦ omega arith
      ]
    ]

pub least_zspages : (p : PoolState) → IsPool p → 1 ≤ p.per → MayMove p 0 → IsNothingOut p
    → IsLeast p
least_zspages p pool some rest none =
    let n : ℕ = length (objects p) in
    let all = cells_all p.per p.zspages pool.whole in
    let few = few_free p pool some none rest in
    let count : n ≡ sum_by (in_zspage (λ u. 1)) p.zspages =
    length-map (used_cells p.zspages) object_of ∙ length_sum (used_cells p.zspages)
    ∙ sum_all (λ u. 1) p.zspages in
    let bounds = div_ceil_times n p.per (omega arith) in
    same_times (used_of p.zspages) (div_ceil n p.per) p.per n some (omega (arith, all, count))
    (omega (arith, all, count, few)) bounds.0 bounds.1

-- a pool whose zspages have no cells has none
no_cells : (p : PoolState) → IsPool p → p.per ≡ 0 → IsLeast p
no_cells p pool empty =
    let gone : (o : Option Cells) (k : ℕ) → entry p.zspages k ≡ o → one_of o ≡ 0 =
    λ o k. by_entry o k in
    let nothing : used_of p.zspages ≡ 0 =
    all_zero one_of p.zspages (λ k. gone (entry p.zspages k) k refl) in
    let all = cells_all p.per p.zspages pool.whole in
    let product = ap (λ n. n * p.per) nothing in
    let count : length (objects p) ≡ 0 = omega (
      arith,
      length-map (used_cells p.zspages) object_of,
      length_sum (used_cells p.zspages),
      sum_all (λ u. 1) p.zspages,
      all,
      product,
    ) in
    nothing ∙ (λ i. div_ceil (sym count i) (sym empty i)) where
      by_entry : (o : Option Cells) (k : ℕ) → entry p.zspages k ≡ o → one_of o ≡ 0
      by_entry None k at = refl
      by_entry (Some cells) k at = let f = fits p k cells pool at in absurd (omega (arith, f.0, f.1))

pub least_of_all : (p : PoolState) → IsPool p → MayMove p 0 → IsNothingOut p → IsLeast p
least_of_all p pool rest none = elim (cases_lt 0 p.per) [
  | inl some ↦ least_zspages p pool (omega (arith, some)) rest none
  | inr empty ↦ no_cells p pool (omega (arith, empty))
]
