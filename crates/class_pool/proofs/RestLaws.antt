-- How many objects may still move: fewer with each move, and none in the end.
use Rattle.std.proofs.Common.{◌≡◌, ◌≢◌, ℕ, zero, suc, ◌+◌, ◌-◌, ◌<◌, ◌≤◌, List, [], ◌∷◌, Option, None, Some, length, sum_by, refl, sym, ◌∙◌, ap, subst, inl, inr, arith}
use Rattle.std.specs.Prelude.{is_some}
use Rattle.std.proofs.Math.ListN.{set}
use Rattle.std.proofs.lemmas.Bool.{cases_eq, lt-ltb}
use Rattle.std.proofs.lemmas.Bool.Decides.{nat_tests}
use Rattle.std.proofs.lemmas.List.{length-map}
use Rattle.std.proofs.lemmas.List.Sums.{sum_by-cons, sum_by-set, get_or-le-sum_by, count_by-le-length}
use Rattle.zspage.specs.Cells.{used_of, home_of, entry}
use Rattle.zs_plan.specs.Plan.{IsDestination, IsPlan, HasNoPlan, GoesOn, HasPlanOrNone, PlansGoOn}
use Rattle.class_pool.specs.Zspages.{Cells, AreWhole, used_in}
use Rattle.class_pool.specs.Rows.{row_of, rows}
use Rattle.class_pool.specs.Pool.{PoolState, object_of, objects, used_cells, IsPool}
use Rattle.class_pool.specs.Moves.{Move, Moves}
use Rattle.class_pool.specs.Compaction.{home_in_partial, MayMove}
use Rattle.class_pool.proofs.Ranks.{entry_within}
use Rattle.class_pool.proofs.SumLaws.{in_zspage, sum_ones, sum_all, length_sum}
use Rattle.class_pool.proofs.UseLaws.{entry-set_same, entry-set_other}
use Rattle.class_pool.proofs.PlanLaws.{row_among, home_used, own_ids}
use Rattle.class_pool.proofs.PlannedLaws.{row_cells}
use Rattle.class_pool.proofs.SettledLaws.{Around, around, taker, home_in, same_some, Planned, planned, one_destination, went}

-- ---- objects at home in a zspage that is not full

pub partial_home : (per : ℕ) (cells : Cells) → used_of cells < per
    → home_in_partial per (Some cells) ≡ home_of cells
partial_home per cells less = grind (arith, nat_tests)

pub full_home : (per : ℕ) (cells : Cells) → used_of cells ≡ per
    → home_in_partial per (Some cells) ≡ 0
full_home per cells full = grind (arith, nat_tests)

home_most : (per : ℕ) (cells : Cells) → home_in_partial per (Some cells) ≤ home_of cells
home_most per cells = elim (cases_eq (used_of cells) per) [
  | inl full ↦ omega (arith, full_home per cells full)
  | inr other ↦ let is : home_in_partial per (Some cells) ≡ home_of cells =
      grind (arith, nat_tests) in omega arith
]

total_le : (per : ℕ) (zs : List (Option Cells))
    → sum_by (home_in_partial per) zs ≤ sum_by (in_zspage (λ u. 1)) zs
total_le per [] = omega arith
total_le per (None ∷ zs) =
    omega (
      arith,
      total_le per zs,
      sum_by-cons (home_in_partial per) None zs,
      sum_by-cons (in_zspage (λ u. 1)) None zs,
    )
total_le per (Some cells ∷ zs) =
    omega (
      arith,
      total_le per zs,
      sum_by-cons (home_in_partial per) (Some cells) zs,
      sum_by-cons (in_zspage (λ u. 1)) (Some cells) zs,
      home_most per cells,
      home_used cells,
      sum_ones cells,
    )

-- no more than the objects
pub total_most : (per : ℕ) (zs : List (Option Cells))
    → sum_by (home_in_partial per) zs ≤ length (used_cells zs)
total_most per zs = omega (arith, total_le per zs, length_sum (used_cells zs), sum_all (λ u. 1) zs)

-- the sum without one zspage
pub without : (f : Option Cells → ℕ) (zs : List (Option Cells)) (id : ℕ) (cells : Cells)
    → f None ≡ 0
    → entry zs id ≡ Some cells → sum_by f (set zs id None) + f (Some cells) ≡ sum_by f zs
without f zs id cells none at =
    omega (arith, sum_by-set f zs id None None (entry_within zs id cells at), ap f at, none)

pub all_zero : {A : Type 0} (f : Option A → ℕ) (xs : List (Option A))
    → ((k : ℕ) → f (entry xs k) ≡ 0) → sum_by f xs ≡ 0
all_zero f [] zeros = refl
all_zero f (x ∷ xs) zeros =
    omega (arith, sum_by-cons f x xs, zeros zero, all_zero f xs (λ k. zeros (suc k)))

-- no more than the sum
pub entry_le : (f : Option Cells → ℕ) (zs : List (Option Cells)) (k : ℕ) (cells : Cells)
    → entry zs k ≡ Some cells
    → f (Some cells) ≤ sum_by f zs
entry_le f zs k cells at =
    omega (arith, get_or-le-sum_by f zs k None (entry_within zs k cells at), ap f at)

-- ---- where there is no plan nothing may move

by_value : (n : ℕ) (P : Type 0) → (n ≡ 0 → P) → (1 ≤ n → P) → P
by_value zero P none some = none refl
by_value (suc n) P none some = some (omega arith)

alone_zero : (per id : ℕ) (zs : List (Option Cells)) → AreWhole per zs
    → ((k : ℕ) (cells : Cells) → k ≢ id → entry zs k ≡ Some cells → used_of cells < per
    → 1 ≤ home_of cells → ⊥)
    → (k : ℕ) (o : Option Cells) → entry (set zs id None) k ≡ o → k ≢ id → home_in_partial per o ≡ 0
alone_zero per id zs whole none k None at other = refl
alone_zero per id zs whole none k (Some cells) at other =
    by_value (home_in_partial per (Some cells)) (home_in_partial per (Some cells) ≡ 0) (λ e. e)
    (λ some.
    let here : entry zs k ≡ Some cells = sym (entry-set_other zs id k None other) ∙ at in
    let most : used_of cells ≤ length cells = count_by-le-length is_some cells in
    let part : used_of cells ≢ per = λ full. omega (arith, full_home per cells full) in
    absurd (none k cells other here (omega (arith, whole k cells here, part))
    (omega (arith, home_most per cells))))

pub rest_zero : (per id : ℕ) (zs : List (Option Cells)) → AreWhole per zs → id < length zs
    → ((k : ℕ) (cells : Cells) → k ≢ id → entry zs k ≡ Some cells → used_of cells < per
    → 1 ≤ home_of cells → ⊥)
    → sum_by (home_in_partial per) (set zs id None) ≡ 0
rest_zero per id zs whole low none =
    all_zero (home_in_partial per) (set zs id None) (λ k.
    elim (cases_eq k id) [
      | inl e ↦ ap (home_in_partial per) (ap (entry (set zs id None)) e
          ∙ entry-set_same zs id None low)
      | inr other ↦ alone_zero per id zs whole none k (entry (set zs id None) k) refl other
    ])

pub no_plan_rest : (p : PoolState) → IsPool p → HasNoPlan p.per (rows p.zspages) → MayMove p 0
no_plan_rest p pool none =
    elim none [
      | inl all ↦ inl (all, refl)
      | inr w ↦
          let zs : List (Option Cells) = p.zspages in
          let d = row_cells zs w.0 w.0.id w.1.among refl in
          let id : ℕ = w.0.id in
          let dest : IsDestination p.per (rows zs) (row_of id d.0) =
          subst (λ r. IsDestination p.per (rows zs) r) d.2 w.1 in
          let zeros = rest_zero p.per id zs pool.whole (entry_within zs id d.0 d.1)
          (λ k cells other at part some.
          w.2 (row_of k cells) (row_among k zs cells at) (
            (omega (arith, home_used cells), part),
            lt-ltb 0 (home_of cells) (omega arith),
            other,
          )) in
          inr (
            id,
            d.0,
            d.1,
            dest,
            omega (
              arith,
              zeros,
              without (home_in_partial p.per) zs id d.0 refl d.1,
              partial_home p.per d.0 dest.fits.1,
            ),
          )
    ]

-- ---- where there is a plan some object may move

-- source and destination count
pub two : (per : ℕ) (zs : List (Option Cells)) (m : Move) → Planned per zs m → m.from ≢ m.to
    → entry zs m.from ≡ Some m.source → entry zs m.to ≡ Some m.target
    → home_of m.source + home_of m.target ≤ sum_by (home_in_partial per) zs
two per zs m p apart from to =
    let kept : entry (set zs m.from None) m.to ≡ Some m.target =
    entry-set_other zs m.from m.to None (λ e. apart (sym e)) ∙ to in
    omega (
      arith,
      without (home_in_partial per) zs m.from m.source refl from,
      entry_le (home_in_partial per) (set zs m.from None) m.to m.target kept,
      partial_home per m.source p.source_part,
      partial_home per m.target p.target_part,
    )

-- the destination's objects are not counted
pub plan_rest : (p : PoolState) (from to : ℕ) → IsPlan p.per (rows p.zspages) from to
    → (n : ℕ) × MayMove p n × (n ≤ length (objects p))
plan_rest p from to plan =
    let zs : List (Option Cells) = p.zspages in
    let d = row_cells zs plan.destination.0 to plan.destination.1.among plan.destination.2 in
    let dest : IsDestination p.per (rows zs) (row_of to d.0) =
    subst (λ r. IsDestination p.per (rows zs) r) d.2 plan.destination.1 in
    let most = entry_le (home_in_partial p.per) zs to d.0 d.1 in
    let here = partial_home p.per d.0 dest.fits.1 in
    let n : ℕ = sum_by (home_in_partial p.per) zs - home_of d.0 in
    let is : n + home_of d.0 ≡ sum_by (home_in_partial p.per) zs = omega arith in (
      n,
      inr (to, d.0, d.1, dest, is),
      omega (arith, total_most p.per zs, length-map (used_cells zs) object_of),
    )

-- there is a plan, or there is none
pub some_rest : HasPlanOrNone → (p : PoolState) → IsPool p
    → (n : ℕ) × MayMove p n × (n ≤ length (objects p))
some_rest found p pool =
    elim (found p.per (rows p.zspages) (own_ids p.zspages)) [
      | inl none ↦ (0, no_plan_rest p pool none, omega arith)
      | inr w ↦ plan_rest p w.0 w.1 w.2
    ]

-- what may move beside the destination that the plan has
rest_is : (p : PoolState) (m : Move) (n : ℕ) → Planned p.per p.zspages m
    → entry p.zspages m.to ≡ Some m.target
    → MayMove p n → n + home_of m.target ≡ sum_by (home_in_partial p.per) p.zspages
rest_is p m n plan to may =
    elim may [
      | inl w ↦ absurd (w.0 (row_of m.to m.target) plan.destination.among plan.destination.fits)
      | inr w ↦
          let same : w.0 ≡ m.to =
          one_destination p.per (rows p.zspages) (row_of w.0 w.1) (row_of m.to m.target) w.3
          plan.destination in
          let one : w.1 ≡ m.target =
          same_some (entry p.zspages w.0) w.1 m.target w.2 (ap (entry p.zspages) same ∙ to) in
          omega (arith, w.4, ap home_of one)
    ]

-- the objects at home in zspages that are not full, after a move
total_after : (old new : PoolState) (m : Move) → Around old new m → Planned old.per old.zspages m
    → m.from ≢ m.to
    → entry old.zspages m.from ≡ Some m.source → entry old.zspages m.to ≡ Some m.target
    → sum_by (home_in_partial old.per) new.zspages + home_of m.target + 1
    ≡ sum_by (home_in_partial old.per) old.zspages + home_in_partial old.per (Some (taker m))
total_after old new m a p apart from to =
    let f : Option Cells → ℕ = home_in_partial old.per in
    let zs : List (Option Cells) = old.zspages in
    let mid : List (Option Cells) = set zs m.from a.left in
    let kept : entry mid m.to ≡ Some m.target =
    entry-set_other zs m.from m.to a.left (λ e. apart (sym e)) ∙ to in
    let left : f a.left + 1 ≡ home_of m.source = left_is a.left a.loses a.loses_home in
    omega (
      arith,
      left,
      sum_by-set f zs m.from a.left None (entry_within zs m.from m.source from),
      ap f from,
      partial_home old.per m.source p.source_part,
      sum_by-set f mid m.to (Some (taker m)) None (entry_within mid m.to m.target kept),
      ap f kept,
      partial_home old.per m.target p.target_part,
      ap (sum_by f) a.list,
    ) where
      left_is : (o : Option Cells) → used_in o + 1 ≡ used_of m.source
          → home_in o + 1 ≡ home_of m.source
          → home_in_partial old.per o + 1 ≡ home_of m.source
      left_is None used home = home
      left_is (Some cells) used home =
          omega (arith, home, partial_home old.per cells (omega (arith, used, p.source_part)))

pub fewer : (old new : PoolState) (m : Move) (frames n k : ℕ) → Moves old new m frames
    → IsPlan old.per (rows old.zspages) m.from m.to → GoesOn old.per (rows old.zspages) m.from m.to
    → MayMove old n → MayMove new k → k < n
fewer old new m frames n k moves plan goes before after =
    let a = around old new m frames moves in
    let p = planned old.per old.zspages m plan moves.leaves moves.comes in
    let was = rest_is old m n p moves.comes before in
    let some = two old.per old.zspages m p moves.apart moves.leaves moves.comes in
    let now = total_after old new m a p moves.apart moves.leaves moves.comes in
    let home : 1 ≤ home_of m.source = omega (arith, a.loses_home) in
    let per : sum_by (home_in_partial new.per) new.zspages ≡ sum_by (home_in_partial old.per)
    new.zspages =
    ap (λ j. sum_by (home_in_partial j) new.zspages) a.per_is in
    elim after [
      | inl w ↦ omega (arith, was, some, home, w.1)
      | inr w ↦
          elim (went old new m moves.leaves moves.comes moves.apart goes a) [
            | inl full ↦
                omega (arith, was, now, full_home old.per (taker m) (full ∙ a.per_is), w.4, per)
            | inr dest ↦
                let same : w.0 ≡ m.to =
                one_destination new.per (rows new.zspages) (row_of w.0 w.1) (row_of m.to (taker m))
                w.3 dest in
                let one : w.1 ≡ taker m =
                same_some (entry new.zspages w.0) w.1 (taker m) w.2 (ap (entry new.zspages) same
                ∙ a.to_is) in
                let part = partial_home old.per (taker m)
                (subst (λ j. used_of (taker m) < j) a.per_is dest.fits.1) in
                omega (arith, was, now, part, a.gains_home, w.4, per, ap home_of one)
          ]
    ]

pub fewer_by : PlansGoOn → (old new : PoolState) (m : Move) (frames n k : ℕ)
    → IsPlan old.per (rows old.zspages) m.from m.to → Moves old new m frames
    → MayMove old n → MayMove new k → k < n
fewer_by goes old new m frames n k plan moves =
    fewer old new m frames n k moves plan
    (goes old.per (rows old.zspages) m.from m.to (own_ids old.zspages) plan)

-- where nothing may move there is no plan
pub rest_no_plan : (p new : PoolState) (m : Move) (frames : ℕ) → Moves p new m frames
    → IsPlan p.per (rows p.zspages) m.from m.to → MayMove p 0 → ⊥
rest_no_plan p new m frames moves plan rest =
    let a = around p new m frames moves in
    let w = planned p.per p.zspages m plan moves.leaves moves.comes in
    omega (
      arith,
      rest_is p m 0 w moves.comes rest,
      two p.per p.zspages m w moves.apart moves.leaves moves.comes,
      a.loses_home,
    )
