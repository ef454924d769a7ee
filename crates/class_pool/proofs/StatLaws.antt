-- Counting zspages and their fullness groups, one zspage at a time.
use Rattle.std.proofs.Common.{◌≡◌, ℕ, ◌+◌, ◌<◌, ◌≤◌, List, Option, None, Some, true, false, length, take, get_or, slice_index, count_by, refl, sym, ◌∙◌, ap, inl, inr, arith}
use Rattle.std.proofs.Common.{get_or-set_same, get_or-set_other}
use Rattle.std.proofs.Math.ListN.{set}
use Rattle.std.proofs.lemmas.List.Sums.{count_by_more_yes, count_by_more_no}
use Rattle.std.proofs.lemmas.Bool.{cases_eq, eq-eqb, ne_eqb}
use Rattle.size_class.specs.Groups.{group_of}
use Rattle.zspage.specs.Cells.{used_of, entry}
use Rattle.class_pool.specs.Zspages.{Cells, used_in}
use Rattle.class_pool.specs.Pool.{is_in_group}

-- ---- what the count of used cells tells

pub there : (o : Option Cells) (used : ℕ) → used ≡ used_in o → 0 < used
    → (cells : Cells) × (o ≡ Some cells) × (used ≡ used_of cells)
there None used is some = absurd (omega arith)
there (Some cells) used is some = (cells, refl, is)

pub not_there : (o : Option Cells) (used : ℕ) → used ≡ used_in o → used ≤ 0
    → ((cells : Cells) → o ≡ Some cells
    → 1 ≤ used_of cells) → o ≡ None
not_there None used is none filled = refl
not_there (Some cells) used is none filled = absurd (omega (arith, filled cells refl))

-- ---- the counts of the groups

-- a zspage of a group adds one to its count
pub group_more : (per place i : ℕ) (zs : List (Option Cells)) (cells : Cells) (groups : List ℕ)
    → i < length zs → entry zs i ≡ Some cells → group_of (used_of cells) per ≡ place + 1
    → length groups ≡ 11
    → place < 11
    → ((g : ℕ) → g < 11 → slice_index groups g ≡ count_by (is_in_group per (g + 1)) (take i zs))
    → (g : ℕ) → g < 11
    → slice_index (set groups place (slice_index groups place + 1)) g ≡ count_by
    (is_in_group per (g + 1)) (take (i + 1) zs)
group_more per place i zs cells groups low at group long small so_far g few =
    elim (cases_eq g place) [
      | inl e ↦
          let yes : is_in_group per (g + 1) (get_or zs i None) ≡ true =
          ap (is_in_group per (g + 1)) at ∙ eq-eqb (group_of (used_of cells) per) (g + 1)
          (omega arith) in
          let within : place < length groups = omega arith in
          ap (λ n. slice_index (set groups place (slice_index groups place + 1)) n) e
          ∙ rw get_or-set_same
          (ap (λ n. slice_index groups n + 1) (sym e) ∙ ap (λ n. n + 1) (so_far g few)
          ∙ sym (count_by_more_yes (is_in_group per (g + 1)) zs i None low yes))
      | inr other ↦
          let no_match : is_in_group per (g + 1) (get_or zs i None) ≡ false =
          ap (is_in_group per (g + 1)) at
          ∙ ne_eqb (group_of (used_of cells) per) (g + 1) (λ e. other (omega arith)) in
          rw get_or-set_other (so_far g few
          ∙ sym (count_by_more_no (is_in_group per (g + 1)) zs i None low no_match))
    ]

-- an absent zspage is in no group
pub group_same : (per i : ℕ) (zs : List (Option Cells)) (groups : List ℕ)
    → i < length zs → entry zs i ≡ None
    → ((g : ℕ) → g < 11 → slice_index groups g ≡ count_by (is_in_group per (g + 1)) (take i zs))
    → (g : ℕ) → g < 11 → slice_index groups g ≡ count_by (is_in_group per (g + 1)) (take (i + 1) zs)
group_same per i zs groups low at so_far g few =
    let no_match : is_in_group per (g + 1) (get_or zs i None) ≡ false =
    ap (is_in_group per (g + 1)) at in
    so_far g few ∙ sym (count_by_more_no (is_in_group per (g + 1)) zs i None low no_match)
