-- The used counts of zspages: their sum, their number, and those of a fullness group.
use Rattle.std.proofs.Common.{◌≡◌, ℕ, ◌+◌, cond, eqb, List, [], ◌∷◌, length, Option, Some, None, refl, sym, ap, ◌∙◌, arith, length-append}
use Rattle.std.specs.Prelude.{sum_by, count_by, is_some}
use Rattle.std.proofs.lemmas.List.Sums.{sum_by-cons}
use Rattle.std.proofs.lemmas.List.{length-map}
use Rattle.size_class.specs.Groups.{group_of}
use Rattle.zspage.specs.Cells.{used_of}
use Rattle.class_pool.specs.Zspages.{Cells}
use Rattle.class_pool.specs.Pool.{PoolState, used_cells_in, used_cells, object_of, objects, is_in_group}
use Rattle.joint_rule.specs.Weights.{used_each}

-- the used cells of a zspage are as many as its count
cells_length : (cells : Cells) → length (used_cells_in cells) ≡ used_of cells
cells_length [] = refl
cells_length (None ∷ cells) =
    let r = cells_length cells in
    let s = sum_by-cons (λ x. cond (is_some x) 1 0) None cells in omega arith
cells_length (Some u ∷ cells) =
    let r = cells_length cells in
    let s = sum_by-cons (λ x. cond (is_some x) 1 0) (Some u) cells in omega arith

-- the counts add up to the used cells
pub counts_sum : (zspages : List (Option Cells))
    → sum_by (λ n. n) (used_each zspages) ≡ length (used_cells zspages)
counts_sum [] = refl
counts_sum (None ∷ zspages) = counts_sum zspages
counts_sum (Some cells ∷ zspages) =
    let r = counts_sum zspages in let c = cells_length cells in
    let s = sum_by-cons (λ (n : ℕ). n) (used_of cells) (used_each zspages) in
    let a = length-append (used_cells_in cells) (used_cells zspages) in omega arith

-- there is one for each zspage
pub counts_length : (zspages : List (Option Cells))
    → length (used_each zspages) ≡ used_of zspages
counts_length [] = refl
counts_length (None ∷ zspages) =
    let r = counts_length zspages in
    let s = sum_by-cons (λ x. cond (is_some x) 1 0) None zspages in omega arith
counts_length (Some cells ∷ zspages) =
    let r = counts_length zspages in
    let s = sum_by-cons (λ x. cond (is_some x) 1 0) (Some cells) zspages in omega arith

-- those of a group are those of the zspages in it
pub counts_group : (per group : ℕ) (zspages : List (Option Cells))
    → count_by (λ u. eqb (group_of u per) group) (used_each zspages)
    ≡ count_by (is_in_group per group) zspages
counts_group per group [] = refl
counts_group per group (None ∷ zspages) =
    let r = counts_group per group zspages in
    let s = sum_by-cons (λ x. cond (is_in_group per group x) 1 0) None zspages in omega arith
counts_group per group (Some cells ∷ zspages) =
    sum_by-cons (λ u. cond (eqb (group_of u per) group) 1 0) (used_of cells) (used_each zspages)
    ∙ ap (λ (n : ℕ). cond (eqb (group_of (used_of cells) per) group) 1 0 + n)
    (counts_group per group zspages)
    ∙ sym (sum_by-cons (λ x. cond (is_in_group per group x) 1 0) (Some cells) zspages)

-- the objects of a pool are its used cells
pub objects_length : (p : PoolState) → length (objects p) ≡ length (used_cells p.zspages)
objects_length p = length-map (used_cells p.zspages) object_of
