-- Weights of used cells, added up over the zspages of a pool.
use Rattle.std.proofs.Common.{◌≡◌, ℕ, zero, suc, ◌+◌, ◌*◌, ◌<◌, ◌≤◌, List, [], ◌∷◌, ◌++◌, Option, None, Some, cond, length, map, replicate, sum_by, refl, sym, ◌∙◌, ap, arith}
use Rattle.std.specs.Prelude.{is_some}
use Rattle.std.proofs.Math.ListN.{set}
use Rattle.std.proofs.lemmas.List.{map-append}
use Rattle.std.proofs.lemmas.List.Sums.{sum_by-set, sum_by-append, sum_by-cons, count_by-le-length}
use Rattle.std.proofs.Math.Nat.{mul-suc}
use Rattle.zspage.specs.Cells.{UsedCell, used_of, entry}
use Rattle.class_pool.specs.Zspages.{Cells, HasRoom, IsLeastAbsent, put_at}
use Rattle.class_pool.specs.Pool.{Object, object_of, used_cells_in, used_cells, HasOneMore}
use Rattle.class_pool.proofs.Ranks.{entry_within}

-- ---- one zspage

abbrev pub at_use : (UsedCell → ℕ) → Option UsedCell → ℕ
at_use f None = 0
at_use f (Some u) = f u

abbrev pub in_zspage : (UsedCell → ℕ) → Option Cells → ℕ
in_zspage f None = 0
in_zspage f (Some cells) = sum_by (at_use f) cells

-- a weight of 1 for each entry that is there
abbrev pub one_of : {A : Type 0} → Option A → ℕ
one_of o = cond (is_some o) 1 0

sum_in : (f : UsedCell → ℕ) (cells : Cells)
    → sum_by f (used_cells_in cells) ≡ sum_by (at_use f) cells
sum_in f [] = refl
sum_in f (None ∷ cells) = let r = sum_in f cells in omega arith
sum_in f (Some u ∷ cells) =
    omega (
      arith,
      sum_in f cells,
      sum_by-cons f u (used_cells_in cells),
      sum_by-cons (at_use f) (Some u) cells,
    )

sum_none : (f : UsedCell → ℕ) (cells : Cells) → used_of cells ≡ 0 → sum_by (at_use f) cells ≡ 0
sum_none f [] none = refl
sum_none f (None ∷ cells) none = let r = sum_none f cells none in omega arith
sum_none f (Some u ∷ cells) none = absurd (omega (arith, none, sum_by-cons one_of (Some u) cells))

pub sum_ones : (cells : Cells) → sum_by (at_use (λ u. 1)) cells ≡ used_of cells
sum_ones [] = refl
sum_ones (None ∷ cells) = let r = sum_ones cells in omega arith
sum_ones (Some u ∷ cells) =
    omega (
      arith,
      sum_ones cells,
      sum_by-cons (at_use (λ x. 1)) (Some u) cells,
      sum_by-cons one_of (Some u) cells,
    )

-- the one used cell has the whole weight
sum_alone : (f : UsedCell → ℕ) (cells : Cells) (j : ℕ) (u : UsedCell) → entry cells j ≡ Some u
    → used_of cells ≡ 1
    → sum_by (at_use f) cells ≡ f u
sum_alone f cells j u at one =
    let low : j < length cells = entry_within cells j u at in
    let left = sum_by-set one_of cells j None None low in
    let was : one_of (entry cells j) ≡ 1 = ap one_of at in
    let nothing : sum_by (at_use f) (set cells j None) ≡ 0 =
    sum_none f (set cells j None) (omega (arith, left, was, one)) in
    let both : sum_by (at_use f) (set cells j None) + at_use f (entry cells j) ≡ sum_by (at_use f)
    cells + at_use f None =
    sum_by-set (at_use f) cells j None None low in
    let weight : at_use f (entry cells j) ≡ f u = ap (at_use f) at in
    omega arith

-- ---- all zspages

pub sum_all : (f : UsedCell → ℕ) (zs : List (Option Cells))
    → sum_by f (used_cells zs) ≡ sum_by (in_zspage f) zs
sum_all f [] = refl
sum_all f (None ∷ zs) = let r = sum_all f zs in omega arith
sum_all f (Some cells ∷ zs) =
    let r = sum_all f zs in
    let here = sum_in f cells in
    let both = sum_by-append f (used_cells_in cells) (used_cells zs) in
    omega (arith, r, here, both, sum_by-cons (in_zspage f) (Some cells) zs)

-- another use of one cell
pub sum_change : (f : UsedCell → ℕ) (zs : List (Option Cells)) (i j : ℕ) (cells : Cells)
    (o : Option UsedCell)
    → entry zs i ≡ Some cells → j < length cells
    → sum_by f (used_cells (set zs i (Some (set cells j o)))) + at_use f (entry cells j)
    ≡ sum_by f (used_cells zs) + at_use f o
sum_change f zs i j cells o at low =
    let within : i < length zs = entry_within zs i cells at in
    let outer : sum_by (in_zspage f) (set zs i (Some (set cells j o))) + in_zspage f (entry zs i)
    ≡ sum_by (in_zspage f) zs + sum_by (at_use f) (set cells j o) =
    sum_by-set (in_zspage f) zs i (Some (set cells j o)) None within in
    let was : in_zspage f (entry zs i) ≡ sum_by (at_use f) cells = ap (in_zspage f) at in
    let inner : sum_by (at_use f) (set cells j o) + at_use f (entry cells j) ≡ sum_by (at_use f)
    cells + at_use f o =
    sum_by-set (at_use f) cells j o None low in
    let before = sum_all f zs in
    let after = sum_all f (set zs i (Some (set cells j o))) in
    omega arith

-- the last used cell of a zspage goes with it
pub sum_gone : (f : UsedCell → ℕ) (zs : List (Option Cells)) (i j : ℕ) (cells : Cells)
    (u : UsedCell)
    → entry zs i ≡ Some cells → entry cells j ≡ Some u → used_of cells ≡ 1
    → sum_by f (used_cells zs) ≡ sum_by f (used_cells (set zs i None)) + f u
sum_gone f zs i j cells u at here one =
    let within : i < length zs = entry_within zs i cells at in
    let outer : sum_by (in_zspage f) (set zs i None) + in_zspage f (entry zs i) ≡ sum_by
    (in_zspage f) zs + in_zspage f None =
    sum_by-set (in_zspage f) zs i None None within in
    let was : in_zspage f (entry zs i) ≡ f u = ap (in_zspage f) at
    ∙ sum_alone f cells j u here one in
    let before = sum_all f zs in
    let after = sum_all f (set zs i None) in
    omega arith

-- a new zspage uses no cell
used_cells_in-free : (n : ℕ) → used_cells_in (replicate n None) ≡ []
used_cells_in-free zero = refl
used_cells_in-free (suc n) = used_cells_in-free n

pub used_cells-put : (zs : List (Option Cells)) (i n : ℕ) → i ≤ length zs → entry zs i ≡ None
    → used_cells (put_at zs i (Some (replicate n None))) ≡ used_cells zs
used_cells-put [] zero n low none = ap (λ us. us ++ []) (used_cells_in-free n)
used_cells-put [] (suc i) n low none = absurd (omega arith)
used_cells-put (None ∷ zs) zero n low none = ap (λ us. us ++ used_cells zs) (used_cells_in-free n)
used_cells-put (Some cells ∷ zs) zero n low none = absurd (cc)
used_cells-put (None ∷ zs) (suc i) n low none = used_cells-put zs i n (omega arith) none
used_cells-put (Some cells ∷ zs) (suc i) n low none =
    ap (λ us. used_cells_in cells ++ us) (used_cells-put zs i n (omega arith) none)

-- ---- counts

pub length_sum : {A : Type 0} (xs : List A) → length xs ≡ sum_by (λ x. 1) xs
length_sum [] = refl
length_sum {A} (x ∷ xs) = omega (arith, length_sum xs, sum_by-cons {X = A} (λ y. 1) x xs)

-- ---- lists of objects

pub sum_map : (f : Object → ℕ) (us : List UsedCell)
    → sum_by f (map object_of us) ≡ sum_by (λ u. f (object_of u)) us
sum_map f [] = refl
sum_map f (u ∷ us) =
    omega (
      arith,
      sum_map f us,
      sum_by-cons f (object_of u) (map object_of us),
      sum_by-cons (λ v. f (object_of v)) u us,
    )

-- one more used cell is one more object
pub object_more : (us vs : List UsedCell) (u : UsedCell) → HasOneMore us vs u
    → HasOneMore (map object_of us) (map object_of vs) (object_of u)
object_more us vs u more f =
    let a = sum_map f us in
    let b = sum_map f vs in
    let c = more (λ x. f (object_of x)) in
    omega arith

keep_in : (cells : Cells) (j : ℕ) (u v : UsedCell) → entry cells j ≡ Some u
    → object_of v ≡ object_of u
    → map object_of (used_cells_in (set cells j (Some v))) ≡ map object_of (used_cells_in cells)
keep_in [] j u v at same = refl
keep_in (None ∷ cells) zero u v at same = absurd (cc)
keep_in (None ∷ cells) (suc j) u v at same = keep_in cells j u v at same
keep_in (Some w ∷ cells) zero u v at same =
    let is : w ≡ u = cc in
    ap (λ o. o ∷ map object_of (used_cells_in cells)) (same ∙ ap object_of (sym is))
keep_in (Some w ∷ cells) (suc j) u v at same =
    ap (λ os. object_of w ∷ os) (keep_in cells j u v at same)

keep_zspage : (zs : List (Option Cells)) (i : ℕ) (cells new : Cells) → entry zs i ≡ Some cells
    → map object_of (used_cells_in new) ≡ map object_of (used_cells_in cells)
    → map object_of (used_cells (set zs i (Some new))) ≡ map object_of (used_cells zs)
keep_zspage [] i cells new at same = refl
keep_zspage (None ∷ zs) zero cells new at same = absurd (cc)
keep_zspage (None ∷ zs) (suc i) cells new at same = keep_zspage zs i cells new at same
keep_zspage (Some old ∷ zs) zero cells new at same =
    let is : old ≡ cells = cc in
    map-append object_of (used_cells_in new) (used_cells zs)
    ∙ ap (λ os. os ++ map object_of (used_cells zs)) (same
    ∙ ap (λ cs. map object_of (used_cells_in cs)) (sym is))
    ∙ sym (map-append object_of (used_cells_in old) (used_cells zs))
keep_zspage (Some old ∷ zs) (suc i) cells new at same =
    map-append object_of (used_cells_in old) (used_cells (set zs i (Some new)))
    ∙ ap (λ os. map object_of (used_cells_in old) ++ os) (keep_zspage zs i cells new at same)
    ∙ sym (map-append object_of (used_cells_in old) (used_cells zs))

-- a cell that goes out or comes back leaves the list of objects
pub objects_keep : (zs : List (Option Cells)) (i j : ℕ) (cells : Cells) (u v : UsedCell)
    → entry zs i ≡ Some cells → entry cells j ≡ Some u → object_of v ≡ object_of u
    → map object_of (used_cells (set zs i (Some (set cells j (Some v))))) ≡ map object_of
    (used_cells zs)
objects_keep zs i j cells u v at here same =
    keep_zspage zs i cells (set cells j (Some v)) at (keep_in cells j u v here same)

-- ---- room for a handle

most_in : (per : ℕ) (o : Option Cells) → ((cells : Cells) → o ≡ Some cells → length cells ≡ per)
    → in_zspage (λ u. 1) o ≤ per
most_in per None whole = omega arith
most_in per (Some cells) whole = omega
    (arith, sum_ones cells, count_by-le-length is_some cells, whole cells refl)

less_in : (per : ℕ) (o : Option Cells) → ((cells : Cells) → o ≡ Some cells → length cells ≡ per)
    → HasRoom o
    → in_zspage (λ u. 1) o < per
less_in per None whole room = absurd room
less_in per (Some cells) whole room = omega (arith, sum_ones cells, whole cells refl)

most_all : (per : ℕ) (zs : List (Option Cells)) → ((k : ℕ) (cells : Cells) → entry zs k ≡ Some cells
    → length cells ≡ per)
    → sum_by (in_zspage (λ u. 1)) zs ≤ per * length zs
most_all per [] whole = omega arith
most_all per (o ∷ zs) whole =
    let rest : sum_by (in_zspage (λ u. 1)) zs ≤ per * length zs =
    most_all per zs (λ k. whole (suc k)) in
    let here : in_zspage (λ u. 1) o ≤ per = most_in per o (whole zero) in
    omega (arith, rest, here, sum_by-cons (in_zspage (λ u. 1)) o zs, mul-suc per (length zs))

less_all : (per k : ℕ) (zs : List (Option Cells))
    → ((k : ℕ) (cells : Cells) → entry zs k ≡ Some cells
    → length cells ≡ per)
    → HasRoom (entry zs k) → sum_by (in_zspage (λ u. 1)) zs < per * length zs
less_all per k [] whole room = absurd room
less_all per zero (o ∷ zs) whole room =
    let rest : sum_by (in_zspage (λ u. 1)) zs ≤ per * length zs =
    most_all per zs (λ k. whole (suc k)) in
    let here : in_zspage (λ u. 1) o < per = less_in per o (whole zero) room in
    omega (arith, rest, here, sum_by-cons (in_zspage (λ u. 1)) o zs, mul-suc per (length zs))
less_all per (suc k) (o ∷ zs) whole room =
    let rest : sum_by (in_zspage (λ u. 1)) zs < per * length zs =
    less_all per k zs (λ n. whole (suc n)) room in
    let here : in_zspage (λ u. 1) o ≤ per = most_in per o (whole zero) in
    omega (arith, rest, here, sum_by-cons (in_zspage (λ u. 1)) o zs, mul-suc per (length zs))

-- with a free cell there are fewer objects than cells
pub fewer : (per k : ℕ) (zs : List (Option Cells))
    → ((k : ℕ) (cells : Cells) → entry zs k ≡ Some cells
    → length cells ≡ per)
    → HasRoom (entry zs k) → length (used_cells zs) < per * length zs
fewer per k zs whole room =
    omega (arith, length_sum (used_cells zs), sum_all (λ u. 1) zs, less_all per k zs whole room)

-- each zspage below the least absent id has an object
filled_in : (o : Option Cells) (cells : Cells) → o ≡ Some cells → ((cells : Cells) → o ≡ Some cells
    → 1 ≤ used_of cells)
    → 1 ≤ in_zspage (λ u. 1) o
filled_in None cells is filled = absurd (cc)
filled_in (Some all) cells is filled = omega (arith, sum_ones all, filled all refl)

filled_below : (zs : List (Option Cells)) (id : ℕ) → ((k : ℕ) → k < id
    → (cells : Cells) × (entry zs k ≡ Some cells))
    → ((k : ℕ) (cells : Cells) → entry zs k ≡ Some cells → 1 ≤ used_of cells)
    → id ≤ sum_by (in_zspage (λ u. 1)) zs
filled_below zs zero there filled = omega arith
filled_below [] (suc id) there filled = let first : (cells : Cells)
    × (None ≡ Some cells) = there zero (omega arith) in absurd (cc (first.1))
filled_below (o ∷ zs) (suc id) there filled =
    let first : (cells : Cells) × (o ≡ Some cells) = there zero (omega arith) in
    let here : 1 ≤ in_zspage (λ u. 1) o = filled_in o first.0 first.1 (filled zero) in
    let rest : id ≤ sum_by (in_zspage (λ u. 1)) zs =
    filled_below zs id (λ k low. there (suc k) (omega arith)) (λ k. filled (suc k)) in
    omega (arith, rest, here, sum_by-cons (in_zspage (λ u. 1)) o zs)

pub least_few : (zs : List (Option Cells)) (id : ℕ) → IsLeastAbsent zs id
    → ((k : ℕ) (cells : Cells) → entry zs k ≡ Some cells → 1 ≤ used_of cells)
    → id ≤ length (used_cells zs)
least_few zs id least filled =
    omega (
      arith,
      length_sum (used_cells zs),
      sum_all (λ u. 1) zs,
      filled_below zs id least.least filled,
    )
