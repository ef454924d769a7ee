-- The rows of a pool's zspages, and the best of them by the winners of the ranks.
use Rattle.std.proofs.Common.{◌≡◌, ◌≢◌, ℕ, zero, suc, ◌+◌, ◌-◌, ◌<◌, ◌≤◌, List, [], ◌∷◌, Option, None, Some, Bool, true, false, cond, not, length, map, slice_index, slice_index_or, refl, sym, ◌∙◌, ap, subst, inl, inr, arith, Contains}
use Rattle.std.specs.Prelude.{is_some}
use Rattle.std.proofs.lemmas.Bool.{cases_lt, lt-ltb, ltb-true}
use Rattle.std.proofs.lemmas.Bool.Decides.{nat_tests}
use Rattle.std.proofs.lemmas.List.{get_or_default}
use Rattle.std.proofs.lemmas.List.Kept.{AllPairs-cons}
use Rattle.std.proofs.lemmas.List.Sums.{sum_by-cons, count_by-le-length}
use Rattle.tournament.specs.Winner.{IsWinner, IsLastWinner}
use Rattle.zspage.specs.Cells.{ZspageState, used_of, is_home, home_of, entry}
use Rattle.zs_plan.specs.declared.Row.{Row}
use Rattle.zs_plan.specs.Plan.{IsPartial, IsFuller, IsEmptier, HasMovable, IsFirst, IsBest, HaveOwnIds}
use Rattle.class_pool.specs.Zspages.{Cells, cells_of, rank_of, source_rank, AreZspages}
use Rattle.class_pool.specs.Rows.{row_of, row_at, rows_from, rows}
use Rattle.class_pool.proofs.Ranks.{entry_of, id_within, whole_is}
use Rattle.class_pool.proofs.UseLaws.{contains_cons}

-- ---- which rows there are

-- a row is that of a zspage
pub row_there : (n : ℕ) (zs : List (Option Cells)) (r : Row) → Contains (rows_from n zs) r
    → (k : ℕ) × (cells : Cells) × (entry zs k ≡ Some cells) × (r ≡ row_of (n + k) cells)
row_there n [] r (j, low, at) = absurd (omega arith)
row_there n (None ∷ zs) r among =
    let rest : (k : ℕ) × (cells : Cells) × (entry zs k ≡ Some cells)
    × (r ≡ row_of (n + 1 + k) cells) = row_there (n + 1) zs r among in
    let next : n + 1 + rest.0 ≡ n + suc rest.0 = omega arith in
    (suc rest.0, rest.1, rest.2, rest.3 ∙ ap (λ m. row_of m rest.1) next)
row_there n (Some cells ∷ zs) r among =
    elim (contains_cons (row_of n cells) (rows_from (n + 1) zs) r among) [
      | inl e ↦ let here : n ≡ n + 0 = omega arith in
          (0, cells, refl, sym e ∙ ap (λ m. row_of m cells) here)
      | inr later ↦
          let rest : (k : ℕ) × (cells : Cells) × (entry zs k ≡ Some cells)
          × (r ≡ row_of (n + 1 + k) cells) = row_there (n + 1) zs r later in
          let next : n + 1 + rest.0 ≡ n + suc rest.0 = omega arith in
          (suc rest.0, rest.1, rest.2, rest.3 ∙ ap (λ m. row_of m rest.1) next)
    ]

-- each zspage has its row
row_from : (n k : ℕ) (zs : List (Option Cells)) (cells : Cells) → entry zs k ≡ Some cells
    → Contains (rows_from n zs) (row_of (n + k) cells)
row_from n k [] cells at = absurd (cc)
row_from n zero (None ∷ zs) cells at = absurd (cc)
row_from n zero (Some cs ∷ zs) cells at =
    let is : cs ≡ cells = cc in
    let here : n ≡ n + 0 = omega arith in
    (0, omega arith, ap (row_of n) is ∙ ap (λ m. row_of m cells) here)
row_from n (suc k) (None ∷ zs) cells at =
    let next : n + 1 + k ≡ n + suc k = omega arith in
    subst (λ m. Contains (rows_from (n + 1) zs) (row_of m cells)) next
    (row_from (n + 1) k zs cells at)
row_from n (suc k) (Some cs ∷ zs) cells at =
    let next : n + 1 + k ≡ n + suc k = omega arith in
    let rest : Contains (rows_from (n + 1) zs) (row_of (n + suc k) cells) =
    subst (λ m. Contains (rows_from (n + 1) zs) (row_of m cells)) next
    (row_from (n + 1) k zs cells at) in
    (suc rest.0, omega (arith, rest.1), rest.2)

pub row_among : (k : ℕ) (zs : List (Option Cells)) (cells : Cells) → entry zs k ≡ Some cells
    → Contains (rows zs) (row_of k cells)
row_among k zs cells at = let same : 0 + k ≡ k = omega arith in
    subst (λ m. Contains (rows zs) (row_of m cells)) same (row_from 0 k zs cells at)

-- the rows have ids of their own, since these rise
own_from : (n : ℕ) (zs : List (Option Cells)) → HaveOwnIds (rows_from n zs)
own_from n [] = λ i j d before low. absurd (omega arith)
own_from n (None ∷ zs) = own_from (n + 1) zs
own_from n (Some cells ∷ zs) =
    AllPairs-cons (λ a b. a.id ≢ b.id) (row_of n cells) (rows_from (n + 1) zs)
    (λ i d low same.
    let at = row_there (n + 1) zs (slice_index_or (rows_from (n + 1) zs) i d) (
      i,
      low,
      get_or_default (rows_from (n + 1) zs) i (slice_index_or (rows_from (n + 1) zs) i d)
          d low,
    ) in
    omega (arith, same, ap (λ r. r.id) at.3))
    (own_from (n + 1) zs)

pub own_ids : (zs : List (Option Cells)) → HaveOwnIds (rows zs)
own_ids zs = own_from 0 zs

-- ---- cells at home

pub one_small : (b : Bool) → cond b 1 0 ≤ 1
one_small true = omega arith
one_small false = omega arith

pub home_used : (cells : Cells) → home_of cells ≤ used_of cells
home_used [] = omega arith
home_used (None ∷ cells) = omega (
  arith,
  home_used cells,
  sum_by-cons (λ c. cond (is_home c) 1 0) None cells,
)
home_used (Some u ∷ cells) =
    omega (
      arith,
      home_used cells,
      sum_by-cons (λ c. cond (is_home c) 1 0) (Some u) cells,
      sum_by-cons (λ c. cond (is_some c) 1 0) (Some u) cells,
      one_small (not u.out),
    )

-- ---- ranks of sources

-- a zspage that can give an object has its free cells as its rank
source_high : (per k : ℕ) (cells : Cells) → length cells ≡ per → HasMovable per (row_of k cells)
    → source_rank (Some cells) ≡ per - used_of cells
source_high per k cells whole fits =
    let some : 0 < home_of cells = ltb-true 0 (home_of cells) fits.1 in
    grind (arith, nat_tests)

-- and no other has a rank above 0
source_fits : (per k : ℕ) (cells : Cells) → length cells ≡ per → source_rank (Some cells) ≢ 0
    → HasMovable per (row_of k cells) × (source_rank (Some cells) ≡ per - used_of cells)
source_fits per k cells whole high =
    let some : 0 < home_of cells = elim (cases_lt 0 (home_of cells)) [
      | inl some ↦ some
      | inr none ↦ absurd (high (grind (arith, nat_tests)))
    ] in
    let is : source_rank (Some cells) ≡ per - used_of cells = grind (arith, nat_tests) in
    let less : home_of cells ≤ used_of cells = home_used cells in
    (((omega arith, omega arith), lt-ltb 0 (home_of cells) some), is)

-- ---- the best source

-- the rank of a zspage that is there
source_at : (size chain per : ℕ) (items : List (Option ZspageState)) (ranks sources : List ℕ)
    (k : ℕ) (cells : Cells)
    → AreZspages size chain per items ranks sources → entry (map cells_of items) k ≡ Some cells
    → (k < length sources) × (slice_index sources k ≡ source_rank (Some cells))
    × (length cells ≡ per)
source_at size chain per items ranks sources k cells z at =
    let low : k < length items = id_within items k cells at in (
      omega (arith, z.by_source.long),
      z.by_source.each k low ∙ ap source_rank (sym (entry_of items k) ∙ at),
      whole_is size chain per items ranks sources k cells z at,
    )

pub no_source : (size chain per : ℕ) (items : List (Option ZspageState)) (ranks sources : List ℕ)
    (i : ℕ)
    → AreZspages size chain per items ranks sources → IsLastWinner sources i
    → slice_index sources i ≡ 0
    → (r : Row) → Contains (rows (map cells_of items)) r → HasMovable per r → ⊥
no_source size chain per items ranks sources i z wins none r among fits =
    let there = row_there 0 (map cells_of items) r among in
    let at = source_at size chain per items ranks sources there.0 there.1 z there.2 in
    let moves : HasMovable per (row_of (0 + there.0) there.1) =
    subst (λ q. HasMovable per q) there.3 fits in
    omega (
      arith,
      wins.highest there.0 at.0,
      at.1,
      source_high per (0 + there.0) there.1 at.2 moves,
      moves.0.1,
      none,
    )

pub best_source : (size chain per : ℕ) (items : List (Option ZspageState))
    (ranks sources : List ℕ) (i : ℕ) (cells : Cells)
    → AreZspages size chain per items ranks sources → IsLastWinner sources i
    → slice_index sources i ≢ 0
    → entry (map cells_of items) i ≡ Some cells
    → IsFirst IsEmptier (HasMovable per) (rows (map cells_of items)) (row_of i cells)
best_source size chain per items ranks sources i cells z wins some at =
    let here = source_at size chain per items ranks sources i cells z at in
    let moves = source_fits per i cells here.2 (λ e. some (here.1 ∙ e)) in
    record {
      among = row_among i (map cells_of items) cells at;
      fits = moves.0;
      before = λ r among fits.
          let there = row_there 0 (map cells_of items) r among in
          let one = source_at size chain per items ranks sources there.0 there.1 z there.2 in
          let fit : HasMovable per (row_of (0 + there.0) there.1) =
          subst (λ q. HasMovable per q) there.3 fits in
          let rank = source_high per (0 + there.0) there.1 one.2 fit in
          let most = wins.highest there.0 one.0 in
          subst (λ q. IsEmptier (row_of i cells) q) (sym there.3)
          (elim (cases_lt (used_of cells) (used_of there.1)) [
            | inl less ↦ inl less
            | inr same ↦ inr (
              omega (arith, most, rank, one.1, here.1, moves.1, fit.0.1, moves.0.0.1),
              elim (cases_lt i there.0) [
                | inl after ↦ absurd (omega (
                  arith,
                  wins.last there.0 after one.0,
                  rank,
                  one.1,
                  here.1,
                  moves.1,
                  same,
                ))
                | inr before ↦ omega arith
              ],
            )
          ]);
    }

-- ---- the best destination

room_at : (size chain per : ℕ) (items : List (Option ZspageState)) (ranks sources : List ℕ)
    (k : ℕ) (cells : Cells)
    → AreZspages size chain per items ranks sources → entry (map cells_of items) k ≡ Some cells
    → (k < length ranks) × (slice_index ranks k ≡ rank_of (Some cells)) × (length cells ≡ per)
room_at size chain per items ranks sources k cells z at =
    let low : k < length items = id_within items k cells at in (
      omega (arith, z.by_room.long),
      z.by_room.each k low ∙ ap rank_of (sym (entry_of items k) ∙ at),
      whole_is size chain per items ranks sources k cells z at,
    )

-- a partial zspage has its used cells as its rank, and two more
room_high : (per k : ℕ) (cells : Cells) → length cells ≡ per → IsPartial per (row_of k cells)
    → rank_of (Some cells) ≡ used_of cells + 2
room_high per k cells whole fits = grind (arith, nat_tests)

room_fits : (per k : ℕ) (cells : Cells) → length cells ≡ per → 2 < rank_of (Some cells)
    → IsPartial per (row_of k cells) × (rank_of (Some cells) ≡ used_of cells + 2)
room_fits per k cells whole high =
    let most : used_of cells ≤ length cells = count_by-le-length is_some cells in
    let is : rank_of (Some cells) ≡ used_of cells + 2 = grind (arith, nat_tests) in
    let less : used_of cells < length cells = grind (arith, nat_tests) in
    ((omega arith, omega arith), is)

pub no_destination : (size chain per : ℕ) (items : List (Option ZspageState))
    (ranks sources : List ℕ) (i : ℕ)
    → AreZspages size chain per items ranks sources → IsWinner ranks i → slice_index ranks i ≤ 2
    → (r : Row) → Contains (rows (map cells_of items)) r → IsPartial per r → ⊥
no_destination size chain per items ranks sources i z wins low r among fits =
    let there = row_there 0 (map cells_of items) r among in
    let at = room_at size chain per items ranks sources there.0 there.1 z there.2 in
    let partial : IsPartial per (row_of (0 + there.0) there.1) =
    subst (λ q. IsPartial per q) there.3 fits in
    omega (
      arith,
      wins.highest there.0 at.0,
      at.1,
      room_high per (0 + there.0) there.1 at.2 partial,
      partial.0,
      low,
    )

pub best_destination : (size chain per : ℕ) (items : List (Option ZspageState))
    (ranks sources : List ℕ) (i : ℕ) (cells : Cells)
    → AreZspages size chain per items ranks sources → IsWinner ranks i → 2 < slice_index ranks i
    → entry (map cells_of items) i ≡ Some cells
    → IsFirst IsFuller (IsPartial per) (rows (map cells_of items)) (row_of i cells)
best_destination size chain per items ranks sources i cells z wins high at =
    let here = room_at size chain per items ranks sources i cells z at in
    let partial = room_fits per i cells here.2 (omega (arith, here.1)) in
    record {
      among = row_among i (map cells_of items) cells at;
      fits = partial.0;
      before = λ r among fits.
          let there = row_there 0 (map cells_of items) r among in
          let one = room_at size chain per items ranks sources there.0 there.1 z there.2 in
          let fit : IsPartial per (row_of (0 + there.0) there.1) =
          subst (λ q. IsPartial per q) there.3 fits in
          let rank = room_high per (0 + there.0) there.1 one.2 fit in
          let most = wins.highest there.0 one.0 in
          subst (λ q. IsFuller (row_of i cells) q) (sym there.3)
          (elim (cases_lt (used_of there.1) (used_of cells)) [
            | inl less ↦ inl less
            | inr same ↦ inr (
              omega (arith, most, rank, one.1, here.1, partial.1),
              elim (cases_lt there.0 i) [
                | inl before ↦ absurd (omega (
                  arith,
                  wins.first there.0 before,
                  rank,
                  one.1,
                  here.1,
                  partial.1,
                  same,
                ))
                | inr after ↦ omega arith
              ],
            )
          ]);
    }

-- ---- the row that the winner has

-- a winner with a rank is the id of a zspage that is there
source_there : (o : Option Cells) → source_rank o ≢ 0 → (cells : Cells) × (o ≡ Some cells)
source_there None some = absurd (some refl)
source_there (Some cells) some = (cells, refl)

room_there : (o : Option Cells) → 2 < rank_of o → (cells : Cells) × (o ≡ Some cells)
room_there None high = absurd (omega arith)
room_there (Some cells) high = (cells, refl)

pub source_row : (size chain per : ℕ) (items : List (Option ZspageState)) (ranks sources : List ℕ)
    (i : ℕ) (found : Option Row)
    → AreZspages size chain per items ranks sources → IsLastWinner sources i
    → slice_index sources i ≢ 0
    → found ≡ row_at i (entry (map cells_of items) i)
    → IsBest IsEmptier (HasMovable per) (rows (map cells_of items)) found
source_row size chain per items ranks sources i found z wins some is =
    let rank : slice_index sources i ≡ source_rank (entry (map cells_of items) i) =
    z.by_source.each i (omega (arith, wins.within, z.by_source.long))
    ∙ ap source_rank (sym (entry_of items i)) in
    let there = source_there (entry (map cells_of items) i) (λ e. some (rank ∙ e)) in
    let row : found ≡ Some (row_of i there.0) = is ∙ ap (row_at i) there.1 in
    rw row (best_source size chain per items ranks sources i there.0 z wins some there.1)

pub destination_row : (size chain per : ℕ) (items : List (Option ZspageState))
    (ranks sources : List ℕ) (i : ℕ) (found : Option Row)
    → AreZspages size chain per items ranks sources → IsWinner ranks i → 2 < slice_index ranks i
    → found ≡ row_at i (entry (map cells_of items) i)
    → IsBest IsFuller (IsPartial per) (rows (map cells_of items)) found
destination_row size chain per items ranks sources i found z wins high is =
    let rank : slice_index ranks i ≡ rank_of (entry (map cells_of items) i) =
    z.by_room.each i (omega (arith, wins.within, z.by_room.long))
    ∙ ap rank_of (sym (entry_of items i)) in
    let there = room_there (entry (map cells_of items) i) (omega (arith, rank)) in
    let row : found ≡ Some (row_of i there.0) = is ∙ ap (row_at i) there.1 in
    rw row (best_destination size chain per items ranks sources i there.0 z wins high there.1)
