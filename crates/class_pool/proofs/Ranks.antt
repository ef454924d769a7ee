-- The ranks of zspages, and what a change of one zspage leaves.
use Rattle.std.proofs.Common.{◌≡◌, ℕ, zero, suc, ◌+◌, ◌-◌, ◌*◌, ◌/◌, ◌==◌, if◌then◌else◌, cond, ◌<◌, ◌≤◌, ◌≢◌, ◌^◌, List, [], ◌∷◌, ◌++◌, Option, None, Some, length, map, replicate, get_or, slice_index, refl, sym, ◌∙◌, ap, subst, inl, inr, arith, get_or-set_same, get_or-set_other}
use Rattle.std.specs.Prelude.{is_some}
use Rattle.std.proofs.lemmas.List.Sums.{count_by-le-length}
use Rattle.std.proofs.Math.ListN.{set, length-set, get_or-eq_default, get_or-map}
use Rattle.std.proofs.Math.Seq.{get_or-append_seam}
use Rattle.std.proofs.lemmas.List.{map-set, length-map, length-append, get_or_append_left, length-replicate, get_or_default, set-set, set-get_or}
use Rattle.std.proofs.lemmas.Bool.{cases_lt, cases_eq}
use Rattle.std.proofs.lemmas.Bool.Decides.{nat_tests}
use Rattle.std.proofs.lemmas.Nat.{div_below}
use Rattle.tournament.specs.Winner.{IsWinner}
use Rattle.std.proofs.lemmas.List.Folds.{sum_by-replicate}
use Rattle.zspage.specs.Cells.{UsedCell, ZspageState, used_of, is_home, home_of, entry}
use Rattle.class_pool.specs.Zspages.{Cells, ZspagesState, used_in, HasRoom, IsFullest, IsLeastAbsent, put_at, cells_of, rank_of, source_rank, AreRanked, IsOf, AreZspages}

-- ---- what an entry is

pub entry_of : (items : List (Option ZspageState)) (k : ℕ)
    → entry (map cells_of items) k ≡ cells_of (entry items k)
entry_of items k = get_or-map cells_of items k None

pub entry_past : {A : Type 0} (xs : List (Option A)) (k : ℕ) → length xs ≤ k → entry xs k ≡ None
entry_past xs k past = get_or-eq_default xs None past

-- an entry that is there has its place in the list
pub entry_within : {A : Type 0} (xs : List (Option A)) (k : ℕ) (x : A) → entry xs k ≡ Some x
    → k < length xs
entry_within xs k x is =
    elim (cases_lt k (length xs)) [
      | inl low ↦ low
      | inr past ↦
          absurd (cc (entry_past xs k past, is))
    ]

-- ---- ranks

room_rank : (o : Option Cells) → HasRoom o → rank_of o ≡ used_in o + 2
room_rank None room = absurd room
room_rank (Some cells) room = grind (arith, nat_tests)

rank_room : (o : Option Cells) → 2 ≤ rank_of o → HasRoom o
rank_room None high = absurd (omega arith)
rank_room (Some cells) high = let most : used_of cells ≤ length cells =
    count_by-le-length is_some cells in grind (arith, nat_tests)

rank_absent : (o : Option Cells) → rank_of o ≡ 1 → o ≡ None
rank_absent None is = refl
rank_absent (Some cells) is = absurd (grind (arith, nat_tests))

rank_zero : (o : Option Cells) → rank_of o ≡ 0 → (cells : Cells) × (o ≡ Some cells)
rank_zero None is = absurd (omega arith)
rank_zero (Some cells) is = (cells, refl)

rank_full : (o : Option Cells) → (HasRoom o → ⊥) → rank_of o ≤ 1
rank_full None full = omega arith
rank_full (Some cells) full =
    elim (cases_lt (rank_of (Some cells)) 2)
    [ inl low ↦ omega arith | inr high ↦ absurd (full (rank_room (Some cells) high)) ]

pub rank_at : (size chain per : ℕ) (items : List (Option ZspageState)) (ranks sources : List ℕ)
    (k : ℕ)
    → AreZspages size chain per items ranks sources → k < length ranks
    → slice_index ranks k ≡ rank_of (entry (map cells_of items) k)
rank_at size chain per items ranks sources k z low =
    z.by_room.each k (omega (arith, z.by_room.long))
    ∙ ap rank_of (sym (entry_of items k))

pub room_within : (items : List (Option ZspageState)) (k : ℕ)
    → HasRoom (entry (map cells_of items) k)
    → k < length items
room_within items k room =
    elim (cases_lt k (length items)) [
      | inl low ↦ low
      | inr past ↦ absurd (subst HasRoom (entry_past (map cells_of items) k (rw length-map past))
          room)
    ]

-- the winner has room where some zspage has
pub winner_room : (size chain per : ℕ) (items : List (Option ZspageState))
    (ranks sources : List ℕ) (i k : ℕ)
    → AreZspages size chain per items ranks sources → IsWinner ranks i
    → HasRoom (entry (map cells_of items) k)
    → 2 ≤ slice_index ranks i
winner_room size chain per items ranks sources i k z wins room =
    let low : k < length ranks = omega (arith, room_within items k room, z.by_room.long) in
    omega (
      arith,
      wins.highest k low,
      rank_at size chain per items ranks sources k z low,
      room_rank (entry (map cells_of items) k) room,
    )

pub winner_has : (size chain per : ℕ) (items : List (Option ZspageState)) (ranks sources : List ℕ)
    (i : ℕ)
    → AreZspages size chain per items ranks sources → IsWinner ranks i → 2 ≤ slice_index ranks i
    → HasRoom (entry (map cells_of items) i)
winner_has size chain per items ranks sources i z wins high =
    rank_room (entry (map cells_of items) i)
    (omega (arith, rank_at size chain per items ranks sources i z wins.within))

pub fullest_is : (size chain per : ℕ) (items : List (Option ZspageState)) (ranks sources : List ℕ)
    (i k : ℕ)
    → AreZspages size chain per items ranks sources → IsWinner ranks i
    → HasRoom (entry (map cells_of items) k)
    → IsFullest (map cells_of items) i
fullest_is size chain per items ranks sources i k z wins room =
    let here : HasRoom (entry (map cells_of items) i) =
    winner_has size chain per items ranks sources i z wins
    (winner_room size chain per items ranks sources i k z wins room) in
    let rank_i : slice_index ranks i ≡ used_in (entry (map cells_of items) i) + 2 =
    rank_at size chain per items ranks sources i z wins.within
    ∙ room_rank (entry (map cells_of items) i) here in
    record {
      room = here;
      most = λ j has.
          let low : j < length ranks = omega (arith, room_within items j has, z.by_room.long) in
          let rank_j : slice_index ranks j ≡ used_in (entry (map cells_of items) j) + 2 =
          rank_at size chain per items ranks sources j z low
          ∙ room_rank (entry (map cells_of items) j) has in
          let most : slice_index ranks j ≤ slice_index ranks i = wins.highest j low in
          elim (cases_lt (used_in (entry (map cells_of items) j))
          (used_in (entry (map cells_of items) i))) [
            | inl less ↦ inl less
            | inr same ↦ inr (
              omega arith,
              elim (cases_lt j i) [
                | inl before ↦ absurd (omega (arith, wins.first j before))
                | inr after ↦ after
              ],
            )
          ];
    }

-- where none has room the first absent id wins, and else all are full
pub absent_first : (size chain per : ℕ) (items : List (Option ZspageState))
    (ranks sources : List ℕ) (i : ℕ)
    → AreZspages size chain per items ranks sources → IsWinner ranks i → slice_index ranks i ≡ 1
    → IsLeastAbsent (map cells_of items) i
absent_first size chain per items ranks sources i z wins one = record {
  within = rw length-map (omega (arith, wins.within, z.by_room.long));
  absent = rank_absent (entry (map cells_of items) i)
      (sym (rank_at size chain per items ranks sources i z wins.within) ∙ one);
  least = λ k before.
      let low : k < length ranks = omega (arith, wins.within) in
      rank_zero (entry (map cells_of items) k)
      (omega (arith, wins.first k before, rank_at size chain per items ranks sources k z low));
}

pub all_full : (size chain per : ℕ) (items : List (Option ZspageState)) (ranks sources : List ℕ)
    (i : ℕ)
    → AreZspages size chain per items ranks sources → IsWinner ranks i
    → ((k : ℕ) → HasRoom (entry (map cells_of items) k) → ⊥) → slice_index ranks i ≢ 1
    → IsLeastAbsent (map cells_of items) (length items)
all_full size chain per items ranks sources i z wins full other =
    let small : slice_index ranks i ≤ 1 =
    omega (
      arith,
      rank_at size chain per items ranks sources i z wins.within,
      rank_full (entry (map cells_of items) i) (full i),
    ) in
    record {
      within = rw length-map (omega arith);
      absent = entry_past (map cells_of items) (length items) (rw length-map (omega arith));
      least = λ k before.
          let low : k < length ranks = omega (arith, z.by_room.long) in
          rank_zero (entry (map cells_of items) k)
          (omega (
            arith,
            wins.highest k low,
            rank_at size chain per items ranks sources k z low,
            other,
          ));
    }

-- ---- one zspage changes

pub per_bound : (size chain per : ℕ) → 32 ≤ size → chain ≤ 16 → per ≡ chain * 4096 / size
    → per ≤ 2048
per_bound size chain per low few is =
    let below : chain * 4096 / size < 2049 =
    div_below (chain * 4096) size 2049 (omega arith) (omega arith) in
    omega arith

-- the zspage at an id is another one, or none, and gets its new rank
pub ranked_set : (rank : Option Cells
    → ℕ) (items : List (Option ZspageState)) (ranks : List ℕ) (id r : ℕ) (new : Option ZspageState)
    → AreRanked rank items ranks → id < length items → r ≡ rank (cells_of new)
    → AreRanked rank (set items id new) (set ranks id r)
ranked_set rank items ranks id r new are low is = record {
  long = rw (length-set, length-set) are.long;
  each = λ k within.
      elim (cases_eq k id) [
        | inl e ↦ let there : id < length ranks = omega (arith, are.long) in
            rw e (rw (get_or-set_same, get_or-set_same) is)
        | inr other ↦ rw (get_or-set_other, get_or-set_other) (are.each k (rw length-set at within))
      ];
}

-- one more zspage after the others
pub ranked_push : (rank : Option Cells
    → ℕ) (items : List (Option ZspageState)) (ranks : List ℕ) (r : ℕ) (new : Option ZspageState)
    → AreRanked rank items ranks → r ≡ rank (cells_of new)
    → AreRanked rank (items ++ new ∷ []) (ranks ++ r ∷ [])
ranked_push rank items ranks r new are is = record {
  long = omega (arith, are.long, length-append items (new ∷ []), length-append ranks (r ∷ []));
  each = λ k within.
      elim (cases_lt k (length items)) [
        | inl before ↦
            let there : k < length ranks = omega (arith, are.long) in
            rw (
              get_or_append_left ranks (r ∷ []) 0 k there,
              get_or_append_left items (new ∷ []) None k before,
            ) (are.each k before)
        | inr here ↦
            let e : k ≡ length items = omega (arith, length-append items (new ∷ [])) in
            let f : k ≡ length ranks = omega (arith, are.long) in
            ap (λ n. get_or (ranks ++ r ∷ []) n 0) f ∙ get_or-append_seam ranks r [] 0 ∙ is
            ∙ sym (ap (λ n. rank (cells_of (get_or (items ++ new ∷ []) n None))) e
            ∙ ap (λ x. rank (cells_of x)) (get_or-append_seam items new [] None))
      ];
}

pub updated : (size chain per : ℕ) (items : List (Option ZspageState))
    (ranks sources ranks' sources' : List ℕ) (id : ℕ) (new : Option ZspageState)
    → AreZspages size chain per items ranks sources → id < length items → IsOf size chain per id new
    → AreRanked rank_of (set items id new) ranks'
    → AreRanked source_rank (set items id new) sources'
    → AreZspages size chain per (set items id new) ranks' sources'
updated size chain per items ranks sources ranks' sources' id new z low fits room source = record {
  small = z.small;
  large = z.large;
  some = z.some;
  few = z.few;
  cells = z.cells;
  short = rw length-set z.short;
  each = λ k within.
      elim (cases_eq k id) [
        | inl e ↦ rw e (rw get_or-set_same fits)
        | inr other ↦ rw get_or-set_other (z.each k (rw length-set at within))
      ];
  by_room = room;
  by_source = source;
}

-- both ranks are set
pub updated_ranks : (size chain per : ℕ) (items : List (Option ZspageState))
    (ranks sources : List ℕ) (id r q : ℕ) (new : Option ZspageState)
    → AreZspages size chain per items ranks sources → id < length items → IsOf size chain per id new
    → r ≡ rank_of (cells_of new) → q ≡ source_rank (cells_of new)
    → AreZspages size chain per (set items id new) (set ranks id r) (set sources id q)
updated_ranks size chain per items ranks sources id r q new z low fits r_is q_is =
    updated size chain per items ranks sources (set ranks id r) (set sources id q) id new z low fits
    (ranked_set rank_of items ranks id r new z.by_room low r_is)
    (ranked_set source_rank items sources id q new z.by_source low q_is)

pub appended : (size chain per : ℕ) (items : List (Option ZspageState)) (ranks sources : List ℕ)
    (r q : ℕ) (new : ZspageState)
    → AreZspages size chain per items ranks sources → IsOf size chain per (length items) (Some new)
    → r ≡ rank_of (Some new.cells) → q ≡ source_rank (Some new.cells) → length items + 1 < 2 ^ 32
    → AreZspages size chain per (items ++ Some new ∷ []) (ranks ++ r ∷ []) (sources ++ q ∷ [])
appended size chain per items ranks sources r q new z fits r_is q_is room = record {
  small = z.small;
  large = z.large;
  some = z.some;
  few = z.few;
  cells = z.cells;
  short = omega (arith, length-append items (Some new ∷ []));
  each = λ k within.
      elim (cases_lt k (length items)) [
        | inl before ↦ rw get_or_append_left (z.each k before)
        | inr here ↦
            let e : k ≡ length items = omega (arith, length-append items (Some new ∷ [])) in
            rw e (rw get_or-append_seam fits)
      ];
  by_room = ranked_push rank_of items ranks r (Some new) z.by_room r_is;
  by_source = ranked_push source_rank items sources q (Some new) z.by_source q_is;
}

-- ---- an entry put at a place

pub put_at-set : {A : Type 0} (xs : List A) (i : ℕ) (x : A) → i < length xs
    → put_at xs i x ≡ set xs i x
put_at-set [] i x low = absurd (omega arith)
put_at-set (y ∷ ys) zero x low = refl
put_at-set (y ∷ ys) (suc i) x low = ap (λ zs. y ∷ zs) (put_at-set ys i x (omega arith))

pub put_at-end : {A : Type 0} (xs : List A) (i : ℕ) (x : A) → i ≡ length xs
    → put_at xs i x ≡ xs ++ x ∷ []
put_at-end [] zero x e = refl
put_at-end [] (suc i) x e = absurd (omega arith)
put_at-end (y ∷ ys) zero x e = absurd (omega arith)
put_at-end (y ∷ ys) (suc i) x e = ap (λ zs. y ∷ zs) (put_at-end ys i x (omega arith))

-- ---- values

abbrev pub zspages_made : ℕ → ℕ → ℕ → List (Option Cells) → ZspagesState
zspages_made size chain per zspages =
    record { size = size; chain = chain; per = per; zspages = zspages }

-- ---- the zspage in a slot

pub record IsSlot (size chain per : ℕ) (items : List (Option ZspageState)) (id : ℕ)
    (z : ZspageState) : Type 0 where
  pub low : id < length items
  pub size_is : z.size ≡ size
  pub chain_is : z.frames ≡ chain
  pub per_is : length z.cells ≡ per
  pub id_is : z.id ≡ id
  pub seen : entry (map cells_of items) id ≡ Some z.cells

pub id_within : (items : List (Option ZspageState)) (id : ℕ) (cells : Cells)
    → entry (map cells_of items) id ≡ Some cells → id < length items
id_within items id cells is = rw length-map at (entry_within (map cells_of items) id cells is)

whole_of : (size chain per k : ℕ) (cells : Cells) (o : Option ZspageState) → IsOf size chain per k o
    → cells_of o ≡ Some cells
    → length cells ≡ per
whole_of size chain per k cells None fits at = absurd (cc)
whole_of size chain per k cells (Some z) fits at = let is : z.cells ≡ cells = cc in
    subst (λ cs. length cs ≡ per) is fits.2

-- a zspage has as many cells as its class says
pub whole_is : (size chain per : ℕ) (items : List (Option ZspageState)) (ranks sources : List ℕ)
    (k : ℕ) (cells : Cells)
    → AreZspages size chain per items ranks sources → entry (map cells_of items) k ≡ Some cells
    → length cells ≡ per
whole_is size chain per items ranks sources k cells are at =
    whole_of size chain per k cells (entry items k) (are.each k (id_within items k cells at))
    (sym (entry_of items k) ∙ at)

pub slot_is : (size chain per : ℕ) (items : List (Option ZspageState)) (ranks sources : List ℕ)
    (id : ℕ) (slot : Option ZspageState) (z : ZspageState)
    → AreZspages size chain per items ranks sources → id < length items
    → slot ≡ get_or items id slot
    → slot ≡ Some z
    → IsSlot size chain per items id z
slot_is size chain per items ranks sources id slot z are low at is =
    let there : entry items id ≡ Some z = get_or_default items id None slot low ∙ sym at ∙ is in
    let fits : IsOf size chain per id (Some z) =
    subst (λ o. IsOf size chain per id o) there (are.each id low) in
    record {
      low = low;
      size_is = fits.0;
      chain_is = fits.1;
      per_is = fits.2;
      id_is = fits.3;
      seen = entry_of items id ∙ ap cells_of there;
    }

-- its cells are those that contracts see at its id
pub slot_cells : (size chain per : ℕ) (items : List (Option ZspageState))
    (seen : List (Option Cells)) (id : ℕ)
    (z : ZspageState) (cells : Cells) → map cells_of items ≡ seen → IsSlot size chain per items id z
    → entry seen id ≡ Some cells → z.cells ≡ cells
slot_cells size chain per items seen id z cells view slot at =
    let both : Some z.cells ≡ Some cells = sym slot.seen ∙ ap (λ xs. entry xs id) view ∙ at in
    cc

-- what is left where the zspage in the slot has other cells
pub slot_changes : (items : List (Option ZspageState)) (id : ℕ) (new : ZspageState) (cells : Cells)
    → new.cells ≡ cells → map cells_of (set items id (Some new)) ≡ set (map cells_of items) id
    (Some cells)
slot_changes items id new cells is = map-set cells_of items id (Some new)
    ∙ ap (λ cs. set (map cells_of items) id (Some cs)) is

pub slot_goes : (items : List (Option ZspageState)) (id : ℕ) (x : Option ZspageState)
    → map cells_of (set (set items id x) id None) ≡ set (map cells_of items) id None
slot_goes items id x = ap (map cells_of) (set-set items id x None) ∙ map-set cells_of items id None

-- a new zspage has its class and its id
pub new_fits : (size chain per id n : ℕ) (z : ZspageState) → per ≡ chain * 4096 / size → id ≡ n
    → z ≡ record {
      id = id;
      size = size;
      frames = chain;
      cells =
          replicate (chain * 4096 / size) None;
    }
    → IsOf size chain per n (Some z)
new_fits size chain per id n z cells at is = (
  ap (λ x. x.size) is,
  ap (λ x. x.frames) is,
  ap (λ x. length x.cells) is ∙ length-replicate (chain * 4096 / size) None ∙ sym cells,
  ap (λ x. x.id) is ∙ at,
)

-- it still has them with other cells, as many
pub still_fits : (size chain per : ℕ) (items : List (Option ZspageState)) (id : ℕ)
    (z new : ZspageState) (cells : Cells)
    → IsSlot size chain per items id z → new ≡ record z { cells = cells }
    → length cells ≡ length z.cells
    → IsOf size chain per id (Some new)
still_fits size chain per items id z new cells slot is long = (
  ap (λ x. x.size) is ∙ slot.size_is,
  ap (λ x. x.frames) is ∙ slot.chain_is,
  ap (λ x. length x.cells) is ∙ long ∙ slot.per_is,
  ap (λ x. x.id) is ∙ slot.id_is,
)

-- it keeps its rank with as many used cells, and gets a new one as a source
pub updated_source : (size chain per : ℕ) (items : List (Option ZspageState))
    (ranks sources : List ℕ) (id q : ℕ) (z new : ZspageState) (cells : Cells)
    → AreZspages size chain per items ranks sources → IsSlot size chain per items id z
    → new ≡ record z { cells = cells } → length cells ≡ length z.cells
    → used_of new.cells ≡ used_of z.cells → q ≡ source_rank (Some new.cells)
    → AreZspages size chain per (set items id (Some new)) ranks (set sources id q)
updated_source size chain per items ranks sources id q z new cells are slot is long used q_is =
    let rank : ℕ → ℕ → ℕ = λ u n. if u == n then 0 else u + 2 in
    let same : rank_of (Some z.cells) ≡ rank_of (Some new.cells) =
    λ i. rank (sym used i) (sym (ap (λ x. length x.cells) is ∙ long) i) in
    let seen = sym (entry_of items id) ∙ slot.seen in
    updated size chain per items ranks sources ranks (set sources id q) id (Some new) are slot.low
    (still_fits size chain per items id z new cells slot is long)
    (subst (λ l. AreRanked rank_of (set items id (Some new)) l) (set-get_or ranks id 0)
    (ranked_set rank_of items ranks id (get_or ranks id 0) (Some new) are.by_room slot.low
    (are.by_room.each id slot.low ∙ ap rank_of seen ∙ same)))
    (ranked_set source_rank items sources id q (Some new) are.by_source slot.low q_is)

-- a zspage without objects can give none
home_free : (n : ℕ) → home_of (replicate n None) ≡ 0
home_free n = sum_by-replicate (λ c. cond (is_home c) 1 0) n None ∙ omega arith

pub new_stays : (z : ZspageState) (n : ℕ) → z.cells ≡ replicate n None
    → 0 ≡ source_rank (Some z.cells)
new_stays z n is =
    sym (ap (λ cs. source_rank (Some cs)) is
    ∙ ap (λ h. if h == 0 then 0 else (length (replicate {A = Option UsedCell} n None) - used_of
    (replicate {A = Option UsedCell} n None))) (home_free n))
