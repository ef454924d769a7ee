-- The numbers of handles: which are free, and how many.
use Rattle.std.proofs.Common.{◌≡◌, ℕ, suc, ◌+◌, ◌<◌, ◌≤◌, List, [], ◌∷◌, ◌++◌, Option, None, Some, cond, length, replicate, slice_index, refl, ◌∙◌, ap, arith}
use Rattle.std.specs.Prelude.{is_some}
use Rattle.std.proofs.lemmas.List.Sums.{sum_by-cons}
use Rattle.std.proofs.lemmas.List.{append_assoc, replicate-append-replicate}
use Rattle.tournament.specs.Winner.{IsWinner}
use Rattle.zspage.specs.Cells.{used_of, entry}
use Rattle.class_pool.specs.declared.places.Place.{Place}
use Rattle.class_pool.specs.Places.{place_rank, ArePlaces}

-- ---- entries that are there, of any list

-- a free place, where fewer are taken than there are
some_free : {A : Type 0} (xs : List (Option A)) → used_of xs < length xs
    → (k : ℕ) × (k < length xs) × (entry xs k ≡ None)
some_free [] less = absurd (omega arith)
some_free (None ∷ xs) less = (0, omega arith, refl)
some_free {A} (Some u ∷ xs) less =
    let rest = some_free xs (omega (
      arith,
      less,
      sum_by-cons (λ o. cond (is_some o) 1 0) (Some u) xs,
    )) in
    (suc rest.0, omega (arith, rest.1), rest.2)

-- ---- the winner is a free number

rank_free : (o : Option Place) → 1 ≤ place_rank o → o ≡ None
rank_free None high = refl
rank_free (Some p) high = absurd (omega arith)

pub free_wins : (items : List (Option Place)) (free : List ℕ) (i : ℕ)
    → ArePlaces items free → used_of items < length items → IsWinner free i → entry items i ≡ None
free_wins items free i are room wins =
    let gap : (k : ℕ) × (k < length items) × (entry items k ≡ None) = some_free items room in
    let rank_gap : slice_index free gap.0 ≡ 1 = are.ranks_are gap.0 gap.1 ∙ ap place_rank gap.2 in
    let low : i < length items = omega (arith, wins.within, are.ranked) in
    rank_free (entry items i)
    (omega (
      arith,
      wins.highest gap.0 (omega (arith, gap.1, are.ranked)),
      rank_gap,
      are.ranks_are i low,
    ))

-- ---- more numbers

pub one_more : (n : ℕ) (old now new : List (Option Place)) → now ≡ old ++ replicate n None
    → new ≡ now ++ None ∷ []
    → new ≡ old ++ replicate (n + 1) None
one_more n old now new so_far is =
    is ∙ ap (λ xs. xs ++ None ∷ []) so_far ∙ append_assoc old (replicate n None) (None ∷ [])
    ∙ ap (λ xs. old ++ xs) (replicate-append-replicate n 1 None)
