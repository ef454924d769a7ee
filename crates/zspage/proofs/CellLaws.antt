-- How one cell's change shows in the counts of used cells, in the ranks and in what contracts see.
use Rattle.std.proofs.Common.{◌≡◌, ℕ, suc, ◌+◌, ◌<◌, ◌≤◌, ◌^◌, List, [], ◌∷◌, Option, None, Some, true, false, cond, not, length, replicate, get_or, slice_index, refl, sym, ◌∙◌, ap, subst, inl, inr, arith, get_or-set_same, get_or-set_other}
use Rattle.std.specs.Prelude.{is_some, sum_by}
use Rattle.std.specs.Ptr.{Ptr, null_ptr}
use Rattle.std.proofs.Math.ListN.{set, length-set, get_or-eq_default}
use Rattle.std.proofs.lemmas.List.{map-set, length-map, get_or-map, length-replicate, get_or-replicate, set-get_or, same_lists}
use Rattle.std.proofs.lemmas.List.Sums.{sum_by-set, sum_by-cons, get_or-le-sum_by, count_by-le-length}
use Rattle.std.proofs.lemmas.List.Folds.{sum_by-replicate}
use Rattle.std.proofs.lemmas.Option.{slice_get-get_or, slice_get_within, get_or_from_slice_get}
use Rattle.std.proofs.lemmas.Bool.{cases_lt, cases_eq}
use Rattle.tournament.specs.Winner.{IsWinner}
use Rattle.zspage.specs.Cells.{UsedCell, ZspageState, used_of, is_home, home_of, entry, IsLowestFree}
use Rattle.zspage.specs.Spots.{SpotState, uses, rank_of, AreFree, IsSpot, IsZspage}

-- ---- weights of cells

-- 1 for a used cell
abbrev pub one_of : Option UsedCell → ℕ
one_of o = cond (is_some o) 1 0

-- 1 for a used cell at home
abbrev pub one_home : Option UsedCell → ℕ
one_home o = cond (is_home o) 1 0

pub one_home-in : (u : UsedCell) → u.out ≡ false → one_home (Some u) ≡ 1
one_home-in u home = ap (λ b. cond (not b) 1 0) home

pub one_home-out : (u : UsedCell) → u.out ≡ true → one_home (Some u) ≡ 0
one_home-out u out = ap (λ b. cond (not b) 1 0) out

-- ---- a spot and its cell

pub entry-uses : (spots : List SpotState) (i : ℕ) (s : SpotState) → i < length spots
    → s ≡ get_or spots i s
    → entry (uses spots) i ≡ s.use_of
entry-uses spots i s low at = get_or-map (λ x. x.use_of) spots i s None low
    ∙ ap (λ x. x.use_of) (sym at)

pub used_within : (spots : List SpotState) (i : ℕ) (u : UsedCell) → entry (uses spots) i ≡ Some u
    → i < length spots
used_within spots i u is =
    elim (cases_lt i (length spots)) [
      | inl low ↦ low
      | inr past ↦
          let beyond : length (uses spots) ≤ i = rw length-map past in
          absurd (cc (get_or-eq_default (uses spots) None beyond, is))
    ]

pub used_at : (spots : List SpotState) (i : ℕ) (s : SpotState) (u : UsedCell) → s ≡ get_or spots i s
    → entry (uses spots) i ≡ Some u → s.use_of ≡ Some u
used_at spots i s u at is = sym (entry-uses spots i s (used_within spots i u is) at) ∙ is

sum_by-uses : (f : Option UsedCell → ℕ) (spots : List SpotState) (i : ℕ) (s new : SpotState)
    → i < length spots → s ≡ get_or spots i s
    → sum_by f (uses (set spots i new)) + f s.use_of ≡ sum_by f (uses spots) + f new.use_of
sum_by-uses f spots i s new low at =
    let cells : uses (set spots i new) ≡ set (uses spots) i new.use_of =
    map-set (λ x. x.use_of) spots i new in
    let sum = sum_by-set f (uses spots) i new.use_of None (rw length-map low) in
    omega (arith, sum, ap (sum_by f) cells, ap f (entry-uses spots i s low at))

-- a used cell is counted
pub counted : (f : Option UsedCell → ℕ) (spots : List SpotState) (i : ℕ) (s : SpotState)
    → i < length spots → s ≡ get_or spots i s → f s.use_of ≤ sum_by f (uses spots)
counted f spots i s low at =
    omega (
      arith,
      get_or-le-sum_by f (uses spots) i None (rw length-map low),
      ap f (entry-uses spots i s low at),
    )

pub spot_at : (chain : Ptr) (size used home : ℕ) (spots : List SpotState) (free : List ℕ) (i : ℕ)
    (s : SpotState)
    → IsZspage chain size used home spots free → i < length spots → s ≡ get_or spots i s
    → IsSpot chain i size (slice_index free i) s
spot_at chain size used home spots free i s z low at =
    subst (λ x. IsSpot chain i size (slice_index free i) x) (sym at) (z.each i s low)

-- where some cell is not at home, those at home are fewer than the cells
pub home_less : (chain : Ptr) (size used home : ℕ) (spots : List SpotState) (free : List ℕ) (i : ℕ)
    (s : SpotState)
    → IsZspage chain size used home spots free → i < length spots → s ≡ get_or spots i s
    → one_home s.use_of ≡ 0
    → home + 1 ≤ length spots
home_less chain size used home spots free i s z low at none =
    let v : UsedCell = record {
      handle = 0;
      bytes = [];
      cell = record { chain = null_ptr; number = 0; size = 0; bytes = [] };
      out = false;
    } in
    let new : SpotState = record s { use_of = Some v } in
    omega (
      arith,
      z.home_is,
      none,
      one_home-in v refl,
      sum_by-uses one_home spots i s new low at,
      count_by-le-length is_home (uses (set spots i new)),
      length-map (set spots i new) (λ x. x.use_of),
      length-set spots i new,
    )

-- ---- one cell is used otherwise

-- what a call leaves of the spots
pub record Leaves (chain : Ptr) (size used home : ℕ) (spots spots' : List SpotState)
    (free : List ℕ) (i : ℕ)
    (o : Option UsedCell) : Type 0 where
  pub state : IsZspage chain size used home spots' free
  pub cells : uses spots' ≡ set (uses spots) i o

pub changed : (chain : Ptr) (size used used' home home' : ℕ) (spots : List SpotState)
    (free : List ℕ) (i : ℕ)
    (s new : SpotState) (o : Option UsedCell) → IsZspage chain size used home spots free
    → i < length spots
    → s ≡ get_or spots i s → new ≡ record s { use_of = o }
    → used' + one_of s.use_of ≡ used + one_of o → home' + one_home s.use_of ≡ home + one_home o
    → Leaves chain size used' home' spots (set spots i new) (set free i (rank_of o)) i o
changed chain size used used' home home' spots free i s new o z low at is count home_is =
    let now : new.use_of ≡ o = ap (λ x. x.use_of) is in
    let here = spot_at chain size used home spots free i s z low at in
    record {
      state = record {
        count = omega (
          arith,
          z.count,
          count,
          sum_by-uses one_of spots i s new low at,
          ap one_of now,
        );
        home_is = omega (
          arith,
          z.home_is,
          home_is,
          sum_by-uses one_home spots i s new low at,
          ap one_home now,
        );
        few = rw length-set z.few;
        ranked = rw (length-set, length-set) z.ranked;
        each = λ k d small.
            elim (cases_eq k i) [
              | inl e ↦
                  let there : i < length free = omega (arith, z.ranked) in
                  rw e (rw (get_or-set_same, get_or-set_same) (record {
                    ours = ap (λ x. x.chain) is ∙ here.ours;
                    numbered = ap (λ x. x.number) is ∙ here.numbered;
                    sized = ap (λ x. x.size) is ∙ here.sized;
                    ranked = ap rank_of (sym now);
                  }))
              | inr other ↦ rw (get_or-set_other, get_or-set_other)
                  (z.each k d (rw length-set at small))
            ];
      };
      cells = map-set (λ x. x.use_of) spots i new ∙ ap (set (uses spots) i) now;
    }

-- where a used cell stays used the ranks stay
pub kept : (chain : Ptr) (size used home home' : ℕ) (spots : List SpotState) (free : List ℕ) (i : ℕ)
    (s new : SpotState)
    (u v : UsedCell) → IsZspage chain size used home spots free → i < length spots
    → s ≡ get_or spots i s
    → s.use_of ≡ Some u → new ≡ record s { use_of = Some v }
    → home' + one_home (Some u) ≡ home + one_home (Some v)
    → Leaves chain size used home' spots (set spots i new) free i (Some v)
kept chain size used home home' spots free i s new u v z low at was is home_is =
    let rank : slice_index free i ≡ 0 =
    (spot_at chain size used home spots free i s z low at).ranked ∙ ap rank_of was in
    subst (λ ranks. Leaves chain size used home' spots (set spots i new) ranks i (Some v))
    (ap (set free i) (sym rank) ∙ set-get_or free i 0)
    (changed chain size used used home home' spots free i s new (Some v) z low at is
    (omega (arith, ap one_of was)) (omega (arith, home_is, ap one_home was)))

abbrev pub made : ℕ → ℕ → ℕ → List (Option UsedCell) → ZspageState
made id size frames cells = record { id = id; size = size; frames = frames; cells = cells }

-- ---- the lowest free cell

-- a free cell, where fewer are used than there are
some_free : (cells : List (Option UsedCell)) → used_of cells < length cells
    → (k : ℕ) × (k < length cells) × (entry cells k ≡ None)
some_free [] less = absurd (omega arith)
some_free (None ∷ cells) less = (0, omega arith, refl)
some_free (Some u ∷ cells) less =
    let rest = some_free cells (omega (arith, less, sum_by-cons one_of (Some u) cells)) in
    (suc rest.0, omega (arith, rest.1), rest.2)

rank_free : (o : Option UsedCell) → 0 < rank_of o → o ≡ None
rank_free None p = refl
rank_free (Some u) p = absurd (omega arith)

rank_small : (o : Option UsedCell) → rank_of o ≤ 1
rank_small None = omega arith
rank_small (Some u) = omega arith

pub nowhere : SpotState
nowhere = record { chain = null_ptr; number = 0; size = 0; use_of = None }

-- the rank of a cell, where its use is known
rank_at : (chain : Ptr) (size used home : ℕ) (spots : List SpotState) (free : List ℕ) (k : ℕ)
    (o : Option UsedCell)
    → IsZspage chain size used home spots free → k < length spots → entry (uses spots) k ≡ o
    → slice_index free k ≡ rank_of o
rank_at chain size used home spots free k o z low is =
    (z.each k nowhere low).ranked
    ∙ ap rank_of (sym (get_or-map (λ x. x.use_of) spots k nowhere None low) ∙ is)

-- the winner of the ranks is the lowest free cell
pub winner_free : (chain : Ptr) (size used home : ℕ) (spots : List SpotState) (free : List ℕ)
    (i : ℕ)
    (s : SpotState)
    → IsZspage chain size used home spots free → used_of (uses spots) < length (uses spots)
    → IsWinner free i
    → s ≡ get_or spots i s → s.use_of ≡ None
winner_free chain size used home spots free i s z room wins at =
    let low : i < length spots = omega (arith, wins.within, z.ranked) in
    let gap = some_free (uses spots) room in
    let small : gap.0 < length spots = rw length-map at gap.1 in
    rank_free s.use_of (omega (
      arith,
      wins.highest gap.0 (omega (arith, z.ranked)),
      rank_at chain size used home spots free gap.0 None z small gap.2,
      rank_at chain size used home spots free i s.use_of z low (entry-uses spots i s low at),
    ))

pub lowest_free : (chain : Ptr) (size used home : ℕ) (spots : List SpotState) (free : List ℕ)
    (i : ℕ)
    (s : SpotState)
    → IsZspage chain size used home spots free → used_of (uses spots) < length (uses spots)
    → IsWinner free i
    → s ≡ get_or spots i s → IsLowestFree (uses spots) i
lowest_free chain size used home spots free i s z room wins at =
    let low : i < length spots = omega (arith, wins.within, z.ranked) in
    let here : entry (uses spots) i ≡ s.use_of = entry-uses spots i s low at in
    let gone : s.use_of ≡ None = winner_free chain size used home spots free i s z room wins at in
    record {
      free = slice_get-get_or (uses spots) i None (rw length-map low)
          ∙ ap (λ o. Some o) (here ∙ gone);
      lowest = λ k below is.
          let small : k < length spots = rw length-map at
          (slice_get_within (uses spots) k None is) in
          omega (
            arith,
            wins.first k below,
            rank_small s.use_of,
            rank_at chain size used home spots free k None z small
                (get_or_from_slice_get (uses spots) k None None is),
            rank_at chain size used home spots free i s.use_of z low here,
          );
    }

-- ---- all cells are free

pub uses_free : (chain : Ptr) (size : ℕ) (spots : List SpotState) → AreFree chain size spots
    → uses spots ≡ replicate (length spots) None
uses_free chain size spots are =
    same_lists (uses spots) (replicate (length spots) None)
    (length-map spots (λ x. x.use_of) ∙ sym (length-replicate (length spots) None))
    (λ k d low.
    let small : k < length spots = rw length-map at low in
    get_or-map (λ x. x.use_of) spots k nowhere d small
    ∙ ap (λ x. x.use_of) (are k nowhere small)
    ∙ sym (get_or-replicate (length spots) k None d small))

pub fresh : (chain : Ptr) (size n : ℕ) (spots : List SpotState) (free : List ℕ)
    → AreFree chain size spots → length spots ≡ n → free ≡ replicate n 1 → n < 2 ^ 32
    → IsZspage chain size 0 0 spots free
fresh chain size n spots free are long ones small =
    let none = uses_free chain size spots are in
    record {
      count = omega (arith, ap used_of none, sum_by-replicate one_of (length spots) None);
      home_is = omega (arith, ap home_of none, sum_by-replicate one_home (length spots) None);
      few = omega (arith, long, small);
      ranked = ap length ones ∙ length-replicate n 1 ∙ sym long;
      each = λ k d low.
          let is = are k d low in
          record {
            ours = ap (λ x. x.chain) is;
            numbered = ap (λ x. x.number) is;
            sized = ap (λ x. x.size) is;
            ranked = ap (λ xs. get_or xs k 0) ones
                ∙ get_or-replicate n k 1 0 (omega (arith, long, low))
                ∙ ap (λ x. rank_of x.use_of) (sym is);
          };
    }
