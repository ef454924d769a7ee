-- Cells on their way into spots, and back.
use Rattle.std.proofs.Common.{◌≡◌, ℕ, suc, zero, ◌+◌, ◌-◌, ◌*◌, ◌<◌, ◌≤◌, ◌⊎◌, inl, inr, ◌++◌, List, [], ◌∷◌, Option, None, Some, Bool, true, false, not, cond, subst, length, get_or, refl, sym, ◌∙◌, ap, arith}
use mathlib.Core.List.{reverse}
use Rattle.std.proofs.lemmas.List.{length-map, get_or-map, get_or-reverse, length-reverse, length-append, get_or_append_left}
use Rattle.std.proofs.lemmas.List.Sums.{sum_by-cons}
use Rattle.std.proofs.lemmas.List.Sorted.{IsPermutation-reverse}
use Rattle.std.proofs.lemmas.Bool.{cases_lt}
use Rattle.std.proofs.Math.Seq.{get_or-append_seam}
use Rattle.cell_arena.specs.Chains.{CellsState, per, AreInOrder, HasAllCells}
use Rattle.zspage.specs.Cells.{CellState, UsedCell, IsCellAt, used_of, home_of}
use Rattle.zspage.specs.Spots.{SpotState, uses, IsHere, AreHere, AreFree, ArePlaced, IsEmptied}
use Rattle.zspage.specs.Moves.{IsSpread, IsGathered}
use Rattle.zspage.proofs.CellLaws.{one_of, one_home}

-- ---- lists with one more element

-- each element of a list with one more is one of the list or the last
last_or_before : {A : Type 0} (xs all : List A) (x : A) → all ≡ xs ++ x ∷ [] → (k : ℕ) (d : A)
    → k < length all
    → ((k < length xs) × (get_or all k d ≡ get_or xs k d))
    ⊎ ((k ≡ length xs) × (get_or all k d ≡ x))
last_or_before xs all x is k d low =
    let long : length all ≡ length xs + 1 = ap length is ∙ length-append xs (x ∷ []) in
    elim (cases_lt k (length xs)) [
      | inl less ↦ inl (less, ap (λ l. get_or l k d) is ∙ get_or_append_left xs (x ∷ []) d k less)
      | inr past ↦
          let e : k ≡ length xs = omega (arith, past, low, long) in
          inr (
            e,
            ap (λ l. get_or l k d) is ∙ ap (λ j. get_or (xs ++ x ∷ []) j d) e
                ∙ get_or-append_seam xs x [] d,
          )
    ]

before_last : {A : Type 0} (xs all : List A) (x : A) → all ≡ xs ++ x ∷ [] → (k : ℕ) (d : A)
    → k < length xs
    → get_or xs k d ≡ get_or all k d
before_last xs all x is k d low = sym
    (ap (λ l. get_or l k d) is ∙ get_or_append_left xs (x ∷ []) d k low)

last_is : {A : Type 0} (xs all : List A) (x : A) → all ≡ xs ++ x ∷ [] → x ≡ get_or all (length xs) x
last_is xs all x is = sym (ap (λ l. get_or l (length xs) x) is ∙ get_or-append_seam xs x [] x)

-- ---- cells go into spots

-- one more cell is in a spot
pub spread_step : (c₀ c c' : CellsState) (spots spots' : List SpotState) (x : CellState)
    (s : SpotState)
    → IsSpread c₀ c spots → c.cells ≡ c'.cells ++ x ∷ [] → c' ≡ record c { cells = c'.cells }
    → spots' ≡ spots ++ s ∷ []
    → s ≡ record { chain = x.chain; number = x.number; size = x.size; use_of = None }
    → IsSpread c₀ c' spots'
spread_step c₀ c c' spots spots' x s h popped is pushed made =
    let m : ℕ = length c'.cells in
    let less : length c.cells ≡ m + 1 = ap length popped ∙ length-append c'.cells (x ∷ []) in
    let more : length spots' ≡ length spots + 1 = ap length pushed ∙ length-append spots (s ∷ []) in
    let low : m < length c.cells = omega (arith, less) in
    let last : x ≡ get_or c.cells m x = last_is c'.cells c.cells x popped in
    let here : (k : ℕ) → k < length c'.cells
    → k < length c.cells = λ k small. omega (arith, small, less) in
    let same : (k : ℕ) (d : CellState) → k < length c'.cells
    → get_or c'.cells k d ≡ get_or c.cells k d =
    before_last c'.cells c.cells x popped in
    record {
      same = is ∙ ap (λ (v : CellsState). record v { cells = c'.cells }) h.same;
      sum = omega (arith, h.sum, less, more);
      front = record {
        ours = λ k d small. ap (λ (v : CellState). v.chain) (same k d small)
            ∙ h.front.ours k d (here k small);
        places = λ k d small. ap (λ (v : CellState). v.number) (same k d small)
            ∙ h.front.places k d (here k small);
        sizes = λ k d small. ap (λ (v : CellState). v.size) (same k d small)
            ∙ h.front.sizes k d (here k small);
        long = λ k d small. ap (λ (v : CellState). length v.bytes) (same k d small)
            ∙ h.front.long k d (here k small);
      };
      placed = λ k d small.
          elim (last_or_before spots spots' s pushed k d small) [
            | inl (before, e) ↦ e ∙ h.placed k d before
            | inr (end, e) ↦
                let number : x.number ≡ length c₀.cells - suc k =
                ap (λ (v : CellState). v.number) last ∙ h.front.places m x low
                ∙ omega (arith, h.sum, less, end) in
                e ∙ made
                ∙ ap (λ p. record { chain = p; number = x.number; size = x.size; use_of = None })
                (ap (λ (v : CellState). v.chain) last ∙ h.front.ours m x low)
                ∙ ap (λ n. record { chain = c₀.chain; number = n; size = x.size; use_of = None })
                number
                ∙ ap (λ n. record {
                  chain = c₀.chain;
                  number = length c₀.cells - suc k;
                  size =
                      n;
                  use_of = None;
                })
                (ap (λ (v : CellState). v.size) last ∙ h.front.sizes m x low)
          ];
    }

-- all cells are in spots, which then stand in the order of the chain
pub spread_free : (c₀ c : CellsState) (spots spots' : List SpotState) → IsSpread c₀ c spots
    → c.cells ≡ []
    → spots' ≡ reverse spots → AreFree c₀.chain c₀.size spots'
spread_free c₀ c spots spots' h gone is k d low =
    let n : ℕ = length spots in
    let all : n ≡ length c₀.cells = omega (arith, h.sum, ap length gone) in
    let small : k < n = omega (arith, low, ap length is, length-reverse spots) in
    let at : n - 1 - k < n = omega (arith, small) in
    ap (λ l. get_or l k d) is ∙ get_or-reverse spots k d small ∙ h.placed (n - 1 - k) d at
    ∙ ap (λ j. record { chain = c₀.chain; number = j; size = c₀.size; use_of = None })
    {x = length c₀.cells - suc (n - 1 - k)} (omega (arith, all, small))

pub none_left : {A : Type 0} (xs : List A) → length xs ≡ 0 → xs ≡ []
none_left [] none = refl
none_left (x ∷ xs) none = absurd (omega (arith, none))

-- what stays then is no cell
pub emptied : (x r : CellsState) (size frames count : ℕ) → AreInOrder x x.cells
    → r ≡ record x { cells = [] }
    → x.size ≡ size → x.frames ≡ frames → count ≡ length x.cells → IsEmptied r size frames count
emptied x r size frames count order left sized framed many =
    let both : per x.frames x.size * x.size ≡ per frames size * size =
    ap (λ n. per n x.size * x.size) framed ∙ ap (λ n. per frames n * n) sized in
    record {
      none = ap (λ (v : CellsState). v.cells) left;
      sized = ap (λ (v : CellsState). v.size) left ∙ sized;
      framed = ap (λ (v : CellsState). v.frames) left ∙ framed;
      all = many ∙ order.count ∙ ap (λ n. per n x.size) framed ∙ ap (per frames) sized;
      rest = omega (arith, order.rest, both, framed, ap (λ (v : CellsState). length v.rest) left);
    }

-- ---- and back

-- one more cell is back
pub gather_step : (c₀ c c' : CellsState) (spots₀ spots rest : List SpotState) (ranks : List ℕ)
    (s : SpotState)
    (x : CellState) → IsGathered c₀ c spots₀ spots → spots ≡ rest ++ s ∷ []
    → c' ≡ record c { cells = c.cells ++ x ∷ [] } → ArePlaced c₀.chain c₀.size spots₀ ranks
    → (x.chain ≡ s.chain) × IsCellAt s.size s.number x → IsGathered c₀ c' spots₀ rest
gather_step c₀ c c' spots₀ spots rest ranks s x h popped is placed (ours, at) =
    let m : ℕ = length rest in
    let n : ℕ = length spots₀ in
    let cells : c'.cells ≡ c.cells ++ x ∷ [] = ap (λ (v : CellsState). v.cells) is in
    let less : length spots ≡ m + 1 = ap length popped ∙ length-append rest (s ∷ []) in
    let more : length c'.cells ≡ length c.cells + 1 = ap length cells
    ∙ length-append c.cells (x ∷ []) in
    let here : s ≡ get_or spots₀ m s =
    last_is rest spots s popped ∙ h.front m s (omega (arith, less)) in
    let spot = placed m s (omega (arith, h.sum, less)) in
    let size : s.size ≡ c₀.size = ap (λ (v : SpotState). v.size) here ∙ spot.sized in
    let number : s.number ≡ m = ap (λ (v : SpotState). v.number) here ∙ spot.numbered in
    record {
      same = is ∙ ap (λ (v : CellsState). record v { cells = c.cells ++ x ∷ [] }) h.same
          ∙ ap (λ l. record c₀ { cells = l }) (sym cells);
      sum = omega (arith, h.sum, less, more);
      front = λ k d small. before_last rest spots s popped k d small
          ∙ h.front k d (omega (arith, small, less));
      back = λ k d small.
          elim (last_or_before c.cells c'.cells x cells k d small) [
            | inl (before, e) ↦
                let had = h.back k d before in (
                  ap (λ (v : CellState). v.chain) e ∙ had.0,
                  subst (IsCellAt c₀.size (n - suc k)) (sym e) had.1,
                )
            | inr (end, e) ↦ (
              ap (λ (v : CellState). v.chain) e ∙ ours ∙ ap (λ (v : SpotState). v.chain) here
                  ∙ spot.ours,
              subst (IsCellAt c₀.size (n - suc k)) (sym e) (record {
                numbered = at.numbered ∙ number ∙ omega (arith, end, h.sum, less);
                sized = at.sized ∙ size;
                whole = at.whole;
              }),
            )
          ];
    }

-- all cells are back, the last first
pub gathered_all : (c₀ c : CellsState) (spots₀ spots : List SpotState)
    → IsGathered c₀ c spots₀ spots
    → length spots ≡ 0 → IsEmptied c₀ c₀.size c₀.frames (length spots₀) → HasAllCells c
gathered_all c₀ c spots₀ spots h gone all =
    let xs : List CellState = c.cells in
    let n : ℕ = length spots₀ in
    let count : length xs ≡ n = omega (arith, h.sum, gone) in
    let long : length (reverse xs) ≡ n = length-reverse xs ∙ count in
    let size : c.size ≡ c₀.size = ap (λ (x : CellsState). x.size) h.same in
    let at : (k : ℕ) (d : CellState) → k < length (reverse xs)
    → (get_or (reverse xs) k d ≡ get_or xs (n - suc k) d) × (n - suc k < length xs)
    × (n - suc (n - suc k) ≡ k) =
    λ k d low. (
      get_or-reverse xs k d (omega (arith, low, long, count))
          ∙ ap (λ m. get_or xs m d) {x = length xs - 1 - k} (omega (arith, count)),
      omega (arith, low, long, count),
      omega (arith, low, long),
    ) in (
      reverse xs,
      IsPermutation-reverse xs,
      record {
        count = long ∙ all.all ∙ sym (ap (λ (x : CellsState). per x.frames x.size) h.same);
        numbered = record {
          ours = λ k d low.
              let e = at k d low in
              ap (λ (x : CellState). x.chain) e.0 ∙ (h.back (n - suc k) d e.1).0
              ∙ sym (ap (λ (x : CellsState). x.chain) h.same);
          places = λ k d low.
              let e = at k d low in
              ap (λ (x : CellState). x.number) e.0 ∙ (h.back (n - suc k) d e.1).1.numbered ∙ e.2;
          sizes = λ k d low.
              let e = at k d low in
              ap (λ (x : CellState). x.size) e.0 ∙ (h.back (n - suc k) d e.1).1.sized ∙ sym size;
          long = λ k d low.
              let e = at k d low in
              let cell = (h.back (n - suc k) d e.1).1 in
              ap (λ (x : CellState). length x.bytes) e.0 ∙ cell.whole ∙ cell.sized ∙ sym size;
        };
        rest = ap (λ (x : CellsState). per x.frames x.size * x.size + length x.rest) h.same
            ∙ all.rest
            ∙ sym (ap (λ (x : CellsState). x.frames * 4096) h.same);
      },
    )

-- ---- where all cells are at hand

abbrev one_if : Bool → ℕ
one_if b = cond (not b) 1 0

one_if-most : (b : Bool) → one_if b ≤ 1
one_if-most true = omega arith
one_if-most false = omega arith

one_if-in : (b : Bool) → 1 ≤ one_if b → b ≡ false
one_if-in true e = absurd (omega (arith, e))
one_if-in false e = refl

home_used : (cells : List (Option UsedCell)) → home_of cells ≤ used_of cells
home_used [] = omega arith
home_used (None ∷ cells) = omega (arith, sum_by-cons one_home None cells, home_used cells)
home_used (Some u ∷ cells) =
    omega (
      arith,
      sum_by-cons one_home (Some u) cells,
      sum_by-cons one_of (Some u) cells,
      one_if-most u.out,
      home_used cells,
    )

all_home : (cells : List (Option UsedCell)) → used_of cells ≡ home_of cells
    → (k : ℕ) (d : Option UsedCell)
    → k < length cells → IsHere (get_or cells k d)
all_home [] same k d low = absurd (omega (arith, low))
all_home (None ∷ cells) same zero d low = tt
all_home (None ∷ cells) same (suc k) d low =
    all_home cells (omega (arith, same, sum_by-cons one_home None cells)) k d (omega (arith, low))
all_home (Some u ∷ cells) same zero d low =
    one_if-in u.out (omega (
      arith,
      same,
      sum_by-cons one_home (Some u) cells,
      sum_by-cons one_of (Some u) cells,
      one_if-most u.out,
      home_used cells,
    ))
all_home (Some u ∷ cells) same (suc k) d low =
    all_home cells (omega (
      arith,
      same,
      sum_by-cons one_home (Some u) cells,
      sum_by-cons one_of (Some u) cells,
      one_if-most u.out,
      home_used cells,
    )) k d (omega (arith, low))

pub here : (spots : List SpotState) → used_of (uses spots) ≡ home_of (uses spots) → AreHere spots
here spots same k d low =
    subst IsHere (get_or-map (λ s. s.use_of) spots k d None low)
    (all_home (uses spots) same k None (omega (arith, low, length-map spots (λ s. s.use_of))))

pub here_free : (spots : List SpotState) → used_of (uses spots) ≡ 0 → AreHere spots
here_free spots none = here spots (omega (arith, none, home_used (uses spots)))
