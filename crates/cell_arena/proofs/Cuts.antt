-- A chain that is cut, cell by cell.
use Rattle.std.proofs.Common.{◌≡◌, ℕ, zero, suc, ◌+◌, ◌*◌, ◌/◌, ◌-◌, ◌<◌, ◌≤◌, List, [], ◌∷◌, ◌++◌, length, take, drop, refl, sym, ap, ◌∙◌, arith, length-append, take_at, get_or}
use Rattle.std.proofs.Math.Nat.{le-div_iff_mul-le}
use Rattle.std.proofs.lemmas.List.{drop-drop, take-append-drop, get_or-append_right}
use denote.RawPtr.{Ptr, block_ptr, null_ptr, ◌+ₚ◌}
use Rattle.cell_arena.specs.Chains.{CellState, cell_of, cells_of}

pub moved_on : (p : Ptr) (a b : ℕ) → p +ₚ a +ₚ b ≡ p +ₚ (a + b)
moved_on (block_ptr x o) a b = ap (λ k. block_ptr x k) (omega arith)
moved_on null_ptr a b = refl

-- a cell that is there lies within the chain
pub cell_fits : (n a s : ℕ) → 0 < s → n < a / s → n * s + s ≤ a
cell_fits n a s some lt =
    let up : suc n * s ≤ a = (le-div_iff_mul-le {k = s} {x = suc n} {y = a} some).0 (omega arith)
    in omega (arith, up, native.Mathlib.Nat.suc-mul n s)

pub length-cells_of : (c : Ptr) (s : ℕ) (bs : List ℕ) (n : ℕ) → length (cells_of c s bs n) ≡ n
length-cells_of c s bs zero = refl
length-cells_of c s bs (suc n) = omega
    (arith, length-append (cells_of c s bs n) (cell_of c s bs n ∷ []), length-cells_of c s bs n)

-- two runs side by side
pub regrown : (bs : List ℕ) (at s : ℕ) → take s (drop at bs) ++ drop (at + s) bs ≡ drop at bs
regrown bs at s = ap (λ l. take s (drop at bs) ++ l) (sym (drop-drop s at bs))
    ∙ take-append-drop s (drop at bs)

-- the last cell is taken off
pub popped : (c : Ptr) (s : ℕ) (bs : List ℕ) (all rest : List CellState) (x : CellState)
    → all ≡ cells_of c s bs (length all) → all ≡ rest ++ x ∷ []
    → (rest ≡ cells_of c s bs (length rest)) × (x ≡ cell_of c s bs (length rest))
    × (length all ≡ suc (length rest)) × (length all * s ≡ length rest * s + s)
popped c s bs all rest x are is =
    let m : ℕ = length rest in let here : List CellState = cells_of c s bs m in
    let y : CellState = cell_of c s bs m in
    let n : length all ≡ suc m = ap length is ∙ omega (arith, length-append rest (x ∷ [])) in
    let same : rest ++ x ∷ [] ≡ here ++ y ∷ [] = sym is ∙ are ∙ ap (λ k. cells_of c s bs k) n in
    let none : m - m ≡ 0 = omega arith in (
      sym (take_at rest (x ∷ []) m refl) ∙ ap (λ l. take m l) same
          ∙ take_at here (y ∷ []) m (length-cells_of c s bs m),
      sym (get_or-append_right rest (x ∷ []) m m x refl (omega arith)
          ∙ ap (λ j. get_or (x ∷ []) j x) none) ∙ ap (λ l. get_or l m x) same
          ∙ (get_or-append_right here (y ∷ []) m m x (length-cells_of c s bs m) (omega arith)
          ∙ ap (λ j. get_or (y ∷ []) j x) none),
      n,
      ap (λ k. k * s) n ∙ native.Mathlib.Nat.suc-mul m s,
    )
