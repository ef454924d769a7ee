-- The bytes of a chain from those of its cells.
use Rattle.std.proofs.Common.{◌≡◌, ℕ, zero, suc, ◌*◌, ◌<◌, List, [], ◌∷◌, ◌++◌, length, take, drop, get_or, sym, ap, ◌∙◌, arith, length-append, take_at, subst, length-take, length-drop}
use native.Mathlib.Nat.{suc-mul, zero-mul}
use Rattle.std.specs.List.Sorted.{IsPermutation}
use Rattle.std.proofs.lemmas.List.{same_lists, append_assoc}
use Rattle.std.proofs.Math.Seq.{drop-append-add}
use Rattle.cell_arena.specs.Chains.{CellState, CellsState, cell_of, cells_of, per, AreCellsOf, AreInOrder, HasAllCells}
use Rattle.std.proofs.Math.Nat.{div-mul-le_self}
use Rattle.cell_arena.proofs.Cuts.{length-cells_of, cell_fits}
use Rattle.cell_arena.proofs.Sorted.{get_or-cells_of}

abbrev joined : List CellState → List ℕ
joined [] = []
joined (x ∷ xs) = x.bytes ++ joined xs

abbrev Long : ℕ → List CellState → Type 0
Long s xs = (k : ℕ) (d : CellState) → k < length xs → length (get_or xs k d).bytes ≡ s

later : (s : ℕ) (x : CellState) (xs : List CellState) → Long s (x ∷ xs) → Long s xs
later s x xs long k d lt = long (suc k) d (omega (arith, lt))

length-joined : (s : ℕ) (xs : List CellState) → Long s xs → length (joined xs) ≡ length xs * s
length-joined s [] long = sym (zero-mul s)
length-joined s (x ∷ xs) long = omega (
  arith,
  length-append x.bytes (joined xs),
  long 0 x (omega arith),
  length-joined s xs (later s x xs long),
  suc-mul (length xs) s,
)

-- past the first of the cells
past : (s n : ℕ) (x : CellState) (ys : List ℕ) → length x.bytes ≡ s
    → drop (suc n * s) (x.bytes ++ ys) ≡ drop (n * s) ys
past s n x ys long = ap (λ k. drop k (x.bytes ++ ys)) (omega (arith, long, suc-mul n s))
    ∙ drop-append-add x.bytes ys (n * s)

piece : (s : ℕ) (xs : List CellState) (rest : List ℕ) → Long s xs → (k : ℕ) (d : CellState)
    → k < length xs → take s (drop (k * s) (joined xs ++ rest)) ≡ (get_or xs k d).bytes
piece s [] rest long k d lt = absurd (omega (arith, lt))
piece s (x ∷ xs) rest long zero d lt =
    ap (λ k. take s (drop k (x.bytes ++ joined xs ++ rest))) (zero-mul s)
    ∙ ap (λ l. take s l) (append_assoc x.bytes (joined xs) rest)
    ∙ take_at x.bytes (joined xs ++ rest) s (long 0 x (omega arith))
piece s (x ∷ xs) rest long (suc k) d lt =
    ap (λ l. take s (drop (suc k * s) l)) (append_assoc x.bytes (joined xs) rest)
    ∙ ap (λ l. take s l) (past s k x (joined xs ++ rest) (long 0 x (omega arith)))
    ∙ piece s xs rest (later s x xs long) k d (omega (arith, lt))

end : (s : ℕ) (xs : List CellState) (rest : List ℕ) → Long s xs
    → drop (length xs * s) (joined xs ++ rest) ≡ rest
end s [] rest long = ap (λ k. drop k rest) (zero-mul s)
end s (x ∷ xs) rest long = ap (λ l. drop (suc (length xs) * s) l)
    (append_assoc x.bytes (joined xs) rest)
    ∙ past s (length xs) x (joined xs ++ rest) (long 0 x (omega arith))
    ∙ end s xs rest (later s x xs long)

pub whole : (c : CellsState) → HasAllCells c → (bytes : List ℕ) × AreCellsOf c bytes
whole c (xs, moved, h) =
    let s : ℕ = c.size in let n : ℕ = per c.frames s in let bs : List ℕ = joined xs ++ c.rest in
    let count = h.count in
    let same : xs ≡ cells_of c.chain s bs n =
    same_lists xs (cells_of c.chain s bs n) (count ∙ sym (length-cells_of c.chain s bs n))
    (λ k d lt.
    (λ i. record {
      chain = h.numbered.ours k d lt i;
      number = h.numbered.places k d lt i;
      size =
          h.numbered.sizes k d lt i;
      bytes = sym (piece s xs c.rest h.numbered.long k d lt) i;
    })
    ∙ sym (get_or-cells_of c.chain s bs n k d (omega (arith, lt, count)))) in (
      bs,
      record {
        long = omega (
          arith,
          length-append (joined xs) c.rest,
          length-joined s xs h.numbered.long,
          ap (λ k. k * s) count,
          h.rest,
        );
        cells = subst (λ l. IsPermutation c.cells l) same moved;
        rest = ap (λ k. drop (k * s) bs) (sym count) ∙ end s xs c.rest h.numbered.long;
      },
    )

-- what a split gives
pub cut_whole : (c : CellsState) (bs : List ℕ) → 0 < c.size → c.frames * 4096 ≡ length bs
    → c.cells ≡ cells_of c.chain c.size bs (per c.frames c.size)
    → c.rest ≡ drop (per c.frames c.size * c.size) bs → AreInOrder c c.cells
cut_whole c bs some whole are rest =
    let s : ℕ = c.size in let n : ℕ = per c.frames s in
    let count : length c.cells ≡ n = ap length are ∙ length-cells_of c.chain s bs n in
    let here : (k : ℕ) (d : CellState) → k < length c.cells
    → get_or c.cells k d ≡ cell_of c.chain s bs k =
    λ k d lt. ap (λ l. get_or l k d) are ∙ get_or-cells_of c.chain s bs n k d
    (omega (arith, lt, count)) in
    record {
      count = count;
      numbered = record {
        ours = λ k d lt. ap (λ (x : CellState). x.chain) (here k d lt);
        places = λ k d lt. ap (λ (x : CellState). x.number) (here k d lt);
        sizes = λ k d lt. ap (λ (x : CellState). x.size) (here k d lt);
        long = λ k d lt.
            let fits = cell_fits k (c.frames * 4096) s some (omega (arith, lt, count)) in
            ap (λ (x : CellState). length x.bytes) (here k d lt)
            ∙ omega (
              arith,
              length-take s (drop (k * s) bs),
              length-drop (k * s) bs,
              fits,
              whole,
            );
      };
      rest = omega (
        arith,
        ap length rest,
        length-drop (n * s) bs,
        whole,
        div-mul-le_self (c.frames * 4096) s,
      );
    }
