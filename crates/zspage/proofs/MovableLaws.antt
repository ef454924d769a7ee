-- Which object of a zspage moves first, and the bytes of a cell in another one.
use Rattle.std.proofs.Common.{◌≡◌, ℕ, suc, ◌+◌, ◌<◌, ◌≤◌, List, [], ◌∷◌, Option, None, Some, Bool, true, false, not, length, take, refl, ap, sym, ◌∙◌, subst, arith}
use Rattle.std.proofs.lemmas.List.Sums.{sum_by-cons}
use Rattle.zspage.specs.Cells.{CellState, UsedCell, IsStored, object_in, header_size, entry, is_home, home_of, IsHome}
use Rattle.zspage.proofs.CellLaws.{one_home, one_home-out}

-- a cell with the bytes of another one holds its object
pub copied : (handle : ℕ) (bytes : List ℕ) (from to : CellState) → to.bytes ≡ from.bytes
    → IsStored handle bytes from → IsStored handle bytes to
copied handle bytes from to same stored = record {
  body = ap (object_in (length bytes)) same ∙ stored.body;
  header = λ short. ap (take 8) same ∙ stored.header short;
  fits = subst (λ bs. header_size (length bytes) + length bytes ≤ length bs) (sym same) stored.fits;
}

pub not_home : (cells : List (Option UsedCell)) (k : ℕ) → is_home (entry cells k) ≡ false
    → IsHome cells k → ⊥
not_home cells k away (u, at, home) =
    let yes : is_home (entry cells k) ≡ true = ap is_home at ∙ ap not home in
    cc (away, yes)

-- a used cell at home, where they are counted
pub some_home : (cells : List (Option UsedCell)) → 1 ≤ home_of cells → (k : ℕ) × (k < length cells)
    × IsHome cells k
some_home [] some = absurd (omega arith)
some_home (None ∷ cells) some =
    let rest = some_home cells (omega (arith, some, sum_by-cons one_home None cells)) in
    (suc rest.0, omega (arith, rest.1), rest.2)
some_home (Some u ∷ cells) some = by_first (some_home cells) u.out refl where
  by_first : (1 ≤ home_of cells → (k : ℕ) × (k < length cells) × IsHome cells k) → (b : Bool)
      → u.out ≡ b
      → (k : ℕ) × (k < length (Some u ∷ cells)) × IsHome (Some u ∷ cells) k
  by_first later false home = (0, omega arith, (u, refl, home))
  by_first later true away =
      let rest = later (omega (
        arith,
        some,
        sum_by-cons one_home (Some u) cells,
        one_home-out u away,
      )) in
      (suc rest.0, omega (arith, rest.1), rest.2)
