use Rattle.std.proofs.Common.{rules, ◌≡◌, ℕ, ◌*◌, ◌++◌, length, drop, sym, ap, subst, ◌∙◌, arith}
use Rattle.std.specs.List.Sorted.{IsPermutation}
use Rattle.std.proofs.lemmas.List.Sorted.{IsPermutation-trans, IsPermutation-sym, IsNonDecreasingBy-from_sort_by_key}
use denote.RawPtr.{◌+ₚ◌}
use Rattle.cell_arena.specs.Chains.{CellState, CellsState, cells_of, per}
use Rattle.cell_arena.proofs.Cuts.{moved_on, length-cells_of, popped, regrown}
use Rattle.cell_arena.proofs.Sorted.{in_order}
use Rattle.cell_arena.proofs.Whole.{whole}
use Rattle.cell_arena.proofs.cells.join.Goals as goal

pub loop-cell-init : goal.loop-cell-init
loop-cell-init c =
    let w = whole c.args.cells c.requires in let bs = w.0 in let a = w.1 in
    let is = c.cells.view_is in let h = c.cells.invariant.0 in
    let p = c.args.cells.chain in let s : ℕ = c.args.cells.size in
    let n : ℕ = per c.args.cells.frames s in
    let xs = c.cells.inside.list.items in let ys = c.sort_unstable_by_key.new.self.items in
    let moved : IsPermutation ys (cells_of p s bs n) =
    IsPermutation-trans ys xs (cells_of p s bs n)
    (IsPermutation-sym xs ys c.sort_unstable_by_key.ensures.permutation)
    (subst (λ l. IsPermutation l (cells_of p s bs n)) (sym (ap (λ (v : CellsState). v.cells) is))
    a.cells) in
    let order = in_order p s bs ys n moved
    (IsNonDecreasingBy-from_sort_by_key (λ x. x.number)
    _ c.sort_unstable_by_key.ensures.sorted (λ a r q k. search rules)) in
    let long : length ys ≡ n = ap length order ∙ length-cells_of p s bs n in (
      bs,
      a,
      order ∙ ap (λ k. cells_of p s bs k) (sym long),
      omega (arith, long),
      h.place ∙ ap (λ (v : CellsState). v.chain +ₚ per v.frames v.size * v.size) is
          ∙ ap (λ k. p +ₚ k * s) (sym long),
      ap (λ (v : CellsState). v.rest) is ∙ sym a.rest ∙ ap (λ k. drop (k * s) bs) (sym long),
      ap (λ (v : CellsState). v.chain) is,
    )

pub glue-strip-requires : goal.glue-strip-requires
glue-strip-requires c =
    let v = c.loop-cell.invariant in let p = c.args.cells.chain in let s : ℕ = c.args.cells.size in
    let rest = c.pop.new.self.items in
    let got = popped p s v.0 c.loop-cell.list.items rest c.in-Some.cell v.2 c.in-Some.ensures.items
    in let seen = c.cell.view_is ∙ got.1 in let h = c.cell.invariant in
    let place = h.place ∙ ap (λ (x : CellState). x.chain +ₚ x.number * x.size) seen in
    let long : length c.cell.inside.strip.bytes ≡ s = h.long ∙ ap (λ (x : CellState). x.size) seen in
    v.4 ∙ ap (λ k. p +ₚ k) got.3 ∙ sym (moved_on p (length rest * s) s)
    ∙ (λ i. sym place i +ₚ sym long i)

pub loop-cell-preserved : goal.loop-cell-preserved
loop-cell-preserved c =
    let v = c.loop-cell.invariant in let p = c.args.cells.chain in let s : ℕ = c.args.cells.size in
    let rest = c.pop.new.self.items in
    let got = popped p s v.0 c.loop-cell.list.items rest c.in-Some.cell v.2 c.in-Some.ensures.items
    in let seen = c.cell.view_is ∙ got.1 in let glued = c.glue-strip.ensures in (
      v.0,
      v.1,
      got.0,
      omega (arith, got.2, v.3),
      ap (λ r. r.ptr) glued ∙ c.cell.invariant.place
          ∙ ap (λ (x : CellState). x.chain +ₚ x.number * x.size) seen,
      ap (λ r. r.bytes) glued
          ∙ (λ i. (seen i).bytes ++ (v.5 ∙ ap (λ k. drop k v.0) got.3) i)
          ∙ regrown v.0 (length rest * s) s,
      ap (λ r. r.chain) glued ∙ ap (λ (x : CellState). x.chain) seen,
    )
