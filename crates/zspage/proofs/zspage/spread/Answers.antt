-- Each cell is in a spot.
use Rattle.std.proofs.Common.{◌≡◌, [], length, inl, inr, ap, ◌∙◌, arith}
use Rattle.std.proofs.lemmas.List.{length-append, length-reverse}
use Rattle.std.proofs.lemmas.Bool.{cases_lt}
use Rattle.cell_arena.specs.Chains.{CellsState}
use Rattle.zspage.proofs.MoveLaws.{spread_step, spread_free, none_left}
use Rattle.zspage.proofs.zspage.spread.Goals as goal
use Rattle.zspage.proofs.zspage.spread.Goals.{After-reverse}

pub loop-cell-preserved : goal.loop-cell-preserved
loop-cell-preserved c = record {
  spread = spread_step _ _ _ _ _ c.in-Some.cell c.new.result c.loop-cell.invariant.spread
      c.in-Some.ensures.cells
      c.in-Some.ensures.rest c.in-Ok.ensures.items c.new.ensures;
  room = omega (arith, c.loop-cell.invariant.room, c.in-Ok.ensures.lower_bound);
}

-- no cell is left
gone : (c : After-reverse) → c.loop-cell.cells.cells ≡ []
gone c =
    elim (cases_lt 0 (length c.loop-cell.cells.cells)) [
      | inl some ↦ absurd (cc (c.in_default.ensures.some.1 some))
      | inr none ↦ none_left _ (omega arith)
    ]

pub returns : goal.returns
returns c =
    let had = c.loop-cell.invariant.spread in
    let none = gone (goal.at.returns c).After-reverse in
    let left = none_left c.pop.new.self.cells
    (omega (
      arith,
      ap length c.in_default.ensures.cells,
      ap length none,
      length-append c.pop.new.self.cells [],
    )) in
    record {
      free = spread_free _ _ _ _ had none c.reverse.ensures.items;
      long = ap length c.reverse.ensures.items ∙ length-reverse c.loop-cell.spots.items
          ∙ omega (arith, had.sum, ap length none);
      left = c.in_default.ensures.rest ∙ ap
          (λ (v : CellsState). record v { cells = c.pop.new.self.cells }) had.same
          ∙ ap (λ l. record c.args.cells { cells = l }) left;
    }
