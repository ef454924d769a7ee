use Rattle.std.proofs.Common.{ℕ, ap, ◌∙◌, subst}
use Rattle.block_map.specs.BlockMap.{BlockMap}
use Rattle.zr_core.specs.Rests.{RestsAs, with_budget}
use Rattle.zr_core.proofs.Telling.{map_known}
use Rattle.zr_core.proofs.disk.World.set_wb_enable.Goals as goal

pub returns-clause-rests_as : goal.returns-clause-rests_as
returns-clause-rests_as o c g rests =
    let x = c.args.self.now in
    let m = map_known g x.pages x.row.cells x.spare x.early rests in
    subst (λ (n : ℕ). RestsAs (with_budget g n c.args.on) c.with_blocks.new.self.pages
    c.with_blocks.new.self.row.cells)
    (c.budget-budget.ensures ∙ ap (λ (y : BlockMap). y.budget) c.blocks-2.ensures ∙ m.budget)
    (c.with_blocks.ensures.rests_as g rests)
