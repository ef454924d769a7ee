use Rattle.std.proofs.Common.{Bool, ap, ◌∙◌, subst}
use Rattle.block_map.specs.BlockMap.{BlockMap}
use Rattle.zr_core.specs.Rests.{RestsAs, with_budget}
use Rattle.zr_core.proofs.Telling.{map_known}
use Rattle.zr_core.proofs.disk.World.set_wb_limit.Goals as goal

pub returns-clause-rests_as : goal.returns-clause-rests_as
returns-clause-rests_as o c g rests =
    let x = c.args.self.now in
    let m = map_known g x.pages x.row.cells x.spare x.early rests in
    subst (λ (on : Bool). RestsAs (with_budget g c.args.units on) c.with_blocks.new.self.pages
    c.with_blocks.new.self.row.cells)
    (c.is_enabled-on.ensures ∙ ap (λ (y : BlockMap). y.enabled) c.blocks-2.ensures ∙ m.budgeted)
    (c.with_blocks.ensures.rests_as g rests)
