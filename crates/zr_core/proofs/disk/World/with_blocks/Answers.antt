use Rattle.std.proofs.Common.{sym, ap, ◌∙◌}
use Rattle.block_map.specs.BlockMap.{BlockMap}
use Rattle.zr_core.specs.Rests.{blocks_by}
use Rattle.zr_core.proofs.Spares.{some_pages}
use Rattle.zr_core.proofs.Telling.{blocks_home, map_as, map_rests, map_device, map_blocks}
use Rattle.zr_core.proofs.disk.World.with_blocks.Goals as goal

pub set_blocks-requires-clause-home : goal.set_blocks-requires-clause-home
set_blocks-requires-clause-home o c =
    blocks_home c.args.self.now.pages c.args.self.now.noted.items c.args.self.now.row.cells
    c.requires.rest
    (some_pages c.args.self.now.pages c.args.self.now.spare c.args.self.now.early
    (sym c.in_default.is))

pub returns-clause-device : goal.returns-clause-device
returns-clause-device o c =
    map_device c.args.self.now.pages c.args.self.now.noted.items c.args.self.now.row.cells
    c.requires.rest c.phases_go_on.ensures.next c.args.budget c.args.on c.set_blocks.new.row.cells
    c.set_blocks.ensures.cells c.args.self.now.spare
    (some_pages c.args.self.now.pages c.args.self.now.spare c.args.self.now.early
    (sym c.in_default.is))

pub returns-clause-blocks : goal.returns-clause-blocks
returns-clause-blocks o c =
    let x = c.args.self.now in
    ap (λ s. blocks_by s x.pages c.set_blocks.new.row.cells) c.in_default.is
    ∙ map_blocks x.pages x.noted.items x.row.cells c.requires.rest c.phases_go_on.ensures.next
    c.args.budget c.args.on c.set_blocks.new.row.cells c.set_blocks.ensures.cells
    (some_pages x.pages x.spare x.early (sym c.in_default.is))
    ∙ ap (λ s. let m : BlockMap = blocks_by s x.pages x.row.cells in
    record m { budget = c.args.budget; enabled = c.args.on }) (sym c.in_default.is)

pub returns-clause-rest : goal.returns-clause-rest
returns-clause-rest o c =
    map_rests c.args.self.now.pages c.args.self.now.noted.items c.args.self.now.row.cells
    c.requires.rest c.phases_go_on.ensures.next c.args.budget c.args.on c.set_blocks.new.row.cells
    c.set_blocks.ensures.cells
    (some_pages c.args.self.now.pages c.args.self.now.spare c.args.self.now.early
    (sym c.in_default.is))

pub returns-clause-rests_as : goal.returns-clause-rests_as
returns-clause-rests_as o c =
    map_as c.args.self.now.pages c.args.self.now.noted.items c.args.self.now.row.cells
    c.requires.rest c.phases_go_on.ensures.next c.args.budget c.args.on c.set_blocks.new.row.cells
    c.set_blocks.ensures.cells
