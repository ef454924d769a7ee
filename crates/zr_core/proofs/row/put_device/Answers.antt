use Rattle.std.proofs.Common.{◌≡◌, Some, sym, ap, ◌∙◌}
use Rattle.lock_row.specs.declared.names.Held.TheVariants as holds
use Rattle.lock_row.specs.declared.names.LockNo.TheVariants as lock
use Rattle.lock_row.specs.Rows.{Row, cell, with_cell}
use Rattle.page_steps.specs.Steps.{DiskHeld}
use Rattle.zr_core.specs.Rests.{names_of}
use Rattle.zr_core.proofs.Names.{names_some, cell_at}
use Rattle.zr_core.proofs.Preparing.{still_out, both_set}
use Rattle.zr_core.proofs.row.put_device.Goals as goal
use Rattle.zr_core.proofs.row.put_device.Goals.{After-hand-hand, After-give, After-row-1}

names_are : (o : _) (c : After-hand-hand o) → c.args.row.now.names ≡ names_of c.args.size
names_are o c = c.requires.names ∙ names_some c.args.size c.requires.some

pub give-requires : goal.give-requires
give-requires o c =
    ap (λ (r : Row DiskHeld). cell r lock.Blocks) c.hand-hand.ensures.row
    ∙ cell_at c.args.size c.names_have_places.ensures.there lock.Blocks tt c.args.row.now
    (names_are o (goal.at.give-requires o c).After-hand-hand) ∙ c.requires.out.0

-- the row with the map
mapped : (o : _) (c : After-give o) → c.give.new.self.row.now
    ≡ with_cell c.args.row.now lock.Blocks (Some (holds.Blocks c.args.spare.blocks))
mapped o c = c.give.ensures.2.home
    ∙ ap (λ (r : Row DiskHeld). with_cell r lock.Blocks (Some (holds.Blocks c.args.spare.blocks)))
    c.hand-hand.ensures.row

pub give-requires-2 : goal.give-requires-2
give-requires-2 o c =
    let at = goal.at.give-requires-2 o c in
    still_out c.names_have_places.ensures.there c.args.size c.args.row.now
    (names_are o at.After-hand-hand) (holds.Blocks c.args.spare.blocks)
    (holds.Device c.args.spare.device) c.give.new.self.row.now (mapped o at.After-give)
    c.requires.out.1

-- the row at the end
given_row : (o : _) (c : After-row-1 o) → c.row-1.given.0
    ≡ with_cell c.give.new.self.row.now lock.Device (Some (holds.Device c.args.spare.device))
given_row o c =
    c.row-1.given.1
    (sym c.hand-hand.ensures.same ∙ sym c.give.ensures.0 ∙ sym c.give-2.ensures.0)
    ∙ c.give-2.ensures.2.home

pub returns-clause-cells : goal.returns-clause-cells
returns-clause-cells o c =
    let at = goal.at.returns-clause-cells o c in
    both_set c.names_have_places.ensures.there c.args.size c.args.row.now
    (names_are o at.After-hand-hand) (holds.Blocks c.args.spare.blocks)
    (holds.Device c.args.spare.device) c.give.new.self.row.now (mapped o at.After-give)
    c.row-1.given.0 (given_row o at.After-row-1)
