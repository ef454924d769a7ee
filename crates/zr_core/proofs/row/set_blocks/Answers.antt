use Rattle.std.proofs.Common.{◌≡◌, ◌+◌, Some, None, slice_set, sym, ap, ◌∙◌, subst}
use Rattle.block_map.specs.BlockMap.{BlockMap}
use Rattle.lock_row.specs.Rows.{Row, IsIn, cell, with_cell}
use Rattle.lock_row.specs.declared.names.LockNo.TheVariants as lock
use Rattle.lock_row.specs.declared.names.Held.TheVariants as holds
use Rattle.page_steps.specs.Steps.{DiskHeld}
use Rattle.zr_core.specs.Rests.{names_of}
use Rattle.zr_core.proofs.Names.{names_some}
use Rattle.zr_core.proofs.Preparing.{cell_home, is_in, not_out, is_out_now, there, cells_set}
use Rattle.zr_core.proofs.row.set_blocks.Goals as goal
use Rattle.zr_core.proofs.row.set_blocks.Goals.{After-hand-hand, After-row-2-1}

names_are : (o : _) (c : After-hand-hand o) → c.args.row.now.names ≡ names_of c.args.size
names_are o c = c.requires.names ∙ names_some c.args.size c.requires.some

pub try_take-requires : goal.try_take-requires
try_take-requires o c =
    let a = (goal.at.try_take-requires o c).After-hand-hand in
    subst (λ (r : Row DiskHeld). IsIn r lock.Blocks) (sym c.hand-hand.ensures.row)
    (is_in c.names_have_places.ensures.there c.args.size lock.Blocks tt c.args.row.now
    (names_are o a) (holds.Blocks c.requires.home.0) c.requires.home.1)

pub unreachable-requires : goal.unreachable-requires
unreachable-requires o c =
    let a = (goal.at.unreachable-requires o c).After-hand-hand in
    not_out c.names_have_places.ensures.there c.args.size lock.Blocks tt c.args.row.now
    (names_are o a) (holds.Blocks c.requires.home.0) c.requires.home.1
    (ap (λ (r : Row DiskHeld). cell r lock.Blocks) (sym c.hand-hand.ensures.row)
    ∙ c.in_default.ensures.outcome.2.out)

pub blocks_of-blocks-requires : goal.blocks_of-blocks-requires
blocks_of-blocks-requires o c =
    let a = (goal.at.blocks_of-blocks-requires o c).After-hand-hand in (
      c.requires.home.0,
      (let q : Some (Some c.in-Some.value) ≡ Some (Some (holds.Blocks c.requires.home.0)) =
          sym c.in-Some.ensures.outcome.2.home
          ∙ ap (λ (r : Row DiskHeld). cell r lock.Blocks) c.hand-hand.ensures.row
          ∙ cell_home c.names_have_places.ensures.there c.args.size lock.Blocks tt c.args.row.now
          (names_are o a) (holds.Blocks c.requires.home.0) c.requires.home.1 in
          let r : c.in-Some.value ≡ holds.Blocks c.requires.home.0 = cc in r),
    )

pub give-requires : goal.give-requires
give-requires o c =
    let a = (goal.at.give-requires o c).After-hand-hand in
    is_out_now c.names_have_places.ensures.there c.args.size lock.Blocks tt c.args.row.now
    (names_are o a) c.in-Some.value
    (ap (λ (r : Row DiskHeld). cell r lock.Blocks) (sym c.hand-hand.ensures.row)
    ∙ c.in-Some.ensures.outcome.2.home)
    c.try_take.new.self.row.now (c.in-Some.ensures.outcome.2.out
    ∙ ap (λ (r : Row DiskHeld). with_cell r lock.Blocks None) c.hand-hand.ensures.row)

-- the row before, where the map is at home, and the row without it
at_home : (o : _) (c : After-row-2-1 o)
    → cell c.args.row.now lock.Blocks ≡ Some (Some c.in-Some.value)
at_home o c = ap (λ (r : Row DiskHeld). cell r lock.Blocks) (sym c.hand-hand.ensures.row)
    ∙ c.in-Some.ensures.outcome.2.home

taken_row : (o : _) (c : After-row-2-1 o)
    → c.try_take.new.self.row.now ≡ with_cell c.args.row.now lock.Blocks None
taken_row o c = c.in-Some.ensures.outcome.2.out
    ∙ ap (λ (r : Row DiskHeld). with_cell r lock.Blocks None) c.hand-hand.ensures.row

-- the row at the end
given_row : (o : _) (c : After-row-2-1 o)
    → c.row-2-1.given.0
    ≡ with_cell c.try_take.new.self.row.now lock.Blocks
    (Some (holds.Blocks c.set_enable.new.self))
given_row o c =
    c.row-2-1.given.1
    (sym c.hand-hand.ensures.same ∙ sym c.in-Some.ensures.outcome.0 ∙ sym c.give.ensures.0)
    ∙ c.give.ensures.2.home

pub returns-clause-cells : goal.returns-clause-cells
returns-clause-cells o c x home =
    let a = (goal.at.returns-clause-cells o c).After-hand-hand in
    let b = (goal.at.returns-clause-cells o c).After-row-2-1 in
    let places = c.names_have_places.ensures.there in
    let same : c.blocks_of-blocks.result ≡ x =
    (let q : Some (Some (holds.Blocks c.blocks_of-blocks.result)) ≡ Some (Some (holds.Blocks x)) =
    ap (λ (v : DiskHeld). Some (Some v)) (sym c.blocks_of-blocks.ensures)
    ∙ sym (there places c.args.size lock.Blocks tt c.args.row.now (names_are o a) c.in-Some.value
    (at_home o b) c.try_take.new.self.row.now (taken_row o b)) ∙ home in cc) in
    cells_set places c.args.size lock.Blocks tt c.args.row.now (names_are o a) c.in-Some.value
    (at_home o b) c.try_take.new.self.row.now (taken_row o b)
    (holds.Blocks c.set_enable.new.self) c.row-2-1.given.0 (given_row o b)
    ∙ ap (λ (y : BlockMap). slice_set c.args.row.now.cells (c.args.size + 256) (Some (holds.Blocks y)))
    (c.set_enable.ensures.enabled
    ∙ ap (λ (y : BlockMap). record y { enabled = c.args.on })
    (c.set_limit.ensures.budget ∙ ap (λ (y : BlockMap). record y { budget = c.args.budget }) same))
