use Rattle.std.proofs.Common.{refl}
use Rattle.lock_row.specs.declared.names.Held.TheVariants as holds
use Rattle.page_steps.specs.Nexts.{pinning}
use Rattle.page_steps.specs.declared.stage.Scratch.{Scratch}
use Rattle.page_steps.proofs.Moves.{ends}
use Rattle.page_steps.proofs.Merges.{work_merged}
use Rattle.page_steps.proofs.Given.{can_pin}
use Rattle.page_steps.proofs.Formed.{pinned_here}
use Rattle.page_steps.proofs.pins.pin.Goals as goal

pub give_by-requires : goal.give_by-requires
give_by-requires g c =
    let a = c.args in
    c.requires.allows.give _ _ _ refl
    (can_pin a.head a.scratch.now a.entry a.object a.pool c.pin_object-cell.new.pool
    c.pin_object-cell.result c.requires.fit.0.kept c.pin_object-cell.ensures.lends)

pub read_cell-requires : goal.read_cell-requires
read_cell-requires g c = c.pin_object-cell.ensures.read

pub returns : goal.returns
returns g c =
    let a = c.args in
    let m : Scratch = record {
      page = c.read_cell.new.page;
      fresh = a.scratch.now.fresh;
      packed = a.scratch.now.packed;
      table = a.scratch.now.table;
    } in
    let read = c.read_stage.ensures in
    let go = work_merged a.head a.scratch.now m in
    ends (pinning a.object c.pin_object-cell.result) c.requires tt refl
    (can_pin a.head a.scratch.now a.entry a.object a.pool c.pin_object-cell.new.pool
    c.pin_object-cell.result c.requires.fit.0.kept c.pin_object-cell.ensures.lends)
    c.give_by.ensures read.fit read.going
    (λ x w. read.work x (go x (λ k few low high. refl) refl w)) read.table (λ x. tt)
    (λ x w. pinned_here a.head a.scratch.now m c.read_stage.new.scratch a.entry a.object c.pin_object-cell.result a.pool
    c.read_stage.result (holds.Class c.pin_object-cell.new.pool) c.read_cell.ensures read x
    (go x (λ k few low high. refl) refl w))
