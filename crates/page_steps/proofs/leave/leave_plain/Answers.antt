use Rattle.std.proofs.Common.{refl, ap, ◌∙◌, arith}
use Rattle.std.specs.Prelude.{length}
use Rattle.lock_row.specs.declared.names.Held.TheVariants as holds
use Rattle.slot_entry.specs.Entries.{plain_page}
use Rattle.page_steps.specs.Nexts.{reading}
use Rattle.page_steps.specs.declared.stage.Scratch.{Scratch}
use Rattle.page_steps.proofs.Moves.{ends}
use Rattle.page_steps.proofs.Given.{can_leave_plain, left_plain}
use Rattle.page_steps.proofs.Merges.{work_merged}
use Rattle.page_steps.proofs.leave.leave_plain.Goals as goal

pub overflow_cast-at : goal.overflow_cast-at
overflow_cast-at g c =
    let few = c.requires.fit.1.few in
    let same = ap length c.order.ensures in
    omega arith

pub give-requires : goal.give-requires
give-requires g c =
    c.requires.allows.give _ _ _ refl
    (can_leave_plain c.args.head c.args.scratch.now c.args.entry c.noted.result c.requires.fit.0
    c.noted.ensures)

pub returns : goal.returns
returns g c =
    let a = c.args in
    let r : Scratch = record {
      page = c.expand.new.page;
      fresh = a.scratch.now.fresh;
      packed = a.scratch.now.packed;
      table = a.scratch.now.table;
    } in
    ends reading c.requires tt refl
    (can_leave_plain a.head a.scratch.now a.entry c.noted.result c.requires.fit.0 c.noted.ensures)
    c.give.ensures tt refl (λ x w. work_merged a.head a.scratch.now r x (λ k few low high. refl) refl w) refl
    (λ x. ap length c.order.ensures)
    (λ x w. left_plain x a.scratch.now r a.entry (holds.Slot c.noted.result) (length c.order.result.now)
    (c.expand.ensures ∙ ap plain_page c.kept.ensures))
