use Rattle.std.proofs.Common.{refl, ap, ◌∙◌}
use Rattle.lock_row.specs.declared.names.Held.TheVariants as holds
use Rattle.slot_entry.specs.Entries.{weight_of}
use Rattle.page_steps.specs.Givings.{old_weight}
use Rattle.page_steps.specs.Nexts.{repaying}
use Rattle.page_steps.specs.Calls.{tells_by}
use Rattle.page_steps.proofs.Moves.{gives_it}
use Rattle.page_steps.proofs.Given.{can_repay, repaid_here, repaid_is}
use Rattle.page_steps.proofs.settle.repay.Goals as goal

pub give_by-requires : goal.give_by-requires
give_by-requires g c =
    let a = c.args in
    c.requires.allows.give _ _ _ refl
    (can_repay a.head a.scratch.now a.due a.frames a.ahead a.account c.told.result c.weight_in-is.result
    c.requires.fit.0
    (c.told.ensures ∙ ap (tells_by a.head.work) (c.count.ensures.counted
    ∙ repaid_is a.account c.give_back.new.self a.frames (old_weight a.ahead a.due.entry.kept)
    (weight_of a.due.next) c.counted_as-was.result c.weight_in-is.result c.give_back.ensures.pages
    (c.counted_as-was.ensures ∙ ap (old_weight a.ahead) c.kept-kept.ensures) c.weight_in-is.ensures))
    c.weight_in-is.ensures)

pub returns : goal.returns
returns g c =
    let a = c.args in
    gives_it (repaying c.weight_in-is.result) c.requires tt refl
    (can_repay a.head a.scratch.now a.due a.frames a.ahead a.account c.told.result c.weight_in-is.result
    c.requires.fit.0
    (c.told.ensures ∙ ap (tells_by a.head.work) (c.count.ensures.counted
    ∙ repaid_is a.account c.give_back.new.self a.frames (old_weight a.ahead a.due.entry.kept)
    (weight_of a.due.next) c.counted_as-was.result c.weight_in-is.result c.give_back.ensures.pages
    (c.counted_as-was.ensures ∙ ap (old_weight a.ahead) c.kept-kept.ensures) c.weight_in-is.ensures))
    c.weight_in-is.ensures)
    c.give_by.ensures c.requires.fit.0 tt
    (λ x w. repaid_here x a.scratch.now a.due a.frames a.ahead a.account c.weight_in-is.result
    c.weight_in.result (holds.Account c.told.result)
    (c.weight_in.ensures ∙ ap weight_of c.kept-kept.ensures))
