use Rattle.std.proofs.Common.{◌≡◌, refl, ap, ◌∙◌, subst}
use Rattle.block_map.specs.declared.blocks.Reserve.{Reserve}
use Rattle.block_map.specs.BlockMap.{BlockMap, AnswersReserve, reserved}
use Rattle.page_steps.specs.Visits.{reserving}
use Rattle.post_steps.proofs.VisitTurns.{goes_on}
use Rattle.post_steps.proofs.Writebacks.{can_reserve}
use Rattle.post_steps.proofs.visit.reserve.Goals as goal

pub give_by-requires : goal.give_by-requires
give_by-requires g c =
    let a = c.args in
    c.requires.allows.give _ _ _ refl
    (can_reserve a.head a.scratch.now a.x a.entry a.object a.blocks c.reserve-answer.new.self
    c.in-Got.block
    (subst (AnswersReserve a.blocks) c.in-Got.is c.reserve-answer.ensures.answer)
    (c.reserve-answer.ensures.after ∙ ap (reserved a.blocks) c.in-Got.is))

pub returns-in-Got : goal.returns-in-Got
returns-in-Got g c =
    let a = c.args in
    goes_on (reserving c.in-Got.block) c.requires tt refl
    (can_reserve a.head a.scratch.now a.x a.entry a.object a.blocks c.reserve-answer.new.self
    c.in-Got.block
    (subst (AnswersReserve a.blocks) c.in-Got.is c.reserve-answer.ensures.answer)
    (c.reserve-answer.ensures.after ∙ ap (reserved a.blocks) c.in-Got.is))
    c.give_by.ensures (
      record {
        room = record { page = c.requires.fit.0.page; few = c.requires.fit.0.few };
        block = (c.in-Got.block, refl);
      },
      c.requires.fit.1,
    ) tt (λ x w. refl)
