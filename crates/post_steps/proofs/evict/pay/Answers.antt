use Rattle.std.proofs.Common.{refl, ap, ◌∙◌}
use Rattle.lock_row.specs.declared.names.Held.TheVariants as holds
use Rattle.mem_account.specs.Counters.{counted}
use Rattle.mem_account.specs.declared.weight.Weight.TheVariants.{Back}
use Rattle.mem_account.specs.declared.weight.Delta.TheVariants as delta
use Rattle.page_steps.specs.Visits.{paying}
use Rattle.post_steps.proofs.VisitTurns.{goes_on}
use Rattle.post_steps.proofs.Writebacks.{can_pay, paid_here}
use Rattle.post_steps.proofs.evict.pay.Goals as goal

pub give_by-requires : goal.give_by-requires
give_by-requires g c =
    let a = c.args in
    c.requires.allows.give _ _ _ refl
    (can_pay a.head a.scratch.now a.x a.entry a.frames a.was a.account c.count.new.self
    (c.count.ensures.counted
    ∙ ap (λ b. counted b (delta.Kept a.was Back)) c.give_back.ensures.pages))

pub returns : goal.returns
returns g c =
    let a = c.args in
    goes_on (paying a.entry) c.requires tt refl
    (can_pay a.head a.scratch.now a.x a.entry a.frames a.was a.account c.count.new.self
    (c.count.ensures.counted
    ∙ ap (λ b. counted b (delta.Kept a.was Back)) c.give_back.ensures.pages))
    c.give_by.ensures (c.requires.fit.0, c.requires.fit.1) tt
    (λ x w. paid_here x a.scratch.now a.x a.entry a.frames a.was a.account
    (holds.Account c.count.new.self) c.requires.fit.1)
