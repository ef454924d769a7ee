use Rattle.std.proofs.Common.{refl, sym, subst}
use Rattle.mem_account.specs.Counters.{Counters}
use Rattle.lock_row.specs.declared.names.Held.TheVariants as holds
use Rattle.page_steps.specs.Nexts.{denying}
use Rattle.page_steps.specs.Calls.{end_of}
use Rattle.page_steps.specs.Turns.{GivesAs}
use Rattle.page_steps.specs.declared.stage.Stage.TheVariants as stage
use Rattle.page_steps.proofs.Plans.{AnyDevice}
use Rattle.page_steps.proofs.Moves.{gives_it}
use Rattle.page_steps.proofs.Given.{new_class_is}
use Rattle.page_steps.proofs.objects.deny.Goals as goal

pub give_by-requires : goal.give_by-requires
give_by-requires g c =
    let a = c.args in
    c.requires.ready.allows.give _ _ _ refl
    (subst (λ (b : Counters). GivesAs {D = AnyDevice} a.head a.scratch.now (stage.Both a.own a.new a.pool a.account)
    (denying (end_of a.end)) (holds.Account b)) (sym c.count.ensures.counted) c.requires.gives)

pub returns : goal.returns
returns g c =
    let a = c.args in
    gives_it (denying (end_of a.end)) c.requires.ready tt refl
    (subst (λ (b : Counters). GivesAs {D = AnyDevice} a.head a.scratch.now (stage.Both a.own a.new a.pool a.account)
    (denying (end_of a.end)) (holds.Account b)) (sym c.count.ensures.counted) c.requires.gives)
    c.give_by.ensures (
      c.requires.ready.fit.0,
      new_class_is a.head a.scratch.now a.new c.requires.ready.fit.1,
      c.requires.refusal,
    ) tt (λ x w. refl)
