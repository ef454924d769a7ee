use Rattle.std.proofs.Common.{refl, sym, ap, ◌∙◌}
use Rattle.lock_row.specs.declared.names.At.TheVariants as at
use Rattle.lock_row.specs.declared.names.LockNo.TheVariants as lock
use Rattle.page_steps.specs.Steps.{with_lock}
use Rattle.page_steps.specs.Calls.{here}
use Rattle.page_steps.specs.declared.stage.Stage.TheVariants as stage
use Rattle.page_steps.proofs.Plans.{AnyDevice}
use Rattle.page_steps.proofs.Moves.{waits, takes_it}
use Rattle.page_steps.proofs.Taken.{fits_beyond, account_in, asks}
use Rattle.page_steps.proofs.enter.beyond.Goals as goal

pub try_take-requires : goal.try_take-requires
try_take-requires g c =
    c.requires.allows.take _ _ refl (asks c.args.head c.args.scratch.now c.requires.fit)

pub account_of-requires : goal.account_of-requires
account_of-requires g c =
    account_in (λ a. Unit {0}) (fits_beyond c.args.head c.args.scratch.now c.in-Some.value c.requires.fit
    (c.requires.allows.fits _ _ _ _ refl (asks c.args.head c.args.scratch.now c.requires.fit)
    c.in-Some.ensures.outcome))

pub returns-in-None : goal.returns-in-None
returns-in-None g c = waits c.requires tt refl c.in-None.ensures.outcome

pub returns-in-Some : goal.returns-in-Some
returns-in-Some g c =
    let a = c.args in
    let so = asks a.head a.scratch.now c.requires.fit in
    takes_it c.requires tt refl so c.in-Some.ensures.outcome c.requires.fit tt
    (λ x w. ap (with_lock (here {D = AnyDevice} x a.scratch.now stage.Beyond) at.Refusing lock.Account)
    (sym c.account_of.ensures) ∙ so x c.in-Some.value w)
