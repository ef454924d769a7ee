use Rattle.std.proofs.Common.{refl, sym, ap, subst}
use Rattle.lock_row.specs.declared.names.At.TheVariants as at
use Rattle.lock_row.specs.declared.names.LockNo.TheVariants as lock
use Rattle.page_steps.specs.Steps.{with_lock}
use Rattle.page_steps.specs.Fits.{AsAccount, CanCharge}
use Rattle.page_steps.specs.Calls.{here}
use Rattle.page_steps.specs.declared.stage.Stage.TheVariants as stage
use Rattle.page_steps.proofs.Plans.{AnyDevice}
use Rattle.page_steps.proofs.Moves.{waits, takes_it}
use Rattle.page_steps.proofs.Taken.{fits_inside, account_in}
use Rattle.page_steps.proofs.objects.ask.Goals as goal

pub account_of-requires : goal.account_of-requires
account_of-requires g c =
    let a = c.args in
    account_in (CanCharge a.scratch.now.table)
    (fits_inside a.head a.scratch.now a.own a.new a.pool c.in-Some.value
    (c.requires.allows.fits _ _ _ _ refl (λ x v w. refl) c.in-Some.ensures.outcome))

pub returns-in-None : goal.returns-in-None
returns-in-None g c = waits c.requires tt refl c.in-None.ensures.outcome

pub returns-in-Some : goal.returns-in-Some
returns-in-Some g c =
    let a = c.args in
    let fits = fits_inside a.head a.scratch.now a.own a.new a.pool c.in-Some.value
    (c.requires.allows.fits _ _ _ _ refl (λ x v w. refl) c.in-Some.ensures.outcome) in
    takes_it c.requires tt refl (λ x v w. refl) c.in-Some.ensures.outcome (
      c.requires.fit.0,
      c.requires.fit.1,
      c.requires.fit.2,
      subst (AsAccount (CanCharge a.scratch.now.table)) c.account_of.ensures fits,
    ) tt
    (λ x w. ap (with_lock (here {D = AnyDevice} x a.scratch.now (stage.Inside a.own a.new a.pool)) at.Both lock.Account)
    (sym c.account_of.ensures))
