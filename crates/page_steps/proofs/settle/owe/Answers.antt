use Rattle.std.proofs.Common.{refl, sym, ap, subst}
use Rattle.lock_row.specs.declared.names.At.TheVariants as at
use Rattle.lock_row.specs.declared.names.LockNo.TheVariants as lock
use Rattle.slot_entry.specs.Entries.{weight_of}
use Rattle.page_steps.specs.Steps.{with_lock}
use Rattle.page_steps.specs.Givings.{old_weight}
use Rattle.page_steps.specs.Fits.{AsAccount, CanPay}
use Rattle.page_steps.specs.Calls.{here}
use Rattle.page_steps.specs.declared.stage.Stage.TheVariants as stage
use Rattle.page_steps.proofs.Plans.{AnyDevice}
use Rattle.page_steps.proofs.Moves.{waits, takes_it}
use Rattle.page_steps.proofs.Taken.{fits_owing, account_in}
use Rattle.page_steps.proofs.settle.owe.Goals as goal

pub account_of-requires : goal.account_of-requires
account_of-requires g c =
    let a = c.args in
    account_in (CanPay a.frames (old_weight a.ahead a.due.entry.kept) (weight_of a.due.next))
    (fits_owing a.head a.scratch.now a.due a.frames a.ahead c.in-Some.value c.requires.fit
    (c.requires.allows.fits _ _ _ _ refl (λ x v w. refl) c.in-Some.ensures.outcome))

pub returns-in-None : goal.returns-in-None
returns-in-None g c = waits c.requires tt refl c.in-None.ensures.outcome

pub returns-in-Some : goal.returns-in-Some
returns-in-Some g c =
    let a = c.args in
    let fits = fits_owing a.head a.scratch.now a.due a.frames a.ahead c.in-Some.value c.requires.fit
    (c.requires.allows.fits _ _ _ _ refl (λ x v w. refl) c.in-Some.ensures.outcome) in
    takes_it c.requires tt refl (λ x v w. refl) c.in-Some.ensures.outcome (
      c.requires.fit,
      subst (AsAccount (CanPay a.frames (old_weight a.ahead a.due.entry.kept) (weight_of a.due.next)))
          c.account_of.ensures fits,
    ) tt
    (λ x w. ap (with_lock (here {D = AnyDevice} x a.scratch.now (stage.Owing a.due a.frames a.ahead)) at.Giving lock.Account)
    (sym c.account_of.ensures))
