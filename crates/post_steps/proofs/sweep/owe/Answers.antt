use Rattle.std.proofs.Common.{◌≤◌, refl, sym, ap, subst}
use Rattle.lock_row.specs.declared.names.At.TheVariants as at
use Rattle.lock_row.specs.declared.names.LockNo.TheVariants as lock
use Rattle.page_steps.specs.Steps.{with_lock}
use Rattle.page_steps.specs.Fits.{AsAccount}
use Rattle.post_steps.specs.Compact.{here}
use Rattle.post_steps.specs.declared.compact.CompactStage.TheVariants as stage
use Rattle.post_steps.proofs.Moves.{waits, takes_it, told_so}
use Rattle.post_steps.proofs.Events.{account_in, fits_shrunk}
use Rattle.post_steps.proofs.sweep.owe.Goals as goal

pub account_of-requires : goal.account_of-requires
account_of-requires g c =
    account_in (λ a. c.args.frames ≤ a.pages)
    (fits_shrunk c.args.table.now c.args.x c.args.frames c.in-Some.value
    (c.requires.ready.allows.fits _ _ _ _ refl (λ x v w. refl) c.in-Some.ensures.outcome))

pub returns-in-None : goal.returns-in-None
returns-in-None g c =
    told_so c.requires.at refl (waits c.requires.ready tt refl c.in-None.ensures.outcome)

pub returns-in-Some : goal.returns-in-Some
returns-in-Some g c =
    let fits = fits_shrunk c.args.table.now c.args.x c.args.frames c.in-Some.value
    (c.requires.ready.allows.fits _ _ _ _ refl (λ x v w. refl) c.in-Some.ensures.outcome) in
    told_so c.put.ensures refl (takes_it c.requires.ready tt refl (λ x v w. refl) c.in-Some.ensures.outcome (
      c.requires.ready.fit,
      subst (AsAccount (λ a. c.args.frames ≤ a.pages)) c.account_of.ensures fits,
    ) tt
    (λ x w. ap (with_lock (here x (stage.Shrunk c.args.x c.args.frames)) (at.Shrinking c.args.x)
    lock.Account) (sym c.account_of.ensures)))
