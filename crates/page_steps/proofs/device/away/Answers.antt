use Rattle.std.proofs.Common.{◌<◌, refl, sym, ap, subst}
use Rattle.lock_row.specs.declared.names.At.TheVariants as at
use Rattle.lock_row.specs.declared.names.LockNo.TheVariants as lock
use Rattle.page_steps.specs.Steps.{with_lock}
use Rattle.page_steps.specs.Fits.{AsDevice}
use Rattle.page_steps.specs.Calls.{here}
use Rattle.page_steps.specs.declared.stage.Stage.TheVariants as stage
use Rattle.page_steps.proofs.Plans.{AnyDevice}
use Rattle.page_steps.proofs.Moves.{waits, takes_it}
use Rattle.page_steps.proofs.Taken.{fits_away, device_in}
use Rattle.page_steps.proofs.device.away.Goals as goal

pub device_of-requires : goal.device_of-requires
device_of-requires g c =
    let a = c.args in
    device_in (λ d. a.block < d.blocks)
    (fits_away a.head a.scratch.now a.entry a.block c.in-Some.value c.requires.fit.kept
    (c.requires.allows.fits _ _ _ _ refl (λ x v w. refl) c.in-Some.ensures.outcome))

pub returns-in-None : goal.returns-in-None
returns-in-None g c = waits c.requires tt refl c.in-None.ensures.outcome

pub returns-in-Some : goal.returns-in-Some
returns-in-Some g c =
    let a = c.args in
    let fits = fits_away a.head a.scratch.now a.entry a.block c.in-Some.value c.requires.fit.kept
    (c.requires.allows.fits _ _ _ _ refl (λ x v w. refl) c.in-Some.ensures.outcome) in
    takes_it c.requires tt refl (λ x v w. refl) c.in-Some.ensures.outcome
    (c.requires.fit, subst (AsDevice (λ d. a.block < d.blocks)) c.device_of.ensures fits) tt
    (λ x w. ap (with_lock (here {D = AnyDevice} x a.scratch.now (stage.Away a.entry a.block)) at.Fetching lock.Device)
    (sym c.device_of.ensures))
