use Rattle.std.proofs.Common.{refl, subst}
use Rattle.lock_row.specs.declared.names.At.TheVariants as at
use Rattle.page_steps.specs.Fits.{AsPool, CanPin}
use Rattle.page_steps.specs.Calls.{here}
use Rattle.page_steps.specs.declared.stage.Stage.TheVariants as stage
use Rattle.page_steps.proofs.Plans.{AnyDevice}
use Rattle.page_steps.proofs.Moves.{waits, takes_it}
use Rattle.page_steps.proofs.Taken.{fits_seen, took_old}
use Rattle.page_steps.proofs.pins.seen.Goals as goal

pub returns-in-None : goal.returns-in-None
returns-in-None g c = waits c.requires tt refl c.in-None.ensures.outcome

pub returns-in-Some : goal.returns-in-Some
returns-in-Some g c =
    let a = c.args in
    let fits = fits_seen a.head a.scratch.now a.entry a.object c.in-Some.value c.requires.fit.kept
    (c.requires.allows.fits _ _ _ _ refl (λ x v w. refl) c.in-Some.ensures.outcome) in
    takes_it c.requires tt refl (λ x v w. refl) c.in-Some.ensures.outcome
    (c.requires.fit, subst (AsPool (CanPin a.object)) c.pool_of.ensures fits) tt
    (λ x w. took_old (here {D = AnyDevice} x a.scratch.now (stage.Seen a.entry a.object)) at.Pinning a.entry.kept a.object
    c.in-Some.value c.pool_of.result c.requires.fit.kept c.pool_of.ensures)
