use Rattle.std.proofs.Common.{refl, sym, ap, subst}
use Rattle.lock_row.specs.declared.names.At.TheVariants as at
use Rattle.lock_row.specs.declared.names.Step.TheVariants as step
use Rattle.page_steps.specs.Fits.{AsPool, CanPin}
use Rattle.post_steps.specs.Writeback.{here}
use Rattle.post_steps.specs.declared.writeback.WritebackStage.TheVariants as stage
use Rattle.post_steps.proofs.VisitTurns.{waits, takes_it, took_class}
use Rattle.post_steps.proofs.Writebacks.{AnyDevice, pool_in, fits_seen}
use Rattle.post_steps.proofs.copy.see.Goals as goal

pub pool_of-requires : goal.pool_of-requires
pool_of-requires g c =
    let a = c.args in
    pool_in (CanPin a.object)
    (fits_seen a.head a.scratch.now a.x a.entry a.object c.in-Some.value c.requires.fit.1
    (c.requires.allows.fits _ _ _ _ refl (λ x v w. refl) c.in-Some.ensures.outcome))

pub returns-in-None : goal.returns-in-None
returns-in-None g c = waits c.requires tt refl c.in-None.ensures.outcome

pub returns-in-Some : goal.returns-in-Some
returns-in-Some g c =
    let a = c.args in
    let fits = fits_seen a.head a.scratch.now a.x a.entry a.object c.in-Some.value c.requires.fit.1
    (c.requires.allows.fits _ _ _ _ refl (λ x v w. refl) c.in-Some.ensures.outcome) in
    takes_it c.requires tt refl (λ x v w. refl) c.in-Some.ensures.outcome
    (c.requires.fit.0, c.requires.fit.1, subst (AsPool (CanPin a.object)) c.pool_of.ensures fits) tt
    (λ x w. took_class (here {D = AnyDevice} x a.scratch.now (stage.Seen a.x a.entry a.object))
    (at.Visiting step.Pinning a.x) a.entry.kept a.object c.in-Some.value c.pool_of.result
    c.requires.fit.1 c.pool_of.ensures)
