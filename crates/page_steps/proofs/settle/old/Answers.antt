use Rattle.std.proofs.Common.{refl, subst}
use Rattle.lock_row.specs.declared.names.At.TheVariants as at
use Rattle.page_steps.specs.Fits.{AsPool}
use Rattle.page_steps.specs.Calls.{here, CanFree}
use Rattle.page_steps.specs.declared.stage.Stage.TheVariants as stage
use Rattle.page_steps.proofs.Plans.{AnyDevice}
use Rattle.page_steps.proofs.Moves.{waits, takes_it}
use Rattle.page_steps.proofs.Taken.{fits_old, took_old, pool_in}
use Rattle.page_steps.proofs.settle.old.Goals as goal

pub pool_of-requires : goal.pool_of-requires
pool_of-requires g c =
    let a = c.args in
    pool_in (CanFree a.own.lent a.object)
    (fits_old a.head a.scratch.now a.own a.object a.next c.in-Some.value c.requires.fit.1
    (c.requires.allows.fits _ _ _ _ refl (λ x v w. refl) c.in-Some.ensures.outcome))

pub returns-in-None : goal.returns-in-None
returns-in-None g c = waits c.requires tt refl c.in-None.ensures.outcome

pub returns-in-Some : goal.returns-in-Some
returns-in-Some g c =
    let a = c.args in
    let fits = fits_old a.head a.scratch.now a.own a.object a.next c.in-Some.value c.requires.fit.1
    (c.requires.allows.fits _ _ _ _ refl (λ x v w. refl) c.in-Some.ensures.outcome) in
    takes_it c.requires tt refl (λ x v w. refl) c.in-Some.ensures.outcome (
      c.requires.fit.0,
      c.requires.fit.1,
      c.requires.fit.2,
      subst (AsPool (CanFree a.own.lent a.object)) c.pool_of.ensures fits,
    ) tt
    (λ x w. took_old (here {D = AnyDevice} x a.scratch.now (stage.Old a.own a.object a.next)) at.Freeing a.own.entry.kept
    a.object c.in-Some.value c.pool_of.result c.requires.fit.1 c.pool_of.ensures)
