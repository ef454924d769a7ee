use Rattle.std.proofs.Common.{refl, subst}
use Rattle.class_pool.specs.Pool.{IsLent}
use Rattle.lock_row.specs.declared.names.At.TheVariants as at
use Rattle.lock_row.specs.declared.names.Step.TheVariants as step
use Rattle.page_steps.specs.Fits.{AsPool}
use Rattle.post_steps.specs.Writeback.{here}
use Rattle.post_steps.specs.declared.writeback.WritebackStage.TheVariants as stage
use Rattle.post_steps.proofs.VisitTurns.{waits, takes_it, took_class}
use Rattle.post_steps.proofs.Writebacks.{AnyDevice, pool_in}
use Rattle.post_steps.proofs.copy.regain.Goals as goal

pub pool_of-requires : goal.pool_of-requires
pool_of-requires g c =
    let a = c.args in
    pool_in (λ q. IsLent q a.lent.object.handle.0 a.lent.cell)
    (c.requires.allows.fits _ _ _ _ refl (λ x v w. refl) c.in-Some.ensures.outcome).2

pub returns-in-None : goal.returns-in-None
returns-in-None g c = waits c.requires tt refl c.in-None.ensures.outcome

pub returns-in-Some : goal.returns-in-Some
returns-in-Some g c =
    let a = c.args in
    let fits = (c.requires.allows.fits _ _ _ _ refl (λ x v w. refl) c.in-Some.ensures.outcome).2 in
    takes_it c.requires tt refl (λ x v w. refl) c.in-Some.ensures.outcome (
      c.requires.fit.0,
      c.requires.fit.1,
      subst (AsPool (λ q. IsLent q a.lent.object.handle.0 a.lent.cell)) c.pool_of.ensures fits,
    ) tt
    (λ x w. took_class (here {D = AnyDevice} x a.scratch.now (stage.Pinned a.x a.entry a.lent))
    (at.Visiting step.Unpinning a.x) a.entry.kept a.lent.object c.in-Some.value c.pool_of.result
    c.requires.fit.1 c.pool_of.ensures)
