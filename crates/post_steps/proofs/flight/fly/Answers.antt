use Rattle.std.proofs.Common.{refl, sym, ap, subst}
use Rattle.lock_row.specs.declared.names.At.TheVariants as at
use Rattle.lock_row.specs.declared.names.Step.TheVariants as step
use Rattle.lock_row.specs.declared.names.LockNo.TheVariants as lock
use Rattle.page_steps.specs.Steps.{with_lock}
use Rattle.page_steps.specs.Fits.{WriteFits}
use Rattle.post_steps.specs.Writeback.{here}
use Rattle.post_steps.specs.declared.writeback.WritebackStage.TheVariants as stage
use Rattle.post_steps.proofs.VisitTurns.{waits, takes_it}
use Rattle.post_steps.proofs.Writebacks.{AnyDevice, writes_in}
use Rattle.post_steps.proofs.flight.fly.Goals as goal

pub device_of-requires : goal.device_of-requires
device_of-requires g c =
    writes_in c.args.x.block c.requires.fit.block
    (c.requires.allows.fits _ _ _ _ refl (λ x v w. refl) c.in-Some.ensures.outcome).2

pub returns-in-None : goal.returns-in-None
returns-in-None g c = waits c.requires tt refl c.in-None.ensures.outcome

pub returns-in-Some : goal.returns-in-Some
returns-in-Some g c =
    let a = c.args in
    let fits = (c.requires.allows.fits _ _ _ _ refl (λ x v w. refl) c.in-Some.ensures.outcome).2 in
    takes_it c.requires tt refl (λ x v w. refl) c.in-Some.ensures.outcome
    (c.requires.fit, subst (WriteFits a.x.block) c.device_of.ensures fits) tt
    (λ x w. ap (with_lock (here {D = AnyDevice} x a.scratch.now (stage.Flying a.x))
    (at.Visiting step.Storing a.x) lock.Device) (sym c.device_of.ensures))
