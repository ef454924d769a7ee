use Rattle.std.proofs.Common.{refl, sym, ap, subst}
use Rattle.lock_row.specs.declared.names.At.TheVariants as at
use Rattle.lock_row.specs.declared.names.Step.TheVariants as step
use Rattle.lock_row.specs.declared.names.LockNo.TheVariants as lock
use Rattle.page_steps.specs.Steps.{with_lock}
use Rattle.page_steps.specs.Fits.{HeldFits}
use Rattle.post_steps.specs.Writeback.{here}
use Rattle.post_steps.specs.declared.writeback.WritebackStage.TheVariants as stage
use Rattle.post_steps.proofs.VisitTurns.{waits, takes_it}
use Rattle.post_steps.proofs.Writebacks.{AnyDevice, held_in}
use Rattle.post_steps.proofs.evict.back.Goals as goal

pub blocks_of-requires : goal.blocks_of-requires
blocks_of-requires g c =
    held_in c.args.x.block c.requires.fit.0.block
    (c.requires.allows.fits _ _ _ _ refl (λ x v w. refl) c.in-Some.ensures.outcome).2

pub returns-in-None : goal.returns-in-None
returns-in-None g c = waits c.requires tt refl c.in-None.ensures.outcome

pub returns-in-Some : goal.returns-in-Some
returns-in-Some g c =
    let a = c.args in
    let fits = (c.requires.allows.fits _ _ _ _ refl (λ x v w. refl) c.in-Some.ensures.outcome).2 in
    takes_it c.requires tt refl (λ x v w. refl) c.in-Some.ensures.outcome
    (c.requires.fit.0, c.requires.fit.1, subst (HeldFits a.x.block) c.blocks_of.ensures fits) tt
    (λ x w. ap (with_lock
    (here {D = AnyDevice} x a.scratch.now (stage.Backing a.x a.entry a.frames a.was))
    (at.Visiting step.Committing a.x) lock.Blocks) (sym c.blocks_of.ensures))
