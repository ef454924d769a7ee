use Rattle.std.proofs.Common.{◌≡◌, Some, refl, sym, ap, subst}
use Rattle.std.specs.Prelude.{slice_get}
use Rattle.block_map.specs.declared.state.BlockState.TheVariants.{Owned}
use Rattle.lock_row.specs.declared.names.At.TheVariants as at
use Rattle.lock_row.specs.declared.names.LockNo.TheVariants as lock
use Rattle.page_steps.specs.Steps.{with_lock}
use Rattle.page_steps.specs.Fits.{AsBlocks}
use Rattle.page_steps.specs.Calls.{here}
use Rattle.page_steps.specs.declared.stage.Stage.TheVariants as stage
use Rattle.page_steps.proofs.Plans.{AnyDevice}
use Rattle.page_steps.proofs.Moves.{waits, takes_it}
use Rattle.page_steps.proofs.Taken.{fits_backed, blocks_in}
use Rattle.page_steps.proofs.device.backed.Goals as goal

pub blocks_of-requires : goal.blocks_of-requires
blocks_of-requires g c =
    let a = c.args in
    blocks_in (λ m. slice_get m.states a.block ≡ Some Owned)
    (fits_backed a.head a.scratch.now a.own a.block a.next c.in-Some.value c.requires.fit.1
    (c.requires.allows.fits _ _ _ _ refl (λ x v w. refl) c.in-Some.ensures.outcome))

pub returns-in-None : goal.returns-in-None
returns-in-None g c = waits c.requires tt refl c.in-None.ensures.outcome

pub returns-in-Some : goal.returns-in-Some
returns-in-Some g c =
    let a = c.args in
    let fits = fits_backed a.head a.scratch.now a.own a.block a.next c.in-Some.value c.requires.fit.1
    (c.requires.allows.fits _ _ _ _ refl (λ x v w. refl) c.in-Some.ensures.outcome) in
    takes_it c.requires tt refl (λ x v w. refl) c.in-Some.ensures.outcome (
      c.requires.fit.0,
      c.requires.fit.1,
      c.requires.fit.2,
      subst (AsBlocks (λ m. slice_get m.states a.block ≡ Some Owned)) c.blocks_of.ensures fits,
    ) tt
    (λ x w. ap (with_lock (here {D = AnyDevice} x a.scratch.now (stage.Backed a.own a.block a.next)) at.Releasing lock.Blocks)
    (sym c.blocks_of.ensures))
