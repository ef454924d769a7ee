use Rattle.std.proofs.Common.{◌≤◌, refl, sym, ap, ◌∙◌, subst}
use Rattle.lock_row.specs.declared.names.At.TheVariants as at
use Rattle.lock_row.specs.declared.names.LockNo.TheVariants as lock
use Rattle.page_steps.specs.Steps.{first_class, with_lock}
use Rattle.page_steps.specs.Fits.{AsPool}
use Rattle.post_steps.specs.Compact.{here}
use Rattle.post_steps.specs.declared.compact.CompactStage.TheVariants as stage
use Rattle.post_steps.proofs.Moves.{waits, takes_it, told_so}
use Rattle.post_steps.proofs.Events.{pool_in, begins, fits_start}
use Rattle.post_steps.proofs.Numbers.{first_room}
use Rattle.post_steps.proofs.sweep.begin.Goals as goal

pub pool_of-requires : goal.pool_of-requires
pool_of-requires g c =
    let chain = c.args.table.now in
    pool_in (λ q. q.chain ≤ chain) (fits_start chain c.in-Some.value
    (c.requires.ready.allows.fits _ _ _ _ refl (begins chain) c.in-Some.ensures.outcome))

pub returns-in-None : goal.returns-in-None
returns-in-None g c =
    told_so c.requires.at refl (waits c.requires.ready tt refl c.in-None.ensures.outcome)

pub returns-in-Some : goal.returns-in-Some
returns-in-Some g c =
    let chain = c.args.table.now in
    let fits = fits_start chain c.in-Some.value
    (c.requires.ready.allows.fits _ _ _ _ refl (begins chain) c.in-Some.ensures.outcome) in
    told_so c.put.ensures refl (takes_it c.requires.ready tt refl (begins chain) c.in-Some.ensures.outcome (
      first_room chain c.requires.ready.fit,
      subst (AsPool (λ q. q.chain ≤ chain)) c.pool_of.ensures fits,
    ) tt
    (λ x w.
    ap (with_lock (here x stage.Start) (at.Moving first_class) (lock.Class 0)) (sym c.pool_of.ensures)
    ∙ begins chain x c.in-Some.value w))
