use Rattle.std.proofs.Common.{refl, sym, ap, ◌∙◌, subst}
use Rattle.std.specs.Prelude.{length}
use Rattle.lock_row.specs.declared.names.At.TheVariants as at
use Rattle.lock_row.specs.declared.names.LockNo.TheVariants as lock
use Rattle.page_steps.specs.Steps.{with_lock}
use Rattle.page_steps.specs.Fits.{AsPool, CanStore}
use Rattle.page_steps.specs.Calls.{here, bytes_by}
use Rattle.page_steps.specs.declared.stage.Stage.TheVariants as stage
use Rattle.page_steps.proofs.Plans.{AnyDevice}
use Rattle.page_steps.proofs.Moves.{waits, takes_it}
use Rattle.page_steps.proofs.Taken.{fits_wanting, pool_in, wants}
use Rattle.page_steps.proofs.objects.want.Goals as goal

pub take_by-requires : goal.take_by-requires
take_by-requires g c =
    c.requires.allows.take _ _ refl
    (wants c.args.head c.args.scratch.now c.args.own c.args.new c.requires.fit.0 c.requires.fit.1)

pub pool_of-requires : goal.pool_of-requires
pool_of-requires g c =
    let a = c.args in
    pool_in (CanStore a.scratch.now.table (length (bytes_by a.scratch.now a.new.huge)))
    (fits_wanting a.head a.scratch.now a.own a.new c.in-Some.value c.requires.fit.0 c.requires.fit.1
    (c.requires.allows.fits _ _ _ _ refl
    (wants a.head a.scratch.now a.own a.new c.requires.fit.0 c.requires.fit.1) c.in-Some.ensures))

pub returns-in-None : goal.returns-in-None
returns-in-None g c = waits c.requires tt refl c.in-None.ensures

pub returns-in-Some : goal.returns-in-Some
returns-in-Some g c =
    let a = c.args in
    let so = wants a.head a.scratch.now a.own a.new c.requires.fit.0 c.requires.fit.1 in
    let fits = fits_wanting a.head a.scratch.now a.own a.new c.in-Some.value c.requires.fit.0 c.requires.fit.1
    (c.requires.allows.fits _ _ _ _ refl so c.in-Some.ensures) in
    takes_it c.requires tt refl so c.in-Some.ensures (
      c.requires.fit.0,
      c.requires.fit.1,
      subst (AsPool (CanStore a.scratch.now.table (length (bytes_by a.scratch.now a.new.huge))))
          c.pool_of.ensures fits,
    ) tt
    (λ x w. ap (with_lock (here {D = AnyDevice} x a.scratch.now (stage.Wanting a.own a.new)) at.Inside (lock.Class a.new.class))
    (sym c.pool_of.ensures) ∙ so x c.in-Some.value w)
