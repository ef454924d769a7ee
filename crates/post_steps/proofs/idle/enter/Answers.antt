use Rattle.std.proofs.Common.{◌≤◌, refl, sym, ap, ◌∙◌, subst, arith}
use Rattle.lock_row.specs.declared.names.At.TheVariants as at
use Rattle.page_steps.specs.Steps.{slot, first_scan, with_lock}
use Rattle.page_steps.specs.Fits.{AsSlot}
use Rattle.post_steps.specs.Idle.{here}
use Rattle.post_steps.specs.declared.idle.IdleStage.TheVariants as stage
use Rattle.post_steps.proofs.ScanTurns.{waits, takes_it}
use Rattle.post_steps.proofs.Scans.{slot_in, enters, fits_start}
use Rattle.post_steps.proofs.idle.enter.Goals as goal

pub entry_of-requires : goal.entry_of-requires
entry_of-requires g c =
    let head = c.args.head in
    slot_in (λ e. e.touched ≤ head.now) (fits_start head c.in-Some.value
    (c.requires.allows.fits _ _ _ _ refl (enters head) c.in-Some.ensures.outcome))

pub returns-in-None : goal.returns-in-None
returns-in-None g c = waits c.requires tt refl c.in-None.ensures.outcome

pub returns-in-Some : goal.returns-in-Some
returns-in-Some g c =
    let head = c.args.head in
    let fits = fits_start head c.in-Some.value
    (c.requires.allows.fits _ _ _ _ refl (enters head) c.in-Some.ensures.outcome) in
    takes_it c.requires tt refl (enters head) c.in-Some.ensures.outcome (
      record { page = c.requires.fit; marked = omega arith },
      subst (AsSlot (λ e. e.touched ≤ head.now)) c.entry_of.ensures fits,
    ) tt
    (λ x w.
    ap (with_lock (here x stage.Start) (at.Marking first_scan) (slot 0)) (sym c.entry_of.ensures)
    ∙ enters head x c.in-Some.value w)
