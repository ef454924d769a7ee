use Rattle.std.proofs.Common.{refl, subst}
use Rattle.page_steps.specs.Fits.{AsSlot, HasPlace}
use Rattle.page_steps.proofs.Moves.{waits, moves}
use Rattle.page_steps.proofs.Taken.{enters, fits_start, slot_in}
use Rattle.page_steps.proofs.Formed.{started_here}
use Rattle.page_steps.proofs.enter.start.Goals as goal

pub try_take-requires : goal.try_take-requires
try_take-requires g c =
    c.requires.allows.take _ _ refl (enters c.args.head c.args.scratch.now c.requires.fit.0)

pub entry_of-requires : goal.entry_of-requires
entry_of-requires g c =
    let a = c.args in
    let so = enters a.head a.scratch.now c.requires.fit.0 in
    slot_in HasPlace (fits_start a.head a.scratch.now c.in-Some.value c.requires.fit.0
    (c.requires.allows.fits _ _ _ _ refl so c.in-Some.ensures.outcome))

pub entered-requires : goal.entered-requires
entered-requires g c =
    let a = c.args in
    let so = enters a.head a.scratch.now c.requires.fit.0 in
    let fits = fits_start a.head a.scratch.now c.in-Some.value c.requires.fit.0
    (c.requires.allows.fits _ _ _ _ refl so c.in-Some.ensures.outcome) in
    record {
      piece = c.requires.fit.0;
      within = c.requires.fit.1;
      place = subst (AsSlot HasPlace) c.entry_of.ensures fits;
    }

pub returns-in-None : goal.returns-in-None
returns-in-None g c = waits c.requires tt refl c.in-None.ensures.outcome

pub returns-in-Some : goal.returns-in-Some
returns-in-Some g c =
    let a = c.args in
    let so = enters a.head a.scratch.now c.requires.fit.0 in
    let entered = c.entered.ensures in
    moves c.requires tt refl so c.in-Some.ensures.outcome entered.fit entered.going entered.work entered.table
    (started_here a.head a.scratch.now c.entered.new.scratch c.entry_of.result c.entered.result
    c.in-Some.value c.requires.fit.0 c.entry_of.ensures entered)
