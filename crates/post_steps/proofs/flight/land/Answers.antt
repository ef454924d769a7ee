use Rattle.std.proofs.Common.{◌≡◌, true, refl, ◌∙◌, subst}
use Rattle.slot_entry.specs.Entries.{is_obj}
use Rattle.page_steps.specs.Steps.{is_mark_of}
use Rattle.page_steps.specs.Fits.{LandFits}
use Rattle.post_steps.proofs.VisitTurns.{waits, takes_it, told_so}
use Rattle.post_steps.proofs.Writebacks.{slot_in}
use Rattle.post_steps.proofs.Onward.{landed_here, landed_fit, landed_going, took_again}
use Rattle.post_steps.proofs.flight.land.Goals as goal

pub entry_of-requires : goal.entry_of-requires
entry_of-requires g c =
    let block = c.args.x.block in
    slot_in (λ e. is_mark_of block e.under ≡ true → is_obj e.kept ≡ true)
    (c.requires.allows.fits _ _ _ _ refl (λ x v w. refl) c.in-Some.ensures.outcome).2

pub returns-in-None : goal.returns-in-None
returns-in-None g c = waits c.requires tt refl c.in-None.ensures.outcome

pub returns-in-Some : goal.returns-in-Some
returns-in-Some g c =
    let a = c.args in
    let r = a.scratch.now in
    let e = c.entry_of.result in
    let mark = is_mark_of a.x.block e.under in
    let fits = subst (LandFits a.x.block) c.entry_of.ensures
    (c.requires.allows.fits _ _ _ _ refl (λ x v w. refl) c.in-Some.ensures.outcome).2 in
    told_so c.landed.ensures.is refl
    (takes_it c.requires tt refl (λ x v w. refl) c.in-Some.ensures.outcome
    (landed_fit _ a.head a.x e a.end mark e.kept refl c.requires.fit.0 c.requires.fit.1)
    (landed_going _ a.x e a.end mark e.kept)
    (λ x w.
    landed_here _ x r a.x e a.end mark e.kept refl fits
    ∙ took_again x r a.x e a.end c.in-Some.value c.entry_of.ensures))
