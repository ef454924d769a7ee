use Rattle.std.proofs.Common.{[], refl, sym, ap, ◌∙◌, arith}
use Rattle.lock_row.specs.declared.names.Held.TheVariants as holds
use Rattle.slot_entry.specs.Entries.{is_eligible}
use Rattle.page_steps.specs.Steps.{slot, with_lock, first_trip, arrived_at, entry_or, entry_in}
use Rattle.post_steps.specs.Writeback.{here}
use Rattle.post_steps.specs.declared.writeback.WritebackStage.TheVariants as stage
use Rattle.post_steps.proofs.VisitTurns.{waits, takes_it, told_so}
use Rattle.post_steps.proofs.Writebacks.{AnyDevice, slot_in, fits_start, starts}
use Rattle.post_steps.proofs.Onward.{arrived_here, arrived_fit, arrived_going, meant_obj}
use Rattle.post_steps.proofs.visit.start.Goals as goal

pub take_by-requires : goal.take_by-requires
take_by-requires g c =
    c.requires.allows.take _ _ refl (starts c.args.head c.args.scratch.now)

pub entry_of-requires : goal.entry_of-requires
entry_of-requires g c =
    let head = c.args.head in
    let r = c.args.scratch.now in
    slot_in (λ e. Unit {0}) (fits_start head r c.in-Some.value
    (c.requires.allows.fits _ _ _ _ refl (starts head r) c.in-Some.ensures))

pub returns-in-None : goal.returns-in-None
returns-in-None g c = waits c.requires tt refl c.in-None.ensures

pub returns-in-Some : goal.returns-in-Some
returns-in-Some g c =
    let head = c.args.head in
    let r = c.args.scratch.now in
    let e = c.entry_of.result in
    let meant = is_eligible head.mode e in
    told_so c.arrived.ensures.is refl
    (takes_it c.requires tt refl (starts head r) c.in-Some.ensures
    (arrived_fit _ head first_trip e meant e.kept refl
    (record { page = c.requires.fit; few = omega arith }))
    (arrived_going _ first_trip e meant e.kept)
    (λ x w.
    arrived_here _ x r first_trip e meant e.kept (meant_obj head.mode e)
    ∙ ap (λ u. with_lock (here {D = AnyDevice} x r stage.Start)
    (arrived_at (is_eligible head.mode (entry_or u (entry_in []))) first_trip) (slot 0) u)
    (sym c.entry_of.ensures)
    ∙ starts head r x c.in-Some.value w))
