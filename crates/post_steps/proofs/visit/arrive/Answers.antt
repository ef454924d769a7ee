use Rattle.std.proofs.Common.{refl, ◌∙◌}
use Rattle.slot_entry.specs.Entries.{is_eligible}
use Rattle.post_steps.proofs.VisitTurns.{waits, takes_it, told_so}
use Rattle.post_steps.proofs.Writebacks.{slot_in}
use Rattle.post_steps.proofs.Onward.{arrived_here, arrived_fit, arrived_going, meant_obj, took_page}
use Rattle.post_steps.proofs.visit.arrive.Goals as goal

pub entry_of-requires : goal.entry_of-requires
entry_of-requires g c =
    slot_in (λ e. Unit {0})
    (c.requires.allows.fits _ _ _ _ refl (λ x v w. refl) c.in-Some.ensures.outcome).2

pub returns-in-None : goal.returns-in-None
returns-in-None g c = waits c.requires tt refl c.in-None.ensures.outcome

pub returns-in-Some : goal.returns-in-Some
returns-in-Some g c =
    let head = c.args.head in
    let r = c.args.scratch.now in
    let y = c.args.x in
    let e = c.entry_of.result in
    let meant = is_eligible head.mode e in
    told_so c.arrived.ensures.is refl
    (takes_it c.requires tt refl (λ x v w. refl) c.in-Some.ensures.outcome
    (arrived_fit _ head y e meant e.kept refl c.requires.fit)
    (arrived_going _ y e meant e.kept)
    (λ x w.
    arrived_here _ x r y e meant e.kept (meant_obj head.mode e)
    ∙ took_page x r y e c.in-Some.value head.mode w.op c.entry_of.ensures))
