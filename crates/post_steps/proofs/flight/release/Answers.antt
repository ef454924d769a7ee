use Rattle.std.proofs.Common.{refl, sym, ap, ◌∙◌, subst, inl, arith}
use Rattle.lock_row.specs.declared.names.Held.TheVariants as holds
use Rattle.lock_row.specs.declared.names.Trip.{Trip}
use Rattle.page_steps.specs.Visits.{undoing, undoing_by, onward}
use Rattle.page_steps.specs.Calls.{ends_of}
use Rattle.post_steps.specs.Writeback.{here, AreStops}
use Rattle.post_steps.specs.declared.writeback.WritebackStage.TheVariants as stage
use Rattle.post_steps.proofs.VisitTurns.{gives_it}
use Rattle.post_steps.proofs.Writebacks.{AnyDevice, can_release, held_block, stop_placed}
use Rattle.post_steps.proofs.Onward.{goes_onward}
use Rattle.post_steps.proofs.flight.release.Goals as goal

pub block_of-requires : goal.block_of-requires
block_of-requires g c = c.requires.fit.0.block

pub release-requires : goal.release-requires
release-requires g c =
    inl (held_block c.args.x.block c.block_of.result c.args.blocks c.block_of.ensures c.requires.fit.2)

pub give_by-requires : goal.give_by-requires
give_by-requires g c =
    let a = c.args in
    c.requires.allows.give _ _ _ refl
    (can_release a.head a.scratch.now a.x a.end a.blocks c.release.new.self c.block_of.result
    c.block_of.ensures c.release.ensures.free)

pub lost-requires : goal.lost-requires
lost-requires g c =
    let room = c.requires.fit.0.room in (omega (arith, room.page), room.few)

pub returns-in-None : goal.returns-in-None
returns-in-None g c =
    let a = c.args in
    let room = c.requires.fit.0.room in
    let is = c.lost.ensures in
    goes_onward (undoing a.head.pages) c.lost.result c.requires tt refl
    (can_release a.head a.scratch.now a.x a.end a.blocks c.release.new.self c.block_of.result
    c.block_of.ensures c.release.ensures.free) c.give_by.ensures refl
    (omega (arith, ap (λ (n : Trip). n.page) is, room.page))
    (omega (arith, ap (λ (n : Trip). n.page) is, ap (λ (n : Trip). n.wrote) is, ap (λ (n : Trip). n.lost) is, room.few))
    (λ x.
    ap (λ end. undoing_by a.head.pages (ends_of end)
    (here {D = AnyDevice} x a.scratch.now (stage.Releasing a.x a.end a.blocks))
    (holds.Blocks c.release.new.self)) c.in-None.is
    ∙ ap (λ n. onward a.head.pages n
    (here {D = AnyDevice} x a.scratch.now (stage.Releasing a.x a.end a.blocks))
    (holds.Blocks c.release.new.self)) (sym is))
    c.onward.ensures.over c.onward.ensures.next

pub returns-in-Some : goal.returns-in-Some
returns-in-Some g c =
    let a = c.args in
    gives_it (undoing a.head.pages) c.requires tt refl
    (can_release a.head a.scratch.now a.x a.end a.blocks c.release.new.self c.block_of.result
    c.block_of.ensures c.release.ensures.free) c.give_by.ensures tt refl refl
    (λ x. stop_placed c.in-Some.end _ (subst AreStops c.in-Some.is c.requires.fit.1))
    (λ x w.
    ap (λ end. undoing_by a.head.pages (ends_of end)
    (here {D = AnyDevice} x a.scratch.now (stage.Releasing a.x a.end a.blocks))
    (holds.Blocks c.release.new.self)) c.in-Some.is)
