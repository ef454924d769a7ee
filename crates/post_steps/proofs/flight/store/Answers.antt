use Rattle.std.proofs.Common.{refl}
use Rattle.page_steps.specs.Visits.{storing, spoiling}
use Rattle.post_steps.proofs.VisitTurns.{goes_on}
use Rattle.post_steps.proofs.Writebacks.{can_store, can_spoil, block_there}
use Rattle.post_steps.proofs.flight.store.Goals as goal

pub block_of-requires : goal.block_of-requires
block_of-requires g c = c.requires.fit.0.block

pub write-requires : goal.write-requires
write-requires g c =
    block_there c.args.x.block c.block_of.result c.args.device c.block_of.ensures c.requires.fit.1

pub give-requires : goal.give-requires
give-requires g c =
    let a = c.args in
    c.requires.allows.give _ _ _ refl
    (can_store a.head a.scratch.now a.x c.block_of.result a.device c.write.new.self
    c.block_of.ensures c.in-Ok.ensures.written)

pub returns-in-Ok : goal.returns-in-Ok
returns-in-Ok g c =
    let a = c.args in
    goes_on storing c.requires tt refl
    (can_store a.head a.scratch.now a.x c.block_of.result a.device c.write.new.self
    c.block_of.ensures c.in-Ok.ensures.written)
    c.give.ensures (c.requires.fit.0, tt) tt (λ x w. refl)

pub give_by-requires : goal.give_by-requires
give_by-requires g c =
    let a = c.args in
    c.requires.allows.give _ _ _ refl
    (can_spoil a.head a.scratch.now a.x c.block_of.result a.device c.write.new.self c.in-Err.fault
    c.block_of.ensures c.in-Err.ensures.fault)

pub returns-in-Err : goal.returns-in-Err
returns-in-Err g c =
    let a = c.args in
    goes_on (spoiling c.in-Err.fault) c.requires tt refl
    (can_spoil a.head a.scratch.now a.x c.block_of.result a.device c.write.new.self c.in-Err.fault
    c.block_of.ensures c.in-Err.ensures.fault)
    c.give_by.ensures (c.requires.fit.0, tt) tt (λ x w. refl)
