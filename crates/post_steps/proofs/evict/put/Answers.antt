use Rattle.std.proofs.Common.{refl, sym, ap, arith}
use Rattle.lock_row.specs.declared.names.Held.TheVariants as holds
use Rattle.lock_row.specs.declared.names.Trip.{Trip}
use Rattle.page_steps.specs.Visits.{putting_back, onward}
use Rattle.post_steps.specs.Writeback.{here}
use Rattle.post_steps.specs.declared.writeback.WritebackStage.TheVariants as stage
use Rattle.post_steps.proofs.Writebacks.{AnyDevice, can_put}
use Rattle.post_steps.proofs.Onward.{goes_onward}
use Rattle.post_steps.proofs.evict.put.Goals as goal

pub block_of-requires : goal.block_of-requires
block_of-requires g c = c.requires.fit.0.block

pub give_by-requires : goal.give_by-requires
give_by-requires g c =
    let a = c.args in
    c.requires.allows.give _ _ _ refl
    (can_put a.head a.scratch.now a.x a.entry c.kept_back.result c.block_of.result c.block_of.ensures
    c.kept_back.ensures)

pub wrote-requires : goal.wrote-requires
wrote-requires g c =
    let room = c.requires.fit.0.room in (omega (arith, room.page), room.few)

pub returns : goal.returns
returns g c =
    let a = c.args in
    let room = c.requires.fit.0.room in
    let is = c.wrote.ensures in
    goes_onward (putting_back a.head.pages) c.wrote.result c.requires tt refl
    (can_put a.head a.scratch.now a.x a.entry c.kept_back.result c.block_of.result c.block_of.ensures
    c.kept_back.ensures) c.give_by.ensures refl
    (omega (arith, ap (λ (n : Trip). n.page) is, room.page))
    (omega (arith, ap (λ (n : Trip). n.page) is, ap (λ (n : Trip). n.wrote) is, ap (λ (n : Trip). n.lost) is, room.few))
    (λ x. ap (λ n. onward a.head.pages n
    (here {D = AnyDevice} x a.scratch.now (stage.Putting a.x a.entry)) (holds.Slot c.kept_back.result))
    (sym is))
    c.onward.ensures.over c.onward.ensures.next
