use Rattle.std.proofs.Common.{refl, sym, ap, ◌∙◌, arith}
use Rattle.lock_row.specs.declared.names.Held.TheVariants as holds
use Rattle.lock_row.specs.declared.names.Trip.{Trip}
use Rattle.page_steps.specs.Visits.{passing, onward}
use Rattle.post_steps.specs.Writeback.{here}
use Rattle.post_steps.specs.declared.writeback.WritebackStage.TheVariants as stage
use Rattle.post_steps.proofs.Writebacks.{AnyDevice, can_pass}
use Rattle.post_steps.proofs.Onward.{goes_onward}
use Rattle.post_steps.proofs.visit.pass.Goals as goal

pub give_by-requires : goal.give_by-requires
give_by-requires g c =
    let a = c.args in
    c.requires.allows.give _ _ _ refl (can_pass a.head a.scratch.now a.x a.entry)

pub passed-requires : goal.passed-requires
passed-requires g c = omega (arith, c.requires.fit.page)

pub returns : goal.returns
returns g c =
    let a = c.args in
    let z = c.passed.result in
    let is = c.passed.ensures in
    goes_onward (passing a.head.pages) z c.requires tt refl
    (can_pass a.head a.scratch.now a.x a.entry) c.give_by.ensures refl
    (omega (arith, ap (λ (n : Trip). n.page) is, c.requires.fit.page))
    (omega (arith, ap (λ (n : Trip). n.page) is, ap (λ (n : Trip). n.wrote) is, ap (λ (n : Trip). n.lost) is, c.requires.fit.few))
    (λ x. ap (λ n. onward a.head.pages n
    (here {D = AnyDevice} x a.scratch.now (stage.Passing a.x a.entry)) (holds.Slot a.entry)) (sym is))
    c.onward.ensures.over c.onward.ensures.next
