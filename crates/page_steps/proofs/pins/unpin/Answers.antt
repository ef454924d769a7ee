use Rattle.std.proofs.Common.{refl}
use Rattle.lock_row.specs.declared.names.Held.TheVariants as holds
use Rattle.page_steps.specs.Nexts.{unpinning}
use Rattle.page_steps.proofs.Moves.{gives_it, at_stage}
use Rattle.page_steps.proofs.Given.{can_unpin, unpinned_here, unpinned_fit, unpinned_going}
use Rattle.page_steps.proofs.pins.unpin.Goals as goal

pub give-requires : goal.give-requires
give-requires g c =
    let a = c.args in
    c.requires.allows.give _ _ _ refl
    (can_unpin a.head a.scratch.now a.entry a.lent a.end a.pool c.unpin_object.new.pool
    c.requires.fit.0.kept c.unpin_object.ensures)

pub returns : goal.returns
returns g c =
    let a = c.args in
    at_stage c.unpinned.ensures
    (gives_it unpinning c.requires tt refl
    (can_unpin a.head a.scratch.now a.entry a.lent a.end a.pool c.unpin_object.new.pool
    c.requires.fit.0.kept c.unpin_object.ensures)
    c.give.ensures
    (unpinned_fit _ a.head a.scratch.now a.entry a.lent a.end c.requires.fit.0 c.requires.fit.1)
    (unpinned_going _ a.entry a.end)
    (λ x w. unpinned_here _ x a.scratch.now a.entry a.lent a.end a.pool (holds.Class c.unpin_object.new.pool)))
