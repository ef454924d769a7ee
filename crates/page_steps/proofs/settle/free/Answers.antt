use Rattle.std.proofs.Common.{◌≡◌, refl, ap, ◌∙◌, subst}
use Rattle.lock_row.specs.declared.names.Held.TheVariants as holds
use Rattle.slot_entry.specs.Entries.{IsPlain, weight_of}
use Rattle.page_steps.specs.Nexts.{freeing, emptied}
use Rattle.page_steps.proofs.Moves.{gives_it}
use Rattle.page_steps.proofs.Given.{can_free, freed_here, freed_fit}
use Rattle.page_steps.proofs.settle.free.Goals as goal

pub give_by-requires : goal.give_by-requires
give_by-requires g c =
    let a = c.args in
    c.requires.allows.give _ _ _ refl
    (can_free a.head a.scratch.now a.own a.object a.next a.pool c.drop_object-frames.new.pool
    c.drop_object-frames.result c.requires.fit.1 c.drop_object-frames.ensures)

pub returns : goal.returns
returns g c =
    let a = c.args in
    let empty : c.put.new.self ≡ emptied a.own.entry = c.put.ensures in
    gives_it (freeing c.drop_object-frames.result) c.requires tt refl
    (can_free a.head a.scratch.now a.own a.object a.next a.pool c.drop_object-frames.new.pool
    c.drop_object-frames.result c.requires.fit.1 c.drop_object-frames.ensures)
    c.give_by.ensures
    (freed_fit a.head a.scratch.now a.own a.next c.put.new.self
    (λ p. subst IsPlain c.requires.fit.1 p) c.requires.fit.0 c.requires.fit.2 empty) tt
    (λ x w. freed_here x a.scratch.now a.own a.object a.next a.pool c.drop_object-frames.result
    c.put.new.self c.weight_in-before.result (holds.Class c.drop_object-frames.new.pool)
    empty (c.weight_in-before.ensures ∙ ap weight_of c.kept.ensures))
