use Rattle.std.proofs.Common.{refl, sym, ap, ◌∙◌}
use Rattle.lock_row.specs.declared.names.Held.TheVariants as holds
use Rattle.slot_entry.specs.Entries.{EntryState, weight_of}
use Rattle.page_steps.specs.Visits.{evicting}
use Rattle.post_steps.proofs.VisitTurns.{goes_on}
use Rattle.post_steps.proofs.Writebacks.{can_free, freed_here}
use Rattle.post_steps.proofs.evict.free.Goals as goal

pub give_by-requires : goal.give_by-requires
give_by-requires g c =
    let a = c.args in
    c.requires.allows.give _ _ _ refl
    (can_free a.head a.scratch.now a.x a.entry a.object a.pool c.dropped-frames.new.pool
    c.dropped-frames.result c.requires.fit.1 c.dropped-frames.ensures)

pub returns : goal.returns
returns g c =
    let a = c.args in
    goes_on (evicting c.dropped-frames.result a.entry) c.requires tt refl
    (can_free a.head a.scratch.now a.x a.entry a.object a.pool c.dropped-frames.new.pool
    c.dropped-frames.result c.requires.fit.1 c.dropped-frames.ensures)
    c.give_by.ensures (c.requires.fit.0, ap (λ (e : EntryState). e.kept) c.put.ensures) tt
    (λ x w. freed_here x a.scratch.now a.x a.entry a.object a.pool c.dropped-frames.result
    c.put.new.self c.weight_in-was.result (holds.Class c.dropped-frames.new.pool) c.put.ensures
    (c.weight_in-was.ensures ∙ ap weight_of c.kept.ensures))
