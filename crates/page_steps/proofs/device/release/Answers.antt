use Rattle.std.proofs.Common.{◌≡◌, refl, ap, ◌∙◌, subst, inr}
use Rattle.lock_row.specs.declared.names.Held.TheVariants as holds
use Rattle.slot_entry.specs.Entries.{IsPlain, weight_of}
use Rattle.page_steps.specs.Nexts.{freeing, emptied}
use Rattle.page_steps.proofs.Moves.{gives_it}
use Rattle.page_steps.proofs.Given.{freed_fit}
use Rattle.page_steps.proofs.Backed.{can_release, released_here}
use Rattle.page_steps.proofs.device.release.Goals as goal

pub release-requires : goal.release-requires
release-requires g c = inr c.requires.fit.3

pub give-requires : goal.give-requires
give-requires g c =
    let a = c.args in
    c.requires.allows.give _ _ _ refl
    (can_release a.head a.scratch.now a.own a.block a.next a.blocks c.release.new.self c.requires.fit.1
    c.release.ensures.free)

pub returns : goal.returns
returns g c =
    let a = c.args in
    let empty : c.put.new.self ≡ emptied a.own.entry = c.put.ensures in
    gives_it (freeing 0) c.requires tt refl
    (can_release a.head a.scratch.now a.own a.block a.next a.blocks c.release.new.self c.requires.fit.1
    c.release.ensures.free)
    c.give.ensures
    (freed_fit a.head a.scratch.now a.own a.next c.put.new.self
    (λ p. subst IsPlain c.requires.fit.1 p) c.requires.fit.0 c.requires.fit.2 empty) tt
    (λ x w. released_here x a.scratch.now a.own a.block a.next a.blocks c.put.new.self
    c.weight_in-before.result (holds.Blocks c.release.new.self) empty
    (c.weight_in-before.ensures ∙ ap weight_of c.kept.ensures))
