use Rattle.std.proofs.Common.{refl, sym}
use Rattle.slot_entry.specs.declared.kept.Kept.TheVariants as kept
use Rattle.page_steps.specs.Nexts.{stowing}
use Rattle.page_steps.proofs.Moves.{gives_it, at_stage}
use Rattle.page_steps.proofs.Given.{can_stow, settled_here, settled_fit, settled_going}
use Rattle.page_steps.proofs.objects.stow.Goals as goal

pub give-requires : goal.give-requires
give-requires g c =
    let a = c.args in
    c.requires.allows.give _ _ _ refl (can_stow a.head a.scratch.now a.own a.class a.pool a.object)

pub returns : goal.returns
returns g c =
    let a = c.args in
    at_stage c.settled.ensures.is
    (gives_it stowing c.requires tt refl (can_stow a.head a.scratch.now a.own a.class a.pool a.object)
    c.give.ensures
    (settled_fit _ a.head a.scratch.now a.own (kept.Obj a.object) a.own.entry.kept refl c.requires.fit.0
    c.requires.fit.2)
    (settled_going _ a.own (kept.Obj a.object) a.own.entry.kept)
    (λ x w. sym (settled_here _ x a.scratch.now a.own (kept.Obj a.object) a.own.entry.kept
    c.requires.fit.0.lent)))
