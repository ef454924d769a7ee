use Rattle.std.proofs.Common.{refl}
use Rattle.lock_row.specs.declared.names.Held.TheVariants as holds
use Rattle.page_steps.specs.Nexts.{quitting}
use Rattle.page_steps.proofs.Moves.{gives_it, at_stage}
use Rattle.page_steps.proofs.Given.{can_quit, quitted_here, quitted_fit, quitted_going}
use Rattle.page_steps.proofs.objects.quit.Goals as goal

pub give-requires : goal.give-requires
give-requires g c =
    let a = c.args in
    c.requires.allows.give _ _ _ refl (can_quit a.head a.scratch.now a.own a.class a.pool a.end)

pub returns : goal.returns
returns g c =
    let a = c.args in
    at_stage c.quitted.ensures
    (gives_it quitting c.requires tt refl (can_quit a.head a.scratch.now a.own a.class a.pool a.end)
    c.give.ensures
    (quitted_fit _ a.head a.scratch.now a.own.entry a.own.read a.own.lent a.end c.requires.fit.0
    c.requires.fit.2)
    (quitted_going _ a.own.entry a.own.read a.own.lent a.end)
    (λ x w. quitted_here _ x a.scratch.now a.own.entry a.own.read a.own.lent a.class a.pool a.end
    (holds.Class a.pool) c.requires.fit.0.seen))
