use Rattle.std.proofs.Common.{refl, ap, ◌∙◌}
use Rattle.mem_account.specs.Counters.{counted}
use Rattle.mem_account.specs.declared.weight.Delta.TheVariants as delta
use Rattle.page_steps.specs.Compactions.{shrinking}
use Rattle.post_steps.proofs.Moves.{gives_it, told_so}
use Rattle.post_steps.proofs.Events.{can_shrink}
use Rattle.post_steps.proofs.Numbers.{shrunk_room}
use Rattle.post_steps.proofs.sweep.shrink.Goals as goal

pub give-requires : goal.give-requires
give-requires g c =
    c.requires.allows.give _ _ _ refl
    (can_shrink c.args.table.now c.args.x c.args.frames c.args.account c.count.new.self
    (c.count.ensures.counted
    ∙ ap (λ a. counted a (delta.Compacted c.args.frames)) c.give_back.ensures.pages))

pub returns : goal.returns
returns g c =
    told_so c.put.ensures refl (gives_it shrinking c.requires tt refl
    (can_shrink c.args.table.now c.args.x c.args.frames c.args.account c.count.new.self
    (c.count.ensures.counted
    ∙ ap (λ a. counted a (delta.Compacted c.args.frames)) c.give_back.ensures.pages))
    c.give.ensures (shrunk_room c.args.table.now c.args.frames c.args.x c.requires.fit.0) tt
    (λ x. tt) (λ x w. refl))
