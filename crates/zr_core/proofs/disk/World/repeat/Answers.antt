use Rattle.std.proofs.Common.{sym, ◌∙◌}
use Rattle.zr_core.proofs.Runs.{plays_none, plays_once, plays_idle, then_once, then_idle}
use Rattle.zr_core.proofs.disk.World.repeat.Goals as goal

pub loop-time-init : goal.loop-time-init
loop-time-init o c = plays_none _ c.requires.can

pub loop-time-preserved : goal.loop-time-preserved
loop-time-preserved o c =
    let t = c.step.ensures in
    then_once _ _ _ c.loop-time.time c.args.turns.actor c.loop-time.invariant
    (plays_once c.args.turns.actor _ _ c.step.result t.same t.limit t.backed t.spare t.can t.turn)

-- a turn that changed nothing

pub returns-in-Waited : goal.returns-in-Waited
returns-in-Waited o c =
    let t = c.step.ensures in
    then_idle _ _ _ c.loop-time.time c.args.turns.times c.args.turns.actor c.loop-time.auto.time-end
    c.loop-time.invariant
    (λ k. plays_idle k c.args.turns.actor _ _ c.step.result
    (λ e. let none : ⊥ = (let q = sym c.in-Waited.is ∙ e in cc) in none) t.same t.limit t.backed t.spare t.can t.turn)

pub returns-in-Finished : goal.returns-in-Finished
returns-in-Finished o c =
    let t = c.step.ensures in
    then_idle _ _ _ c.loop-time.time c.args.turns.times c.args.turns.actor c.loop-time.auto.time-end
    c.loop-time.invariant
    (λ k. plays_idle k c.args.turns.actor _ _ c.step.result
    (λ e. let none : ⊥ = (let q = sym c.in-Finished.is ∙ e in cc) in none) t.same t.limit t.backed t.spare t.can t.turn)
