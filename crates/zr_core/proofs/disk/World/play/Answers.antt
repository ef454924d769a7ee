use Rattle.std.proofs.Common.{arith}
use Rattle.std.proofs.lemmas.Option.{slice_get-get_or}
use Rattle.zr_core.proofs.Runs.{plays_none, then_schedule}
use Rattle.zr_core.proofs.disk.World.play.Goals as goal

pub loop-turns-init : goal.loop-turns-init
loop-turns-init o c = plays_none _ c.requires.can

pub repeat-requires-clause-actor : goal.repeat-requires-clause-actor
repeat-requires-clause-actor o c = c.requires.actors c.loop-turns.turns-index _
    (slice_get-get_or c.args.schedule.now c.loop-turns.turns-index _
    (let q = c.loop-turns-test.true in omega arith))

pub loop-turns-preserved : goal.loop-turns-preserved
loop-turns-preserved o c =
    then_schedule _ _ _ c.args.schedule.now c.loop-turns.turns-index _
    (slice_get-get_or c.args.schedule.now c.loop-turns.turns-index _
    (let q = c.loop-turns-test.true in omega arith))
    c.loop-turns.invariant c.repeat.ensures
