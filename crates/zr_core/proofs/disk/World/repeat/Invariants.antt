use Rattle.std.specs.Prelude.{replicate}
use Rattle.zr_core.specs.Playing.{playing}
use Rattle.zr_core.specs.Runs.{Plays}
use Rattle.zr_core.proofs.disk.World.repeat.Given as goal

abbrev pub invariant-loop-time : goal.invariant-loop-time
invariant-loop-time o l =
    Plays (replicate l.time l.turns.actor) (playing l.initial.self l.initial.phase l.actors)
    (playing l.self l.phase l.actors)
