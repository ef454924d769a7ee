use Rattle.std.proofs.Common.{take}
use Rattle.zr_core.specs.Playing.{playing}
use Rattle.zr_core.specs.Runs.{turns_of, Plays}
use Rattle.zr_core.proofs.disk.World.play.Given as goal

abbrev pub invariant-loop-turns : goal.invariant-loop-turns
invariant-loop-turns o l =
    Plays (turns_of (take l.turns-index l.schedule))
    (playing l.initial.self l.initial.phase l.actors)
    (playing l.self l.phase l.actors)
