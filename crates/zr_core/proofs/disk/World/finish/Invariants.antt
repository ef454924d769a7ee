use Rattle.std.proofs.Common.{ℕ, length}
use Rattle.zr_core.specs.Machines.{rounds_of}
use Rattle.zr_core.specs.Playing.{playing}
use Rattle.zr_core.specs.Runs.{Plays, left_of}
use Rattle.zr_core.proofs.disk.World.finish.Given as goal

abbrev pub invariant-loop-self : goal.invariant-loop-self
invariant-loop-self o l = (rounds : ℕ) × Plays (rounds_of (length l.actors) rounds)
    (playing l.initial.self l.initial.phase l.actors) (playing l.self l.phase l.actors)

abbrev pub decreases-loop-self : goal.decreases-loop-self
decreases-loop-self o l = left_of (playing l.self l.phase l.actors)
