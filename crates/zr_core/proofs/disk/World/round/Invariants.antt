use Rattle.std.proofs.Common.{List}
use Rattle.std.specs.List.{range_with_len}
use Rattle.call_history.specs.declared.part.Done.{Done}
use Rattle.zr_core.specs.Playing.{playing}
use Rattle.zr_core.specs.Runs.{Plays, RoundTo}
use Rattle.zr_core.specs.States.{state_of, HasKept}
use Rattle.zr_core.proofs.disk.World.round.Given as goal

abbrev pub invariant-loop-actor : goal.invariant-loop-actor
invariant-loop-actor o l = record {
  plays : Plays (range_with_len 0 l.actor) (playing l.initial.self l.initial.phase l.actors)
      (playing l.self l.phase l.actors);
  falls : (dones : List (List Done)) → HasKept (playing l.initial.self l.initial.phase l.actors) dones
      → RoundTo (state_of (playing l.initial.self l.initial.phase l.actors) dones)
      (playing l.self l.phase l.actors) l.actor;
}
