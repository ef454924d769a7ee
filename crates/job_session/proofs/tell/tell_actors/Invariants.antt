use Rattle.std.proofs.Common.{drop}
use Rattle.plain_disk.specs.Output.{actors_lines}
use Rattle.zr_core.specs.States.{ends_shown, sectors_shown}
use Rattle.job_session.proofs.Sending.{SoFar}
use Rattle.job_session.proofs.tell.tell_actors.Given as goal

abbrev pub invariant-loop-actor : goal.invariant-loop-actor
invariant-loop-actor g l =
    SoFar l.fn.out l.out
    (actors_lines l.actor (drop l.actor (ends_shown l.phase.workers.items))
    (drop l.actor (sectors_shown l.phase.workers.items)))
    (actors_lines 0 (ends_shown l.phase.workers.items) (sectors_shown l.phase.workers.items))
