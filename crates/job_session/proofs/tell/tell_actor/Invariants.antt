use Rattle.std.proofs.Common.{List, ℕ, [], get_or, drop}
use Rattle.zr_base.specs.declared.op.OpEnd.{OpEnd}
use Rattle.plain_disk.specs.Output.{actor_lines}
use Rattle.zr_core.specs.States.{ends_shown, sectors_shown}
use Rattle.job_session.proofs.Sending.{SoFar}
use Rattle.job_session.proofs.tell.tell_actor.Given as goal

abbrev pub invariant-loop-op : goal.invariant-loop-op
invariant-loop-op g l =
    let es : List OpEnd = get_or (ends_shown l.phase.workers.items) l.actor [] in
    let gots : List (List (List ℕ)) = get_or (sectors_shown l.phase.workers.items) l.actor [] in
    SoFar l.fn.out l.out (actor_lines l.actor l.op (drop l.op es) (drop l.op gots))
    (actor_lines l.actor 0 es gots)
