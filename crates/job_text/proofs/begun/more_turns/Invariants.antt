use Rattle.std.proofs.Common.{◌≡◌, ◌+◌, ◌≤◌, drop}
use Rattle.zr_base.specs.declared.limits.TheConstants.{MOST_ACTORS}
use Rattle.job_text.specs.declared.limits.TheConstants.{MOST_TURNS}
use Rattle.job_text.specs.Jobs.{turns_in, MayTurn}
use Rattle.job_text.proofs.begun.more_turns.Given as goal

abbrev pub invariant-loop-given : goal.invariant-loop-given
invariant-loop-given l =
    (l.total ≤ MOST_TURNS)
    × (l.total + turns_in (drop l.given-index l.turns) ≡ l.fn.so_far + turns_in l.turns)
    × MayTurn MOST_ACTORS (drop l.given-index l.turns)
