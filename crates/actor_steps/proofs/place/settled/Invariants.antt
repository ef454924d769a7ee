use Rattle.std.proofs.Common.{◌≡◌}
use Rattle.actor_steps.specs.Places.{todo_at, IsPlace, IsOnward, steps_left}
use Rattle.actor_steps.proofs.place.settled.Given as goal

abbrev pub invariant-loop-place : goal.invariant-loop-place
invariant-loop-place l =
    IsPlace l.ops l.place
    × (todo_at l.size l.backed l.ops l.place ≡ todo_at l.size l.backed l.ops l.fn.from)
    × IsOnward l.fn.from l.place

abbrev pub decreases-loop-place : goal.decreases-loop-place
decreases-loop-place l = steps_left l.ops l.place
