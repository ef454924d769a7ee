use Rattle.std.proofs.Common.{◌≡◌, ◌<◌, ◌≤◌, ℕ, List, length, Some, slice_get}
use Rattle.zr_base.specs.declared.op.Op.{Op}
use Rattle.actor_steps.specs.declared.worker.Worker.{Worker}
use Rattle.zr_core.proofs.disk.World.is_busy.Given as goal

abbrev pub invariant-loop-actor : goal.invariant-loop-actor
invariant-loop-actor o l = (a : ℕ) (ops : List Op) (w : Worker o.row.D.Denot) → a < l.actor
    → slice_get l.actors a ≡ Some ops
    → slice_get l.phase.workers.items a ≡ Some w → length ops ≤ w.place.nr
