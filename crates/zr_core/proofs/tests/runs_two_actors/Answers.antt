use Rattle.std.proofs.Common.{refl}
use Rattle.zr_core.proofs.Fresh.{new_time}
use Rattle.zr_core.proofs.tests.runs_two_actors.Goals as goal

pub prepare-requires-clause-time : goal.prepare-requires-clause-time
prepare-requires-clause-time g c =
    new_time _ _ 0 _ (λ p. refl) c.in_ok-set_disk.ensures.new
