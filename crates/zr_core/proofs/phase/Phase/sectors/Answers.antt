use Rattle.std.proofs.Common.{ap, ◌∙◌}
use Rattle.zr_core.specs.States.{of_op}
use Rattle.zr_core.proofs.Shown.{all_told}
use Rattle.zr_core.proofs.phase.Phase.sectors.Goals as goal

pub returns-clause-by_history : goal.returns-clause-by_history
returns-clause-by_history o c t backed actors dones fit kept =
    ap (λ all. of_op all c.args.actor c.args.op)
    (all_told t backed actors c.args.self.now.workers.items dones fit kept)
    ∙ c.sectors_so_far.ensures
