-- A list that fits memory plans fewer than 2^63 failures.
use Rattle.std.proofs.Common.{arith}
use Rattle.backing_dev.proofs.Due.{due_until-le}
use Rattle.backing_dev.proofs.plan.Plan.faults.Goals as goal

pub returns-clause-few : goal.returns-clause-few
returns-clause-few c =
    let failing = c.self.inside.failing in
    let most = due_until-le c.self.inside.calls failing.items in
    omega (arith, c.self.invariant, most, failing.small, failing.ok.0, failing.ok.1)
