-- A failure was planned for this call, so one planned number more is due_at.
use Rattle.std.proofs.Common.{◌≤◌, arith, refl}
use Rattle.backing_dev.specs.PlanInside.{calls_of}
use Rattle.backing_dev.proofs.Due.{due_until-le, due_until-mono, due_until-call}
use Rattle.backing_dev.proofs.plan.Plan.call.Goals as goal

pub overflow_add-self : goal.overflow_add-self
overflow_add-self c =
    let failing = c.self.inside.failing in
    let most = due_until-le c.self.inside.calls failing.items in
    omega (arith, c.self.invariant, most, failing.small, failing.ok.0, failing.ok.1)

pub invariant_of-self : goal.invariant_of-self
invariant_of-self c =
    let fails = rw (← c.self.view_is) at (c.if-fails.ensures.fails.0 refl) in
    let due = due_until-call (calls_of c.self.inside) c.self.invariant fails in
    rw c.saturating_add-self-inside.ensures (omega (arith, due))

pub invariant_of-self-else-fails : goal.invariant_of-self-else-fails
invariant_of-self-else-fails c =
    let calls = c.self.inside.calls in
    let later : calls ≤ c.saturating_add-self-inside.result = omega arith in
    let due = due_until-mono calls c.saturating_add-self-inside.result c.self.inside.failing.items
    later in
    omega (arith, c.self.invariant, due)
