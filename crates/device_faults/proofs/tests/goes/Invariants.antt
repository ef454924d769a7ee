use Rattle.std.proofs.Common.{◌≡◌}
use Rattle.page_steps.specs.Calls.{IsFit}
use Rattle.device_faults.specs.OnePage.{IsDisk, DoesWork}
use Rattle.device_faults.proofs.tests.goes.Given as goal

abbrev pub invariant-loop-event : goal.invariant-loop-event
invariant-loop-event l =
    (l.call.head ≡ l.fn.call.head) × IsFit l.call.head l.scratch l.call.stage
    × DoesWork l.call.head l.scratch × IsDisk l.disk
