use Rattle.std.proofs.Common.{refl}
use Rattle.device_faults.proofs.Rows.{ready_goes, ready_on}
use Rattle.device_faults.proofs.tests.step.Goals as goal

pub turn-requires-clause-going : goal.turn-requires-clause-going
turn-requires-clause-going c = ready_on c.args.call.now.stage c.args.disk.now (c.if-not-is_ready.ensures.ready refl)

pub turn-requires-clause-can : goal.turn-requires-clause-can
turn-requires-clause-can c =
    ready_goes c.args.call.now.head c.args.scratch.now c.args.call.now.stage c.args.disk.now
    c.requires.page c.requires.fit c.requires.work (c.if-not-is_ready.ensures.ready refl)
