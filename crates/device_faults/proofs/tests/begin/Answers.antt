use Rattle.std.proofs.Common.{subst, sym}
use Rattle.page_steps.specs.declared.stage.Stage.{Stage}
use Rattle.page_steps.specs.Calls.{IsFit, IsGoing}
use Rattle.backing_dev.specs.declared.memory.MemBacking.{MemBacking}
use Rattle.device_faults.specs.OnePage.{CanGo}
use Rattle.device_faults.proofs.Rows.{starts_of}
use Rattle.device_faults.proofs.tests.begin.Goals as goal

pub turn-requires-clause-going : goal.turn-requires-clause-going
turn-requires-clause-going c =
    subst (λ (y : Stage MemBacking). IsGoing y) (sym c.requires.new.start) tt

pub turn-requires-clause-fit : goal.turn-requires-clause-fit
turn-requires-clause-fit c = c.requires.new.fit

pub turn-requires-clause-work : goal.turn-requires-clause-work
turn-requires-clause-work c = c.requires.new.work

pub turn-requires-clause-can : goal.turn-requires-clause-can
turn-requires-clause-can c =
    subst (λ (y : Stage MemBacking). IsFit c.args.call.now.head c.args.scratch.now y
    → CanGo c.args.call.now.head c.args.scratch.now y c.args.disk.now) (sym c.requires.new.start)
    (λ fit. starts_of c.args.call.now.head c.args.scratch.now c.args.disk.now c.requires.new.page
    fit c.requires.new.work c.requires.disk c.requires.room) c.requires.new.fit
