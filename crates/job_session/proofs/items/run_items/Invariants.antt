use Rattle.std.proofs.Common.{take, drop, Ok}
use Rattle.zr_core.specs.Rests.{IsAtRest}
use Rattle.job_session.specs.Stepped.{disk_of}
use Rattle.job_session.specs.Telling.{MayStand, NoPhases, ItemsTold}
use Rattle.job_session.proofs.items.run_items.Given as goal

abbrev pub invariant-loop-item : goal.invariant-loop-item
invariant-loop-item g l = record {
  told : ItemsTold (disk_of l.fn.clock l.fn.world) (take l.item-index l.job)
      (disk_of l.clock l.world) l.fn.out l.out (Ok tt);
  may : MayStand l.world.pages l.clock (drop l.item-index l.job);
  none : NoPhases (drop l.item-index l.job);
  rest : IsAtRest l.world.pages l.world.noted.items l.world.row.cells;
}
