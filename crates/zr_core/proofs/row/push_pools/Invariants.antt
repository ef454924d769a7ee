use Rattle.std.proofs.Common.{◌≡◌, ◌+◌, ◌++◌, ℕ}
use Rattle.backing_dev.specs.Dev.{DeviceState}
use Rattle.zr_core.specs.Rests.{slots_of, classes_of, new_disk}
use Rattle.zr_core.specs.Rows.{AreNew}
use Rattle.zr_core.proofs.row.push_pools.Given as goal

abbrev pub invariant-loop-class : goal.invariant-loop-class
invariant-loop-class o l = record {
  names : l.names.items ≡ slots_of l.pages ++ classes_of l.class;
  cells : (limit : ℕ) (device : DeviceState)
      → AreNew (new_disk l.pages limit device) (l.pages + l.class) l.cells.items;
}
