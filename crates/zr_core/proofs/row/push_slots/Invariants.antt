use Rattle.std.proofs.Common.{◌≡◌, ℕ}
use Rattle.backing_dev.specs.Dev.{DeviceState}
use Rattle.zr_core.specs.Rests.{slots_of, new_disk}
use Rattle.zr_core.specs.Rows.{AreNew}
use Rattle.zr_core.proofs.row.push_slots.Given as goal

abbrev pub invariant-loop-page : goal.invariant-loop-page
invariant-loop-page o l = record {
  names : l.names.items ≡ slots_of l.page;
  cells : (limit : ℕ) (device : DeviceState) → AreNew (new_disk l.pages limit device) l.page l.cells.items;
}
