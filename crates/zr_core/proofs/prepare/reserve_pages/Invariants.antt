use Rattle.std.proofs.Common.{◌≡◌, take}
use Rattle.zr_core.specs.Noted.{is_in}
use Rattle.zr_core.specs.Preparing.{AreReserved}
use Rattle.zr_core.proofs.prepare.reserve_pages.Given as goal

abbrev pub invariant-loop-page : goal.invariant-loop-page
invariant-loop-page o l = record {
  names : l.row.names ≡ l.initial.row.names;
  reserved : AreReserved
      (is_in (take l.page-index l.pages)) l.counts l.size l.initial.row.cells l.row.cells;
}
