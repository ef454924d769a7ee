use Rattle.std.proofs.Common.{List, ℕ, Option, take, refl, sym, ap, ◌∙◌, subst}
use Rattle.std.specs.Prelude.{unwrap_or}
use Rattle.std.proofs.lemmas.List.{take_more}
use Rattle.zr_core.specs.Noted.{is_in}
use Rattle.zr_core.specs.Preparing.{AreReserved}
use Rattle.zr_core.proofs.Prepared.{reserved_entries, reserved_none, reserved_more, page_low}
use Rattle.zr_core.proofs.prepare.reserve_pages.Goals as goal

pub loop-page-init : goal.loop-page-init
loop-page-init o c = record {
  names = refl;
  reserved = reserved_none c.args.size c.args.counts.now c.args.row.now.cells c.requires.rest;
}

pub reserve-requires-clause-names : goal.reserve-requires-clause-names
reserve-requires-clause-names o c = c.loop-page.invariant.names ∙ c.requires.names

pub reserve-requires-clause-rest : goal.reserve-requires-clause-rest
reserve-requires-clause-rest o c =
    reserved_entries c.args.size _ c.args.counts.now c.args.row.now.cells c.loop-page.row.cells
    c.requires.rest
    c.loop-page.invariant.reserved

pub loop-page-preserved : goal.loop-page-preserved
loop-page-preserved o c = let i = c.loop-page.invariant in record {
  names = c.reserve.ensures.names ∙ i.names;
  reserved = subst
      (λ (xs : List ℕ). AreReserved
      (is_in xs) c.args.counts.now c.args.size c.args.row.now.cells c.reserve.new.row.cells)
      (sym (take_more c.args.pages.now c.loop-page.page-index 0 c.loop-page-test.true))
      (reserved_more c.args.counts.now
      (take c.loop-page.page-index c.args.pages.now) c.args.size _ _
      (page_low c.args.size c.args.pages.now c.loop-page.page-index 0 c.requires.pages.within
      c.loop-page-test.true) c.args.row.now.cells
      c.loop-page.row.cells c.reserve.new.row.cells
      (c.unwrap_or.ensures ∙ ap (λ (o : Option ℕ). unwrap_or o 0) (c.copied.ensures ∙ c.get.ensures.value))
      i.reserved
      c.in_ok-reserve.ensures.reserved);
}
