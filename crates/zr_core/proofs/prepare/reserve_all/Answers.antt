use Rattle.std.proofs.Common.{◌||◌}
use Rattle.zr_core.proofs.Prepared.{reserved_entries, reserved_both, all_reserved}
use Rattle.zr_core.proofs.prepare.reserve_all.Goals as goal

pub reserve_pages-requires-2-clause-rest : goal.reserve_pages-requires-2-clause-rest
reserve_pages-requires-2-clause-rest o c =
    reserved_entries c.args.size c.reserve_pages.ensures.kept.0 c.args.counts.now
    c.args.row.now.cells c.reserve_pages.new.row.cells c.requires.rest
    c.reserve_pages.ensures.kept.1

pub returns-in_err-reserve_pages-2-clause-kept : goal.returns-in_err-reserve_pages-2-clause-kept
returns-in_err-reserve_pages-2-clause-kept o c =
    let first = c.reserve_pages.ensures.kept in
    let second = c.reserve_pages-2.ensures.kept in (
      λ p. second.0 p || first.0 p,
      reserved_both first.0 second.0 c.args.counts.now c.args.size
          c.args.row.now.cells
          c.reserve_pages.new.row.cells c.reserve_pages-2.new.row.cells first.1 second.1,
    )

pub returns-clause-kept : goal.returns-clause-kept
returns-clause-kept o c =
    let first = c.reserve_pages.ensures.kept in
    let second = c.reserve_pages-2.ensures.kept in (
      λ p. second.0 p || first.0 p,
      reserved_both first.0 second.0 c.args.counts.now c.args.size
          c.args.row.now.cells
          c.reserve_pages.new.row.cells c.reserve_pages-2.new.row.cells first.1 second.1,
    )

pub returns-clause-reserved : goal.returns-clause-reserved
returns-clause-reserved o c =
    all_reserved c.args.size c.args.counts.now c.args.before.now c.args.noted.now
    c.args.row.now.cells
    c.reserve_pages.new.row.cells c.reserve_pages-2.new.row.cells c.requires.orders
    c.requires.counted
    c.in_ok-reserve_pages.ensures.reserved c.in_ok-reserve_pages-2.ensures.reserved
