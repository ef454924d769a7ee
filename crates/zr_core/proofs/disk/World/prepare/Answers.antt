use Rattle.std.proofs.Common.{◌+◌, refl, ◌∙◌, arith}
use Rattle.page_steps.specs.Steps.{Terms}
use Rattle.zr_core.specs.declared.limits.TheConstants.{MOST_CHAIN}
use Rattle.zr_core.proofs.Preparing.{on_err_any}
use Rattle.zr_core.proofs.Noted.{are_counted}
use Rattle.zr_core.proofs.Prepared.{has_page, keeps_same, keeps_values, still_rests, no_entry, set_up_on, prepared, may_go_on}
use Rattle.zr_core.proofs.Rests.{rests_on}
use Rattle.zr_core.proofs.Spares.{device_same, blocks_same}
use Rattle.zr_core.proofs.disk.World.prepare.Goals as goal
use Rattle.zr_core.proofs.disk.World.prepare.Goals.{After-reserve_all}

pub reserve_all-requires-clause-counted : goal.reserve_all-requires-clause-counted
reserve_all-requires-clause-counted o c =
    are_counted c.args.self.now.pages c.in_ok-counts.counts _
    (c.deref-2.ensures.value ∙ c.in_ok-noted.ensures.keys) c.noted_pages.ensures.ordered
    c.in_ok-counts.ensures.only

-- where there are actors the disk has a page
pub new_workers-requires-clause-some : goal.new_workers-requires-clause-some
new_workers-requires-clause-some o c = has_page c.args.self.now.pages c.args.actors.now c.requires.none

-- ---- want of memory

pub returns-in_err-counts-clause-same : goal.returns-in_err-counts-clause-same
returns-in_err-counts-clause-same o c = on_err_any c.from_residual.result
    (keeps_same c.args.self.now.row.cells)

pub returns-in_err-workers-clause-same : goal.returns-in_err-workers-clause-same
returns-in_err-workers-clause-same o c = on_err_any c.from_residual-in_err-workers.result
    (keeps_same c.args.self.now.row.cells)

pub returns-in_err-noted-clause-same : goal.returns-in_err-noted-clause-same
returns-in_err-noted-clause-same o c = on_err_any c.from_residual-in_err-noted.result
    (keeps_same c.args.self.now.row.cells)

pub returns-in_err-reserve_all-clause-same : goal.returns-in_err-reserve_all-clause-same
returns-in_err-reserve_all-clause-same o c = on_err_any c.from_residual-in_err-reserve_all.result
    (keeps_values c.args.self.now.pages c.reserve_all.ensures.kept.0 _ c.args.self.now.row.cells
    c.reserve_all.new.row.cells c.reserve_all.ensures.kept.1)

pub returns-in_err-reserve_all-clause-rest : goal.returns-in_err-reserve_all-clause-rest
returns-in_err-reserve_all-clause-rest o c = on_err_any c.from_residual-in_err-reserve_all.result
    (still_rests c.args.self.now.pages c.args.self.now.noted.items c.args.self.now.row.cells
    c.reserve_all.new.row.cells c.requires.rest c.reserve_all.ensures.kept.0 _
    c.reserve_all.ensures.kept.1)

pub returns-in_err-reserve_all-clause-rests_as : goal.returns-in_err-reserve_all-clause-rests_as
returns-in_err-reserve_all-clause-rests_as o c = on_err_any c.from_residual-in_err-reserve_all.result
    (λ g rests. rests_on g c.args.self.now.pages c.args.self.now.row.cells rests
    c.reserve_all.new.row.cells
    (keeps_values c.args.self.now.pages c.reserve_all.ensures.kept.0 _ c.args.self.now.row.cells
    c.reserve_all.new.row.cells c.reserve_all.ensures.kept.1))

-- ---- the device and its blocks

pub returns-in_err-reserve_all-clause-device : goal.returns-in_err-reserve_all-clause-device
returns-in_err-reserve_all-clause-device o c =
    device_same c.args.self.now.row.cells c.reserve_all.new.row.cells c.args.self.now.pages
    c.args.self.now.spare (c.reserve_all.ensures.kept.1.others (c.args.self.now.pages + 257) (omega arith))

pub returns-in_err-reserve_all-clause-blocks : goal.returns-in_err-reserve_all-clause-blocks
returns-in_err-reserve_all-clause-blocks o c =
    blocks_same c.args.self.now.row.cells c.reserve_all.new.row.cells c.args.self.now.pages
    c.args.self.now.spare (c.reserve_all.ensures.kept.1.others (c.args.self.now.pages + 256) (omega arith))

pub returns-clause-device : goal.returns-clause-device
returns-clause-device o c =
    device_same c.args.self.now.row.cells c.reserve_all.new.row.cells c.args.self.now.pages
    c.args.self.now.spare (c.reserve_all.ensures.kept.1.others (c.args.self.now.pages + 257) (omega arith))

pub returns-clause-blocks : goal.returns-clause-blocks
returns-clause-blocks o c =
    blocks_same c.args.self.now.row.cells c.reserve_all.new.row.cells c.args.self.now.pages
    c.args.self.now.spare (c.reserve_all.ensures.kept.1.others (c.args.self.now.pages + 256) (omega arith))

-- ---- the phase that is set up

abbrev terms : (o : _) → After-reserve_all o → Terms
terms o c = record { size = c.args.self.now.pages; chain = MOST_CHAIN; clock = c.args.now }

pub returns-clause-set_up : goal.returns-clause-set_up
returns-clause-set_up o c =
    let a = (goal.at.returns-clause-set_up o c).After-reserve_all in
    set_up_on (terms o a) c.args.self.now.backed c.args.actors.now c.args.self.now.row.cells c.reserve_all.new.row.cells
    c.in_ok-workers.workers.items c.args.self.now.limit c.args.self.now.spare c.in_ok-counts.counts
    c.in_ok-noted.noted.items
    c.in_ok-workers.ensures (c.in_ok-counts.ensures.counted c.args.self.now.backed)
    c.in_ok-reserve_all.ensures.reserved
    (no_entry c.args.self.now.pages c.args.self.now.noted.items c.args.self.now.row.cells
    c.requires.rest)

pub returns-clause-start : goal.returns-clause-start
returns-clause-start o c g rests =
    let a = (goal.at.returns-clause-start o c).After-reserve_all in
    prepared (terms o a) c.args.self.now.backed c.args.actors.now c.args.self.now.row.cells c.reserve_all.new.row.cells
    c.in_ok-workers.workers.items c.args.self.now.limit c.args.self.now.spare c.in_ok-counts.counts
    c.in_ok-noted.noted.items
    c.in_ok-workers.ensures (c.in_ok-counts.ensures.counted c.args.self.now.backed)
    c.in_ok-reserve_all.ensures.reserved
    (no_entry c.args.self.now.pages c.args.self.now.noted.items c.args.self.now.row.cells
    c.requires.rest)
    g rests c.requires.work c.requires.time refl c.phases_go_on.ensures.next c.disks_begin.ensures.proper

pub returns-clause-can : goal.returns-clause-can
returns-clause-can o c =
    let a = (goal.at.returns-clause-can o c).After-reserve_all in
    may_go_on (terms o a) c.args.self.now.backed c.args.actors.now c.args.self.now.row.cells c.reserve_all.new.row.cells
    c.in_ok-workers.workers.items c.args.self.now.limit c.args.self.now.spare c.in_ok-counts.counts
    c.in_ok-noted.noted.items
    c.in_ok-workers.ensures (c.in_ok-counts.ensures.counted c.args.self.now.backed)
    c.in_ok-reserve_all.ensures.reserved
    (no_entry c.args.self.now.pages c.args.self.now.noted.items c.args.self.now.row.cells
    c.requires.rest)
    c.args.self.now.noted.items c.requires.rest c.requires.none c.requires.work
    c.requires.time refl
    (are_counted c.args.self.now.pages c.in_ok-counts.counts c.in_ok-noted.noted.items
    c.in_ok-noted.ensures.keys c.noted_pages.ensures.ordered c.in_ok-counts.ensures.only)
    c.rule_keeps.ensures.start c.phases_go_on.ensures.next c.disks_begin.ensures.proper
