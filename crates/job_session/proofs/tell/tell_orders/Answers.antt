use Rattle.std.proofs.Common.{◌≡◌, ℕ, ◌+◌, ◌<◌, List, ◌∷◌, ◌++◌, length, drop, get_or, Option, None, Some, sym, ap, ◌∙◌, subst, arith}
use Rattle.std.proofs.Math.ListN.{drop_of_length-le}
use Rattle.std.proofs.lemmas.List.{drop_more}
use Rattle.std.proofs.lemmas.List.FromFn.{length-map-range_with_len}
use Rattle.std.proofs.lemmas.Option.{get_or_from_slice_get}
use Rattle.std.proofs.lemmas.Result.{err_from_is_err_and}
use Rattle.std.specs.List.{slice_get}
use Rattle.zr_base.specs.declared.op.Tag.{Tag}
use Rattle.plain_disk.specs.Output.{order_line}
use Rattle.lock_row.specs.declared.names.Held.TheVariants as holds
use Rattle.slot_entry.specs.Entries.{EntryState}
use Rattle.page_steps.specs.Steps.{DiskHeld}
use Rattle.zr_core.specs.Machines.{order_in, order_at, orders_of}
use Rattle.job_session.proofs.Orders.{NotedFrom, lines_from, order_is, noted_start, noted_line, noted_next, noted_none}
use Rattle.job_session.proofs.Sending.{SoFar-start, SoFar-more, SoFar-cut, SoFar-all}
use Rattle.job_session.proofs.tell.tell_orders.Goals as goal

-- the pages that are left, with the next one first
left : (page at : ℕ) (noted : List ℕ) (orders : List (List Tag)) → at < length noted
    → NotedFrom page (drop at noted) orders
    → NotedFrom page (get_or noted at 0 ∷ drop (at + 1) noted) orders
left page at noted orders lt = subst (λ (ps : List ℕ). NotedFrom page ps orders)
    (drop_more noted at 0 lt)

-- a listed page is one of the disk's
within : (pages : ℕ) (row : List (Option DiskHeld)) (page q : ℕ) (ps : List ℕ)
    → NotedFrom page (q ∷ ps) (orders_of pages row) → q < pages
within pages row page q ps n =
    let lt = n.within.0 in
    let long = length-map-range_with_len (order_at row) 0 pages in
    omega (arith, lt, long)

-- the lines that are left, by the entry that is there
next_line : (pages page at : ℕ) (noted : List ℕ) (row : List (Option DiskHeld)) (e : EntryState)
    (order : List Tag) → at < length noted → NotedFrom page (drop at noted) (orders_of pages row)
    → slice_get row (get_or noted at 0) ≡ Some (Some (holds.Slot e)) → order ≡ e.order
    → lines_from page (orders_of pages row)
    ≡ order_line (get_or noted at 0) order
    ++ lines_from (get_or noted at 0 + 1) (orders_of pages row)
next_line pages page at noted row e order lt n there is =
    let q : ℕ = get_or noted at 0 in
    let here = left page at noted (orders_of pages row) lt n in
    noted_line page (orders_of pages row) q (drop (at + 1) noted) here order
    (order_is pages row q (within pages row page q (drop (at + 1) noted) here)
    ∙ ap order_in (get_or_from_slice_get row q (Some (holds.Slot e)) None there)
    ∙ sym is)

pub loop-page-init : goal.loop-page-init
loop-page-init g c = (
  0,
  rw c.noted-noted.ensures (noted_start _ _ _ c.requires.orders),
  SoFar-start _ _,
)

pub entry-requires-clause-page : goal.entry-requires-clause-page
entry-requires-clause-page g c =
    within _ _ _ _ _ (left _ _ _ _ c.loop-page-test.true c.loop-page.invariant.1)

pub entry-requires-clause-home : goal.entry-requires-clause-home
entry-requires-clause-home g c =
    c.requires.entries.each _
    (within _ _ _ _ _ (left _ _ _ _ c.loop-page-test.true c.loop-page.invariant.1))

pub returns-in_err-tell_order : goal.returns-in_err-tell_order
returns-in_err-tell_order g c =
    let p = err_from_is_err_and c.from_residual.result c.from_residual.ensures.1 in
    rw (p.1, p.2)
    (SoFar-cut _ _ _ _ _ c.loop-page.invariant.2 _ _ _
    (next_line c.args.world.now.pages c.loop-page.invariant.0 c.loop-page.page-index
    c.noted-noted.result.now c.args.world.now.row.cells c.entry.result.now c.order.result.now
    c.loop-page-test.true c.loop-page.invariant.1 c.entry.ensures c.order.ensures)
    c.in_err-tell_order.ensures)

pub loop-page-preserved : goal.loop-page-preserved
loop-page-preserved g c = (
  get_or c.noted-noted.result.now c.loop-page.page-index 0 + 1,
  noted_next c.loop-page.invariant.0 (orders_of c.args.world.now.pages c.args.world.now.row.cells)
      _ _ (left _ _ _ _ c.loop-page-test.true c.loop-page.invariant.1),
  SoFar-more _ _ _ _ _ c.loop-page.invariant.2 _ _
      (next_line c.args.world.now.pages c.loop-page.invariant.0 c.loop-page.page-index
      c.noted-noted.result.now c.args.world.now.row.cells c.entry.result.now c.order.result.now
      c.loop-page-test.true c.loop-page.invariant.1 c.entry.ensures c.order.ensures)
      c.in_ok-tell_order.ensures,
)

pub returns : goal.returns
returns g c =
    let orders : List (List Tag) = orders_of c.args.world.now.pages c.args.world.now.row.cells in
    SoFar-all _ _ _ _ c.loop-page.invariant.2
    (noted_none _ orders
    (subst (λ (ps : List ℕ). NotedFrom c.loop-page.invariant.0 ps orders)
    (drop_of_length-le c.noted-noted.result.now c.loop-page-test.false) c.loop-page.invariant.1))
