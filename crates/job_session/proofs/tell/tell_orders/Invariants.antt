use Rattle.std.proofs.Common.{ℕ, List, drop}
use Rattle.zr_base.specs.declared.op.Tag.{Tag}
use Rattle.zr_core.specs.Machines.{orders_of}
use Rattle.job_session.proofs.Orders.{NotedFrom, lines_from}
use Rattle.job_session.proofs.Sending.{SoFar}
use Rattle.job_session.proofs.tell.tell_orders.Given as goal

abbrev pub invariant-loop-page : goal.invariant-loop-page
invariant-loop-page g l =
    let orders : List (List Tag) = orders_of l.world.pages l.world.row.cells in
    (from : ℕ) × NotedFrom from (drop l.page-index l.noted) orders
    × SoFar l.fn.out l.out (lines_from from orders) (lines_from 0 orders)
