-- The best destination and the best source of the rows so far.
use Rattle.std.proofs.Common.{take}
use Rattle.zs_plan.specs.Plan.{IsBest, IsFuller, IsEmptier, IsPartial, HasMovable}
use Rattle.zs_plan.proofs.choose.Given as goal

abbrev pub invariant-loop-row : goal.invariant-loop-row
invariant-loop-row l =
    IsBest IsFuller (IsPartial l.per) (take l.row-index l.rows) l.destination
    × IsBest IsEmptier (HasMovable l.per) (take l.row-index l.rows) l.source
