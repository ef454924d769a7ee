-- The winner of the ranks is the fullest partial zspage, where it is partial.
use Rattle.std.proofs.Common.{◌≡◌, None, arith, sym, subst}
use Rattle.zspage.specs.Cells.{entry}
use Rattle.zs_plan.specs.Plan.{IsBest, IsFuller, IsPartial}
use Rattle.class_pool.specs.Rows.{row_at, rows}
use Rattle.class_pool.proofs.PlanLaws.{no_destination, destination_row}
use Rattle.class_pool.proofs.zspages.Zspages.destination.Goals as goal

pub returns-then-rank-le-ROOM : goal.returns-then-rank-le-ROOM
returns-then-rank-le-ROOM c =
    subst (λ z. IsBest IsFuller (IsPartial z.per) (rows z.zspages) None) c.self.view_is
    (no_destination _ _ _ _ _ _ _ c.self.invariant c.winner-winner.ensures
    (omega (arith, c.rank.ensures, c.if-rank-le-ROOM.true)))

pub returns : goal.returns
returns c =
    subst (λ z. IsBest IsFuller (IsPartial z.per) (rows z.zspages) c.row.result) c.self.view_is
    (destination_row _ _ _ _ _ _ _ _ c.self.invariant c.winner-winner.ensures
    (omega (arith, c.rank.ensures, c.if-rank-le-ROOM.false))
    (subst (λ z. c.row.result ≡ row_at c.winner-winner.result
    (entry z.zspages c.winner-winner.result)) (sym c.self.view_is) c.row.ensures))
