-- The last winner of the ranks of sources is the emptiest zspage that can give an object.
use Rattle.std.proofs.Common.{◌≡◌, None, sym, subst, ◌∙◌}
use Rattle.zspage.specs.Cells.{entry}
use Rattle.zs_plan.specs.Plan.{IsBest, IsEmptier, HasMovable}
use Rattle.class_pool.specs.Rows.{row_at, rows}
use Rattle.class_pool.proofs.PlanLaws.{no_source, source_row}
use Rattle.class_pool.proofs.zspages.Zspages.source.Goals as goal

pub returns-then-rank-eq-STAYS : goal.returns-then-rank-eq-STAYS
returns-then-rank-eq-STAYS c =
    subst (λ z. IsBest IsEmptier (HasMovable z.per) (rows z.zspages) None) c.self.view_is
    (no_source _ _ _ _ _ _ _ c.self.invariant c.last_winner-last.ensures (sym c.rank.ensures
    ∙ c.if-rank-eq-STAYS.true))

pub returns : goal.returns
returns c =
    subst (λ z. IsBest IsEmptier (HasMovable z.per) (rows z.zspages) c.row.result) c.self.view_is
    (source_row _ _ _ _ _ _ _ _ c.self.invariant c.last_winner-last.ensures
    (λ e. c.if-rank-eq-STAYS.false (c.rank.ensures ∙ e))
    (subst (λ z. c.row.result ≡ row_at c.last_winner-last.result
    (entry z.zspages c.last_winner-last.result)) (sym c.self.view_is) c.row.ensures))
