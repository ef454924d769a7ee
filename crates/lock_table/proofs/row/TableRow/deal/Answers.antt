use Rattle.std.proofs.Common.{sym, ap, ◌∙◌}
use Rattle.lock_table.proofs.Openings.{deals_at}
use Rattle.lock_table.proofs.row.TableRow.deal.Goals as goal

pub split_seat-seat-requires : goal.split_seat-seat-requires
split_seat-seat-requires g c =
    let f = c.requires.first in (
      c.requires.own ∙ sym (ap (λ w. w.id) c.self.view_is),
      c.self.invariant.some,
      deals_at g.V.RowValue.rule _ _ f.0 _ f.2 _ (ap (λ m. m.0) f.3),
    )
