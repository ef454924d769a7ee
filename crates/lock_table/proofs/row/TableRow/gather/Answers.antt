use Rattle.std.proofs.Common.{sym, ap, ◌∙◌, subst}
use Rattle.lock_table.specs.Sittings.{emptied, seated}
use Rattle.lock_table.specs.Shut.{joined}
use Rattle.lock_table.proofs.Steps.{Sits}
use Rattle.lock_table.proofs.Shuts.{joins_at}
use Rattle.lock_table.proofs.row.TableRow.gather.Goals as goal

pub join_seat-requires : goal.join_seat-requires
join_seat-requires g c =
    let r = g.V.RowValue.rule in
    let a = c.requires.seat in
    let sits = subst (λ h. Sits r h c.hand.inside.seat.me) c.hand.view_is c.hand.invariant in
    let here = ap (λ w. w.id) c.self.view_is in (
      c.requires.own.0 ∙ sym here,
      ap (λ h. h.id) c.hand.view_is ∙ (c.requires.own.1 ∙ sym here),
      ap (λ m. m.1) sits ∙ ap (emptied r.spot) c.requires.free,
      c.self.invariant.some,
      joins_at r _ _ _ a.0 c.args.hand.start a.1 (seated c.args.hand) _ _ (ap (λ m. m.0) a.2)
          (ap (λ m. m.0) sits),
    )

pub returns-clause-both : goal.returns-clause-both
returns-clause-both g c start xs e =
    let r = g.V.RowValue.rule in
    let sits = subst (λ h. Sits r h c.hand.inside.seat.me) c.hand.view_is c.hand.invariant in
    c.join_seat.ensures.2 ∙ (λ i. (joined (e i).0 (sits i).0, (e i).1))
