use Rattle.std.proofs.Common.{length, ap, ◌∙◌}
use Rattle.lock_table.proofs.Openings.{opens_by, grounded}
use Rattle.lock_table.proofs.row.TableRow.open.Goals as goal

pub split_seat-requires : goal.split_seat-requires
split_seat-requires g c =
    let e = c.in-Ok.ensures.ok in
    let can = c.requires.can in (
      e.2,
      (grounded g.V.RowValue.rule g.P.PhaseStart.start c.args.parts.names.items
          c.args.parts.words.items c.args.parts.slots.items c.in-Ok.table.shared.table_id can
          (e.0 ∙ ap length c.as_slice.ensures.value) e.1).some,
      opens_by g.V.RowValue.rule _ can.values _ _ g.P.PhaseStart.start _
          (ap (λ k. k.value.items) e.5 ∙ ap (λ v. v.items) c.of-key.ensures ∙ can.slots_are)
          (ap (λ m. m.0) e.4) can.begins,
    )

pub invariant_of-row : goal.invariant_of-row
invariant_of-row g c =
    let e = c.in-Ok.ensures.ok in
    grounded g.V.RowValue.rule g.P.PhaseStart.start c.args.parts.names.items
    c.args.parts.words.items c.args.parts.slots.items _ c.requires.can
    (e.0 ∙ ap length c.as_slice.ensures.value) e.1
