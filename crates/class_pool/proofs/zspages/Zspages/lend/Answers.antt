-- The zspage in the slot lends the cell.
use Rattle.std.proofs.Common.{◌≡◌, Some, true, ap, sym, subst, ◌∙◌}
use Rattle.std.proofs.Math.ListN.{set, length-set}
use Rattle.zspage.specs.Cells.{UsedCell, IsStored, IsCellAt, entry}
use Rattle.class_pool.specs.Zspages.{Cells}
use Rattle.class_pool.proofs.Ranks.{IsSlot, slot_is, slot_cells, slot_changes, id_within, updated_source, zspages_made}
use Rattle.class_pool.proofs.zspages.Zspages.lend.Goals as goal

pub invariant_of-self : goal.invariant_of-self
invariant_of-self c =
    let low = id_within _ _ c.requires.0 (subst (λ z. entry z.zspages c.args.id
    ≡ Some c.requires.0) (sym c.self.view_is) c.requires.1) in
    let slot : IsSlot c.self.inside.size c.self.inside.chain c.self.inside.per
    c.self.inside.items.items c.args.id c.in-Some.zspage =
    slot_is _ _ _ _ _ _ _ _ _ c.self.invariant low c.index_mut-slot.ensures.value c.in-Some.is in
    rw c.set.ensures
    (updated_source _ _ _ _ _ _ _ _ c.in-Some.zspage c.lend-cell.new.self _ c.self.invariant slot
    c.lend-cell.ensures.after.5 (length-set _ _ _) c.lend-cell.ensures.used c.source-source.ensures)

pub returns : goal.returns
returns c cells u at here =
    let low = id_within _ _ cells (subst (λ z. entry z.zspages c.args.id ≡ Some cells)
    (sym c.self.view_is) at) in
    let slot : IsSlot c.self.inside.size c.self.inside.chain c.self.inside.per
    c.self.inside.items.items c.args.id c.in-Some.zspage =
    slot_is _ _ _ _ _ _ _ _ _ c.self.invariant low c.index_mut-slot.ensures.value c.in-Some.is in
    let same : c.in-Some.zspage.cells ≡ cells =
    slot_cells _ _ _ _ _ _ _ cells (ap (λ z. z.zspages) c.self.view_is) slot at in
    let lent = c.lend-cell.ensures.after in
    let both : Some lent.0 ≡ Some u = sym lent.1 ∙ ap (λ cs. entry cs c.args.ix) same ∙ here in
    let one : lent.0 ≡ u = cc in
    let out : Cells → UsedCell → Cells = λ cs v. set cs c.args.ix (Some (record v { out = true }))
    in (
      ap (λ v. v.cell) (sym one) ∙ lent.2,
      subst (λ v. IsStored v.handle v.bytes c.lend-cell.result) one lent.3,
      subst (λ n. IsCellAt n c.args.ix c.lend-cell.result)
          (slot.size_is ∙ ap (λ z. z.size) c.self.view_is) lent.4,
      rw (← c.self.view_is)
          (ap (zspages_made c.self.inside.size c.self.inside.chain c.self.inside.per)
          (slot_changes _ _ _ _ (ap (λ z. z.cells) lent.5 ∙ ap (λ cs. out cs lent.0) same
          ∙ ap (out cells) one))),
    )
