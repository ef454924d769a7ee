-- The zspage in the slot takes back the cell.
use Rattle.std.proofs.Common.{◌≡◌, Some, false, ap, sym, subst, ◌∙◌}
use Rattle.std.proofs.Math.ListN.{set}
use Rattle.zspage.specs.Cells.{UsedCell, entry}
use Rattle.class_pool.specs.Zspages.{Cells}
use Rattle.class_pool.proofs.Ranks.{IsSlot, slot_is, slot_cells, slot_changes, id_within, zspages_made}
use Rattle.class_pool.proofs.zspages.Zspages.back.Goals as goal

pub returns : goal.returns
returns c cells u at here =
    let low = id_within _ _ cells (subst (λ z. entry z.zspages c.args.id ≡ Some cells)
    (sym c.self.view_is) at) in
    let slot : IsSlot c.self.inside.size c.self.inside.chain c.self.inside.per
    c.self.inside.items.items c.args.id c.in-Some.zspage =
    slot_is _ _ _ _ _ _ _ _ _ c.self.invariant low c.index_mut-slot.ensures.value c.in-Some.is in
    let same : c.in-Some.zspage.cells ≡ cells =
    slot_cells _ _ _ _ _ _ _ cells (ap (λ z. z.zspages) c.self.view_is) slot at in
    let home = c.back.ensures.after in
    let both : Some home.0 ≡ Some u = sym home.1 ∙ ap (λ cs. entry cs c.args.ix) same ∙ here in
    let one : home.0 ≡ u = cc in
    let back : Cells → UsedCell → Cells =
    λ cs v. set cs c.args.ix (Some (record v { out = false })) in
    rw (← c.self.view_is)
    (ap (zspages_made c.self.inside.size c.self.inside.chain c.self.inside.per)
    (slot_changes _ _ _ _ (ap (λ z. z.cells) home.2 ∙ ap (λ cs. back cs home.0) same
    ∙ ap (back cells) one)))
