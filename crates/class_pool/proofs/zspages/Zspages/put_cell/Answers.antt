-- The zspage in the slot loses an object, and goes where that was its last.
use Rattle.std.proofs.Common.{◌≡◌, ◌<◌, ◌≤◌, ◌≢◌, None, Some, length, arith, ap, sym, subst, ◌∙◌}
use Rattle.std.proofs.Math.ListN.{set, length-set}
use Rattle.zspage.specs.Cells.{entry, used_of}
use Rattle.std.proofs.lemmas.Bool.{both_ways}
use Rattle.class_pool.specs.Zspages.{Cells}
use Rattle.class_pool.proofs.Ranks.{IsSlot, slot_is, slot_cells, slot_changes, slot_goes, still_fits, updated_ranks, id_within, per_bound, zspages_made}
use Rattle.class_pool.proofs.zspages.Zspages.put_cell.Goals as goal

pub returns-then-is_empty-clause-gone : goal.returns-then-is_empty-clause-gone
returns-then-is_empty-clause-gone c cells at was_last =
    let low = id_within _ _ cells (subst (λ z. entry z.zspages c.args.id ≡ Some cells)
    (sym c.self.view_is) at) in
    let slot : IsSlot c.self.inside.size c.self.inside.chain c.self.inside.per
    c.self.inside.items.items c.args.id c.in-Some.zspage =
    slot_is _ _ _ _ _ _ _ _ _ c.self.invariant low c.index_mut-slot.ensures.value c.in-Some.is in
    let same : c.in-Some.zspage.cells ≡ cells =
    slot_cells _ _ _ _ _ _ _ cells (ap (λ z. z.zspages) c.self.view_is) slot at in (
      subst (λ cs. used_of cs ≡ 1) same (omega
          (arith, c.put_cell.ensures.used, c.is_empty.ensures.0 c.if-is_empty.true)),
      rw (← c.self.view_is)
          (ap (zspages_made c.self.inside.size c.self.inside.chain c.self.inside.per)
          (slot_goes _ _ _)),
    )

pub rank-rank-requires : goal.rank-rank-requires
rank-rank-requires c =
    let low : c.args.id < length c.self.inside.items.items =
    id_within _ _ c.requires.0 (subst (λ z. entry z.zspages c.args.id ≡ Some c.requires.0)
    (sym c.self.view_is) c.requires.1) in
    let slot : IsSlot c.self.inside.size c.self.inside.chain c.self.inside.per
    c.self.inside.items.items c.args.id c.in-Some.zspage =
    slot_is _ _ _ _ _ _ _ _ _ c.self.invariant low c.index_mut-slot.ensures.value c.in-Some.is in
    let few : c.self.inside.per ≤ 2048 = per_bound _ _ _ c.self.invariant.small
    c.self.invariant.few c.self.invariant.cells in
    let long : length c.put_cell.new.self.cells ≡ length c.in-Some.zspage.cells =
    ap (λ z. length z.cells) c.put_cell.ensures.after ∙ length-set _ _ _ in
    omega (arith, slot.per_is)

pub returns-clause-kept : goal.returns-clause-kept
returns-clause-kept c cells at stays =
    let low = id_within _ _ cells (subst (λ z. entry z.zspages c.args.id ≡ Some cells)
    (sym c.self.view_is) at) in
    let slot : IsSlot c.self.inside.size c.self.inside.chain c.self.inside.per
    c.self.inside.items.items c.args.id c.in-Some.zspage =
    slot_is _ _ _ _ _ _ _ _ _ c.self.invariant low c.index_mut-slot.ensures.value c.in-Some.is in
    let same : c.in-Some.zspage.cells ≡ cells =
    slot_cells _ _ _ _ _ _ _ cells (ap (λ z. z.zspages) c.self.view_is) slot at in
    let left : used_of c.put_cell.new.self.cells ≢ 0 =
    λ e. both_ways _ c.if-is_empty.false (c.is_empty.ensures.1 e) in (
      subst (λ cs. 2 ≤ used_of cs) same (omega (arith, c.put_cell.ensures.used)),
      rw (← c.self.view_is)
          (ap (zspages_made c.self.inside.size c.self.inside.chain c.self.inside.per)
          (slot_changes _ _ _ _ (ap (λ z. z.cells) c.put_cell.ensures.after
          ∙ ap (λ (cs : Cells). set cs c.args.ix None) same))),
    )

pub invariant_of-self-in-Some : goal.invariant_of-self-in-Some
invariant_of-self-in-Some c =
    let low : c.args.id < length c.self.inside.items.items =
    id_within _ _ c.requires.0 (subst (λ z. entry z.zspages c.args.id ≡ Some c.requires.0)
    (sym c.self.view_is) c.requires.1) in
    let slot : IsSlot c.self.inside.size c.self.inside.chain c.self.inside.per
    c.self.inside.items.items c.args.id c.in-Some.zspage =
    slot_is _ _ _ _ _ _ _ _ _ c.self.invariant low c.index_mut-slot.ensures.value c.in-Some.is in
    rw (c.set-in-Some.ensures, c.set-in-Some-2.ensures)
    (updated_ranks _ _ _ _ _ _ _ _ _ _ c.self.invariant low
    (still_fits _ _ _ _ _ _ _ _ slot c.put_cell.ensures.after (length-set _ _ _))
    c.rank-rank.ensures c.source-source.ensures)
