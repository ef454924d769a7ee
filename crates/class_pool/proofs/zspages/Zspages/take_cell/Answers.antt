-- The zspage in the slot takes the object, and gets its new rank.
use Rattle.std.proofs.Common.{◌≡◌, ◌<◌, ◌≤◌, Some, length, arith, ap, sym, subst, ◌∙◌}
use Rattle.std.proofs.Math.ListN.{length-set}
use Rattle.zspage.specs.Cells.{entry, Fits, IsCellAt}
use Rattle.class_pool.specs.Zspages.{HasRoom}
use Rattle.class_pool.proofs.Ranks.{IsSlot, slot_is, slot_changes, room_within, still_fits, updated_ranks, per_bound, zspages_made}
use Rattle.class_pool.proofs.zspages.Zspages.take_cell.Goals as goal

pub take_cell-cell-requires-clause-fits : goal.take_cell-cell-requires-clause-fits
take_cell-cell-requires-clause-fits c =
    let low : c.args.id < length c.self.inside.items.items =
    room_within _ _ (subst (λ z. HasRoom (entry z.zspages c.args.id)) (sym c.self.view_is)
    c.requires.room) in
    let slot : IsSlot c.self.inside.size c.self.inside.chain c.self.inside.per
    c.self.inside.items.items c.args.id c.in-Some.zspage =
    slot_is _ _ _ _ _ _ _ _ _ c.self.invariant low c.index_mut-slot.ensures.value c.in-Some.is in
    let size : c.in-Some.zspage.size ≡ c.args.self.now.size = slot.size_is
    ∙ ap (λ z. z.size) c.self.view_is in
    subst (λ n. Fits (length c.args.bytes.now) n) (sym size) c.requires.fits

pub rank-rank-requires : goal.rank-rank-requires
rank-rank-requires c =
    let low : c.args.id < length c.self.inside.items.items =
    room_within _ _ (subst (λ z. HasRoom (entry z.zspages c.args.id)) (sym c.self.view_is)
    c.requires.room) in
    let slot : IsSlot c.self.inside.size c.self.inside.chain c.self.inside.per
    c.self.inside.items.items c.args.id c.in-Some.zspage =
    slot_is _ _ _ _ _ _ _ _ _ c.self.invariant low c.index_mut-slot.ensures.value c.in-Some.is in
    let few : c.self.inside.per ≤ 2048 = per_bound _ _ _ c.self.invariant.small
    c.self.invariant.few c.self.invariant.cells in
    let long : length c.take_cell-cell.new.self.cells ≡ length c.in-Some.zspage.cells =
    ap (λ z. length z.cells) c.take_cell-cell.ensures.after.3 ∙ length-set _ _ _ in
    omega (arith, slot.per_is)

pub returns : goal.returns
returns c =
    let low : c.args.id < length c.self.inside.items.items =
    room_within _ _ (subst (λ z. HasRoom (entry z.zspages c.args.id)) (sym c.self.view_is)
    c.requires.room) in
    let slot : IsSlot c.self.inside.size c.self.inside.chain c.self.inside.per
    c.self.inside.items.items c.args.id c.in-Some.zspage =
    slot_is _ _ _ _ _ _ _ _ _ c.self.invariant low c.index_mut-slot.ensures.value c.in-Some.is in (
      c.in-Some.zspage.cells,
      c.take_cell-cell.ensures.after.0,
      (subst (λ z. entry z.zspages c.args.id ≡ Some c.in-Some.zspage.cells)
          c.self.view_is slot.seen),
      c.take_cell-cell.ensures.lowest,
      c.take_cell-cell.ensures.after.1,
      subst (λ n. IsCellAt n c.take_cell-cell.result c.take_cell-cell.ensures.after.0)
          (slot.size_is ∙ ap (λ z. z.size) c.self.view_is) c.take_cell-cell.ensures.after.2,
      rw (← c.self.view_is)
          (ap (λ zs. zspages_made c.self.inside.size c.self.inside.chain c.self.inside.per zs)
          (slot_changes _ _ _ _ (ap (λ z. z.cells) c.take_cell-cell.ensures.after.3))),
    )

pub invariant_of-self : goal.invariant_of-self
invariant_of-self c =
    let low : c.args.id < length c.self.inside.items.items =
    room_within _ _ (subst (λ z. HasRoom (entry z.zspages c.args.id)) (sym c.self.view_is)
    c.requires.room) in
    let slot : IsSlot c.self.inside.size c.self.inside.chain c.self.inside.per
    c.self.inside.items.items c.args.id c.in-Some.zspage =
    slot_is _ _ _ _ _ _ _ _ _ c.self.invariant low c.index_mut-slot.ensures.value c.in-Some.is in
    rw (c.set.ensures, c.set-in-Some.ensures)
    (updated_ranks _ _ _ _ _ _ _ _ _ _ c.self.invariant low
    (still_fits _ _ _ _ _ _ _ _ slot c.take_cell-cell.ensures.after.3 (length-set _ _ _))
    c.rank-rank.ensures c.source-source.ensures)
