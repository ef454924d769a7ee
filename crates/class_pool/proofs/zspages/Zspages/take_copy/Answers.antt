-- The zspage in the slot takes the bytes of the other cell, and gets its new rank.
use Rattle.std.proofs.Common.{◌≡◌, ◌≤◌, Some, length, arith, ap, sym, subst, ◌∙◌}
use Rattle.std.proofs.Math.ListN.{set, length-set}
use Rattle.zspage.specs.Cells.{entry, UsedCell, IsCellAt, IsLowestFree}
use Rattle.class_pool.specs.Zspages.{Cells, HasRoom}
use Rattle.class_pool.specs.Pool.{new_use}
use Rattle.class_pool.proofs.Ranks.{IsSlot, slot_is, slot_cells, slot_changes, room_within, still_fits, updated_ranks, per_bound, zspages_made}
use Rattle.class_pool.proofs.zspages.Zspages.take_copy.Goals as goal
use Rattle.class_pool.proofs.zspages.Zspages.take_copy.Goals.{In-Some}

slot : (c : In-Some)
    → IsSlot c.self.inside.size c.self.inside.chain c.self.inside.per c.self.inside.items.items
    c.args.id c.in-Some.zspage
slot c =
    let low = room_within _ _ (subst (λ z. HasRoom (entry z.zspages c.args.id)) (sym c.self.view_is)
    c.requires.room) in
    slot_is _ _ _ _ _ _ _ _ _ c.self.invariant low c.index_mut-slot.ensures.value c.in-Some.is

slot_size : (c : In-Some) → c.in-Some.zspage.size ≡ c.args.self.now.size
slot_size c = (slot c).size_is ∙ ap (λ z. z.size) c.self.view_is

pub take_copy-cell-requires-clause-size : goal.take_copy-cell-requires-clause-size
take_copy-cell-requires-clause-size c =
    c.requires.size ∙ sym (slot_size (goal.at.take_copy-cell-requires-clause-size c).In-Some)

pub take_copy-cell-requires-clause-small : goal.take_copy-cell-requires-clause-small
take_copy-cell-requires-clause-small c =
    let is = slot (goal.at.take_copy-cell-requires-clause-small c).In-Some in
    omega (arith, is.size_is, c.self.invariant.large)

pub rank-rank-requires : goal.rank-rank-requires
rank-rank-requires c =
    let is = slot (goal.at.rank-rank-requires c).In-Some in
    let few : c.self.inside.per ≤ 2048 =
    per_bound _ _ _ c.self.invariant.small c.self.invariant.few c.self.invariant.cells in
    let after = c.take_copy-cell.ensures.after c.requires.stored.0 c.requires.stored.1
    c.requires.stored.2 in
    let long : length c.take_copy-cell.new.self.cells ≡ length c.in-Some.zspage.cells =
    ap (λ z. length z.cells) after.3 ∙ length-set _ _ _ in
    omega (arith, is.per_is)

pub invariant_of-self : goal.invariant_of-self
invariant_of-self c =
    let is = slot (goal.at.invariant_of-self c).In-Some in
    let after = c.take_copy-cell.ensures.after c.requires.stored.0 c.requires.stored.1
    c.requires.stored.2 in
    rw (c.set.ensures, c.set-in-Some.ensures)
    (updated_ranks _ _ _ _ _ _ _ _ _ _ c.self.invariant is.low
    (still_fits _ _ _ _ _ _ _ _ is after.3 (length-set _ _ _)) c.rank-rank.ensures
    c.source-source.ensures)

pub returns : goal.returns
returns c cells bytes at stored long =
    let here = (goal.at.returns c).In-Some in
    let is = slot here in
    let after = c.take_copy-cell.ensures.after bytes stored long in
    let same : c.in-Some.zspage.cells ≡ cells =
    slot_cells _ _ _ _ _ _ _ cells (ap (λ z. z.zspages) c.self.view_is) is at in
    let u : UsedCell = new_use c.args.handle.0 bytes after.0 in (
      after.0,
      subst (λ cs. IsLowestFree cs c.take_copy-cell.result) same c.take_copy-cell.ensures.lowest,
      after.1,
      subst (λ n. IsCellAt n c.take_copy-cell.result after.0) (slot_size here) after.2,
      rw (← c.self.view_is)
          (ap (zspages_made c.self.inside.size c.self.inside.chain c.self.inside.per)
          (slot_changes _ _ _ _ (ap (λ z. z.cells) after.3
          ∙ ap (λ (cs : Cells). set cs c.take_copy-cell.result (Some u)) same))),
    )
