use Rattle.std.proofs.Common.{◌≡◌, ℕ, ◌+◌, refl, sym, ◌∙◌, subst, arith}
use Rattle.lock_row.specs.declared.names.Held.TheVariants as holds
use Rattle.zr_core.specs.Rests.{new_disk}
use Rattle.zr_core.specs.Rows.{AreNew}
use Rattle.zr_core.proofs.Fresh.{new_none, new_more, one_slot}
use Rattle.zr_core.proofs.row.push_slots.Goals as goal

pub loop-page-init : goal.loop-page-init
loop-page-init o c = record {
  names = c.requires.no_names;
  cells = λ limit device. subst (AreNew (new_disk c.args.pages limit device) 0)
      (sym c.requires.no_cells) (new_none (new_disk c.args.pages limit device));
}

pub loop-page-preserved : goal.loop-page-preserved
loop-page-preserved o c = let i = c.loop-page.invariant in record {
  names = c.in_ok-push.ensures.items ∙ one_slot c.loop-page.names.items c.loop-page.page i.names;
  cells = λ limit device.
      let g = new_disk c.args.pages limit device in
      subst (AreNew g (c.loop-page.page + 1)) (sym c.in_ok-push-2.ensures.items)
      (new_more g c.loop-page.page c.loop-page.cells.items (holds.Slot c.new.result)
      (i.cells limit device) (
        c.loop-page-test.true,
        c.new.ensures.kept,
        c.new.ensures.order,
        c.new.ensures.under,
        c.new.ensures.idle,
        c.new.ensures.touched,
        refl,
        refl,
        refl,
      ));
}

pub returns-clause-cells : goal.returns-clause-cells
returns-clause-cells o c limit device =
    subst (λ (n : ℕ). AreNew (new_disk c.args.pages limit device) n c.loop-page.cells.items)
    (let t = c.loop-page-test.false in let e = c.loop-page.auto.page-end in
    let q : c.loop-page.page ≡ c.args.pages = omega arith in q)
    (c.loop-page.invariant.cells limit device)
