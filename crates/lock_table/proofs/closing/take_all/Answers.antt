use Rattle.std.proofs.Common.{◌≡◌, true, false, map, slice_index_or, Some, slice_get, ap, ◌∙◌, sym, subst, arith, get_or-set_other}
use Rattle.std.specs.Slots.{slots_items, slots_counts, slots_filled}
use Rattle.lock_row.specs.declared.names.LockNo.{LockNo}
use Rattle.lock_table.specs.Starts.{all_home}
use lib.ListN.{get_elem?}
use mathlib.Core.Option.{some}
use Rattle.lock_table.proofs.Shuts.{read_so, one_taken, emptied_to}
use Rattle.lock_table.proofs.closing.take_all.Goals as goal

pub unreachable-requires : goal.unreachable-requires
unreachable-requires g c =
    let t = c.requires.there c.loop-at.at c.take.result
    (ap (λ xs. slice_get xs c.loop-at.at) (sym c.loop-at.invariant.items)
    ∙ read_so _ c.loop-at.at c.take.result c.take.ensures.value) in
    c.in_default.not-Some t.0 t.1

pub loop-at-preserved : goal.loop-at-preserved
loop-at-preserved g c =
    let i = c.loop-at.invariant in
    let o = c.take.ensures.others in
    let slots = slots_items c.args.closed.slots in
    let here : get_elem? slots c.loop-at.at ≡ some (Some c.in-Some.value) =
    ap (λ xs. get_elem? xs c.loop-at.at) (sym i.items)
    ∙ (c.take.ensures.value ∙ ap some c.in-Some.is) in
    let n = (slots_counts c.args.closed.slots).0 in
    let b = one_taken c.args.names.now slots c.loop-at.values.items c.loop-at.at _ c.in-Some.value
    c.loop-at-test.true (let t = c.loop-at-test.true in let q = c.requires.count in
    omega arith) here i.names i.values in
    record {
      items = o.0 ∙ i.items;
      count = o.2 ∙ i.count;
      full = λ k low high. subst (λ fs. slice_index_or fs k false ≡ true) (sym o.1)
          (get_or-set_other (slots_filled c.loop-at.closed.slots) c.loop-at.at k false false
          (λ e. absurd (omega arith)) ∙ i.full k (omega arith) (let q = o.2 in omega arith));
      taken = λ k low. subst (λ fs. slice_index_or fs k false ≡ false) (sym o.1)
          (emptied_to (slots_filled c.loop-at.closed.slots) c.loop-at.at k (i.taken k) low);
      names = ap (map (λ (x : LockNo × _). x.0)) c.push_reserved.ensures.items ∙ b.0;
      values = ap all_home c.push_reserved.ensures.items ∙ b.1;
      len = (let p = c.push_reserved.ensures.len in let l = i.len in omega arith);
      room = (let p = c.push_reserved.ensures.capacity in let r = i.room in omega arith);
    }
