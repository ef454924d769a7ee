use Rattle.std.proofs.Common.{sym, ◌∙◌, subst, arith}
use Rattle.lock_table.proofs.Parts.{last_home, IsBack, one_back}
use Rattle.lock_table.proofs.make.move_back.Goals as goal

pub unreachable-requires : goal.unreachable-requires
unreachable-requires g c =
    let p = c.requires.parts in
    let b = c.loop-slot.invariant.back p.0 p.1 p.2 in
    let l = last_home b.0 c.pop.new.self.items c.in-Some.slot
    (sym b.2 ∙ c.in-Some.ensures.items) in
    c.in_default-slot.not-Some l.1.1 l.4

pub loop-slot-preserved : goal.loop-slot-preserved
loop-slot-preserved g c =
    let i = c.loop-slot.invariant in
    let n = c.pop.new.self.ok in
    record {
      back = λ was named slots. subst (IsBack was c.pop.new.self.items)
          (sym c.push_reserved.ensures.items)
          (one_back c.args.names.now was c.loop-slot.values.items c.loop-slot.slots.items
          c.pop.new.self.items c.in-Some.slot c.len.result _ c.in-Some-slot.value named
          (i.back was named slots) c.in-Some.ensures.items c.in-Some-slot.is
          (c.len.ensures ∙ n.0));
      room = (let p = c.in-Some.ensures.len in let q = c.pop.ensures.capacity in
          let r = c.push_reserved.ensures.len in let s = c.push_reserved.ensures.capacity in
          let t = i.room in omega arith);
    }
