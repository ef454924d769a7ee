-- The table grows downwards from class 254, which stands as itself.
use Rattle.std.proofs.Common.{◌≡◌, ◌+◌, ◌-◌, ◌∙◌, true, false, get_or, refl, sym, arith}
use Rattle.size_class.specs.Classes.{shares_next, stands_of}
use Rattle.std.proofs.Math.ListN.{length-set}
use Rattle.size_class.proofs.ClassRules.{table_grows, stands_of-shared, stands_of-alone, stands_last}
use Rattle.size_class.proofs.table.ClassTable.new.Goals as goal
use Rattle.size_class.proofs.table.ClassTable.new.Goals.{then-shares_next, else-shares_next}

pub loop-depth-init : goal.loop-depth-init
loop-depth-init c = (
  refl,
  λ j low high. let e : j ≡ 254 = omega arith in
      rw e (sym (stands_last _)),
)

pub loop-depth-preserved : goal.loop-depth-preserved
loop-depth-preserved c =
    elim c.if-shares_next.branch [
      | then-shares_next w ↦
          let shares : shares_next c.args.max_chain (253 - c.loop-depth.depth) ≡ true =
          sym c.shares_next.ensures ∙ w.if-shares_next.true in
          let value : get_or c.loop-depth.stands (253 - c.loop-depth.depth + 1)
          0 ≡ stands_of c.args.max_chain (253 - c.loop-depth.depth) =
          c.loop-depth.invariant.1 _ (omega arith) (omega arith)
          ∙ sym (stands_of-shared _ _ c.loop-depth.depth refl (omega arith) shares) in
          rw w.stands-is (
            rw length-set c.loop-depth.invariant.0,
            table_grows _ _ c.loop-depth.depth _ _ c.loop-depth.invariant.0 refl (omega arith)
                value c.loop-depth.invariant.1,
          )
      | else-shares_next w ↦
          let alone : shares_next c.args.max_chain (253 - c.loop-depth.depth) ≡ false =
          sym c.shares_next.ensures ∙ w.if-shares_next.false in
          rw w.stands-is (
            rw length-set c.loop-depth.invariant.0,
            table_grows _ _ c.loop-depth.depth _ _ c.loop-depth.invariant.0 refl (omega arith)
                (sym (stands_of-alone _ _ c.loop-depth.depth refl (omega arith) alone))
                c.loop-depth.invariant.1,
          )
    ]
