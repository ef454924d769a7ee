use Rattle.std.proofs.Common.{◌≡◌, ℕ, ◌+◌, ◌++◌, [], ◌∷◌, Some, refl, sym, ap, ◌∙◌, subst, arith}
use Rattle.std.proofs.lemmas.List.{append-nil}
use Rattle.class_pool.specs.Pool.{PoolState}
use Rattle.lock_row.specs.declared.names.Held.TheVariants as holds
use Rattle.size_class.specs.Classes.{chain_of, per_of}
use Rattle.joint_rule.specs.Starts.{IsNew}
use Rattle.zr_core.specs.Rests.{slots_of, new_disk}
use Rattle.zr_core.specs.Rows.{AreNew}
use Rattle.zr_core.proofs.Fresh.{new_more, one_class}
use Rattle.zr_core.proofs.row.push_pools.Goals as goal

pub loop-class-init : goal.loop-class-init
loop-class-init o c = record {
  names = c.requires.names ∙ sym (append-nil (slots_of c.args.pages));
  cells = λ limit device.
      subst (λ (n : ℕ). AreNew (new_disk c.args.pages limit device) n c.args.cells.now.items)
      (let q : c.args.pages ≡ c.args.pages + 0 = omega arith in q) (c.requires.cells limit device);
}

pub loop-class-preserved : goal.loop-class-preserved
loop-class-preserved o c =
    let i = c.loop-class.invariant in
    let limit_is = c.new-table.ensures.limit in record {
      names = c.in_ok-push.ensures.items
          ∙ one_class c.loop-class.names.items (slots_of c.args.pages) c.loop-class.class i.names;
      cells = λ limit device.
          let g = new_disk c.args.pages limit device in
          subst (AreNew g (c.args.pages + (c.loop-class.class + 1)))
          (sym c.in_ok-push-2.ensures.items)
          (subst (λ (n : ℕ). AreNew g n
          (c.loop-class.cells.items ++ Some (holds.Class c.new-pool.result) ∷ []))
          (let q : c.args.pages + c.loop-class.class + 1
          ≡ c.args.pages + (c.loop-class.class + 1) = omega arith in q)
          (new_more g (c.args.pages + c.loop-class.class) c.loop-class.cells.items
          (holds.Class c.new-pool.result) (i.cells limit device)
          (subst (λ (p : PoolState). IsNew g (c.args.pages + c.loop-class.class) (holds.Class p))
          (sym c.new-pool.ensures.is) (
            refl,
            c.loop-class-test.true,
            λ i. record {
              class = c.loop-class.class;
              size = c.size.ensures.value i;
              chain = (c.chain.ensures.value
                  ∙ ap (λ (t : ℕ). chain_of t c.loop-class.class) limit_is) i;
              per = (c.per.ensures.value
                  ∙ ap (λ (t : ℕ). per_of t c.loop-class.class) limit_is) i;
              zspages = [];
            },
          ))));
    }

pub returns-clause-cells : goal.returns-clause-cells
returns-clause-cells o c limit device =
    subst (λ (n : ℕ). AreNew (new_disk c.args.pages limit device) n c.loop-class.cells.items)
    (let t = c.loop-class-test.false in let e = c.loop-class.auto.class-end in
    let q : c.args.pages + c.loop-class.class ≡ c.args.pages + 255 = omega arith in q)
    (c.loop-class.invariant.cells limit device)
