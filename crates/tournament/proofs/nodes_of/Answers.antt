-- One more node is the better of its children.
use Rattle.std.proofs.Common.{◌+◌, ◌-◌, ◌*◌, ◌<◌, ℕ, length, inl, inr, subst, ◌∙◌, arith}
use Rattle.std.proofs.Math.ListN.{length-set}
use Rattle.std.proofs.lemmas.Bool.{cases_eq}
use Rattle.std.proofs.lemmas.List.{get_or_default}
use Rattle.tournament.specs.Tree.{IsBetter, node, blank}
use Rattle.tournament.proofs.TreeLaws.{node-set_same, node-set_other}
use Rattle.tournament.proofs.nodes_of.Goals as goal

pub loop-at-preserved : goal.loop-at-preserved
loop-at-preserved c =
    let ns = c.loop-at.nodes.items in
    let a : ℕ = c.loop-at.at - 1 in
    let had = c.loop-at.invariant in
    let b = c.better.result in
    let test = c.loop-at-test.true in
    let most = c.loop-at.auto.at in
    let better = c.better.ensures in
    let first = c.index.ensures in
    let second = c.index-in-loop-at.ensures in
    record {
      long = rw length-set had.long;
      leaves = λ i low there. node-set_other ns a (c.args.room + i) b (omega (arith, test, most))
          ∙ had.leaves i low there;
      spares = λ i low past. node-set_other ns a (c.args.room + i) b (omega (arith, test, most))
          ∙ had.spares i low past;
      tree = λ p from some low.
          elim (cases_eq p a) [
            | inl e ↦
                let here : a < length ns = omega (arith, had.long, test, most) in
                let left = first ∙ get_or_default ns (2 * a) c.index.result.now blank
                (omega (arith, had.long, test, most)) in
                let right = second ∙ get_or_default ns (2 * a + 1)
                c.index-in-loop-at.result.now blank
                (omega (arith, had.long, test, most)) in
                rw e (rw (
                  node-set_same ns a b here,
                  node-set_other ns a (2 * a) b (omega (arith, test)),
                  node-set_other ns a (2 * a + 1) b (omega (arith, test)),
                ) (subst (λ x. IsBetter b x (node ns (2 * a + 1))) left
                (subst (IsBetter b c.index.result.now) right better)))
            | inr other ↦ rw (
              node-set_other ns a p b other,
              node-set_other ns a (2 * p) b (omega (arith, from, some)),
              node-set_other ns a (2 * p + 1) b (omega (arith, from, some)),
            ) (had.tree p (omega (arith, from, other)) some low)
          ];
    }
