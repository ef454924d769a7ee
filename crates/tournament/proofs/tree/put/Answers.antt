-- Each step makes one more node right.
use Rattle.std.proofs.Common.{◌≡◌, ◌+◌, ◌*◌, ◌/◌, ◌<◌, ◌≤◌, ◌⊎◌, ◌∙◌, inl, inr, arith}
use Rattle.std.proofs.Math.ListN.{length-set}
use Rattle.std.proofs.lemmas.Bool.{cases_eq}
use Rattle.tournament.proofs.TreeLaws.{climb, node-set_other}
use Rattle.tournament.proofs.tree.put.Goals as goal

pub loop-at-preserved : goal.loop-at-preserved
loop-at-preserved c =
    let at = c.loop-at.at in
    let some : 1 ≤ c.loop-at.at / 2 = omega arith in
    let low : c.loop-at.at / 2 < c.args.room = omega (arith, c.loop-at.invariant.within) in
    let half : (2 * (c.loop-at.at / 2) ≡ c.loop-at.at)
    ⊎ (2 * (c.loop-at.at / 2) + 1 ≡ c.loop-at.at) =
    elim (cases_eq (2 * (c.loop-at.at / 2)) c.loop-at.at)
    [ inl e ↦ inl e | inr odd ↦ inr (omega arith) ] in
    record {
      tree = climb c.args.room c.loop-at.at (c.loop-at.at / 2)
          c.loop-at.nodes c.better.result c.loop-at.invariant.tree
          c.loop-at.invariant.long some low half
          c.better.ensures;
      some = some;
      within = omega (arith, low);
      here = node-set_other c.loop-at.nodes (c.loop-at.at / 2) (c.args.room + c.args.place)
          c.better.result (omega (arith, low))
          ∙ c.loop-at.invariant.here;
      others = λ k leaf high other.
          node-set_other c.loop-at.nodes (c.loop-at.at / 2) k c.better.result (omega (arith, low))
          ∙ c.loop-at.invariant.others k leaf high other;
      long = length-set c.loop-at.nodes (c.loop-at.at / 2) c.better.result
          ∙ c.loop-at.invariant.long;
    }
