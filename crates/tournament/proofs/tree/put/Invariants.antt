-- All nodes are right but the parent of the one that was renewed last, and the leaves stay.
use Rattle.std.proofs.Common.{◌≡◌, ◌+◌, ◌*◌, ◌<◌, ◌≤◌, ℕ, length}
use Rattle.tournament.specs.Tree.{IsTreeBut, node}
use Rattle.tournament.proofs.tree.put.Given as goal

abbrev pub invariant-loop-at : goal.invariant-loop-at
invariant-loop-at l = record {
  tree : IsTreeBut l.room l.nodes l.at;
  some : 1 ≤ l.at;
  within : l.at < 2 * l.room;
  here : node l.nodes (l.room + l.fn.place) ≡ l.fn.at_leaf;
  others : (k : ℕ) → l.room ≤ k → k < 2 * l.room → (k ≡ l.room + l.fn.place → ⊥)
      → node l.nodes k ≡ node l.fn.nodes k;
  long : length l.nodes ≡ 2 * l.room;
}

abbrev pub decreases-loop-at : goal.decreases-loop-at
decreases-loop-at l = l.at
