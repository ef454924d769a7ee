-- The leaves below the next one are right, and then the nodes from the next one on.
use Rattle.std.proofs.Common.{◌≡◌, ◌+◌, ◌*◌, ◌<◌, ◌≤◌, ℕ, length}
use Rattle.tournament.specs.Tree.{IsBetter, node, leaf}
use Rattle.tournament.proofs.even_tree.Given as goal

abbrev pub invariant-loop-place : goal.invariant-loop-place
invariant-loop-place l = record {
  long : length l.nodes.items ≡ 2 * l.room;
  leaves : (i : ℕ) → i < l.place → node l.nodes.items (l.room + i) ≡ leaf l.rank i;
}

abbrev pub invariant-loop-at : goal.invariant-loop-at
invariant-loop-at l = record {
  long : length l.nodes.items ≡ 2 * l.room;
  leaves : (i : ℕ) → i < l.room → node l.nodes.items (l.room + i) ≡ leaf l.rank i;
  tree : (p : ℕ) → l.at ≤ p → 1 ≤ p → p < l.room
      → IsBetter (node l.nodes.items p) (node l.nodes.items (2 * p))
      (node l.nodes.items (2 * p + 1));
}
