-- The leaves below the next one are right, and then the nodes from the next one on.
use Rattle.std.proofs.Common.{◌≡◌, ◌+◌, ◌*◌, ◌<◌, ◌≤◌, ℕ, length, slice_index}
use Rattle.tournament.specs.Tree.{IsBetter, node, leaf, spare}
use Rattle.tournament.proofs.nodes_of.Given as goal

abbrev pub invariant-loop-place : goal.invariant-loop-place
invariant-loop-place l = record {
  long : length l.nodes.items ≡ 2 * l.room;
  leaves : (i : ℕ) → i < l.place → i < length l.ranks
      → node l.nodes.items (l.room + i) ≡ leaf (slice_index l.ranks i) i;
  spares : (i : ℕ) → i < l.place → length l.ranks ≤ i → node l.nodes.items (l.room + i) ≡ spare i;
}

abbrev pub invariant-loop-at : goal.invariant-loop-at
invariant-loop-at l = record {
  long : length l.nodes.items ≡ 2 * l.room;
  leaves : (i : ℕ) → i < l.room → i < length l.ranks
      → node l.nodes.items (l.room + i) ≡ leaf (slice_index l.ranks i) i;
  spares : (i : ℕ) → i < l.room → length l.ranks ≤ i → node l.nodes.items (l.room + i) ≡ spare i;
  tree : (p : ℕ) → l.at ≤ p → 1 ≤ p → p < l.room
      → IsBetter (node l.nodes.items p) (node l.nodes.items (2 * p))
      (node l.nodes.items (2 * p + 1));
}
