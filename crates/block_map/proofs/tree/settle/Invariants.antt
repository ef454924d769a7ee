-- The places from the counter on are settled; the leaves stay.
use Rattle.std.proofs.Common.{◌≡◌, ℕ, ◌+◌, ◌*◌, ◌<◌, ◌≤◌, min, length, slice_index}
use Rattle.block_map.proofs.tree.settle.Given as goal

abbrev pub invariant-loop-at : goal.invariant-loop-at
invariant-loop-at l = record {
  places : length l.tree ≡ 2 * l.blocks;
  lesser : (j : ℕ) → 0 < j → l.at ≤ j → j < l.blocks
      → slice_index l.tree j ≡ min (slice_index l.tree (2 * j)) (slice_index l.tree (2 * j + 1));
  leaves : (k : ℕ) → l.blocks ≤ k → slice_index l.tree k ≡ slice_index l.fn.tree k;
}
