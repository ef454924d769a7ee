-- Each place has the lesser number of the two below it, but for the place that is settled next; the
-- leaves are done.
use Rattle.std.proofs.Common.{◌≡◌, ◌≢◌, ℕ, ◌+◌, ◌*◌, ◌<◌, min, length, slice_index}
use Rattle.block_map.proofs.tree.put.Given as goal

abbrev pub invariant-loop-at : goal.invariant-loop-at
invariant-loop-at l = record {
  places : length l.tree ≡ 2 * l.blocks;
  within : l.at < l.blocks;
  lesser : (j : ℕ) → 0 < j → j < l.blocks → j ≢ l.at
      → slice_index l.tree j ≡ min (slice_index l.tree (2 * j)) (slice_index l.tree (2 * j + 1));
  leaf : slice_index l.tree (l.blocks + l.block) ≡ l.number;
  others : (b : ℕ) → b ≢ l.block
      → slice_index l.tree (l.blocks + b) ≡ slice_index l.fn.tree (l.blocks + b);
}

abbrev pub decreases-loop-at : goal.decreases-loop-at
decreases-loop-at l = l.at
