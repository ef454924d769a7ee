-- The leaves up to the counter have their own numbers.
use Rattle.std.proofs.Common.{◌≡◌, ℕ, ◌+◌, ◌<◌, slice_index, vec_len}
use Rattle.block_map.proofs.tree.leaves.Given as goal

abbrev pub invariant-loop-block : goal.invariant-loop-block
invariant-loop-block l = record {
  places : vec_len l.tree ≡ l.blocks + l.block;
  leaves : (b : ℕ) → b < l.block → slice_index l.tree.items (l.blocks + b) ≡ b;
}
