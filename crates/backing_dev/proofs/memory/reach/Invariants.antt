-- The front grows by zeros, which is no change of the blocks.
use Rattle.std.proofs.Common.{◌≡◌, ◌+◌, ◌-◌, ◌≤◌, vec_len, vec_capacity}
use Rattle.backing_dev.specs.MemoryInside.{all_blocks}
use Rattle.backing_dev.proofs.memory.reach.Given as goal

abbrev pub invariant-loop-pages : goal.invariant-loop-pages
invariant-loop-pages l = record {
  same : all_blocks l.blocks l.pages.items ≡ all_blocks l.blocks l.fn.pages.items;
  front : vec_len l.pages ≤ l.blocks;
  room : vec_capacity l.pages ≡ vec_capacity l.fn.pages;
}

abbrev pub decreases-loop-pages : goal.decreases-loop-pages
decreases-loop-pages l = l.b + 1 - vec_len l.pages
