-- The zspages with an id below the next one are counted.
use Rattle.std.proofs.Common.{◌≡◌, ℕ, ◌+◌, ◌<◌, length, take, slice_index, count_by}
use Rattle.zspage.specs.Cells.{used_of}
use Rattle.class_pool.specs.Pool.{is_in_group}
use Rattle.class_pool.proofs.pool.ClassPool.stat.Given as goal

abbrev pub invariant-loop-id : goal.invariant-loop-id
invariant-loop-id l = record {
  zspages : l.zspages ≡ used_of (take l.id l.self-inside.zspages.zspages);
  long : length l.groups ≡ 11;
  counts : (g : ℕ) → g < 11
      → slice_index l.groups g ≡ count_by (is_in_group l.per (g + 1))
      (take l.id l.self-inside.zspages.zspages);
}
