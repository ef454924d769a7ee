use Rattle.std.proofs.Common.{◌≡◌, ◌+◌, ◌≤◌, ◌++◌, reverse, vec_len, vec_capacity}
use Rattle.lock_table.specs.Starts.{all_home}
use Rattle.lock_table.proofs.make.move_out.Given as goal

abbrev pub invariant-loop-value : goal.invariant-loop-value
invariant-loop-value g l = record {
  whole : l.slots.items ++ all_home (reverse l.values.items) ≡ all_home l.fn.values.items;
  room : vec_len l.slots + vec_len l.values ≤ vec_capacity l.slots;
}

abbrev pub decreases-loop-value : goal.decreases-loop-value
decreases-loop-value g l = goal.left-loop-value g l
