use Rattle.std.proofs.Common.{◌≡◌, ◌<◌, ◌≤◌, ℕ, true, false, length, map, take, slice_index_or, vec_len, vec_capacity}
use Rattle.std.specs.Slots.{slots_items, slots_len, slots_filled}
use Rattle.lock_row.specs.declared.names.LockNo.{LockNo}
use Rattle.lock_table.specs.Starts.{all_home}
use Rattle.lock_table.proofs.closing.take_all.Given as goal

abbrev pub invariant-loop-at : goal.invariant-loop-at
invariant-loop-at g l = record {
  items : slots_items l.closed.slots ≡ slots_items l.fn.closed.slots;
  count : slots_len l.closed.slots ≡ slots_len l.fn.closed.slots;
  full : (k : ℕ) → l.at ≤ k → k < slots_len l.closed.slots
      → slice_index_or (slots_filled l.closed.slots) k false ≡ true;
  taken : (k : ℕ) → k < l.at → slice_index_or (slots_filled l.closed.slots) k false ≡ false;
  names : map (λ (x : LockNo × _). x.0) l.values.items ≡ take l.at l.names;
  values : all_home l.values.items ≡ take l.at (slots_items l.fn.closed.slots);
  len : vec_len l.values ≡ l.at;
  room : length l.names ≤ vec_capacity l.values;
}
