use Rattle.std.proofs.Common.{◌≡◌, ◌+◌, ◌≤◌, map, vec_len, vec_capacity}
use Rattle.lock_row.specs.declared.names.LockNo.{LockNo}
use Rattle.bench_lock_table.specs.Names.{names_to}
use Rattle.bench_lock_table.proofs.values.new_values.Given as goal

abbrev pub invariant-loop-page : goal.invariant-loop-page
invariant-loop-page l = record {
  names : map (λ (x : LockNo × _). x.0) l.values.items ≡ names_to l.page;
  len : vec_len l.values ≡ l.page + 1;
  room : l.slots + 1 ≤ vec_capacity l.values;
}
