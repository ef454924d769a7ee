use Rattle.std.proofs.Common.{◌≡◌, ◌+◌, ◌≤◌, vec_len, vec_capacity}
use Rattle.lock_table.specs.Starts.{all_home}
use Rattle.lock_table.proofs.Parts.{names_in, IsBack}
use Rattle.lock_table.proofs.make.move_back.Given as goal

abbrev pub invariant-loop-slot : goal.invariant-loop-slot
invariant-loop-slot g l = record {
  back : (was : _) → l.names ≡ names_in was → l.fn.slots.items ≡ all_home was
      → IsBack was l.slots.items l.values.items;
  room : vec_len l.values + vec_len l.slots ≤ vec_capacity l.values;
}

abbrev pub decreases-loop-slot : goal.decreases-loop-slot
decreases-loop-slot g l = goal.left-loop-slot g l
