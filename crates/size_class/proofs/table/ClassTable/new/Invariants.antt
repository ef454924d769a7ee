-- The classes above the next one are in the table.
use Rattle.std.proofs.Common.{◌≡◌, ℕ, ◌-◌, ◌<◌, ◌≤◌, length, slice_index}
use Rattle.size_class.specs.Classes.{stands_of}
use Rattle.size_class.proofs.table.ClassTable.new.Given as goal

abbrev pub invariant-loop-depth : goal.invariant-loop-depth
invariant-loop-depth l =
    (length l.stands ≡ 255)
    × ((j : ℕ) → 254 - l.depth ≤ j → j < 255 → slice_index l.stands j ≡ stands_of l.max_chain j)
