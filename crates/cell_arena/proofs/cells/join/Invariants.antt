use Rattle.std.proofs.Common.{◌≡◌, ◌*◌, ◌≤◌, ℕ, List, length, drop}
use denote.RawPtr.{◌+ₚ◌}
use Rattle.cell_arena.specs.Chains.{cells_of, per, AreCellsOf}
use Rattle.cell_arena.proofs.cells.join.Given as goal

abbrev pub invariant-loop-cell : goal.invariant-loop-cell
invariant-loop-cell l =
    (bytes : List ℕ) × AreCellsOf l.fn.cells bytes
    × (l.list.items ≡ cells_of l.fn.cells.chain l.fn.cells.size bytes (length l.list.items))
    × (length l.list.items ≤ per l.fn.cells.frames l.fn.cells.size)
    × (l.strip.ptr ≡ l.fn.cells.chain +ₚ length l.list.items * l.fn.cells.size)
    × (l.strip.bytes ≡ drop (length l.list.items * l.fn.cells.size) bytes)
    × (l.strip.chain ≡ l.fn.cells.chain)

abbrev pub decreases-loop-cell : goal.decreases-loop-cell
decreases-loop-cell l = goal.left-loop-cell l
