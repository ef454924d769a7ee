use Rattle.std.proofs.Common.{◌≡◌, ◌*◌, ◌≤◌, drop}
use denote.RawPtr.{◌+ₚ◌}
use Rattle.std.specs.Vec.{vec_capacity}
use Rattle.cell_arena.specs.Chains.{cells_of}
use Rattle.cell_arena.proofs.cells.split.Given as goal

abbrev pub invariant-loop-number : goal.invariant-loop-number
invariant-loop-number l =
    (l.count ≤ vec_capacity l.list)
    × (l.list.items ≡ cells_of l.rest.chain l.size l.fn.chain l.number)
    × (l.rest.ptr ≡ l.rest.chain +ₚ l.number * l.size)
    × (l.rest.bytes ≡ drop (l.number * l.size) l.fn.chain)
    × (l.rest.chain ≡ l.initial.rest.chain)
