-- So far the best of the numbers tried is the chain at that limit.
use Rattle.std.proofs.Common.{◌≡◌, ◌≤◌}
use Rattle.size_class.specs.Classes.{chain_of}
use Rattle.size_class.proofs.table.chain.Given as goal

abbrev pub invariant-loop-shorter : goal.invariant-loop-shorter
invariant-loop-shorter l = (l.best ≡ chain_of l.shorter l.k) × (1 ≤ l.best) × (l.best ≤ 16)
