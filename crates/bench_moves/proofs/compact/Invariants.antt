use Rattle.std.proofs.Common.{◌≤◌}
use Rattle.bench_moves.proofs.compact.Given as goal

-- no more budget is left than was given
abbrev pub invariant-loop-more : goal.invariant-loop-more
invariant-loop-more l = l.left ≤ l.budget

abbrev pub decreases-loop-more : goal.decreases-loop-more
decreases-loop-more l = l.left
