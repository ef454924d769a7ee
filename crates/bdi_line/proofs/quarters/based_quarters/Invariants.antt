-- The lanes before j have their base, and the others are as they were.
use Rattle.std.proofs.Common.{◌≡◌, ℕ, ◌+◌, ◌/◌, ◌%◌, ◌^◌, ◌<◌, ◌≤◌, List, length, get_or, cond, eqb}
use Rattle.bdi_line.proofs.quarters.based_quarters.Given as goal

pub record IsBased (deltas values : List ℕ) (marks base j : ℕ) : Type 0 where
  pub len : length values ≡ 32
  pub before : (k : ℕ) → k < j → get_or values k 0 ≡ cond (eqb (marks / 2 ^ k % 2) 1)
      ((get_or deltas k 0 + base) % 2 ^ 16) (get_or deltas k 0)
  pub after : (k : ℕ) → j ≤ k → get_or values k 0 ≡ get_or deltas k 0

abbrev pub invariant-loop-j : goal.invariant-loop-j
invariant-loop-j l = IsBased l.fn.deltas l.values l.marks l.base l.j
