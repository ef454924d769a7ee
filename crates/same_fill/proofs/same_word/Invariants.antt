-- The words before line i are the first.
use Rattle.std.proofs.Common.{◌≡◌, ℕ, ◌*◌, ◌<◌}
use Rattle.same_fill.specs.Filled.{word_at}
use Rattle.same_fill.proofs.same_word.Given as goal

abbrev pub invariant-loop-i : goal.invariant-loop-i
invariant-loop-i l = (j : ℕ) → j < 8 * l.i → word_at l.bytes j ≡ l.first
