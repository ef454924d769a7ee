-- The words before word k are written.
use Rattle.std.proofs.Common.{◌≡◌, ℕ, ◌<◌, length}
use Rattle.same_fill.specs.Filled.{word_at}
use Rattle.same_fill.proofs.sector_of.Given as goal

abbrev pub invariant-loop-k : goal.invariant-loop-k
invariant-loop-k l = record {
  len : length l.bytes ≡ 512;
  words : (j : ℕ) → j < l.k → word_at l.bytes j ≡ l.word;
}
