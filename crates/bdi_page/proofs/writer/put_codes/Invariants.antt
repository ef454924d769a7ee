-- The codes before k are written, and what lies after all of them stays.
use Rattle.std.proofs.Common.{◌≡◌, ℕ, List, length, take, drop}
use Rattle.bdi_page.proofs.writer.put_codes.Given as goal

pub record IsWritten (codes old new : List ℕ) (k : ℕ) : Type 0 where
  pub len : length new ≡ length old
  pub front : take k new ≡ take k codes
  pub back : drop 32 new ≡ drop 32 old

abbrev pub invariant-loop-k : goal.invariant-loop-k
invariant-loop-k l = IsWritten l.codes l.fn.out.items l.out.items l.k
