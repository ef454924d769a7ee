-- The pairs before j are read.
use Rattle.std.proofs.Common.{◌≡◌, ℕ, ◌≤◌, List, length}
use Rattle.bdi_page.proofs.Reading.{Reads}
use Rattle.bdi_page.proofs.reader.unpack.Given as goal

pub record IsReadTo (bytes read : List ℕ) (at j : ℕ) : Type 0 where
  pub within : at ≤ length bytes
  pub size : length read ≡ 4096
  pub reads : Reads j bytes read at

abbrev pub invariant-loop-j : goal.invariant-loop-j
invariant-loop-j l = IsReadTo l.bytes l.read l.at l.j
