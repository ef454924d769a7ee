-- The pairs before j of any page with this packing are read.
use Rattle.std.proofs.Common.{◌≡◌, ℕ, ◌≤◌, List, length}
use Rattle.bdi_page.specs.Packing.{IsPage, packed}
use Rattle.bdi_page.proofs.Reading.{IsLeft}
use Rattle.bdi_page.proofs.reader.decode.Given as goal

pub record IsDecodedTo (bytes read : List ℕ) (at j : ℕ) : Type 0 where
  pub within : at ≤ length bytes
  pub size : length read ≡ 4096
  pub left : (known : List ℕ) → IsPage known → bytes ≡ packed known → IsLeft j bytes read known at

abbrev pub invariant-loop-j : goal.invariant-loop-j
invariant-loop-j l = IsDecodedTo l.bytes l.read l.at l.j
