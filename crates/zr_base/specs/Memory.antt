-- Sources and sinks in memory.
use Rattle.std.specs.Prelude.{ℕ, Bool, List}

-- the bytes left, the calls made, the numbers of the calls that fail, and the faults so far
pub record Supply : Type 0 where
  pub left : List ℕ
  pub calls : ℕ
  pub failing : List ℕ
  pub faults : ℕ

-- the bytes written, how many more fit, the calls made, the numbers of the calls that fail, the
-- faults so far, and whether a call took nothing of some bytes
pub record Store : Type 0 where
  pub written : List ℕ
  pub room : ℕ
  pub calls : ℕ
  pub failing : List ℕ
  pub faults : ℕ
  pub stopped : Bool
