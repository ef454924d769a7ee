-- Why a call of a source or a sink failed.
use Rattle.std.specs.Prelude.{◌≡◌, ℕ, ◌+◌, ◌-◌, ◌^◌, ◌<◌, ◌≤◌, List, length, Contains, Result, Ok, OnErr}

-- the count of faults never falls, and a fault is answered only where it rose
pub record HasCause {T E : Type 0} (before now : ℕ) (result : Result T E) : Type 0 where
  pub later : before ≤ now
  pub failed : OnErr result (before < now)

-- a write took nothing of some bytes
abbrev pub TookNone : {E : Type 0} → Result ℕ E → List ℕ → Type 0
TookNone result bytes = (result ≡ Ok 0) × (0 < length bytes)

-- The next call fails: its number, counted from 1, is planned. No call fails at the number at which
-- counting stands still.
abbrev pub FailsNext : ℕ → List ℕ → Type 0
FailsNext calls failing = (calls + 1 < 2 ^ 64 - 1) × Contains failing (calls + 1)
