-- Calls of one kind that are planned to fail.
use Rattle.std.specs.Prelude.{ℕ, ◌+◌, Bool, List, if◌then◌else◌}
use Rattle.backing_dev.specs.Calls.{at_most_end}
use Rattle.zr_base.specs.Faults.{FailsNext}

-- the calls so far, how many of them failed, and the numbers of those that are to fail
pub record Calls : Type 0 where
  pub calls : ℕ
  pub faults : ℕ
  pub failing : List ℕ

-- no calls so far
abbrev pub planned_calls : List ℕ → Calls
planned_calls failing = record { calls = 0; faults = 0; failing = failing }

-- the next call is planned to fail
abbrev pub IsNextPlanned : Calls → Type 0
IsNextPlanned p = FailsNext p.calls p.failing

-- one call more, which failed or not
abbrev pub after_call : Calls → Bool → Calls
after_call p fails = record p {
  calls = at_most_end (p.calls + 1);
  faults = if fails then p.faults + 1 else p.faults;
}
