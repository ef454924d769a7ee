-- What holds of a plan's fields: no more calls failed than were planned up to now.
use Rattle.std.specs.Prelude.{ℕ, ◌≤◌, List, nat_le, sum_by, if◌then◌else◌}
use Rattle.backing_dev.specs.declared.plan.Plan.TheInside.{Inside}
use Rattle.backing_dev.specs.Plan.{Calls}

-- 1 for a number that is at most n, else 0
abbrev pub due_at : ℕ → ℕ → ℕ
due_at n number = if nat_le number n then 1 else 0

-- how many of the numbers are at most n
abbrev pub due_until : ℕ → List ℕ → ℕ
due_until n failing = sum_by (due_at n) failing

-- no more calls failed than were due
abbrev pub IsFaultPlan : Inside → Type 0
IsFaultPlan p = p.faults ≤ due_until p.calls p.failing.items

-- the calls that the fields stand for
abbrev pub calls_of : Inside → Calls
calls_of p = record { calls = p.calls; faults = p.faults; failing = p.failing.items }
