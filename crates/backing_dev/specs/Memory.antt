-- A device in memory.
use Rattle.std.specs.Prelude.{ℕ, ◌+◌, List, [], Option, Some}
use Rattle.backing_dev.specs.Calls.{at_most_end}
use Rattle.backing_dev.specs.Plan.{Calls}

-- the blocks' bytes in order, and the plans of reads and writes
pub record Memory : Type 0 where
  pub pages : List (List ℕ)
  pub reads : Calls
  pub writes : Calls

-- all calls that failed
abbrev pub faults_of : Memory → ℕ
faults_of m = m.reads.faults + m.writes.faults

-- all calls that were made
abbrev pub calls_of : Memory → Option ℕ
calls_of m = Some (at_most_end (m.reads.calls + m.writes.calls))

-- a device in memory is reached by itself
abbrev pub references_of : Memory → List ℕ
references_of m = []
