-- A device with its two counters, and what its calls do.
use Rattle.std.specs.Prelude.{◌≡◌, ℕ, ◌+◌, ◌<◌, List, Option}
use Rattle.backing_dev.specs.Calls.{at_most_end, HasOneCallMore}
use Rattle.backing_dev.specs.Contents.{HasBlock, ChangesOnly, IsHonest}

-- What is seen of a device: how many blocks it has, their bytes, if it tells them, how many of its
-- calls failed, how many were made, if it tells that, and the references by which it is reached;
-- and how many reads and writes succeeded since it is counted.
pub record DeviceState : Type 0 where
  pub blocks : ℕ
  pub contents : Option (List (List ℕ))
  pub faults : ℕ
  pub calls : Option ℕ
  pub references : List ℕ
  pub reads : ℕ
  pub writes : ℕ

-- the device is honest
abbrev pub IsHonestDevice : DeviceState → Type 0
IsHonestDevice d = IsHonest d.contents d.blocks

-- What no call changes, and what each does: it is one call, and an honest device stays so.
pub record IsCalled (d e : DeviceState) : Type 0 where
  pub blocks : e.blocks ≡ d.blocks
  pub same : e.references ≡ d.references
  pub once : HasOneCallMore d.calls e.calls
  pub honest : IsHonestDevice d → IsHonestDevice e

-- A block was read: these are its bytes.
pub record ReadsBlock (d e : DeviceState) (b : ℕ) (page : List ℕ) : Type 0 where
  pub called : IsCalled d e
  pub contents : e.contents ≡ d.contents
  pub bytes : HasBlock d.contents b page
  pub faults : e.faults ≡ d.faults
  pub reads : e.reads ≡ at_most_end (d.reads + 1)
  pub writes : e.writes ≡ d.writes

-- A read failed, and this is the count of faults after it.
pub record FailsToRead (d e : DeviceState) (fault : ℕ) : Type 0 where
  pub called : IsCalled d e
  pub contents : e.contents ≡ d.contents
  pub count : fault ≡ e.faults
  pub rose : d.faults < e.faults
  pub reads : e.reads ≡ d.reads
  pub writes : e.writes ≡ d.writes

-- A block was written: it has these bytes, and no other block changed.
pub record WritesBlock (d e : DeviceState) (b : ℕ) (page : List ℕ) : Type 0 where
  pub called : IsCalled d e
  pub bytes : HasBlock e.contents b page
  pub others : ChangesOnly d.contents e.contents b
  pub faults : e.faults ≡ d.faults
  pub reads : e.reads ≡ d.reads
  pub writes : e.writes ≡ at_most_end (d.writes + 1)

-- A write failed, and this is the count of faults after it. The block may have changed, but no
-- other.
pub record FailsToWrite (d e : DeviceState) (b fault : ℕ) : Type 0 where
  pub called : IsCalled d e
  pub others : ChangesOnly d.contents e.contents b
  pub count : fault ≡ e.faults
  pub rose : d.faults < e.faults
  pub reads : e.reads ≡ d.reads
  pub writes : e.writes ≡ d.writes
