-- A memory device's fields.
use Rattle.std.specs.Prelude.{ℕ, ◌≤◌, ◌-◌, List, ◌++◌, length, replicate, vec_len, vec_capacity}
use Rattle.backing_dev.specs.declared.memory.MemBacking.TheInside.{Inside}
use Rattle.backing_dev.specs.Contents.{page_full_of}
use Rattle.backing_dev.specs.Memory.{Memory}

-- so many blocks whose front are these pages: the blocks after it are zeros
abbrev pub all_blocks : ℕ → List (List ℕ) → List (List ℕ)
all_blocks blocks front = front ++ replicate (blocks - length front) (page_full_of 0)

-- the front is no longer than the blocks, and has room for all of them
pub record IsMemory (d : Inside) : Type 0 where
  pub front : vec_len d.pages ≤ d.blocks
  pub room : d.blocks ≤ vec_capacity d.pages

-- the device that the fields stand for
abbrev pub memory_of : Inside → Memory
memory_of d = record { pages = all_blocks d.blocks d.pages.items; reads = d.reads; writes = d.writes }
