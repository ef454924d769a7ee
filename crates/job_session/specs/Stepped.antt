-- What a job does by given turns of its actors, and the turns that are its own.
use Rattle.std.specs.Prelude.{◌≡◌, ℕ, zero, suc, ◌+◌, nat_lt, Bool, true, false, List, [], ◌∷◌, ◌++◌, length, replicate, slice_get, slice_set, Option, Some}
use Rattle.zr_base.specs.declared.op.Op.{Op}
use Rattle.zr_base.specs.declared.op.Turns.{Turns}
use Rattle.mem_account.specs.Counters.{Counters, no_counts}
use Rattle.mem_account.specs.Stat.{mm_stat_of, io_stat_of}
use Rattle.block_map.specs.declared.state.BlockState.TheVariants.{Free}
use Rattle.block_map.specs.BlockMap.{BlockMap}
use Rattle.backing_dev.specs.Dev.{DeviceState}
use Rattle.backing_dev.specs.declared.backing.Backing.{Ghosts}
use Rattle.plain_disk.specs.Output.{OutLine, AttrRefusal, disksize_busy, backing_busy, backing_range, memory, calls, device_calls, refused}
use Rattle.plain_disk.specs.Rests.{states, classes}
use Rattle.lock_row.specs.declared.names.Held.TheVariants as holds
use Rattle.page_steps.specs.Steps.{Terms, DiskHeld}
use Rattle.joint_rule.specs.Ends.{value_at, device_of}
use Rattle.disk_rest.specs.Printed.{row_report}
use Rattle.zr_core.specs.declared.limits.TheConstants.{MOST_CHAIN}
use Rattle.zr_core.specs.declared.disk.World.{World}
use Rattle.zr_core.specs.Machines.{PhaseSteps, rounds_of}
use Rattle.zr_core.specs.Rests.{account_of, no_blocks, blocks_in, device_by, blocks_by, new_disk}
use Rattle.zr_core.specs.Rows.{AreNew}
use Rattle.zr_core.specs.Runs.{turns_of}
use Rattle.job_text.specs.declared.job.Attr.{Attr}
use Rattle.job_text.specs.declared.job.Attr.TheVariants.{DiskPages, LimitPages, Backing, WritebackLimit, WritebackLimitEnable, Clock, LowerMax}
use Rattle.job_text.specs.declared.job.Report.{Report}
use Rattle.job_text.specs.declared.job.Report.TheVariants as reports
use Rattle.job_text.specs.declared.job.Item.{Item}
use Rattle.job_text.specs.declared.job.Item.TheVariants as items

-- the disk between two items: its pages, none before its size is given, the limit in frames, whether it
-- has a backing, the time that is set, the row of its locks, the device, and the map of its blocks
pub record Disk : Type 0 where
  pub size : ℕ
  pub limit : ℕ
  pub backed : Bool
  pub clock : ℕ
  pub row : List (Option DiskHeld)
  pub device : DeviceState
  pub blocks : BlockMap

-- the disk before its size is given, over this device
abbrev pub without_pages : DeviceState → Disk
without_pages device = record {
  size = 0;
  limit = 0;
  backed = false;
  clock = 0;
  row = [];
  device = device;
  blocks = no_blocks;
}

-- the disk of a world, at this time
abbrev pub disk_of : {D : Type 0} {b : Ghosts D} → ℕ → World D b → Disk
disk_of clock world = record {
  size = world.pages;
  limit = world.limit;
  backed = world.backed;
  clock = clock;
  row = world.row.cells;
  device = device_by world.spare world.pages world.row.cells;
  blocks = blocks_by world.spare world.pages world.row.cells;
}

-- what the steps of its phases go by
abbrev pub terms_of : Disk → Terms
terms_of d = record { size = d.size; chain = MOST_CHAIN; clock = d.clock }

-- the lines of a report: by the account, by the device, by the pages' entries, or by the classes'
-- pools
abbrev pub report_of : Disk → Report → List OutLine
report_of d reports.MmStat = memory (mm_stat_of (account_of d.limit d.size d.row)) ∷ []
report_of d reports.IoStat = calls (io_stat_of (account_of d.limit d.size d.row)) ∷ []
report_of d reports.BdStat = device_calls (record {
  count = (account_of d.limit d.size d.row).back;
  reads = d.device.reads;
  writes = d.device.writes;
}) ∷ []
report_of d reports.States = row_report d.size MOST_CHAIN d.row states
report_of d reports.Classes = row_report d.size MOST_CHAIN d.row classes

-- ---- attributes

-- A new disk of so many pages, with the limit, the backing and the time of the disk before. Its row has the device
-- and the map of the blocks.
pub record IsNewDisk (d : Disk) (pages : ℕ) (m : Disk) : Type 0 where
  pub size : m.size ≡ pages
  pub limit : m.limit ≡ d.limit
  pub backed : m.backed ≡ d.backed
  pub clock : m.clock ≡ d.clock
  pub device : m.device ≡ d.device
  pub blocks : m.blocks ≡ d.blocks
  pub row : AreNew (new_disk pages d.limit d.device) (pages + 258) m.row
  pub account : slice_get m.row (pages + 255)
      ≡ Some (Some (holds.Account (record no_counts { limit = d.limit })))
  pub map : slice_get m.row (pages + 256) ≡ Some (Some (holds.Blocks d.blocks))

-- The disk with another limit, which its account has too, if there is one.
pub record IsLimited (d : Disk) (n : ℕ) (m : Disk) : Type 0 where
  pub size : m.size ≡ d.size
  pub limit : m.limit ≡ n
  pub backed : m.backed ≡ d.backed
  pub clock : m.clock ≡ d.clock
  pub device : m.device ≡ d.device
  pub blocks : m.blocks ≡ d.blocks
  pub none : d.size ≡ 0 → m.row ≡ d.row
  pub account : (c : Counters) → slice_get d.row (d.size + 255) ≡ Some (Some (holds.Account c))
      → m.row ≡ slice_set d.row (d.size + 255) (Some (holds.Account (record c { limit = n })))

-- The disk where the account's maximum is lowered to its frames, if there is an account.
pub record IsLowered (d m : Disk) : Type 0 where
  pub size : m.size ≡ d.size
  pub limit : m.limit ≡ d.limit
  pub backed : m.backed ≡ d.backed
  pub clock : m.clock ≡ d.clock
  pub device : m.device ≡ d.device
  pub blocks : m.blocks ≡ d.blocks
  pub none : d.size ≡ 0 → m.row ≡ d.row
  pub account : (c : Counters) → slice_get d.row (d.size + 255) ≡ Some (Some (holds.Account c))
      → m.row ≡ slice_set d.row (d.size + 255) (Some (holds.Account (record c { most = c.pages })))

-- The disk with another number of writes that are left, where the limit on writebacks is on or off;
-- its row has this map too, if there is one.
pub record IsBudgeted (d : Disk) (n : ℕ) (on : Bool) (m : Disk) : Type 0 where
  pub size : m.size ≡ d.size
  pub limit : m.limit ≡ d.limit
  pub backed : m.backed ≡ d.backed
  pub clock : m.clock ≡ d.clock
  pub device : m.device ≡ d.device
  pub blocks : m.blocks ≡ record d.blocks { budget = n; enabled = on }
  pub none : d.size ≡ 0 → m.row ≡ d.row
  pub map : (x : BlockMap) → slice_get d.row (d.size + 256) ≡ Some (Some (holds.Blocks x))
      → m.row ≡ slice_set d.row (d.size + 256)
      (Some (holds.Blocks (record x { budget = n; enabled = on })))

-- the disk to come uses so many blocks of the device, which are free
abbrev pub with_backing : Disk → ℕ → Disk
with_backing d n =
    record d { backed = nat_lt 0 n; blocks = record d.blocks { states = replicate n Free } }

-- An attribute that is refused prints why, and changes nothing.
pub record IsRefusedAttr (why : AttrRefusal) (d : Disk) (lines : List OutLine) (m : Disk)
    : Type 0 where
  pub told : lines ≡ refused why ∷ []
  pub same : m ≡ d

-- a disk's size is refused where it is set already
abbrev pub SizeSteps : ℕ → Disk → ℕ → List OutLine → Disk → Type 0
SizeSteps zero d n lines m = (lines ≡ []) × IsNewDisk d n m
SizeSteps (suc size) d n lines m = IsRefusedAttr disksize_busy d lines m

-- a backing is refused where the disk's size is set already, and else where the device has fewer
-- blocks
abbrev pub BackingSteps : ℕ → Bool → Disk → ℕ → List OutLine → Disk → Type 0
BackingSteps zero false d n lines m = (lines ≡ []) × (m ≡ with_backing d n)
BackingSteps zero true d n lines m = IsRefusedAttr backing_range d lines m
BackingSteps (suc size) past d n lines m = IsRefusedAttr backing_busy d lines m

-- what an attribute prints and leaves
abbrev pub AttrSteps : Disk → Attr → List OutLine → Disk → Type 0
AttrSteps d (DiskPages n) lines m = SizeSteps d.size d n lines m
AttrSteps d (LimitPages n) lines m = (lines ≡ []) × IsLimited d n m
AttrSteps d (Backing n) lines m =
    BackingSteps d.size (nat_lt d.device.blocks n) d n lines m
AttrSteps d (WritebackLimit n) lines m = (lines ≡ []) × IsBudgeted d n d.blocks.enabled m
AttrSteps d (WritebackLimitEnable on) lines m =
    (lines ≡ []) × IsBudgeted d d.blocks.budget on m
AttrSteps d (Clock n) lines m = (lines ≡ []) × (m ≡ record d { clock = n })
AttrSteps d LowerMax lines m = (lines ≡ []) × IsLowered d m

-- ---- phases

-- the map of blocks in the row of a disk of so many pages; one without pages has this one
abbrev pub map_of : BlockMap → ℕ → List (Option DiskHeld) → BlockMap
map_of x zero row = x
map_of x (suc n) row = blocks_in (value_at row (suc n + 256))

-- What a run of a phase leaves beside its row: the pages, the limit, whether there is a backing, the
-- time, and the device and the map of the row, if there is one.
pub record IsRunOn (d m : Disk) : Type 0 where
  pub size : m.size ≡ d.size
  pub limit : m.limit ≡ d.limit
  pub backed : m.backed ≡ d.backed
  pub clock : m.clock ≡ d.clock
  pub device : m.device ≡ device_of d.device d.size m.row
  pub blocks : m.blocks ≡ map_of d.blocks d.size m.row

-- ---- jobs

-- A job's lines by one list of turns for each phase. An attribute prints where it is refused, a
-- report changes nothing, and a phase begins on the disk that the items before it left.
abbrev pub Stepped : Disk → List Item → List (List ℕ) → List OutLine → Disk → Type 0
Stepped d [] turns lines last = (turns ≡ []) × (lines ≡ []) × (last ≡ d)
Stepped d (items.Attr attr ∷ more) turns lines last =
    (m : Disk) × (first rest : List OutLine) × AttrSteps d attr first m
    × Stepped m more turns rest last × (lines ≡ first ++ rest)
Stepped d (items.Report report ∷ more) turns lines last =
    (rest : List OutLine) × Stepped d more turns rest last × (lines ≡ report_of d report ++ rest)
Stepped d (items.Phase text ∷ more) turns lines last =
    (m : Disk) × (mine : List ℕ) × (others : List (List ℕ)) × (first rest : List OutLine)
    × IsRunOn d m × PhaseSteps (terms_of d) d.backed text.actors d.row mine first m.row
    × Stepped m more others rest last × (turns ≡ mine ∷ others) × (lines ≡ first ++ rest)

-- turns of a schedule, and then of rounds in which each actor has one
abbrev pub IsBySchedule : List (List Op) → List Turns → List ℕ → Type 0
IsBySchedule actors schedule turns = (rounds : ℕ) × (turns
    ≡ turns_of schedule ++ rounds_of (length actors) rounds)

-- each phase's turns are those of its schedule, and then of rounds
abbrev pub AreOwn : List Item → List (List ℕ) → Type 0
AreOwn [] turns = turns ≡ []
AreOwn (items.Attr attr ∷ more) turns = AreOwn more turns
AreOwn (items.Report report ∷ more) turns = AreOwn more turns
AreOwn (items.Phase text ∷ more) [] = ⊥
AreOwn (items.Phase text ∷ more) (mine ∷ others) = IsBySchedule text.actors text.schedule mine
    × AreOwn more others
