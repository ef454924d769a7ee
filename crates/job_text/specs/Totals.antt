-- What a whole job uses of its limits, as totals over its items.
use Rattle.std.specs.Prelude.{ℕ, ◌≤◌, List, [], ◌∷◌, sum_by}
use Rattle.zr_base.specs.declared.op.Op.{Op}
use Rattle.zr_base.specs.declared.limits.TheConstants.{MOST_OPERATIONS}
use Rattle.zr_base.specs.Pieces.{pages_of}
use Rattle.job_text.specs.declared.limits.TheConstants.{MOST_PHASES, MOST_PIECES, MOST_SCANNED, MOST_SECTORS_READ, MOST_TURNS}
use Rattle.job_text.specs.declared.job.Attr.TheVariants.{DiskPages}
use Rattle.job_text.specs.declared.job.Item.{Item}
use Rattle.job_text.specs.declared.job.Item.TheVariants as items
use Rattle.job_text.specs.Jobs.{sectors_to_read, pages_to_scan, turns_in}

-- one for a phase, and nothing for another item
abbrev pub phases_in : Item → ℕ
phases_in (items.Attr attr) = 0
phases_in (items.Report report) = 0
phases_in (items.Phase text) = 1

-- the sum of a number of each operation, over all actors of an item
abbrev pub sum_in : (Op → ℕ) → Item → ℕ
sum_in f (items.Attr attr) = 0
sum_in f (items.Report report) = 0
sum_in f (items.Phase text) = sum_by (λ ops. sum_by f ops) text.actors

-- the turns that the schedule of an item gives
abbrev pub scheduled_in : Item → ℕ
scheduled_in (items.Attr attr) = 0
scheduled_in (items.Report report) = 0
scheduled_in (items.Phase text) = turns_in text.schedule

-- the pages of a job's disk, by its first `disksize`; none where there is no such line
abbrev pub disk_pages : List Item → ℕ
disk_pages [] = 0
disk_pages (items.Attr (DiskPages pages) ∷ more) = pages
disk_pages (item ∷ more) = disk_pages more

-- The totals over all items of a job are within the limits.
pub record IsWithinLimits (job : List Item) : Type 0 where
  pub phases : sum_by phases_in job ≤ MOST_PHASES
  pub operations : sum_by (sum_in (λ op. 1)) job ≤ MOST_OPERATIONS
  pub pieces : sum_by (sum_in pages_of) job ≤ MOST_PIECES
  pub sectors : sum_by (sum_in sectors_to_read) job ≤ MOST_SECTORS_READ
  pub scanned : sum_by (sum_in (pages_to_scan (disk_pages job))) job ≤ MOST_SCANNED
  pub turns : sum_by scheduled_in job ≤ MOST_TURNS
