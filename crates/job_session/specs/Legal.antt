-- The outputs that a job may have, by the plain disk.
use Rattle.std.specs.Prelude.{List, map}
use Rattle.plain_disk.specs.Output.{OutLine}
use Rattle.plain_disk.specs.Rests.{Rest}
use Rattle.plain_disk.specs.Rests.{Report as PlainReport, mm_stat, io_stat, bd_stat, states, classes}
use Rattle.plain_disk.specs.Legal.{Item as PlainItem, disk, backing, limit_to, lower_most, budget_to, budgeted_to, clock_to, asks, phase}
use Rattle.plain_disk.specs.Legal.{Legal as LegalItems}
use Rattle.slot_entry.specs.Forms.{page_weight}
use Rattle.job_text.specs.declared.job.Attr.TheVariants.{DiskPages, LimitPages, Backing, WritebackLimit, WritebackLimitEnable, Clock, LowerMax}
use Rattle.job_text.specs.declared.job.Report.{Report}
use Rattle.job_text.specs.declared.job.Report.TheVariants as reports
use Rattle.job_text.specs.declared.job.Item.{Item}
use Rattle.job_text.specs.declared.job.Item.TheVariants as items

-- a report as the plain disk knows it
abbrev pub plain_report : Report → PlainReport
plain_report reports.MmStat = mm_stat
plain_report reports.IoStat = io_stat
plain_report reports.BdStat = bd_stat
plain_report reports.States = states
plain_report reports.Classes = classes

-- an item as the plain disk knows it
abbrev pub plain_item : Item → PlainItem
plain_item (items.Attr (DiskPages n)) = disk n
plain_item (items.Attr (LimitPages n)) = limit_to n
plain_item (items.Attr (Backing n)) = backing n
plain_item (items.Attr (WritebackLimit n)) = budget_to n
plain_item (items.Attr (WritebackLimitEnable on)) = budgeted_to on
plain_item (items.Attr (Clock n)) = clock_to n
plain_item (items.Attr LowerMax) = lower_most
plain_item (items.Report report) = asks (plain_report report)
plain_item (items.Phase text) = phase text.actors

-- the lines that a job's items may print, one after the other, from one rest to the last
abbrev pub Legal : Rest → List Item → List OutLine → Rest → Type 0
Legal r job lines last = LegalItems page_weight r (map plain_item job) lines last
