-- What a row at rest prints.
use Rattle.std.specs.Prelude.{ℕ, ◌+◌, List, [], ◌∷◌, Option, Some, None}
use Rattle.std.specs.List.{flat_map, range_with_len}
use Rattle.mem_account.specs.Stat.{mm_stat_of, io_stat_of}
use Rattle.plain_disk.specs.Output.{OutLine, memory, calls, device_calls}
use Rattle.plain_disk.specs.Rests.{state_line, class_line, Report, mm_stat, io_stat, bd_stat, states, classes}
use Rattle.lock_row.specs.declared.names.Held.TheVariants as holds
use Rattle.slot_entry.specs.Entries.{weight_of}
use Rattle.page_steps.specs.Steps.{DiskHeld}
use Rattle.joint_rule.specs.Ends.{value_at, account_of}
use Rattle.disk_rest.specs.Rows.{Row, used_at}

-- the line of page p, by its entry
abbrev pub state_in : ℕ → Option DiskHeld → List OutLine
state_in p None = []
state_in p (Some (holds.Slot e)) = state_line p (weight_of e.kept) e.idle e.touched
state_in p (Some (holds.Class x)) = []
state_in p (Some (holds.Account x)) = []
state_in p (Some (holds.Blocks x)) = []
state_in p (Some (holds.Device x)) = []

-- the line of the device, where so many pages are on it
abbrev pub device_line : ℕ → Option DiskHeld → List OutLine
device_line count None = []
device_line count (Some (holds.Slot x)) = []
device_line count (Some (holds.Class x)) = []
device_line count (Some (holds.Account x)) = []
device_line count (Some (holds.Blocks x)) = []
device_line count (Some (holds.Device d)) =
    device_calls (record { count = count; reads = d.reads; writes = d.writes }) ∷ []

-- the lines of a report, by the values of a row of so many pages, where chains have at most so many
-- frames: the account's, the device's, each entry's, or each pool's
abbrev pub row_report : ℕ → ℕ → Row → Report → List OutLine
row_report size chain row mm_stat = memory (mm_stat_of (account_of size row)) ∷ []
row_report size chain row io_stat = calls (io_stat_of (account_of size row)) ∷ []
row_report size chain row bd_stat =
    device_line (account_of size row).back (value_at row (size + 257))
row_report size chain row states =
    flat_map (λ p. state_in p (value_at row p)) (range_with_len 0 size)
row_report size chain row classes =
    flat_map (λ k. class_line chain k (used_at size row k)) (range_with_len 0 255)
