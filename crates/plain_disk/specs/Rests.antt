-- The state of a disk between two items of a job, and its statistics: sums over its pages, and
-- counts of what has happened so far.
use Rattle.std.specs.Prelude.{◌≡◌, ℕ, ◌*◌, ◌<◌, ◌≤◌, nat_lt, Bool, List, [], ◌∷◌, map, length, sum_by, if◌then◌else◌}
use Rattle.std.specs.List.{flat_map, range_with_len, AllByRecursion}
use Rattle.mem_account.specs.declared.weight.Weight.{Weight}
use Rattle.mem_account.specs.declared.weight.Weight.TheVariants.{Empty, Back}
use Rattle.mem_account.specs.Counters.{Counters}
use Rattle.mem_account.specs.Tally.{same_of, packed_of, packed_bytes_of, huge_of, back_of}
use Rattle.mem_account.specs.Stat.{mm_stat_of, io_stat_of}
use Rattle.size_class.specs.Classes.{chain_of, per_of}
use Rattle.backing_dev.specs.Dev.{DeviceState}
use Rattle.plain_disk.specs.Forms.{of_class}
use Rattle.plain_disk.specs.Calls.{Found, kept_as}
use Rattle.plain_disk.specs.Output.{OutLine, memory, calls, device_calls, state, class_of}

-- ---- rests

-- How often something has happened so far; each count stands still at 2^64 - 1.
pub record SoFar : Type 0 where
  -- writes after which the page was kept as its 4096 bytes
  pub huge : ℕ
  -- frames that compactions freed
  pub compacted : ℕ
  -- reads that failed
  pub failed_reads : ℕ
  -- writes that were refused
  pub failed_writes : ℕ
  -- requests beyond the disk
  pub beyond : ℕ
  -- discards of pages that weren't blank
  pub freed : ℕ

-- nothing has happened yet
abbrev pub nothing_yet : SoFar
nothing_yet = record {
  huge = 0;
  compacted = 0;
  failed_reads = 0;
  failed_writes = 0;
  beyond = 0;
  freed = 0;
}

-- What a job has set: the limit in frames, where 0 is none, the clock in seconds, the most frames of
-- a chain, how many blocks of the backing device are used, where 0 is none, how many writes the limit
-- on writebacks has left, and whether that limit is on.
pub record Settings : Type 0 where
  pub limit : ℕ
  pub clock : ℕ
  pub chain : ℕ
  pub backing : ℕ
  pub budget : ℕ
  pub budgeted : Bool

-- A disk between two items of a job: its pages, none before its size is given; what each sector
-- holds; which pages are blank; which are on the backing device; which are marked idle; when each was
-- touched; for each class, how many cells of each of its zspages are used; the greatest number of frames so far, since
-- it was last lowered; the backing device; what is set; and what has happened so far.
pub record Rest : Type 0 where
  pub size : ℕ
  pub holds : ℕ → List ℕ
  pub blank : ℕ → Bool
  pub back : ℕ → Bool
  pub idle : ℕ → Bool
  pub touched : ℕ → ℕ
  pub used : ℕ → List ℕ
  pub most : ℕ
  pub device : DeviceState
  pub set : Settings
  pub so_far : SoFar

-- whether the disk has a backing
abbrev pub is_backed : Rest → Bool
is_backed r = nat_lt 0 r.set.backing

-- a page of the rest
abbrev pub page_of : Rest → ℕ → Found
page_of r p = record { holds = r.holds; blank = r.blank p }

-- how a page of the rest is kept
abbrev pub kept_at : (List ℕ → Weight) → Rest → ℕ → Weight
kept_at form r p = if r.back p then Back else kept_as form p (page_of r p)

-- how each page of the rest is kept
abbrev pub kept_pages : (List ℕ → Weight) → Rest → List Weight
kept_pages form r = map (kept_at form r) (range_with_len 0 r.size)

-- the frames of all zspages of all classes
abbrev pub frames_of : ℕ → (ℕ → List ℕ) → ℕ
frames_of chain used = sum_by (λ k. chain_of chain k * length (used k)) (range_with_len 0 255)

-- The used cells of the zspages of a class, where the pages are kept so: each zspage has one at
-- least, and together they are as many as the pages of the class.
pub record IsUsed (chain : ℕ) (ws : List Weight) (k : ℕ) (used : List ℕ) : Type 0 where
  pub each : AllByRecursion (λ n. (1 ≤ n) × (n ≤ per_of chain k)) used
  pub all : sum_by (λ n. n) used ≡ sum_by (of_class chain k) ws

-- those of all classes
abbrev pub AreUsed : ℕ → List Weight → (ℕ → List ℕ) → Type 0
AreUsed chain ws used = (k : ℕ) → k < 255 → IsUsed chain ws k (used k)

-- ---- statistics

-- the statistics of a rest: sums over the pages by how they are kept, and what has happened so far
abbrev pub stats : (List ℕ → Weight) → Rest → Counters
stats form r = record {
  pages = frames_of r.set.chain r.used;
  limit = r.set.limit;
  most = r.most;
  same = sum_by same_of (kept_pages form r);
  packed = sum_by packed_of (kept_pages form r);
  packed_bytes = sum_by packed_bytes_of (kept_pages form r);
  huge = sum_by huge_of (kept_pages form r);
  back = sum_by back_of (kept_pages form r);
  huge_since = r.so_far.huge;
  compacted = r.so_far.compacted;
  failed_reads = r.so_far.failed_reads;
  failed_writes = r.so_far.failed_writes;
  invalid_io = r.so_far.beyond;
  notify_free = r.so_far.freed;
}

-- what has happened so far, by what an account has counted
abbrev pub so_far_of : Counters → SoFar
so_far_of c = record {
  huge = c.huge_since;
  compacted = c.compacted;
  failed_reads = c.failed_reads;
  failed_writes = c.failed_writes;
  beyond = c.invalid_io;
  freed = c.notify_free;
}

-- ---- reports

-- the line of a page that isn't empty
abbrev pub state_line : ℕ → Weight → Bool → ℕ → List OutLine
state_line p Empty idle touched = []
state_line p kept idle touched =
    state (record { page = p; kept = kept; idle = idle; touched = touched }) ∷ []

-- the line of a class that has zspages
abbrev pub class_line : ℕ → ℕ → List ℕ → List OutLine
class_line chain k [] = []
class_line chain k (u ∷ us) =
    class_of (record { class = k; chain = chain; used = u ∷ us }) ∷ []

-- A report that a job asks for.
pub data Report : Type 0 where
  -- the statistics of the memory
  mm_stat : Report
  -- those of what failed, was refused or was discarded
  io_stat : Report
  -- those of the backing device
  bd_stat : Report
  -- a line for each page that isn't empty
  states : Report
  -- a line for each class that has zspages
  classes : Report

-- the lines of a report on a rest
abbrev pub report : (List ℕ → Weight) → Rest → Report → List OutLine
report form r mm_stat = memory (mm_stat_of (stats form r)) ∷ []
report form r io_stat = calls (io_stat_of (stats form r)) ∷ []
report form r bd_stat = device_calls (record {
  count = (stats form r).back;
  reads = r.device.reads;
  writes = r.device.writes;
}) ∷ []
report form r states =
    flat_map (λ p. state_line p (kept_at form r p) (r.idle p) (r.touched p)) (range_with_len 0 r.size)
report form r classes =
    flat_map (λ k. class_line r.set.chain k (r.used k)) (range_with_len 0 255)
