-- What a finished phase and a row at rest tell: statements that the laws claim.
use Rattle.std.specs.Prelude.{◌≡◌, ℕ, ◌+◌, ◌-◌, ◌^◌, ◌<◌, ◌≤◌, ◌==◌, Bool, List, [], ◌∷◌, length, sum_by, count_by, slice_get, slice_set, Some}
use Rattle.zr_base.specs.declared.op.Tag.{Tag}
use Rattle.zr_base.specs.declared.op.Op.{Op}
use Rattle.zr_base.specs.Plain.{IsRequest}
use Rattle.mem_account.specs.Counters.{Counters, no_counts}
use Rattle.size_class.specs.Groups.{group_of}
use Rattle.zspage.specs.Cells.{used_of}
use Rattle.class_pool.specs.Pool.{PoolState, objects, is_in_group}
use Rattle.block_map.specs.BlockMap.{BlockMap}
use Rattle.plain_disk.specs.Output.{device_calls, phase_lines}
use Rattle.plain_disk.specs.Rests.{Rest, is_backed, kept_at, stats, Report, bd_stat, states, classes, report}
use Rattle.plain_disk.specs.Phases.{IsPhase}
use Rattle.plain_disk.specs.Legal.{IsNew, IsUnused, sets, lowered}
use Rattle.call_history.specs.Histories.{HasSomeEach, ends_each, told_each}
use Rattle.lock_row.specs.declared.names.Held.TheVariants as holds
use Rattle.lock_row.specs.declared.names.State.{State}
use Rattle.slot_entry.specs.Entries.{EntryState, weight_of}
use Rattle.page_steps.specs.Steps.{DiskHeld}
use Rattle.slot_entry.specs.Forms.{page_weight}
use Rattle.joint_rule.specs.Begins.{Proper}
use Rattle.joint_rule.specs.Joint.{PoolFits}
use Rattle.joint_rule.specs.Rule.{Rule}
use Rattle.joint_rule.specs.Starts.{IsStart, IsMapOf}
use Rattle.joint_rule.specs.Starts.{IsNew as IsNewValue}
use Rattle.joint_rule.specs.Ends.{begin_at, histories, rest_after, new_rest}
use Rattle.joint_rule.specs.Weights.{used_each}
use Rattle.disk_rest.specs.Rows.{Row, NoPieceLeft, AreOrders, KeepsValues}
use Rattle.disk_rest.specs.Resting.{StandsFor, IsSetUp}
use Rattle.disk_rest.specs.Printed.{row_report}

-- a phase of which no actor has a piece left prints what the plain disk allows
abbrev pub PrintsPhase : Type 0
PrintsPhase = (r : Rest) (actors : List (List Op)) (w : State DiskHeld) (orders : List (List Tag))
    → Proper (begin_at r actors) → (x : Rule (begin_at r actors) w)
    → NoPieceLeft w → HasSomeEach actors → AreOrders r.size w.row orders
    → IsPhase page_weight r actors (phase_lines (ends_each (is_backed r) actors (histories w.locals))
    (told_each actors (histories w.locals)) orders) (rest_after r actors x.finds w.row)

-- its row stands for the rest that it leaves
abbrev pub LeavesRest : Type 0
LeavesRest = (r : Rest) (actors : List (List Op)) (w : State DiskHeld)
    → Proper (begin_at r actors) → (x : Rule (begin_at r actors) w)
    → NoPieceLeft w → StandsFor (rest_after r actors x.finds w.row) w.row

-- a row that stands for a rest prints the rest's reports
abbrev pub PrintsReports : Type 0
PrintsReports = (r : Rest) (row : Row) (q : Report) → StandsFor r row
    → row_report r.size r.set.chain row q ≡ report page_weight r q

-- before there is a disk, the statistics are none but the limit, no page is on the device, and no page
-- and no class has a line
abbrev pub PrintsNothing : Type 0
PrintsNothing = (r : Rest) → r.size ≡ 0 → IsUnused r
    → (stats page_weight r ≡ record no_counts { limit = r.set.limit })
    × (report page_weight r bd_stat ≡ device_calls (record {
      count = 0;
      reads = r.device.reads;
      writes = r.device.writes;
    }) ∷ [])
    × (report page_weight r states ≡ []) × (report page_weight r classes ≡ [])

-- an entry keeps its page and is marked as the rest says, and was touched when it says, which isn't
-- after the time that is set
abbrev pub EntriesTell : Type 0
EntriesTell = (r : Rest) (row : Row) (p : ℕ) → StandsFor r row → p < r.size
    → (e : EntryState) × (slice_get row p ≡ Some (Some (holds.Slot e)))
    × (weight_of e.kept ≡ kept_at page_weight r p) × (e.idle ≡ r.idle p)
    × (e.touched ≡ r.touched p) × (e.touched ≤ r.set.clock)

-- a class has a pool of its numbers, which has the used cells of the rest
abbrev pub PoolsTell : Type 0
PoolsTell = (r : Rest) (row : Row) (k : ℕ) → StandsFor r row → k < 255
    → (p : PoolState) × (slice_get row (r.size + k) ≡ Some (Some (holds.Class p)))
    × (p.class ≡ k) × PoolFits r.set.chain p × (used_each p.zspages ≡ r.used k)

-- the account has counted the statistics of the rest
abbrev pub AccountTells : Type 0
AccountTells = (r : Rest) (row : Row) → StandsFor r row
    → slice_get row (r.size + 255) ≡ Some (Some (holds.Account (stats page_weight r)))

-- sums over the used counts of a pool: its objects, its zspages, and those of a fullness group
abbrev pub CountsTell : Type 0
CountsTell = (p : PoolState)
    → (sum_by (λ u. u) (used_each p.zspages) ≡ length (objects p))
    × (length (used_each p.zspages) ≡ used_of p.zspages)
    × ((g : ℕ) → count_by (λ u. group_of u p.per == g) (used_each p.zspages)
    ≡ count_by (is_in_group p.per g) p.zspages)

-- a phase that is set up on a row is before its first turn
abbrev pub BeginsPhase : Type 0
BeginsPhase = (r : Rest) (actors : List (List Op)) (row : Row) (w : State DiskHeld)
    → StandsFor r row → IsSetUp r actors row w → IsStart (begin_at r actors) w

-- what is known of a phase of requests, where there aren't too many
abbrev pub BeginsProper : Type 0
BeginsProper = (r : Rest) (actors : List (List Op)) (row : Row) → StandsFor r row
    → ((a : ℕ) (ops : List Op) (k : ℕ) (op : Op) → slice_get actors a ≡ Some ops
    → slice_get ops k ≡ Some op → IsRequest op)
    → (0 < length actors → 0 < r.size)
    → r.size + length actors < 2 ^ 32 - 1
    → sum_by (λ (ops : List Op). length ops) actors < 2 ^ 32
    → Proper (begin_at r actors)

-- the row of a new disk stands for it
abbrev pub BeginsDisk : Type 0
BeginsDisk = (r : Rest) (n : ℕ) (row : Row) → 4 ≤ r.set.chain → r.set.chain ≤ 16
    → length row ≡ n + 258
    → ((k : ℕ) → k < length row → (v : DiskHeld) × (slice_get row k ≡ Some (Some v))
    × IsNewValue (begin_at (new_rest n r.set r.device) []) k v)
    → ((k : ℕ) (c : Counters) → slice_get row k ≡ Some (Some (holds.Account c))
    → c.limit ≡ r.set.limit)
    → ((k : ℕ) (x : BlockMap) → slice_get row k ≡ Some (Some (holds.Blocks x))
    → IsMapOf (begin_at (new_rest n r.set r.device) []) x)
    → IsNew r n (new_rest n r.set r.device) × StandsFor (new_rest n r.set r.device) row

-- a row of which only orders have changed stands for the same rest
abbrev pub StandsStill : Type 0
StandsStill = (r : Rest) (before after : Row) → StandsFor r before → KeepsValues before after
    → StandsFor r after

-- where the account has another limit, the row stands for the rest with this limit
abbrev pub SetsLimit : Type 0
SetsLimit = (r : Rest) (row : Row) (n : ℕ) (c : Counters) → StandsFor r row
    → slice_get row (r.size + 255) ≡ Some (Some (holds.Account c))
    → StandsFor (sets r (record r.set { limit = n }))
    (slice_set row (r.size + 255) (Some (holds.Account (record c { limit = n }))))

-- where the map has another number of writes left, or its limit is on or off, the row stands for the
-- rest with these
abbrev pub SetsBudget : Type 0
SetsBudget = (r : Rest) (row : Row) (n : ℕ) (on : Bool) (x : BlockMap) → StandsFor r row
    → slice_get row (r.size + 256) ≡ Some (Some (holds.Blocks x))
    → StandsFor (sets r (record r.set { budget = n; budgeted = on }))
    (slice_set row (r.size + 256) (Some (holds.Blocks (record x { budget = n; enabled = on }))))

-- the map has the blocks and the writes that the rest says
abbrev pub MapTells : Type 0
MapTells = (r : Rest) (row : Row) → StandsFor r row
    → (x : BlockMap) × (slice_get row (r.size + 256) ≡ Some (Some (holds.Blocks x)))
    × IsMapOf (begin_at r []) x

-- where the time isn't before, the row stands for the rest with this time
abbrev pub SetsClock : Type 0
SetsClock = (r : Rest) (row : Row) (n : ℕ) → StandsFor r row → r.set.clock ≤ n
    → StandsFor (sets r (record r.set { clock = n })) row

-- where the account's maximum is lowered to its frames, the row stands for the rest whose greatest
-- number of frames is lowered
abbrev pub LowersMax : Type 0
LowersMax = (r : Rest) (row : Row) (c : Counters) → StandsFor r row
    → slice_get row (r.size + 255) ≡ Some (Some (holds.Account c))
    → StandsFor (lowered r)
    (slice_set row (r.size + 255) (Some (holds.Account (record c { most = c.pages }))))
