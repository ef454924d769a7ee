-- What values and actors weigh: the sums over them that the joint rule compares.
use Rattle.std.specs.Prelude.{◌≡◌, ℕ, zero, suc, ◌+◌, ◌==◌, ◌&&◌, Bool, true, false, cond, not, is_none, is_some, nat_lt, option_map, List, [], ◌∷◌, length, sum_by, Option, Some, None, slice_get}
use denote.RawPtr.{Ptr, block_ptr, null_ptr}
use Rattle.zr_base.specs.declared.op.Tag.{Tag}
use Rattle.zr_base.specs.declared.op.Op.{Op}
use Rattle.zr_base.specs.declared.op.Op.TheVariants.{Write, Read, Discard, Idle, Writeback, Compact}
use Rattle.zr_base.specs.declared.op.OpEnd.{OpEnd}
use Rattle.zspage.specs.Cells.{UsedCell, used_of}
use Rattle.class_pool.specs.Zspages.{Cells}
use Rattle.class_pool.specs.Pool.{PoolState, used_cells}
use Rattle.class_pool.specs.Laws.{frames_of}
use Rattle.mem_account.specs.Counters.{Counters}
use Rattle.block_map.specs.declared.state.BlockState.{BlockState}
use Rattle.block_map.specs.declared.state.BlockState.TheVariants.{Free, Held, Owned, Left}
use Rattle.block_map.specs.BlockMap.{BlockMap}
use Rattle.backing_dev.specs.Dev.{DeviceState}
use Rattle.mem_account.specs.Tally.{same_of, packed_of, packed_bytes_of, huge_of, back_of}
use Rattle.mem_account.specs.declared.weight.Weight.{Weight}
use Rattle.plain_disk.specs.Ends.{failed_read, failed_write, starved, tells_fault, left_back, written, tried, cut_short, beyond, compacted}
use Rattle.plain_disk.specs.Compactions.{loose}
use Rattle.plain_disk.specs.Calls.{Found, calls_sum, made_huge, freed, may_fetch}
use Rattle.plain_disk.specs.Phases.{calls_on, foreign}
use Rattle.call_history.specs.declared.part.Part.{Part}
use Rattle.call_history.specs.declared.part.PartEnd.{PartEnd}
use Rattle.call_history.specs.Parts.{piece_gives, done_sum}
use Rattle.lock_row.specs.declared.names.LockNo.{LockNo}
use Rattle.lock_row.specs.declared.names.Held.TheVariants as holds
use Rattle.lock_row.specs.declared.names.At.{At}
use Rattle.lock_row.specs.declared.names.At.TheVariants.{Start, Refusing, Away, Fetching, Failing, Counting, Missed, Ready, Scanning, Marking, Visiting, Sweeping, Moving, Shrunk, Shrinking}
use Rattle.lock_row.specs.declared.names.Step.{Step}
use Rattle.lock_row.specs.declared.names.Step.TheVariants as step
use Rattle.lock_row.specs.declared.names.Trip.{Trip}
use Rattle.lock_row.specs.declared.names.State.{State}
use Rattle.lock_row.specs.declared.names.Object.{Object}
use Rattle.lock_row.specs.declared.names.Pin.{Pin}
use Rattle.lock_row.specs.Totals.{by_option}
use Rattle.slot_entry.specs.declared.kept.Kept.{Kept}
use Rattle.slot_entry.specs.declared.kept.Kept.TheVariants as kept
use Rattle.slot_entry.specs.Forms.{same_list, page_weight}
use Rattle.slot_entry.specs.Entries.{weight_of, is_wb}
use Rattle.page_steps.specs.Steps.{DiskHeld, Here, spot}
use Rattle.page_steps.specs.Compactions.{compaction_at}
use Rattle.joint_rule.specs.Begins.{Begin, found, content, image, ever, back_at}

-- ---- values and actors

module _ (size : ℕ) where
  -- something holds of each value that an actor holds
  abbrev pub HeldAll : (ℕ → DiskHeld → Type 0) → List (LockNo × DiskHeld) → Type 0
  HeldAll P [] = Unit {0}
  HeldAll P (x ∷ xs) = P (spot size x.0) x.1 × HeldAll P xs

-- Something holds of each value at home, and of each actor.
pub record Each (P : ℕ → DiskHeld → Type 0) (Q : ℕ → Here → Type 0) (w : State DiskHeld)
    : Type 0 where
  pub in_row : (k : ℕ) (v : DiskHeld) → slice_get w.row k ≡ Some (Some v) → P k v
  pub in_local : (a : ℕ) (l : Here) → slice_get w.locals a ≡ Some l → Q a l

-- no value weighs anything
abbrev pub nothing : ℕ → DiskHeld → ℕ
nothing j v = 0

-- no actor weighs anything
abbrev pub none : Here → ℕ
none l = 0

-- each actor weighs 1
abbrev pub one : Here → ℕ
one l = 1

-- 1 where they are equal, else 0
abbrev pub same : ℕ → ℕ → ℕ
same zero zero = 1
same zero (suc b) = 0
same (suc a) zero = 0
same (suc a) (suc b) = same a b

-- 1 for the value of a place
abbrev pub at_place : ℕ → ℕ → DiskHeld → ℕ
at_place k j v = same k j

-- an entry's weight
abbrev pub on_entry : (ℕ → Kept → List Tag → ℕ) → ℕ → DiskHeld → ℕ
on_entry f j (holds.Slot e) = f j e.kept e.order
on_entry f j (holds.Class p) = 0
on_entry f j (holds.Account c) = 0
on_entry f j (holds.Blocks x) = 0
on_entry f j (holds.Device x) = 0

-- a pool's weight
abbrev pub on_pool : (PoolState → ℕ) → ℕ → DiskHeld → ℕ
on_pool f j (holds.Slot e) = 0
on_pool f j (holds.Class p) = f p
on_pool f j (holds.Account c) = 0
on_pool f j (holds.Blocks x) = 0
on_pool f j (holds.Device x) = 0

-- the account's weight
abbrev pub on_account : (Counters → ℕ) → ℕ → DiskHeld → ℕ
on_account f j (holds.Slot e) = 0
on_account f j (holds.Class p) = 0
on_account f j (holds.Account c) = f c
on_account f j (holds.Blocks x) = 0
on_account f j (holds.Device x) = 0

-- the weight of the map of blocks
abbrev pub on_blocks : (BlockMap → ℕ) → ℕ → DiskHeld → ℕ
on_blocks f j (holds.Slot e) = 0
on_blocks f j (holds.Class p) = 0
on_blocks f j (holds.Account c) = 0
on_blocks f j (holds.Blocks x) = f x
on_blocks f j (holds.Device x) = 0

-- the device's weight
abbrev pub on_device : (DeviceState → ℕ) → ℕ → DiskHeld → ℕ
on_device f j (holds.Slot e) = 0
on_device f j (holds.Class p) = 0
on_device f j (holds.Account c) = 0
on_device f j (holds.Blocks x) = 0
on_device f j (holds.Device x) = f x

-- ---- objects

-- a weight of objects, by class, handle and bytes
abbrev pub Weigh : Type 0
Weigh = ℕ → ℕ → List ℕ → ℕ

-- each object weighs 1
abbrev pub each_one : Weigh
each_one c h b = 1

-- the object that a kept form names, with these bytes
abbrev pub claim_by : Weigh → Kept → List ℕ → ℕ
claim_by f kept.Empty b = 0
claim_by f (kept.Same w) b = 0
claim_by f (kept.Obj o) b = f o.class o.handle.0 b
claim_by f (kept.Wb x) b = 0

-- the object that an entry names, with the bytes in which its page has to be kept
abbrev pub claims : Begin → Weigh → ℕ → DiskHeld → ℕ
claims g f = on_entry (λ j k order. claim_by f k (image g j order))

-- an object's weight
abbrev pub object_weight : Weigh → Object → ℕ
object_weight f o = f o.class o.handle o.bytes

-- the new object of an actor
abbrev pub fresh_claim : Weigh → Here → ℕ
fresh_claim f l = by_option (object_weight f) l.fresh

-- the object in a used cell
abbrev pub cell_weight : (ℕ → List ℕ → ℕ) → UsedCell → ℕ
cell_weight f u = f u.handle u.bytes

-- the objects of a pool
abbrev pub stored : Weigh → ℕ → DiskHeld → ℕ
stored f = on_pool (λ p. sum_by (cell_weight (f p.class)) (used_cells p.zspages))

-- 1 for the objects of a handle
abbrev pub names : ℕ → ℕ → List ℕ → ℕ
names h g b = same h g

-- ---- pins

-- a weight of pinned cells
abbrev pub PinWeigh : Type 0
PinWeigh = Pin → ℕ

-- what an actor that pinned a used cell of a class has
abbrev pub pin_in : ℕ → UsedCell → Pin
pin_in class u = record {
  class = class;
  handle = u.handle;
  chain = u.cell.chain;
  number = u.cell.number;
  size = u.cell.size;
  bytes = u.cell.bytes;
}

-- a used cell of a class, where it is out
abbrev pub out_weight : PinWeigh → ℕ → UsedCell → ℕ
out_weight f class u = cond u.out (f (pin_in class u)) 0

-- the cells of a pool that are out
abbrev pub outs : PinWeigh → ℕ → DiskHeld → ℕ
outs f = on_pool (λ p. sum_by (out_weight f p.class) (used_cells p.zspages))

-- the cell that an actor has pinned
abbrev pub pinned : PinWeigh → Here → ℕ
pinned f l = by_option f l.pin

-- whether two pointers are one
abbrev pub same_ptr : Ptr → Ptr → Bool
same_ptr (block_ptr b o) (block_ptr c p) = (b == c) && (o == p)
same_ptr (block_ptr b o) null_ptr = false
same_ptr null_ptr (block_ptr c p) = false
same_ptr null_ptr null_ptr = true

-- whether two pins are one
abbrev pub same_pin : Pin → Pin → Bool
same_pin x y = ((x.class == y.class) && (x.handle == y.handle))
    && (same_ptr x.chain y.chain && ((x.number == y.number) && ((x.size == y.size)
    && same_list x.bytes y.bytes)))

-- ---- blocks

-- a weight of blocks, by who has them: 0 for a writeback, 1 for a page, 2 for readers alone
abbrev pub BlockWeigh : Type 0
BlockWeigh = ℕ → ℕ → ℕ

-- the block in which a page is kept
abbrev pub block_by : BlockWeigh → Kept → ℕ
block_by f kept.Empty = 0
block_by f (kept.Same w) = 0
block_by f (kept.Obj o) = 0
block_by f (kept.Wb b) = f 1 b

-- the block in which an entry's page is kept
abbrev pub block_claims : BlockWeigh → ℕ → DiskHeld → ℕ
block_claims f = on_entry (λ j k order. block_by f k)

-- a block by its state
abbrev pub use_by : BlockWeigh → ℕ → BlockState → ℕ
use_by f b Free = 0
use_by f b Held = f 0 b
use_by f b Owned = f 1 b
use_by f b Left = f 2 b

-- the blocks of a map from the b-th on
abbrev pub used_from : BlockWeigh → ℕ → List BlockState → ℕ
used_from f b [] = 0
used_from f b (s ∷ states) = use_by f b s + used_from f (suc b) states

-- the block that a writeback has reserved, or made the page's, by its step
abbrev pub use_at : BlockWeigh → Step → Trip → ℕ
use_at f step.Arriving x = 0
use_at f step.Passing x = 0
use_at f step.Asking x = 0
use_at f step.Reserving x = 0
use_at f step.Quitting x = 0
use_at f step.Owing x = by_option (f 1) x.block
use_at f step.Paying x = by_option (f 1) x.block
use_at f step.Putting x = by_option (f 1) x.block
use_at f s x = by_option (f 0) x.block

-- by a stage
abbrev pub use_in : BlockWeigh → At → ℕ
use_in f (Visiting s x) = use_at f s x
use_in f at = 0

-- that of an actor
abbrev pub block_uses : BlockWeigh → Here → ℕ
block_uses f l = use_in f l.at

-- those of the map
abbrev pub used_blocks : BlockWeigh → ℕ → DiskHeld → ℕ
used_blocks f = on_blocks (λ x. used_from f 0 x.states)

-- how many blocks the map has
abbrev pub map_size : ℕ → DiskHeld → ℕ
map_size = on_blocks (λ x. length x.states)

-- 1 where the limit on writebacks is on
abbrev pub map_budgeted : ℕ → DiskHeld → ℕ
map_budgeted = on_blocks (λ x. cond x.enabled 1 0)

-- how many writes it has left
abbrev pub map_budget : ℕ → DiskHeld → ℕ
map_budget = on_blocks (λ x. x.budget)

-- how many the device has
abbrev pub device_size : ℕ → DiskHeld → ℕ
device_size = on_device (λ d. d.blocks)

-- 1 where they are equal, else 0
abbrev pub same_bytes : List ℕ → List ℕ → ℕ
same_bytes x y = cond (same_list x y) 1 0

-- 1 for a page that is kept in this block and has these bytes
abbrev pub lies_by : ℕ → List ℕ → Kept → List ℕ → ℕ
lies_by b bytes (kept.Wb x) page = cond (b == x) (same_bytes bytes page) 0
lies_by b bytes _ page = 0

-- 1 for an entry whose page is kept in this block and has to have these bytes
abbrev pub lies_at : Begin → ℕ → List ℕ → ℕ → DiskHeld → ℕ
lies_at g b bytes = on_entry (λ j k order. lies_by b bytes k (content g j order))

-- ---- writebacks

-- whether the page of a writeback was written to its block, and isn't counted yet
abbrev pub is_written : Step → Bool
is_written step.Landing = true
is_written step.Won = true
is_written step.Freeing = true
is_written step.Backing = true
is_written step.Committing = true
is_written step.Owing = true
is_written step.Paying = true
is_written step.Putting = true
is_written step.Losing = true
is_written step.Undoing = true
is_written step.Releasing = true
is_written s = false

-- whether a writeback carries its page, which its slot is marked for
abbrev pub is_carrying : Step → Bool
is_carrying step.Flying = true
is_carrying step.Storing = true
is_carrying step.Landing = true
is_carrying step.Won = true
is_carrying step.Freeing = true
is_carrying step.Backing = true
is_carrying step.Committing = true
is_carrying step.Owing = true
is_carrying step.Paying = true
is_carrying step.Putting = true
is_carrying step.Losing = true
is_carrying s = false

-- 1 for a block with these bytes
abbrev pub pair : ℕ → List ℕ → Option ℕ → Option (List ℕ) → ℕ
pair b bytes (Some c) (Some page) = cond (b == c) (same_bytes bytes page) 0
pair b bytes _ _ = 0

-- 1 for a writeback that carries a page, where it has these bytes
abbrev pub written_by : ℕ → List ℕ → At → Option (List ℕ) → ℕ
written_by b bytes (Visiting s x) page =
    cond (is_written s && is_carrying s) (pair b bytes x.block page) 0
written_by b bytes at page = 0

-- 1 for an actor that has written these bytes to this block
abbrev pub written_at : ℕ → List ℕ → Here → ℕ
written_at b bytes l = cond (is_none l.fail) (written_by b bytes l.at l.page) 0

-- the page and the block of a writeback that carries one
abbrev pub carries_at : At → Option (ℕ × ℕ)
carries_at (Visiting s x) =
    cond (is_carrying s) (option_map (λ b. (x.page, b)) x.block) None
carries_at at = None

-- those of an actor
abbrev pub carries : Here → Option (ℕ × ℕ)
carries l = carries_at l.at

-- 1 for an actor that carries page s with these bytes to block b
abbrev pub carried_by : ℕ → ℕ → List ℕ → At → Option (List ℕ) → ℕ
carried_by s b bytes (Visiting st x) page =
    cond (is_carrying st && (s == x.page)) (pair b bytes x.block page) 0
carried_by s b bytes at page = 0

-- by its stage and its page
abbrev pub carried_at : ℕ → ℕ → List ℕ → Here → ℕ
carried_at s b bytes l = carried_by s b bytes l.at l.page

-- 1 for a page s that is marked with block b and has to have these bytes
abbrev pub mark_by : ℕ → ℕ → List ℕ → ℕ → Option ℕ → List ℕ → ℕ
mark_by s b bytes j under page = cond (s == j) (pair b bytes under (Some page)) 0

-- by an entry
abbrev pub mark_at : Begin → ℕ → ℕ → List ℕ → ℕ → DiskHeld → ℕ
mark_at g s b bytes j (holds.Slot e) = mark_by s b bytes j e.under (content g j e.order)
mark_at g s b bytes j v = 0

-- 1 for the mark of this block
abbrev pub marks_of : ℕ → Option ℕ → ℕ
marks_of b None = 0
marks_of b (Some c) = same b c

-- what page s shows of a writeback of the actor a: its mark, or others' tags
abbrev pub shows_at : ℕ → ℕ → ℕ → ℕ → DiskHeld → ℕ
shows_at a s b j (holds.Slot e) = cond (s == j) (marks_of b e.under + foreign a e.order) 0
shows_at a s b j v = 0

-- the pages that the writeback in work has left on the device
abbrev pub wrote_in : At → ℕ
wrote_in (Visiting s x) = x.wrote
wrote_in at = 0

-- its writes of the device that succeeded
abbrev pub writes_in : At → Option PartEnd → ℕ
writes_in (Visiting s x) None = x.wrote + x.lost + cond (is_written s) 1 0
writes_in (Visiting s x) (Some end) = x.wrote + x.lost
writes_in at fail = 0

-- the pages that an actor tells to have left on the device
abbrev pub wrote_told : Here → ℕ
wrote_told l = done_sum left_back l.done + wrote_in l.at

-- the writes of the device that it tells
abbrev pub writes_told : Here → ℕ
writes_told l = done_sum written l.done + writes_in l.at l.fail

-- 1 for an entry whose page is new on the device
abbrev pub new_back_at : Begin → ℕ → DiskHeld → ℕ
new_back_at g = on_entry (λ j k order. cond (is_wb k && not (back_at g j order)) 1 0)

-- 1 for a device whose block has these bytes, or that doesn't tell
abbrev pub has_block : ℕ → List ℕ → Option (List (List ℕ)) → ℕ
has_block b bytes None = 1
has_block b bytes (Some pages) = by_option (same_bytes bytes) (slice_get pages b)

-- 1 where the device's block has these bytes, or the device doesn't tell
abbrev pub stored_at : ℕ → List ℕ → ℕ → DiskHeld → ℕ
stored_at b bytes = on_device (λ d. has_block b bytes d.contents)

-- ---- the calls of the device

-- how many of them failed
abbrev pub device_faults : ℕ → DiskHeld → ℕ
device_faults = on_device (λ d. d.faults)

-- how many reads succeeded
abbrev pub device_reads : ℕ → DiskHeld → ℕ
device_reads = on_device (λ d. d.reads)

-- how many writes did
abbrev pub device_writes : ℕ → DiskHeld → ℕ
device_writes = on_device (λ d. d.writes)

-- what a piece in work gives by the refusal that it has already
abbrev pub fails_so : (Op → OpEnd → ℕ) → List Part → Option PartEnd → ℕ
fails_so f [] x = 0
fails_so f (p ∷ ps) x = by_option (piece_gives f p.op) x

-- how often an actor tells a count of faults
abbrev pub faults_told : ℕ → Here → ℕ
faults_told n l = done_sum (tells_fault n) l.done + fails_so (tells_fault n) l.todo l.fail

-- 1 for an operation whose piece may read the device
abbrev pub looks : Op → ℕ
looks (Write start count stuff) = 1
looks (Read start count) = 1
looks (Discard start count) = 0
looks (Idle age) = 0
looks (Writeback m) = 0
looks Compact = 0

-- 1 for a piece at a stage that may have read the device
abbrev pub fetched_by : At → Op → ℕ
fetched_by Start op = 0
fetched_by Refusing op = 0
fetched_by Away op = 0
fetched_by Fetching op = 0
fetched_by Failing op = 0
fetched_by Counting op = 0
fetched_by Missed op = 0
fetched_by (Scanning x) op = 0
fetched_by (Marking x) op = 0
fetched_by (Visiting s x) op = 0
fetched_by (Sweeping x) op = 0
fetched_by (Moving x) op = 0
fetched_by (Shrunk x) op = 0
fetched_by (Shrinking x) op = 0
fetched_by at op = looks op

-- 1 for a piece in work that may have read the device
abbrev pub fetched_now : List Part → At → ℕ
fetched_now [] at = 0
fetched_now (p ∷ ps) at = fetched_by at p.op

-- how often an actor may have read the device beside what stands in orders: for writes that were
-- refused for memory, and for the piece in work
abbrev pub fetches_told : Here → ℕ
fetches_told l = done_sum starved l.done + fetched_now l.todo l.at

-- how often the calls of an entry's order may have read it
abbrev pub fetches_noted : Begin → ℕ → DiskHeld → ℕ
fetches_noted g = on_entry (λ j k order. calls_sum may_fetch (calls_on g.given j) (found g j) order)

-- ---- frames

-- the account's frames
abbrev pub pages : ℕ → DiskHeld → ℕ
pages = on_account (λ c. c.pages)

-- those of a pool
abbrev pub chains : ℕ → DiskHeld → ℕ
chains = on_pool frames_of

-- those that an actor owes
abbrev pub owing : Here → ℕ
owing l = l.owed

-- 1 for a page that was in the pool after some first calls of its order
abbrev pub ever_at : Begin → ℕ → DiskHeld → ℕ
ever_at g = on_entry (λ j k order. ever g j order)

-- 1 for some
abbrev pub some_of : ℕ → ℕ
some_of zero = 0
some_of (suc n) = 1

-- the objects that an actor makes, and 1 where it owes frames
abbrev pub leaning : Here → ℕ
leaning l = fresh_claim each_one l + some_of l.owed

-- ---- the limit on writebacks, and what they lose

-- how often the writeback in work has reserved a block
abbrev pub reserves_in : At → ℕ
reserves_in (Visiting s x) = x.wrote + x.lost + by_option (λ b. 1) x.block
reserves_in at = 0

-- how often an actor tells to have reserved one
abbrev pub reserves_told : Here → ℕ
reserves_told l = done_sum tried l.done + reserves_in l.at

-- the writebacks that it tells to be cut by their limit
abbrev pub cuts_told : Here → ℕ
cuts_told l = done_sum cut_short l.done + fails_so cut_short l.todo l.fail

-- how many tags of an entry's order are other actors' than a
abbrev pub foreign_at : ℕ → ℕ → DiskHeld → ℕ
foreign_at a = on_entry (λ j k order. foreign a order)

-- 1 for one of the first n pages whose order has a tag of an actor other than a
abbrev pub met_at : ℕ → ℕ → ℕ → DiskHeld → ℕ
met_at a n = on_entry (λ j k order. cond (nat_lt j n) (some_of (foreign a order)) 0)

-- how many pages the writeback in work has met whose mark was gone, with the one in work
abbrev pub lost_in : At → Option PartEnd → ℕ
lost_in (Visiting step.Undoing x) None = x.lost + 1
lost_in (Visiting step.Releasing x) None = x.lost + 1
lost_in (Visiting s x) fail = x.lost
lost_in at fail = 0

-- how many pages it has passed, with the one whose mark was gone
abbrev pub passed_in : At → Option PartEnd → ℕ
passed_in (Visiting step.Undoing x) None = x.page + 1
passed_in (Visiting step.Releasing x) None = x.page + 1
passed_in (Visiting s x) fail = x.page
passed_in at fail = 0

-- 1 for an entry whose page was on the device before the phase
abbrev pub was_back : Begin → ℕ → DiskHeld → ℕ
was_back g = on_entry (λ j k order. cond (g.back j) 1 0)

-- ---- the counters that are sums over pages

-- The counters of the pages in a form.
pub data Count : Type 0 where
  Sames : Count
  Packs : Count
  PackedBytes : Count
  Huges : Count
  Backs : Count

-- what a page of a weight adds
abbrev pub measure : Count → Weight → ℕ
measure Sames w = same_of w
measure Packs w = packed_of w
measure PackedBytes w = packed_bytes_of w
measure Huges w = huge_of w
measure Backs w = back_of w

-- the account's counter
abbrev pub counter : Count → Counters → ℕ
counter Sames c = c.same
counter Packs c = c.packed
counter PackedBytes c = c.packed_bytes
counter Huges c = c.huge
counter Backs c = c.back

-- the account's counter, as a weight
abbrev pub counters : Count → ℕ → DiskHeld → ℕ
counters q = on_account (counter q)

-- what an entry adds
abbrev pub shown : Count → ℕ → DiskHeld → ℕ
shown q = on_entry (λ j k order. measure q (weight_of k))

-- what the account counts beside what entries show
abbrev pub ahead : Count → Here → ℕ
ahead q l = by_option (measure q) l.ahead

-- what entries show beside what the account counts
abbrev pub behind : Count → Here → ℕ
behind q l = by_option (measure q) l.behind

-- ---- the counters that no event changes

-- The limit.
pub data Fixed : Type 0 where
  Limit : Fixed

-- the account's counter
abbrev pub fixed_count : Fixed → Counters → ℕ
fixed_count Limit c = c.limit

-- the account's counter, as a weight
abbrev pub fixed : Fixed → ℕ → DiskHeld → ℕ
fixed q = on_account (fixed_count q)

-- the account's maximum
abbrev pub mosts : ℕ → DiskHeld → ℕ
mosts = on_account (λ c. c.most)

-- ---- the counters of refusals

-- Reads and writes that were refused, and requests beyond the disk.
pub data Refusal : Type 0 where
  FailedReads : Refusal
  FailedWrites : Refusal
  OutOfRange : Refusal

-- what an operation gives by its end
abbrev pub refusal_of : Refusal → Op → OpEnd → ℕ
refusal_of FailedReads op end = failed_read op end
refusal_of FailedWrites op end = failed_write op end
refusal_of OutOfRange op end = beyond op end

-- what a piece in work gives that is refused already; a failure of the device is counted after it is
-- known
abbrev pub refused_by : Refusal → At → List Part → Option PartEnd → ℕ
refused_by q Failing ps x = 0
refused_by q Counting ps x = 0
refused_by q at ps x = fails_so (refusal_of q) ps x

-- the refusals that an actor tells
abbrev pub refusals : Refusal → Here → ℕ
refusals q l = done_sum (refusal_of q) l.done + refused_by q l.at l.todo l.fail

-- the account's counter
abbrev pub refusal_count : Refusal → Counters → ℕ
refusal_count FailedReads c = c.failed_reads
refusal_count FailedWrites c = c.failed_writes
refusal_count OutOfRange c = c.invalid_io

-- the account's counter, as a weight
abbrev pub refusal_counter : Refusal → ℕ → DiskHeld → ℕ
refusal_counter q = on_account (refusal_count q)

-- ---- the frames that compactions freed

-- those of the compaction in work
abbrev pub freed_at : List Part → At → ℕ
freed_at [] at = 0
freed_at (p ∷ ps) at = (compaction_at at).frames

-- those that an actor tells: of the compactions that are over, and of the one in work
abbrev pub freed_by : Here → ℕ
freed_by l = done_sum compacted l.done + freed_at l.todo l.at

-- the account's counter, as a weight
abbrev pub compactions : ℕ → DiskHeld → ℕ
compactions = on_account (λ c. c.compacted)

-- ---- the zspages of a class

-- how many cells of each zspage are used
abbrev pub used_each : List (Option Cells) → List ℕ
used_each [] = []
used_each (None ∷ zs) = used_each zs
used_each (Some cells ∷ zs) = used_of cells ∷ used_each zs

-- 1 for a pool of which more than one zspage has a free cell
abbrev pub loose_pools : ℕ → DiskHeld → ℕ
loose_pools = on_pool (λ p. loose p.per (used_each p.zspages))

-- ---- the counters of calls

-- Writes after which their page is kept as its 4096 bytes, and discards of pages that weren't
-- blank.
pub data News : Type 0 where
  HugeWrites : News
  FreedPages : News

-- what a call gives, by its page before it and after it
abbrev pub news_of : News → ℕ → Option Op → Found → Found → ℕ
news_of HugeWrites p = made_huge page_weight p
news_of FreedPages p = freed

-- what the calls of an order give
abbrev pub order_news : Begin → News → ℕ → List Tag → ℕ
order_news g q p order = calls_sum (news_of q p) (calls_on g.given p) (found g p) order

-- what the calls in an entry's order give
abbrev pub noted : Begin → News → ℕ → DiskHeld → ℕ
noted g q = on_entry (λ j k order. order_news g q j order)

-- what a piece gives that the account has counted
abbrev pub told_by : News → Op → Option Weight → ℕ
told_by HugeWrites op x = by_option huge_of x
told_by FreedPages (Write start count stuff) x = 0
told_by FreedPages (Read start count) x = 0
told_by FreedPages (Discard start count) x = cond (is_some x) 1 0
told_by FreedPages (Idle age) x = 0
told_by FreedPages (Writeback m) x = 0
told_by FreedPages Compact x = 0

-- what a piece at a stage gives that the account has counted, and the order hasn't got yet
abbrev pub told_at : News → At → List Part → Option Weight → ℕ
told_at q Ready (p ∷ ps) x = told_by q p.op x
told_at q at ps x = 0

-- what an actor's piece gives that the account has counted, and the order hasn't got yet
abbrev pub told_ahead : News → Here → ℕ
told_ahead q l = told_at q l.at l.todo l.ahead

-- the account's counter
abbrev pub news_count : News → Counters → ℕ
news_count HugeWrites c = c.huge_since
news_count FreedPages c = c.notify_free

-- the account's counter, as a weight
abbrev pub news_counter : News → ℕ → DiskHeld → ℕ
news_counter q = on_account (news_count q)
