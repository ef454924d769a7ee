-- The joint rule of pages, pools and the account: what each value and each actor is, and the sums
-- over them all.
use Rattle.std.specs.Prelude.{◌≡◌, ℕ, ◌+◌, ◌^◌, ◌<◌, ◌≤◌, true, false, List, [], map, length, sum_by, Some, slice_get, ⊤}
use Rattle.zr_base.specs.declared.op.Op.{Op}
use Rattle.size_class.specs.Classes.{class_size, chain_of, per_of}
use Rattle.backing_dev.specs.Dev.{DeviceState, IsHonestDevice}
use Rattle.class_pool.specs.Pool.{PoolState, used_cells, IsPool}
use Rattle.plain_disk.specs.Idles.{is_marked_in}
use Rattle.plain_disk.specs.Phases.{touched_by}
use Rattle.call_history.specs.Parts.{program, EndsSo, Follows}
use Rattle.lock_row.specs.declared.names.LockNo.{LockNo}
use Rattle.lock_row.specs.declared.names.Held.TheVariants as holds
use Rattle.lock_row.specs.declared.names.State.{State}
use Rattle.lock_row.specs.Totals.{held_sum, total}
use Rattle.slot_entry.specs.Entries.{EntryState, weight_of}
use Rattle.page_steps.specs.Pages.{new_class}
use Rattle.page_steps.specs.Steps.{DiskHeld, Here, spot, class_by, entry_in}
use Rattle.joint_rule.specs.Begins.{Begin, ground_of, form_at, back_at, AreCarried}
use Rattle.joint_rule.specs.Weights.{HeldAll, Each, nothing, none, at_place, Weigh, each_one, claims, fresh_claim, BlockWeigh, block_claims, block_uses, used_blocks, map_size, device_size, lies_at, written_at, stored_at, mark_at, carried_at, carries, shows_at, cell_weight, stored, names, PinWeigh, outs, pinned, pages, chains, owing, ever_at, leaning, Fixed, fixed, fixed_count, Count, counters, shown, ahead, behind}
use Rattle.joint_rule.specs.Stages.{IsForm, IsBack, HasMarks, IsSmall, StageBy, locks_by}

-- ---- each value by itself

-- A pool is one of its class, and no handle is there twice.
pub record PoolFits (chain : ℕ) (p : PoolState) : Type 0 where
  pub class : p.class < 255
  pub size : p.size ≡ class_size p.class
  pub frames : p.chain ≡ chain_of chain p.class
  pub per : p.per ≡ per_of chain p.class
  pub pool : IsPool p
  pub once : (h : ℕ) → sum_by (cell_weight (names h)) (used_cells p.zspages) ≤ 1

-- where no operation marks pages, a page is idle only where it was before the phase, and no call
-- stands in its order
abbrev pub MarkFits : Begin → ℕ → EntryState → Type 0
MarkFits g j e = is_marked_in g.given.actors ≡ false → e.idle ≡ true
    → (e.order ≡ []) × (g.idle j ≡ true)

-- An entry is that of a page, the calls of its order are carried out there, it was touched when it
-- was last, its mark is one of the phase, and its object is small.
pub record EntryFits (g : Begin) (j : ℕ) (e : EntryState) : Type 0 where
  pub page : j < g.given.size
  pub calls : AreCarried g j e.order
  pub touched : e.touched ≡ touched_by e.order g.clock (g.touched j)
  pub mark : MarkFits g j e
  pub small : IsSmall (weight_of e.kept)

-- The device is the one with which the phase began, with as many blocks, honest where it was. Its
-- counts haven't fallen, and those of calls aren't past their end.
pub record KeepsDevice (d e : DeviceState) : Type 0 where
  pub same : e.references ≡ d.references
  pub blocks : e.blocks ≡ d.blocks
  pub honest : IsHonestDevice d → IsHonestDevice e
  pub faults : d.faults ≤ e.faults
  pub reads : d.reads ≤ e.reads
  pub end : e.reads < 2 ^ 64
  pub writes : e.writes < 2 ^ 64

-- the value fits its place
abbrev pub Sound : Begin → ℕ → DiskHeld → Type 0
Sound g j (holds.Slot e) = EntryFits g j e
Sound g j (holds.Class p) = (j ≡ g.given.size + p.class) × PoolFits g.chain p
Sound g j (holds.Account c) = j ≡ g.given.size + 255
Sound g j (holds.Blocks x) = j ≡ g.given.size + 256
Sound g j (holds.Device x) = (j ≡ g.given.size + 257) × KeepsDevice g.device x

-- an entry's form is the one in which its page has to be kept
abbrev pub Stands : Begin → ℕ → DiskHeld → Type 0
Stands g j (holds.Slot e) = IsForm g.chain (form_at g j e.order) e.kept
Stands g j (holds.Class p) = ⊤
Stands g j (holds.Account c) = ⊤
Stands g j (holds.Blocks x) = ⊤
Stands g j (holds.Device x) = ⊤

-- an entry's page is on the device where it was before the phase and its order has reads alone
abbrev pub Backs : Begin → ℕ → DiskHeld → Type 0
Backs g j (holds.Slot e) = IsBack g e.kept (back_at g j e.order)
Backs g j (holds.Class p) = ⊤
Backs g j (holds.Account c) = ⊤
Backs g j (holds.Blocks x) = ⊤
Backs g j (holds.Device x) = ⊤

-- an entry is marked as it has to be
abbrev pub Marks : Begin → ℕ → DiskHeld → Type 0
Marks g j (holds.Slot e) = HasMarks g j e
Marks g j (holds.Class p) = ⊤
Marks g j (holds.Account c) = ⊤
Marks g j (holds.Blocks x) = ⊤
Marks g j (holds.Device x) = ⊤

-- A value at home fits its place, and its page is kept and marked as it has to be.
pub record AtHome (g : Begin) (j : ℕ) (v : DiskHeld) : Type 0 where
  pub sound : Sound g j v
  pub stands : Stands g j v
  pub backs : Backs g j v
  pub marks : Marks g j v

-- ---- each actor by itself

-- An actor is at its piece, with the locks and the parts that its stage has, and its pieces follow
-- its operations.
pub record IsActor (g : Begin) (a : ℕ) (l : Here) : Type 0 where
  pub who : l.actor ≡ a
  pub ops : List Op
  pub named : slice_get g.given.actors a ≡ Some ops
  pub follows : Follows (EndsSo (ground_of g)) (program g.given.size g.given.backed 0 ops) l.done l.todo
  pub locks : map (λ (x : LockNo × DiskHeld). x.0) l.held
      ≡ locks_by l.todo l.at (class_by (entry_in l.held).kept)
      (new_class g.chain l.todo l.page (entry_in l.held).kept)
  pub sound : HeldAll g.given.size (Sound g) l.held
  pub stage : StageBy g l.todo (entry_in l.held) l.at l.fresh l.pin l.owed l.ahead l.behind l.page
      l.fail
  -- what it holds, makes and owes leans on pages that were in the pool, and on itself for one
  -- object
  pub lean : held_sum (spot g.given.size) (claims g each_one) l.held + leaning l
      ≤ held_sum (spot g.given.size) (ever_at g) l.held + 1

-- ---- all of them

-- The joint rule.
pub record Joint (g : Begin) (w : State DiskHeld) : Type 0 where
  pub each : Each (AtHome g) (IsActor g) w
  pub row : length w.row ≡ g.given.size + 258
  pub actors : length w.locals ≡ length g.given.actors
  -- each place has one value, at home or with one actor
  pub alone : (k : ℕ) → total (spot g.given.size) (at_place k) none w ≤ 1
  pub found : (k : ℕ) → k < length w.row → 1 ≤ total (spot g.given.size) (at_place k) none w
  -- the objects that entries and actors name are those of the pools, each once, with their bytes
  pub owners : (f : Weigh) → total (spot g.given.size) (claims g f) (fresh_claim f) w
      ≡ total (spot g.given.size) (stored f) none w
  -- the blocks that the map has as taken are those in which pages are kept and those that writebacks
  -- have, each once
  pub blocks : (f : BlockWeigh) → total (spot g.given.size) (block_claims f) (block_uses f) w
      ≡ total (spot g.given.size) (used_blocks f) none w
  -- the map has no more blocks than the device
  pub size : total (spot g.given.size) map_size none w
      ≤ total (spot g.given.size) device_size none w
  -- where a page is kept in a block or was written there, the block has the page, if the device tells
  -- what it has
  pub disk : (b : ℕ) (bytes : List ℕ)
      → 0 < total (spot g.given.size) (lies_at g b bytes) (written_at b bytes) w
      → 0 < total (spot g.given.size) (stored_at b bytes) none w
  -- each mark is that of a writeback, which carries the page
  pub marks : (s b : ℕ) (bytes : List ℕ) → total (spot g.given.size) (mark_at g s b bytes) none w
      ≤ total (spot g.given.size) nothing (carried_at s b bytes) w
  -- where a writeback carries a page, its mark stands, or another actor's tag is in the page's order
  pub carriers : (a : ℕ) (l : Here) (s b : ℕ) → slice_get w.locals a ≡ Some l
      → carries l ≡ Some (s, b) → 1 ≤ total (spot g.given.size) (shows_at a s b) none w
  -- the cells that are out are those that actors have pinned
  pub pins : (f : PinWeigh) → total (spot g.given.size) (outs f) none w
      ≡ total (spot g.given.size) nothing (pinned f) w
  -- the account's frames are those of the pools and those that are owed
  pub frames : total (spot g.given.size) pages none w ≡ total (spot g.given.size) chains owing w
  -- what no event changes is as at the phase's start
  pub stays : (q : Fixed) → total (spot g.given.size) (fixed q) none w ≡ fixed_count q g.was
  -- its counters are the sums over entries
  pub counts : (q : Count) → total (spot g.given.size) (counters q) (behind q) w
      ≡ total (spot g.given.size) (shown q) (ahead q) w
