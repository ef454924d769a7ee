-- The state before the first turn of a phase, and the one between two phases.
use Rattle.std.specs.Prelude.{◌≡◌, ℕ, suc, ◌+◌, ◌*◌, ◌^◌, ◌<◌, ◌≤◌, true, false, List, [], ◌∷◌, length, Option, Some, None, slice_get}
use Rattle.zr_base.specs.declared.op.Op.{Op}
use Rattle.size_class.specs.Classes.{class_size, chain_of, per_of}
use Rattle.block_map.specs.declared.state.BlockState.{BlockState}
use Rattle.block_map.specs.declared.state.BlockState.TheVariants.{Free}
use Rattle.block_map.specs.BlockMap.{BlockMap}
use Rattle.backing_dev.specs.Dev.{DeviceState}
use Rattle.mem_account.specs.Counters.{Counters, no_counts}
use Rattle.plain_disk.specs.Phases.{held_after}
use Rattle.call_history.specs.Parts.{program}
use Rattle.lock_row.specs.declared.names.At.TheVariants.{Start}
use Rattle.lock_row.specs.declared.names.Held.TheVariants as holds
use Rattle.lock_row.specs.declared.names.State.{State}
use Rattle.lock_row.specs.Totals.{row_sum}
use Rattle.class_pool.specs.Pool.{PoolState}
use Rattle.slot_entry.specs.declared.kept.Kept.TheVariants as kept
use Rattle.slot_entry.specs.Entries.{EntryState, is_wb}
use Rattle.page_steps.specs.Steps.{DiskHeld, Here}
use Rattle.joint_rule.specs.Begins.{Begin, found_after}
use Rattle.joint_rule.specs.Weights.{Weigh, claims, stored, BlockWeigh, block_claims, used_blocks, map_size, device_size, lies_at, stored_at, PinWeigh, outs, pages, chains, Count, counters, shown, mosts, Refusal, refusal_counter, compactions, loose_pools, News, news_counter}
use Rattle.joint_rule.specs.Joint.{AtHome}
use Rattle.joint_rule.specs.Rule.{owed}

-- ---- rests and starts

-- A row with all values at home, and nothing under way: no page is under writeback.
pub record AtRest (g : Begin) (row : List (Option DiskHeld)) : Type 0 where
  pub size : length row ≡ g.given.size + 258
  pub whole : (k : ℕ) → k < length row → (v : DiskHeld) × (slice_get row k ≡ Some (Some v))
  pub home : (k : ℕ) (v : DiskHeld) → slice_get row k ≡ Some (Some v) → AtHome g k v
  pub owners : (f : Weigh) → row_sum (claims g f) row ≡ row_sum (stored f) row
  pub blocks : (f : BlockWeigh) → row_sum (block_claims f) row ≡ row_sum (used_blocks f) row
  pub fits : row_sum map_size row ≤ row_sum device_size row
  pub disk : (b : ℕ) (bytes : List ℕ) → 0 < row_sum (lies_at g b bytes) row
      → 0 < row_sum (stored_at b bytes) row
  pub pins : (f : PinWeigh) → row_sum (outs f) row ≡ 0
  pub unmarked : (k : ℕ) (e : EntryState) → slice_get row k ≡ Some (Some (holds.Slot e))
      → e.under ≡ None
  pub frames : row_sum pages row ≡ row_sum chains row
  pub counts : (q : Count) → row_sum (counters q) row ≡ row_sum (shown q) row
  -- the account's maximum isn't below its frames, and no counter is past its end
  pub most : row_sum pages row ≤ row_sum mosts row
  pub refusals : (q : Refusal) → row_sum (refusal_counter q) row < 2 ^ 64
  pub compacted : row_sum compactions row < 2 ^ 64
  pub news : (q : News) → row_sum (news_counter q) row < 2 ^ 64

-- An actor before its first turn.
pub record Starts (g : Begin) (a : ℕ) (l : Here) : Type 0 where
  pub who : l.actor ≡ a
  pub ops : List Op
  pub named : slice_get g.given.actors a ≡ Some ops
  pub at : l.at ≡ Start
  pub todo : l.todo ≡ program g.given.size g.given.backed 0 ops
  pub held : l.held ≡ []
  pub done : l.done ≡ []
  pub fresh : l.fresh ≡ None
  pub pin : l.pin ≡ None
  pub owed : l.owed ≡ 0
  pub ahead : l.ahead ≡ None
  pub behind : l.behind ≡ None
  pub page : l.page ≡ None
  pub fail : l.fail ≡ None

-- The map of blocks is as the phase finds it: so many blocks, and so many writes that are left.
pub record IsMapOf (g : Begin) (x : BlockMap) : Type 0 where
  pub blocks : length x.states ≡ g.blocks
  pub budget : x.budget ≡ g.budget
  pub budgeted : x.enabled ≡ g.budgeted

-- The state before the first turn: orders are empty, with room for the phase's pieces, and the marks,
-- the account, the device and the map of blocks are as the phase finds them.
pub record IsStart (g : Begin) (w : State DiskHeld) : Type 0 where
  pub rest : AtRest g w.row
  pub orders : (k : ℕ) (e : EntryState) → slice_get w.row k ≡ Some (Some (holds.Slot e))
      → (e.order ≡ []) × (owed g.given.size w.locals k ≤ e.room)
  pub marks : (k : ℕ) (e : EntryState) → slice_get w.row k ≡ Some (Some (holds.Slot e))
      → e.idle ≡ g.idle k
  pub backs : (k : ℕ) (e : EntryState) → slice_get w.row k ≡ Some (Some (holds.Slot e))
      → is_wb e.kept ≡ g.back k
  pub account : (k : ℕ) (c : Counters) → slice_get w.row k ≡ Some (Some (holds.Account c))
      → c ≡ g.was
  pub device : (k : ℕ) (d : DeviceState) → slice_get w.row k ≡ Some (Some (holds.Device d))
      → d ≡ g.device
  pub map : (k : ℕ) (x : BlockMap) → slice_get w.row k ≡ Some (Some (holds.Blocks x)) → IsMapOf g x
  pub actors : (a : ℕ) (l : Here) → slice_get w.locals a ≡ Some l → Starts g a l
  pub count : length w.locals ≡ length g.given.actors
  pub tight : g.tight ≡ true → row_sum loose_pools w.row ≡ 0

-- ---- from one phase to the next

-- An entry whose order is emptied, beside a phase that begins with what the calls of the order
-- left.
pub record IsRenewed (g h : Begin) (j : ℕ) (e f : EntryState) : Type 0 where
  pub kept : f.kept ≡ e.kept
  pub order : f.order ≡ []
  pub under : f.under ≡ e.under
  pub idle : f.idle ≡ e.idle
  pub mark : h.idle j ≡ e.idle
  pub touched : f.touched ≡ e.touched
  pub time : h.touched j ≡ e.touched
  pub blank : h.blank j ≡ (found_after g j e.order).blank
  pub back : h.back j ≡ is_wb e.kept
  pub before : (k : ℕ) → k < 8
      → h.given.before (8 * j + k) ≡ held_after g.given j e.order (8 * j + k)

-- What lies between two phases does this to a value: orders are emptied; the account's limit and its
-- maximum may change, where this stays at its frames or above; so may the budget of the map of blocks;
-- and the second phase begins with the device.
pub data Renewed (g h : Begin) (j : ℕ) (v u : DiskHeld) : Type 0 where
  slots : (e f : EntryState) → v ≡ holds.Slot e → u ≡ holds.Slot f → IsRenewed g h j e f
      → Renewed g h j v u
  accounts : (c d : Counters) → v ≡ holds.Account c → u ≡ holds.Account d
      → d ≡ record c { limit = d.limit; most = d.most } → (c.pages ≤ c.most → c.pages ≤ d.most)
      → Renewed g h j v u
  pools : (p : PoolState) → v ≡ holds.Class p → u ≡ holds.Class p → Renewed g h j v u
  maps : (x y : BlockMap) → v ≡ holds.Blocks x → u ≡ holds.Blocks y → y.states ≡ x.states
      → Renewed g h j v u
  devices : (d : DeviceState) → v ≡ holds.Device d → u ≡ holds.Device d → h.device ≡ d
      → Renewed g h j v u

-- the values of two rows, place by place
abbrev pub Matched : (ℕ → DiskHeld → DiskHeld → Type 0) → List (Option DiskHeld)
    → List (Option DiskHeld) → Type 0
Matched R [] [] = Unit {0}
Matched R [] (y ∷ ys) = ⊥
Matched R (x ∷ xs) [] = ⊥
Matched R (None ∷ xs) (y ∷ ys) = ⊥
Matched R (Some v ∷ xs) (None ∷ ys) = ⊥
Matched R (Some v ∷ xs) (Some u ∷ ys) = R 0 v u × Matched (λ j. R (suc j)) xs ys

-- The second phase begins with the disk of the first, at the same limit on chains.
pub record IsNextDisk (g h : Begin) : Type 0 where
  pub size : h.given.size ≡ g.given.size
  pub chain : h.chain ≡ g.chain

-- ---- a new disk

-- each block is free
abbrev pub AreFree : List BlockState → Type 0
AreFree states = (b : ℕ) (s : BlockState) → slice_get states b ≡ Some s → s ≡ Free

-- a value of a disk on which nothing was ever written
abbrev pub IsNew : Begin → ℕ → DiskHeld → Type 0
IsNew g j (holds.Slot e) = (j < g.given.size) × (e.kept ≡ kept.Empty) × (e.order ≡ [])
    × (e.under ≡ None) × (e.idle ≡ false) × (e.touched ≡ g.touched j) × (g.blank j ≡ true)
    × (g.back j ≡ false) × (g.idle j ≡ false)
IsNew g j (holds.Class p) = (j ≡ g.given.size + p.class) × (p.class < 255)
    × (p ≡ record {
      class = p.class;
      size = class_size p.class;
      chain = chain_of g.chain p.class;
      per = per_of g.chain p.class;
      zspages = [];
    })
IsNew g j (holds.Account c) = (j ≡ g.given.size + 255) × (c ≡ record no_counts { limit = c.limit })
IsNew g j (holds.Blocks x) = (j ≡ g.given.size + 256) × AreFree x.states
    × (length x.states ≤ g.device.blocks)
IsNew g j (holds.Device x) = (j ≡ g.given.size + 257) × (x ≡ g.device) × (x.reads < 2 ^ 64)
    × (x.writes < 2 ^ 64)
