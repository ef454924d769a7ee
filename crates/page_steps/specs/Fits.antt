-- What a value has to be for an actor to go on with it, by the stage at which the actor takes it.
use Rattle.std.specs.Prelude.{◌≡◌, ℕ, ◌+◌, ◌-◌, ◌<◌, ◌≤◌, ◌^◌, ⊤, Bool, true, false, Contains, List, [], ◌∷◌, length, Option, Some, None, slice_get}
use Rattle.zr_base.specs.declared.op.Op.{Op}
use Rattle.zr_base.specs.declared.op.Op.TheVariants.{Idle, Writeback}
use Rattle.zr_base.specs.Plain.{is_beyond, is_maintenance}
use Rattle.zspage.specs.Cells.{CellState, UsedCell}
use Rattle.zspage.specs.Cells.{Fits as CellFits}
use Rattle.class_pool.specs.Pool.{PoolState, used_cells, IsAtHome, IsLent, IsPool}
use Rattle.mem_account.specs.Counters.{Counters, IsCounted, HasFittingSizes, counted}
use Rattle.mem_account.specs.declared.weight.Weight.{Weight}
use Rattle.mem_account.specs.declared.weight.Weight.TheVariants as weights
use Rattle.mem_account.specs.declared.weight.Delta.TheVariants as delta
use Rattle.bdi_page.specs.Packing.{IsPage}
use Rattle.block_map.specs.declared.state.BlockState.TheVariants.{Held, Owned}
use Rattle.block_map.specs.BlockMap.{BlockMap}
use Rattle.backing_dev.specs.Dev.{DeviceState}
use Rattle.call_history.specs.declared.part.Part.{Part}
use Rattle.lock_row.specs.declared.names.Held.TheVariants as holds
use Rattle.lock_row.specs.declared.names.At.{At}
use Rattle.lock_row.specs.declared.names.At.TheVariants as at
use Rattle.lock_row.specs.declared.names.Pin.{Pin}
use Rattle.lock_row.specs.declared.names.Step.{Step}
use Rattle.lock_row.specs.declared.names.Step.TheVariants as step
use Rattle.lock_row.specs.declared.names.Trip.{Trip}
use Rattle.slot_entry.specs.declared.kept.Stored.{Stored}
use Rattle.slot_entry.specs.declared.kept.Kept.{Kept}
use Rattle.slot_entry.specs.declared.kept.Kept.TheVariants as kept
use Rattle.slot_entry.specs.Entries.{EntryState, is_obj}
use Rattle.slot_entry.specs.Forms.{PageForm, Pooled, form_of, form_weight}
use Rattle.page_steps.specs.Pages.{next_form}
use Rattle.page_steps.specs.Steps.{Terms, DiskHeld, Here, entry_in, is_mark_of}
use Rattle.page_steps.specs.Givings.{old_weight}
use Rattle.page_steps.specs.Compactions.{repaid}

-- The bytes of an object are those of a page in the pool.
pub record IsKept (o : Stored) (bytes : List ℕ) : Type 0 where
  pub len : o.len ≡ length bytes
  pub page : List ℕ
  pub is_page : IsPage page
  pub form : form_of page ≡ Pooled bytes o.huge

-- The pool has the object at home, with a page's bytes.
pub record CanPin (o : Stored) (q : PoolState) : Type 0 where
  pub home : IsAtHome q o.handle.0
  pub kept : (u : UsedCell) → Contains (used_cells q.zspages) u → u.handle ≡ o.handle.0
      → IsKept o u.bytes

-- A new object of so many bytes may be put into the pool.
pub record CanStore (chain len : ℕ) (q : PoolState) : Type 0 where
  pub pool : IsPool q
  pub few : length (used_cells q.zspages) < 2 ^ 32 - 1
  pub fits : CellFits len q.size
  pub chain_fits : q.chain ≤ chain

-- the account has room for the charge of a chain
abbrev pub CanCharge : ℕ → Counters → Type 0
CanCharge chain c = c.pages + chain < 2 ^ 52

-- So many frames may be given back, and a page counted.
pub record CanPay (frames : ℕ) (old new : Weight) (c : Counters) : Type 0 where
  pub pays : frames ≤ c.pages
  pub old_one : IsCounted (repaid c frames) old
  pub sizes : HasFittingSizes (counted (repaid c frames) (delta.Kept old new))

-- A tag may be noted.
pub record HasPlace (e : EntryState) : Type 0 where
  pub room : 0 < e.room
  pub few : length e.order < 2 ^ 32

-- the value is an entry of which this holds
abbrev pub AsSlot : (EntryState → Type 0) → DiskHeld → Type 0
AsSlot P (holds.Slot e) = P e
AsSlot P _ = ⊥

-- the value is a pool of which this holds
abbrev pub AsPool : (PoolState → Type 0) → DiskHeld → Type 0
AsPool P (holds.Class q) = P q
AsPool P _ = ⊥

-- the value is the account, of which this holds
abbrev pub AsAccount : (Counters → Type 0) → DiskHeld → Type 0
AsAccount P (holds.Account c) = P c
AsAccount P _ = ⊥

-- the value is the map of blocks, of which this holds
abbrev pub AsBlocks : (BlockMap → Type 0) → DiskHeld → Type 0
AsBlocks P (holds.Blocks x) = P x
AsBlocks P _ = ⊥

-- the value is the device, of which this holds
abbrev pub AsDevice : (DeviceState → Type 0) → DiskHeld → Type 0
AsDevice P (holds.Device d) = P d
AsDevice P _ = ⊥

-- the cell that an actor has pinned
abbrev pub cell_of : Pin → CellState
cell_of x = record { chain = x.chain; number = x.number; size = x.size; bytes = x.bytes }

-- the pool of a class that is compacted: its chains have at most so many frames
abbrev pub SweepFits : ℕ → DiskHeld → Type 0
SweepFits chain v = AsPool (λ q. q.chain ≤ chain) v

-- the entry of a page that may be marked: it was touched at this time or before
abbrev pub ScanFits : ℕ → DiskHeld → Type 0
ScanFits clock v = AsSlot (λ e. e.touched ≤ clock) v

-- the entry of a page that a writeback takes
abbrev pub TripFits : DiskHeld → Type 0
TripFits v = AsSlot (λ e. ⊤) v

-- the first value of what is no request
abbrev pub FirstFits : Terms → Op → DiskHeld → Type 0
FirstFits t (Idle age) v = ScanFits t.clock v
FirstFits t (Writeback m) v = TripFits v
FirstFits t _ v = SweepFits t.chain v

-- the first value of a piece: that of what is no request, the account for a request beyond the disk, or
-- else the page's entry
abbrev pub StartFits : Terms → Op → Bool → Bool → DiskHeld → Type 0
StartFits t op true beyond v = FirstFits t op v
StartFits t op false true v = AsAccount (λ c. ⊤) v
StartFits t op false false v = AsSlot HasPlace v

-- the pool of an object that is to be pinned
abbrev pub PinFits : Kept → DiskHeld → Type 0
PinFits (kept.Obj o) v = AsPool (CanPin o) v
PinFits _ v = ⊤

-- the device from which a page is to be read: it has the page's block
abbrev pub FetchFits : Kept → DiskHeld → Type 0
FetchFits (kept.Wb b) v = AsDevice (λ d. b < d.blocks) v
FetchFits _ v = ⊤

-- the map in which a page's block is to be freed: the page owns it
abbrev pub ReleaseFits : Kept → DiskHeld → Type 0
ReleaseFits (kept.Wb b) v = AsBlocks (λ x. slice_get x.states b ≡ Some Owned) v
ReleaseFits _ v = ⊤

-- the pool whose cell is pinned
abbrev pub PinnedFits : Option Pin → DiskHeld → Type 0
PinnedFits (Some x) v = AsPool (λ q. IsLent q x.handle (cell_of x)) v
PinnedFits None v = ⊤

-- the pool of an object that is to be freed: the object is at home, or pinned by this actor
abbrev pub FreeFits : Kept → Option Pin → DiskHeld → Type 0
FreeFits (kept.Obj o) None v = AsPool (λ q. IsAtHome q o.handle.0) v
FreeFits (kept.Obj o) (Some x) v = AsPool (λ q. IsLent q x.handle (cell_of x)) v
FreeFits _ pin v = ⊤

-- the pool of a new object
abbrev pub StoreFits : ℕ → PageForm → DiskHeld → Type 0
StoreFits chain (Pooled bytes huge) v = AsPool (CanStore chain (length bytes)) v
StoreFits chain _ v = ⊤

-- the device to which a page is to be written: it has the block
abbrev pub WriteFits : Option ℕ → DiskHeld → Type 0
WriteFits None v = ⊤
WriteFits (Some b) v = AsDevice (λ d. b < d.blocks) v

-- the entry that a writeback takes again: where its mark still stands, the page is in the pool
abbrev pub LandFits : Option ℕ → DiskHeld → Type 0
LandFits block v = AsSlot (λ e. is_mark_of block e.under ≡ true → is_obj e.kept ≡ true) v

-- the map of a block that a writeback has reserved
abbrev pub HeldFits : Option ℕ → DiskHeld → Type 0
HeldFits None v = ⊤
HeldFits (Some b) v = AsBlocks (λ y. slice_get y.states b ≡ Some Held) v

-- a value that a writeback takes at a step
abbrev pub VisitFits : Step → Trip → EntryState → Option Pin → ℕ → Option Weight → DiskHeld → Type 0
VisitFits step.Arriving x e pin owed ahead v = TripFits v
VisitFits step.Asking x e pin owed ahead v = AsBlocks (λ y. ⊤) v
VisitFits step.Seen x e pin owed ahead v = PinFits e.kept v
VisitFits step.Pinned x e pin owed ahead v = PinnedFits pin v
VisitFits step.Flying x e pin owed ahead v = WriteFits x.block v
VisitFits step.Landing x e pin owed ahead v = LandFits x.block v
VisitFits step.Won x e pin owed ahead v = FreeFits e.kept None v
VisitFits step.Backing x e pin owed ahead v = HeldFits x.block v
VisitFits step.Owing x e pin owed ahead v =
    AsAccount (CanPay owed (old_weight ahead e.kept) weights.Back) v
VisitFits step.Undoing x e pin owed ahead v = HeldFits x.block v
VisitFits s x e pin owed ahead v = ⊤

-- a value that a piece takes at its stage
abbrev pub FitsAt : Terms → At → Part → EntryState → Option Pin → ℕ → Option Weight
    → Option (List ℕ) → DiskHeld → Type 0
FitsAt t at.Start p e pin owed ahead page v =
    StartFits t p.op (is_maintenance p.op) (is_beyond t.size p.op) v
FitsAt t at.Seen p e pin owed ahead page v = PinFits e.kept v
FitsAt t at.Pinned p e pin owed ahead page v = PinnedFits pin v
FitsAt t at.Away p e pin owed ahead page v = FetchFits e.kept v
FitsAt t at.Failing p e pin owed ahead page v = AsAccount (λ c. ⊤) v
FitsAt t at.Wanting p e pin owed ahead page v = StoreFits t.chain (next_form p page e.kept) v
FitsAt t at.Inside p e pin owed ahead page v = AsAccount (CanCharge t.chain) v
FitsAt t at.Old p e pin owed ahead page v = FreeFits e.kept pin v
FitsAt t at.Backed p e pin owed ahead page v = ReleaseFits e.kept v
FitsAt t at.Owing p e pin owed ahead page v =
    AsAccount (CanPay owed (old_weight ahead e.kept) (form_weight (next_form p page e.kept))) v
FitsAt t (at.Scanning x) p e pin owed ahead page v = ScanFits t.clock v
FitsAt t (at.Visiting s x) p e pin owed ahead page v = VisitFits s x e pin owed ahead v
FitsAt t (at.Sweeping x) p e pin owed ahead page v = SweepFits t.chain v
FitsAt t (at.Shrunk x) p e pin owed ahead page v = AsAccount (λ c. owed ≤ c.pages) v
FitsAt t _ p e pin owed ahead page v = ⊤

-- a value that an actor with these pieces to do takes
abbrev pub FitsBy : Terms → Here → List Part → DiskHeld → Type 0
FitsBy t l [] v = ⊤
FitsBy t l (p ∷ ps) v = FitsAt t l.at p (entry_in l.held) l.pin l.owed l.ahead l.page v

-- a value that an actor takes at its stage
abbrev pub StageFits : Terms → Here → DiskHeld → Type 0
StageFits t l v = FitsBy t l l.todo v
