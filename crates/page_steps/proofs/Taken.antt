-- What a taken value is, by the stage of the call that takes it.
use Rattle.std.proofs.Common.{◌≡◌, ℕ, ◌<◌, Bool, true, false, [], length, Option, Some, None, refl, sym, ap, ◌∙◌, subst}
use Rattle.std.specs.Prelude.{slice_get}
use Rattle.zr_base.specs.Plain.{is_beyond}
use Rattle.class_pool.specs.Pool.{PoolState, IsLent}
use Rattle.mem_account.specs.Counters.{Counters}
use Rattle.block_map.specs.declared.state.BlockState.TheVariants.{Owned}
use Rattle.block_map.specs.BlockMap.{BlockMap}
use Rattle.backing_dev.specs.Dev.{DeviceState}
use Rattle.mem_account.specs.declared.weight.Weight.{Weight}
use Rattle.lock_row.specs.declared.names.LockNo.TheVariants as lock
use Rattle.lock_row.specs.declared.names.Held.TheVariants as holds
use Rattle.lock_row.specs.declared.names.At.{At}
use Rattle.lock_row.specs.declared.names.At.TheVariants as at
use Rattle.slot_entry.specs.declared.kept.Stored.{Stored}
use Rattle.slot_entry.specs.declared.kept.Kept.{Kept}
use Rattle.slot_entry.specs.declared.kept.Kept.TheVariants as kept
use Rattle.slot_entry.specs.Entries.{EntryState, weight_of}
use Rattle.slot_entry.specs.Forms.{PageForm, form_weight}
use Rattle.page_steps.specs.Pages.{next_form}
use Rattle.page_steps.specs.Steps.{DiskHeld, Here, with_lock, class_by, begun_at, entry_or, entry_in, lock_of, start_plan}
use Rattle.page_steps.specs.Nexts.{entering}
use Rattle.page_steps.specs.Givings.{old_weight}
use Rattle.page_steps.specs.Fits.{AsSlot, AsPool, AsAccount, AsBlocks, AsDevice, CanPin, CanStore, CanCharge, CanPay, HasPlace, StartFits, PinFits, FetchFits, ReleaseFits, StoreFits, FreeFits}
use Rattle.page_steps.specs.Calls.{here, IsOwn, IsNew, IsToPut, CanFree, bytes_by, page_if, is_count, pin_by}
use Rattle.page_steps.specs.Turns.{FitsSome, TakesAs, asking, wanting}
use Rattle.page_steps.specs.declared.stage.Head.{Head}
use Rattle.page_steps.specs.declared.stage.Scratch.{Scratch}
use Rattle.page_steps.specs.declared.stage.Lent.{Lent}
use Rattle.page_steps.specs.declared.stage.Own.{Own}
use Rattle.page_steps.specs.declared.stage.New.{New}
use Rattle.page_steps.specs.declared.stage.Due.{Due}
use Rattle.page_steps.specs.declared.stage.PieceEnd.{PieceEnd}
use Rattle.page_steps.specs.declared.stage.Stage.TheVariants as stage
use Rattle.page_steps.proofs.Plans.{AnyDevice, next_is, plan_is}

-- ---- the kind of a value

pub slot_in : (P : EntryState → Type 0) {v : DiskHeld} → AsSlot P v
    → (e : EntryState) × (v ≡ holds.Slot e)
slot_in P {v = holds.Slot e} fits = (e, refl)
slot_in P {v = v} fits = absurd fits

pub pool_in : (P : PoolState → Type 0) {v : DiskHeld} → AsPool P v
    → (q : PoolState) × (v ≡ holds.Class q)
pool_in P {v = holds.Class q} fits = (q, refl)
pool_in P {v = v} fits = absurd fits

pub account_in : (P : Counters → Type 0) {v : DiskHeld} → AsAccount P v
    → (a : Counters) × (v ≡ holds.Account a)
account_in P {v = holds.Account a} fits = (a, refl)
account_in P {v = v} fits = absurd fits

pub blocks_in : (P : BlockMap → Type 0) {v : DiskHeld} → AsBlocks P v
    → (x : BlockMap) × (v ≡ holds.Blocks x)
blocks_in P {v = holds.Blocks x} fits = (x, refl)
blocks_in P {v = v} fits = absurd fits

pub device_in : (P : DeviceState → Type 0) {v : DiskHeld} → AsDevice P v
    → (d : DeviceState) × (v ≡ holds.Device d)
device_in P {v = holds.Device d} fits = (d, refl)
device_in P {v = v} fits = absurd fits

-- ---- what fits

pub fits_start : (c : Head) (r : Scratch) (v : DiskHeld) → is_count c.work ≡ false
    → FitsSome {D = AnyDevice} c r stage.Start v → AsSlot HasPlace v
fits_start c r v piece (x, w, fits) =
    subst (λ (b : Bool). StartFits x.terms x.part.op false b v) (w.beyond ∙ piece)
    (subst (λ (b : Bool). StartFits x.terms x.part.op b (is_beyond x.terms.size x.part.op) v)
    w.request fits)

pub fits_beyond : (c : Head) (r : Scratch) (v : DiskHeld) → is_count c.work ≡ true
    → FitsSome {D = AnyDevice} c r stage.Beyond v → AsAccount (λ a. Unit {0}) v
fits_beyond c r v count (x, w, fits) =
    subst (λ (b : Bool). StartFits x.terms x.part.op false b v) (w.beyond ∙ count)
    (subst (λ (b : Bool). StartFits x.terms x.part.op b (is_beyond x.terms.size x.part.op) v)
    w.request fits)

pub fits_seen : (c : Head) (r : Scratch) (e : EntryState) (o : Stored) (v : DiskHeld)
    → e.kept ≡ kept.Obj o → FitsSome {D = AnyDevice} c r (stage.Seen e o) v → AsPool (CanPin o) v
fits_seen c r e o v is (x, w, fits) = subst (λ (k : Kept). PinFits k v) is fits

pub fits_pinned : (c : Head) (r : Scratch) (e : EntryState) (y : Lent) (end : Option PieceEnd)
    (v : DiskHeld) → FitsSome {D = AnyDevice} c r (stage.Pinned e y end) v
    → AsPool (λ q. IsLent q y.object.handle.0 y.cell) v
fits_pinned c r e y end v (x, w, fits) = fits

pub fits_away : (c : Head) (r : Scratch) (e : EntryState) (b : ℕ) (v : DiskHeld)
    → e.kept ≡ kept.Wb b → FitsSome {D = AnyDevice} c r (stage.Away e b) v → AsDevice (λ d. b < d.blocks) v
fits_away c r e b v is (x, w, fits) = subst (λ (k : Kept). FetchFits k v) is fits

pub fits_failing : (c : Head) (r : Scratch) (e : EntryState) (fault : ℕ) (v : DiskHeld)
    → FitsSome {D = AnyDevice} c r (stage.Failing e fault) v → AsAccount (λ a. Unit {0}) v
fits_failing c r e fault v (x, w, fits) = fits

pub fits_backed : (c : Head) (r : Scratch) (own : Own) (b : ℕ) (next : Kept)
    (v : DiskHeld) → own.entry.kept ≡ kept.Wb b → FitsSome {D = AnyDevice} c r (stage.Backed own b next) v
    → AsBlocks (λ m. slice_get m.states b ≡ Some Owned) v
fits_backed c r own b next v is (x, w, fits) = subst (λ (k : Kept). ReleaseFits k v) is fits

pub fits_wanting : (c : Head) (r : Scratch) (own : Own) (new : New) (v : DiskHeld) → IsOwn c r own
    → IsNew c r new → FitsSome {D = AnyDevice} c r (stage.Wanting own new) v
    → AsPool (CanStore r.table (length (bytes_by r new.huge))) v
fits_wanting c r own new v o n (x, w, fits) =
    subst (λ (chain : ℕ). AsPool (CanStore chain (length (bytes_by r new.huge))) v) (sym w.chain)
    (subst (λ (f : PageForm). StoreFits x.terms.chain f v)
    (next_is c r x w o.piece (page_if r own.read) own.entry.kept o.due ∙ n.form) fits)

pub fits_inside : (c : Head) (r : Scratch) (own : Own) (new : New) (q : PoolState) (v : DiskHeld)
    → FitsSome {D = AnyDevice} c r (stage.Inside own new q) v → AsAccount (CanCharge r.table) v
fits_inside c r own new q v (x, w, fits) =
    subst (λ (chain : ℕ). AsAccount (CanCharge chain) v) (sym w.chain) fits

pub fits_old : (c : Head) (r : Scratch) (own : Own) (o : Stored) (next : Kept) (v : DiskHeld)
    → own.entry.kept ≡ kept.Obj o → FitsSome {D = AnyDevice} c r (stage.Old own o next) v
    → AsPool (CanFree own.lent o) v
fits_old c r own o next v is (x, w, fits) =
    by own.lent (subst (λ (k : Kept). FreeFits k (pin_by own.lent) v) is fits) where
      by : (lent : Option Lent) → FreeFits (kept.Obj o) (pin_by lent) v → AsPool (CanFree lent o) v
      by None fits = fits
      by (Some y) fits = fits

pub fits_owing : (c : Head) (r : Scratch) (due : Due) (frames : ℕ) (ahead : Option Weight)
    (v : DiskHeld) → IsToPut c r due → FitsSome {D = AnyDevice} c r (stage.Owing due frames ahead) v
    → AsAccount (CanPay frames (old_weight ahead due.entry.kept) (weight_of due.next)) v
fits_owing c r due frames ahead v put (x, w, fits) =
    subst (λ (n : Weight). AsAccount (CanPay frames (old_weight ahead due.entry.kept) n) v)
    (ap form_weight (next_is c r x w put.piece (page_if r due.read) due.entry.kept put.due)
    ∙ sym put.next.weight) fits

-- ---- the local after a take

-- the pool of the old object
pub took_old : (l : Here) (a : At) (k : Kept) (o : Stored) (v : DiskHeld) (q : PoolState)
    → k ≡ kept.Obj o → v ≡ holds.Class q
    → with_lock l a (lock.Class o.class) (holds.Class q) ≡ with_lock l a (lock.Class (class_by k)) v
took_old l a k o v q is v_is = λ i. with_lock l a (lock.Class (class_by (sym is i))) (sym v_is i)

-- ---- which local a take may name

-- a request beyond the disk takes the account
pub asks : (c : Head) (r : Scratch) → is_count c.work ≡ true → TakesAs {D = AnyDevice} c r stage.Beyond asking
asks c r count x v w =
    let e = sym (w.beyond ∙ count) in
    let d = sym w.request in
    λ i. with_lock (here {D = AnyDevice} x r stage.Beyond)
    (begun_at (d i) (e i) x.part (next_form x.part None (entry_or v (entry_in [])).kept)
    (entry_or v (entry_in [])))
    (lock_of (start_plan (d i) (e i) x.part)) v

-- a piece on the disk takes its slot
pub enters : (c : Head) (r : Scratch) → is_count c.work ≡ false → TakesAs {D = AnyDevice} c r stage.Start entering
enters c r piece x v w =
    let e = sym (w.beyond ∙ piece) in
    let d = sym w.request in
    λ i. with_lock (here {D = AnyDevice} x r stage.Start)
    (begun_at (d i) (e i) x.part (next_form x.part None (entry_or v (entry_in [])).kept)
    (entry_or v (entry_in [])))
    (lock_of (start_plan (d i) (e i) x.part)) v

-- a new object's class is taken
pub wants : (c : Head) (r : Scratch) (own : Own) (new : New) → IsOwn c r own → IsNew c r new
    → TakesAs {D = AnyDevice} c r (stage.Wanting own new) (wanting new.class)
wants c r own new o n x v w =
    ap (λ p. with_lock (here {D = AnyDevice} x r (stage.Wanting own new)) at.Inside (lock_of p) v)
    (sym (plan_is {D = AnyDevice} c r x (stage.Wanting own new) (o, n) tt w))
