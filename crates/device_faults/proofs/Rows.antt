-- When a call may make its next event on the row of a disk.
use Rattle.std.proofs.Common.{◌≡◌, ℕ, zero, suc, ◌+◌, ◌<◌, Bool, true, false, List, [], ◌∷◌, length, Option, Some, None, slice_get, slice_set, refl, sym, ap, ◌∙◌, subst, arith}
use Rattle.std.proofs.lemmas.List.{length-set}
use Rattle.std.specs.Prelude.{⊤}
use Rattle.zr_base.specs.Plain.{is_beyond, is_maintenance}
use Rattle.lock_row.specs.declared.names.LockNo.{LockNo}
use Rattle.lock_row.specs.declared.names.LockNo.TheVariants as lock
use Rattle.lock_row.specs.declared.names.Held.TheVariants as holds
use Rattle.lock_row.specs.declared.names.Plan.{Plan}
use Rattle.lock_row.specs.declared.names.Plan.TheVariants.{Take, Give}
use Rattle.lock_row.specs.Rows.{IsIn, at_home, cell, place_in, with_cell}
use Rattle.slot_entry.specs.declared.kept.Kept.{Kept}
use Rattle.slot_entry.specs.declared.kept.Kept.TheVariants as kept
use Rattle.slot_entry.specs.Entries.{EntryState}
use Rattle.page_steps.specs.declared.stage.Head.{Head}
use Rattle.page_steps.specs.declared.stage.Scratch.{Scratch}
use Rattle.page_steps.specs.declared.stage.Stage.{Stage}
use Rattle.page_steps.specs.declared.stage.Stage.TheVariants as stage
use Rattle.page_steps.specs.declared.stage.Progress.{Progress}
use Rattle.page_steps.specs.Steps.{Terms, DiskHeld, Here, slot}
use Rattle.page_steps.specs.Nexts.{Next}
use Rattle.page_steps.specs.Turns.{Turned, waited, took_it, gave_it}
use Rattle.lock_row.specs.Hands.{IsTaken, IsMissed, IsGiven}
use Rattle.page_steps.specs.Calls.{IsFit, IsGoing, is_count, next_event}
use Rattle.page_steps.specs.Fits.{HasPlace, AsSlot, AsAccount, StartFits, FetchFits}
use Rattle.device_faults.specs.OnePage.{Locks, locks, IsDisk, HasRoom, HasAccount, HasBlock, DoesWork, CanGo, IsReady, away, fetching, failing, counting, missed, leaving}

there : {A : Type 0} (xs : List A) (i : ℕ) → i < length xs → (x : A) × (slice_get xs i ≡ Some x)
there [] i lt = absurd (omega arith)
there (x ∷ xs) zero lt = (x, refl)
there (x ∷ xs) (suc i) lt = there xs i (omega arith)

-- ---- the row

pub in_disk : (row : Locks) → IsDisk row → (k : LockNo) → place_in locks k < 4 → IsIn row k
in_disk row is k lt = there row.cells (place_in row.names k)
    (let n = ap (λ (ks : List LockNo). place_in ks k) is.names in let c = is.cells in omega arith)

pub disk_with : (row : Locks) (k : LockNo) (x : Option DiskHeld) → IsDisk row
    → IsDisk (with_cell row k x)
disk_with row k x is = record {
  names = is.names;
  cells = length-set row.cells (place_in row.names k) x ∙ is.cells;
}

-- ---- the next event

pub same_take : (k m : LockNo) → Take k ≡ Take m → k ≡ m
same_take k m e = cc

same_give : (k m : LockNo) → Give k ≡ Give m → k ≡ m
same_give k m e = cc

pub same_value : (row : Locks) (k m : LockNo) (u v : DiskHeld) → k ≡ m → cell row k ≡ Some (Some u)
    → cell row m ≡ Some (Some v) → v ≡ u
same_value row k m u v e at is =
    let q : Some (Some v) ≡ Some (Some u) = sym is ∙ ap (cell row) (sym e) ∙ at in cc

module _ {D : Type 0} (c : Head) (r : Scratch) where
  pub gives_of : (s : Stage D) (row : Locks) (k : LockNo) → next_event c s ≡ Give k
      → cell row k ≡ Some None → CanGo c r s row
  gives_of s row k what out = record {
    take = λ m e. absurd (let q : Give k ≡ Take m = sym what ∙ e in cc);
    fits = λ m v e at. absurd (let q : Give k ≡ Take m = sym what ∙ e in cc);
    give = λ m e. ap (cell row) (same_give m k (sym e ∙ what)) ∙ out;
  }

  pub starts_of : (row : Locks) → c.piece.page.0 ≡ 0 → IsFit {D = D} c r stage.Start → DoesWork c r
      → IsDisk row → HasRoom row → CanGo {D = D} c r stage.Start row
  starts_of row page fit work disk room =
      let first : slot c.piece.page.0 ≡ slot 0 = ap slot page in record {
        take = λ k e. subst (IsIn row) (sym first ∙ same_take (slot c.piece.page.0) k e)
            (in_disk row disk (slot 0) (omega arith));
        fits = λ k v e at. (
          work.0,
          work.1,
          subst (λ (b : Bool). StartFits work.0.terms work.0.part.op b
              (is_beyond work.0.terms.size work.0.part.op) v) (sym work.1.request)
              (subst (λ (b : Bool). StartFits work.0.terms work.0.part.op false b v)
              (sym (work.1.beyond ∙ fit.0))
              (room v (ap (cell row)
              (sym first ∙ same_take (slot c.piece.page.0) k e) ∙ at))),
        );
        give = λ k e. absurd (let q : Take (slot c.piece.page.0) ≡ Give k = e in cc);
      }

  device_of : (row : Locks) (e : EntryState) (b : ℕ) → IsFit {D = D} c r (stage.Away e b)
      → DoesWork c r → HasBlock row b → CanGo {D = D} c r (stage.Away e b) row
  device_of row e b fit work home = record {
    take = λ k w. subst (IsIn row) (same_take lock.Device k w)
        (Some (holds.Device home.0), home.1);
    fits = λ k v w at. (
      work.0,
      work.1,
      subst (λ (q : Kept). FetchFits q v) (sym fit.kept)
          (subst (FetchFits (kept.Wb b))
          (sym (same_value row lock.Device k (holds.Device home.0) v (same_take lock.Device k w)
          home.1 at)) home.2),
    );
    give = λ k w. absurd (let q : Take lock.Device ≡ Give k = w in cc);
  }

  account_of : (row : Locks) (e : EntryState) (fault : ℕ) → DoesWork c r → HasAccount row
      → CanGo {D = D} c r (stage.Failing e fault) row
  account_of row e fault work home = record {
    take = λ k w. subst (IsIn row) (same_take lock.Account k w)
        (Some (holds.Account home.0), home.1);
    fits = λ k v w at. (
      work.0,
      work.1,
      subst (AsAccount (λ a. ⊤))
          (sym (same_value row lock.Account k (holds.Account home.0) v
          (same_take lock.Account k w) home.1 at)) tt,
    );
    give = λ k w. absurd (let q : Take lock.Account ≡ Give k = w in cc);
  }

  -- what is ready can go
  pub ready_goes : (s : Stage D) (row : Locks) → c.piece.page.0 ≡ 0 → IsFit c r s → DoesWork c r
      → IsReady s row → CanGo c r s row
  ready_goes s row page fit work (away e b is home) =
      subst (λ (y : Stage D). IsFit c r y → CanGo c r y row) (sym is)
      (λ fit. device_of row e b fit work home) fit
  ready_goes s row page fit work (failing e fault is home) =
      subst (λ (y : Stage D). CanGo c r y row) (sym is) (account_of row e fault work home)
  ready_goes s row page fit work (fetching e b d is out) =
      gives_of s row lock.Device (ap (next_event c) is) out
  ready_goes s row page fit work (counting e fault a is out) =
      gives_of s row lock.Account (ap (next_event c) is) out
  ready_goes s row page fit work (missed e fault is out) =
      gives_of s row (slot 0) (ap (next_event c) is ∙ ap (λ p. Give (slot p)) page) out
  ready_goes s row page fit work (leaving e is out) =
      gives_of s row (slot 0) (ap (next_event c) is ∙ ap (λ p. Give (slot p)) page) out

-- what is ready isn't over
pub ready_on : {D : Type 0} (s : Stage D) (row : Locks) → IsReady s row → IsGoing s
ready_on s row (away e b is home) = subst IsGoing (sym is) tt
ready_on s row (failing e fault is home) = subst IsGoing (sym is) tt
ready_on s row (fetching e b d is out) = subst IsGoing (sym is) tt
ready_on s row (counting e fault a is out) = subst IsGoing (sym is) tt
ready_on s row (missed e fault is out) = subst IsGoing (sym is) tt
ready_on s row (leaving e is out) = subst IsGoing (sym is) tt

-- ---- a turn by a hand

-- a hand over a row of these locks leaves one
pub disk_after : {X : Type 0} {takes : X → LockNo → Next → DiskHeld → X → Type 0}
    {misses : X → LockNo → X → Type 0} {gives : X → LockNo → Next → DiskHeld → X → Type 0}
    {t : Terms} {l m : Here} {h g : X} {p : Progress} (row : X → Locks)
    → ((k : LockNo) (f : Next) (v : DiskHeld) → takes h k f v g → IsTaken (row h) (row g) k v)
    → ((k : LockNo) → misses h k g → IsMissed (row h) (row g) k)
    → ((k : LockNo) (f : Next) (v : DiskHeld) → gives h k f v g → IsGiven (row h) (row g) k v)
    → IsDisk (row h) → Turned takes misses gives t l h m g p → IsDisk (row g)
disk_after {h = h} row took lost given is (waited k what miss same w) =
    subst IsDisk (sym (lost k miss).same) is
disk_after {h = h} row took lost given is (took_it k f v what take tells same moved) =
    subst IsDisk (sym (took k f v take).out) (disk_with (row h) k None is)
disk_after {h = h} row took lost given is (gave_it k f v what give same works moved) =
    subst IsDisk (sym (given k f v give).home) (disk_with (row h) k (Some v) is)

-- what each event of a hand leaves as it was, a turn does
pub same_after : {X A : Type 0} {takes : X → LockNo → Next → DiskHeld → X → Type 0}
    {misses : X → LockNo → X → Type 0} {gives : X → LockNo → Next → DiskHeld → X → Type 0}
    {t : Terms} {l m : Here} {h g : X} {p : Progress} (of : X → A)
    → ((k : LockNo) (f : Next) (v : DiskHeld) → takes h k f v g → of g ≡ of h)
    → ((k : LockNo) → misses h k g → of g ≡ of h)
    → ((k : LockNo) (f : Next) (v : DiskHeld) → gives h k f v g → of g ≡ of h)
    → Turned takes misses gives t l h m g p → of g ≡ of h
same_after of took lost given (waited k what miss same w) = lost k miss
same_after of took lost given (took_it k f v what take tells same moved) = took k f v take
same_after of took lost given (gave_it k f v what give same works moved) = given k f v give

-- ---- what a hand leaves at the slot

set_here : {A : Type 0} (xs : List A) (i : ℕ) (x y : A) → slice_get xs i ≡ Some y
    → slice_get (slice_set xs i x) i ≡ Some x
set_here [] i x y e = absurd (cc)
set_here (z ∷ zs) zero x y e = refl
set_here (z ∷ zs) (suc i) x y e = set_here zs i x y e

pub out_after : (row row' : Locks) (k : LockNo) (v : DiskHeld) → IsTaken row row' k v
    → cell row' k ≡ Some None
out_after row row' k v t = ap (λ (y : Locks). cell y k) t.out
    ∙ set_here row.cells (place_in row.names k) None (Some v) t.home

-- an entry with room that was given is what is at home
pub room_after : (row row' : Locks) (e : EntryState) → HasPlace e
    → IsGiven row row' (slot 0) (holds.Slot e) → HasRoom row'
room_after row row' e h given v at =
    let here : cell row' (slot 0) ≡ Some (Some (holds.Slot e)) =
    ap (λ (y : Locks). cell y (slot 0)) given.home
    ∙ set_here row.cells (place_in row.names (slot 0)) (Some (holds.Slot e)) None given.out in
    let same : Some (Some v) ≡ Some (Some (holds.Slot e)) = sym at ∙ here in
    let q : v ≡ holds.Slot e = cc in
    subst (AsSlot HasPlace) (sym q) h
