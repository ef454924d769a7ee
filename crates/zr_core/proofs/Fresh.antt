-- The row of a new disk.
use Rattle.std.proofs.Common.{◌≡◌, ℕ, zero, suc, ◌+◌, ◌^◌, ◌<◌, ◌≤◌, List, [], ◌∷◌, ◌++◌, length, Option, Some, None, slice_get, slice_set, refl, sym, ap, ◌∙◌, subst, arith, ⊎_elim, append_assoc}
use Rattle.std.proofs.lemmas.Bool.{cases_lt}
use Rattle.std.proofs.lemmas.List.{length-append, length_push, get_or-replicate, length-replicate}
use Rattle.std.proofs.lemmas.List.FromFn.{map-range_with_len_more}
use Rattle.std.proofs.lemmas.Option.{slice_get_within, get_or_from_slice_get}
use Rattle.zr_base.specs.declared.limits.TheConstants.{MOST_PAGES}
use Rattle.zr_base.specs.Plain.{zero_sector, IsSector}
use Rattle.mem_account.specs.Counters.{Counters, no_counts}
use Rattle.block_map.specs.BlockMap.{BlockMap}
use Rattle.backing_dev.specs.Dev.{DeviceState}
use Rattle.lock_row.specs.declared.names.LockNo.{LockNo}
use Rattle.lock_row.specs.declared.names.LockNo.TheVariants as lock
use Rattle.lock_row.specs.declared.names.Held.TheVariants as holds
use Rattle.page_steps.specs.Steps.{DiskHeld, slot}
use Rattle.joint_rule.specs.Begins.{Begin, Proper}
use Rattle.joint_rule.specs.Laws.{NewIsAtRest, RequestsAreProper}
use Rattle.joint_rule.specs.Starts.{AreFree, IsNew}
use Rattle.zr_core.specs.Machines.{order_in, without_calls, without_orders}
use Rattle.zr_core.specs.Rests.{slots_of, classes_of, last_locks, names_of, IsTime, RestsAs, IsAtRest, new_disk, with_map}
use Rattle.zr_core.specs.Rows.{AreNew}
use Rattle.zr_core.proofs.Lists.{get_left, get_right, get_else}
use Rattle.zr_core.proofs.Matches.{Row, was_at, emptied_long, emptied_at}
use Rattle.zr_core.proofs.Rests.{fits_so, at_rest}

-- ---- one place more

pub new_none : (g : Begin) → AreNew g 0 []
new_none g = record { size = refl; each = λ k lt. absurd (omega arith) }

pub new_more : (g : Begin) (n : ℕ) (cells : Row) (v : DiskHeld) → AreNew g n cells → IsNew g n v
    → AreNew g (n + 1) (cells ++ Some v ∷ [])
new_more g n cells v are is = record {
  size = (let q = length_push cells (Some v) in let r = are.size in omega arith);
  each = λ k lt. ⊎_elim
      (λ below. let x = are.each k below in
      (x.0, get_left cells (Some v ∷ []) k (let r = are.size in omega arith) ∙ x.1, x.2))
      (λ last. let e : k ≡ n = omega arith in (
        v,
        get_right cells (Some v ∷ []) 0 k (let r = are.size in omega arith),
        subst (λ (j : ℕ). IsNew g j v) (sym e) is,
      ))
      (cases_lt k n);
}

pub one_slot : (names : List LockNo) (n : ℕ) → names ≡ slots_of n
    → names ++ slot n ∷ [] ≡ slots_of (n + 1)
one_slot names n e = ap (λ (ks : List LockNo). ks ++ slot n ∷ []) e
    ∙ sym (map-range_with_len_more slot 0 n n (omega arith))

abbrev class_lock : ℕ → LockNo
class_lock c = lock.Class c

pub one_class : (names xs : List LockNo) (n : ℕ) → names ≡ xs ++ classes_of n
    → names ++ lock.Class n ∷ [] ≡ xs ++ classes_of (n + 1)
one_class names xs n e = ap (λ (ks : List LockNo). ks ++ lock.Class n ∷ []) e
    ∙ append_assoc xs (classes_of n) (lock.Class n ∷ [])
    ∙ ap (λ (ks : List LockNo). xs ++ ks)
    (sym (map-range_with_len_more class_lock 0 n n (omega arith)))

pub all_names : (names a b d : List LockNo) (size : ℕ) → names ≡ slots_of size ++ classes_of 255
    → a ≡ names ++ lock.Account ∷ [] → b ≡ a ++ lock.Blocks ∷ [] → d ≡ b ++ lock.Device ∷ []
    → d ≡ names_of size
unfolding names_of
all_names names a b d size e account blocks device =
    device ∙ ap (λ (ks : List LockNo). ks ++ lock.Device ∷ [])
    (blocks ∙ ap (λ (ks : List LockNo). ks ++ lock.Blocks ∷ []) account)
    ∙ append_assoc (names ++ lock.Account ∷ []) (lock.Blocks ∷ []) (lock.Device ∷ [])
    ∙ append_assoc names (lock.Account ∷ []) (lock.Blocks ∷ lock.Device ∷ [])
    ∙ ap (λ (ks : List LockNo). ks ++ last_locks) e

-- the account after the classes, and the places of the blocks and the device, which are out
module _ (pages limit : ℕ) (cells a b d : Row) (c : Counters)
    (is : c ≡ record no_counts { limit = limit })
    (are : (e : DeviceState) → AreNew (new_disk pages limit e) (pages + 255) cells)
    (account : a ≡ cells ++ Some (holds.Account c) ∷ [])
    (blocks : b ≡ a ++ None ∷ []) (device : d ≡ b ++ None ∷ []) where
  pub account_new : (e : DeviceState) → AreNew (new_disk pages limit e) (pages + 256) a
  account_new e = subst (λ (x : ℕ × Row). AreNew (new_disk pages limit e) x.0 x.1) (λ i. (
    (let q : pages + 255 + 1 ≡ pages + 256 = omega arith in q) i,
    sym account i,
  ))
      (new_more (new_disk pages limit e) (pages + 255) cells (holds.Account c) (are e) (
        refl,
        subst (λ (x : Counters). x ≡ record no_counts { limit = x.limit }) (sym is) refl,
      ))

  pub row_cells : d ≡ a ++ None ∷ None ∷ []
  row_cells = device ∙ ap (λ (row : Row). row ++ None ∷ []) blocks
      ∙ append_assoc a (None ∷ []) (None ∷ [])

  -- any device serves to count the places
  pub row_long : DeviceState → length d ≡ pages + 258
  row_long e = ap length row_cells ∙ length-append a (None ∷ None ∷ [])
      ∙ (let n = (account_new e).size in omega arith)

  pub row_account : DeviceState → slice_get d (pages + 255)
      ≡ Some (Some (holds.Account (record no_counts { limit = limit })))
  row_account e = ap (λ (row : Row). slice_get row (pages + 255)) row_cells
      ∙ get_left a (None ∷ None ∷ []) (pages + 255) (let n = (account_new e).size in omega arith)
      ∙ ap (λ (row : Row). slice_get row (pages + 255)) account
      ∙ get_right cells (Some (holds.Account c) ∷ []) 0 (pages + 255)
      (let n = (are e).size in omega arith)
      ∙ ap (λ (x : Counters). Some (Some (holds.Account x))) is

-- two values that are put into their places
set_two : (xs : Row) (x y u v : Option DiskHeld)
    → slice_set (slice_set (xs ++ x ∷ y ∷ []) (length xs) u) (suc (length xs)) v ≡ xs ++ u ∷ v ∷ []
set_two [] x y u v = refl
set_two (z ∷ xs) x y u v = ap (λ (row : Row). z ∷ row) (set_two xs x y u v)

module _ (pages : ℕ) (front row : Row) (long : length front ≡ pages + 256)
    (is : row ≡ front ++ None ∷ None ∷ []) where
  pub out_blocks : slice_get row (pages + 256) ≡ Some None
  out_blocks = ap (λ (r : Row). slice_get r (pages + 256)) is
      ∙ get_right front (None ∷ None ∷ []) 0 (pages + 256) (omega arith)

  pub out_device : slice_get row (pages + 257) ≡ Some None
  out_device = ap (λ (r : Row). slice_get r (pages + 257)) is
      ∙ get_right front (None ∷ None ∷ []) 1 (pages + 257) (omega arith)

-- the row once they are in it
module _ (pages limit : ℕ) (e : DeviceState) (x : BlockMap) (front row cells : Row)
    (are : AreNew (new_disk pages limit e) (pages + 256) front)
    (is : row ≡ front ++ None ∷ None ∷ [])
    (set : cells ≡ slice_set (slice_set row (pages + 256) (Some (holds.Blocks x))) (pages + 257)
    (Some (holds.Device e))) where
  cells_are : cells ≡ front ++ Some (holds.Blocks x) ∷ Some (holds.Device e) ∷ []
  cells_are = set ∙ (λ i. slice_set (slice_set (is i) (at i) (Some (holds.Blocks x))) (next i)
      (Some (holds.Device e)))
      ∙ set_two front None None (Some (holds.Blocks x)) (Some (holds.Device e)) where
        at : pages + 256 ≡ length front
        at = sym are.size

        next : pages + 257 ≡ suc (length front)
        next = let n = are.size in omega arith

  pub device_at : slice_get cells (pages + 257) ≡ Some (Some (holds.Device e))
  device_at = ap (λ (r : Row). slice_get r (pages + 257)) cells_are
      ∙ get_right front (Some (holds.Blocks x) ∷ Some (holds.Device e) ∷ []) 1 (pages + 257)
      (let n = are.size in omega arith)

  pub blocks_at : slice_get cells (pages + 256) ≡ Some (Some (holds.Blocks x))
  blocks_at = ap (λ (r : Row). slice_get r (pages + 256)) cells_are
      ∙ get_right front (Some (holds.Blocks x) ∷ Some (holds.Device e) ∷ []) 0 (pages + 256)
      (let n = are.size in omega arith)

  pub account_at : slice_get cells (pages + 255) ≡ slice_get row (pages + 255)
  account_at = ap (λ (r : Row). slice_get r (pages + 255)) set
      ∙ get_else (slice_set row (pages + 256) (Some (holds.Blocks x))) (pages + 257) (pages + 255)
      (Some (holds.Device e)) (λ s. let none : ⊥ = omega arith in none)
      ∙ get_else row (pages + 256) (pages + 255) (Some (holds.Blocks x))
      (λ s. let none : ⊥ = omega arith in none)

  pub row_new : AreFree x.states → length x.states ≤ e.blocks → e.reads < 2 ^ 64
      → e.writes < 2 ^ 64 → AreNew (new_disk pages limit e) (pages + 258) cells
  row_new free fits reads writes = subst (λ (y : ℕ × Row). AreNew (new_disk pages limit e) y.0 y.1) (λ i. (
    (let q : pages + 256 + 1 + 1 ≡ pages + 258 = omega arith in q) i,
    (append_assoc front (Some (holds.Blocks x) ∷ []) (Some (holds.Device e) ∷ []) ∙ sym cells_are) i,
  ))
      (new_more (new_disk pages limit e) (pages + 256 + 1) (front ++ Some (holds.Blocks x) ∷ [])
      (holds.Device e)
      (new_more (new_disk pages limit e) (pages + 256) front (holds.Blocks x) are (refl, free, fits))
      ((let q : pages + 256 + 1 ≡ pages + 257 = omega arith in q), refl, reads, writes))

-- ---- a new disk at rest

zero_is : IsSector zero_sector
unfolding zero_sector
zero_is = (
  length-replicate 512 zero,
  λ k d lt.
      let n = length-replicate 512 zero in
      let e = get_or-replicate 512 k zero d (omega arith) in omega arith,
)

new_proper : RequestsAreProper → (pages limit : ℕ) (device : DeviceState) (x : BlockMap)
    → pages ≤ MOST_PAGES → Proper (with_map (new_disk pages limit device) x)
new_proper law pages limit device x most =
    law (with_map (new_disk pages limit device) x) (λ tag op e. absurd (cc))
    (record { sectors = λ p t s old ok. ok; honest = λ yes p t s old. refl })
    (λ s. zero_is) (λ p k lt e. refl) (λ p lt. omega arith) record {
      some = λ lt. absurd (let none : ⊥ = omega arith in none);
      least = omega arith;
      most = omega arith;
      few = omega arith;
      pieces = λ p lt. omega arith;
    }

-- its pages were touched at no time after the first
pub new_time : (g : Begin) (pages now : ℕ) (cells : Row) → ((p : ℕ) → g.touched p ≡ 0)
    → RestsAs g pages cells → IsTime now cells
new_time g pages now cells never rests p e at =
    let touched = (fits_so g pages cells rests p e at).touched in let none = never p in omega arith

without_new : (g : Begin) (k : ℕ) (v : DiskHeld) → IsNew g k v → IsNew g k (without_calls v)
without_new g k (holds.Slot e) is =
    (is.0, is.1, refl, is.3, is.4, is.5, is.6, is.7, is.8)
without_new g k (holds.Class q) is = is
without_new g k (holds.Account c) is = is
without_new g k (holds.Blocks x) is = is
without_new g k (holds.Device x) is = is

module _ (pages limit : ℕ) (device : DeviceState) (x : BlockMap) (cells : Row)
    (are : AreNew (new_disk pages limit device) (pages + 258) cells) where
  abbrev g : Begin
  g = with_map (new_disk pages limit device) x

  new_each : (k : ℕ) (v : DiskHeld) → slice_get (without_orders cells) k ≡ Some (Some v)
      → IsNew g k v
  new_each k v at =
      let x = was_at cells k v at in
      let n = are.each k (let lt = slice_get_within cells k (Some x.0) x.1 in let s = are.size in
      omega arith) in
      let q : n.0 ≡ x.0 = (let h : Some (Some n.0) ≡ Some (Some x.0) = sym n.1 ∙ x.1 in cc) in
      subst (IsNew g k) x.2 (without_new g k x.0 (subst (IsNew g k) q n.2))

  pub new_rests : 1 ≤ pages → pages ≤ MOST_PAGES
      → slice_get cells (pages + 255) ≡ Some (Some (holds.Account g.was))
      → slice_get cells (pages + 257) ≡ Some (Some (holds.Device device))
      → slice_get cells (pages + 256) ≡ Some (Some (holds.Blocks x)) → NewIsAtRest → RequestsAreProper → RestsAs g pages cells
  new_rests some most account at map rest law = record {
    size = refl;
    some = some;
    most = most;
    none = refl;
    chain = refl;
    proper = new_proper law pages limit device x most;
    row = rest g (without_orders cells) (let a = emptied_long cells in let s = are.size in omega arith)
        (λ k lt.
        let x = are.each k (let a = emptied_long cells in let s = are.size in omega arith) in
        (without_calls x.0, emptied_at cells k (Some x.0) x.1)) new_each;
    marks = λ k e at. (new_each k (holds.Slot e) at).4;
    account = account;
    device = at;
    map = (x, map, record { blocks = refl; budget = refl; budgeted = refl });
  }

  order_none : (k : ℕ) (v : DiskHeld) → IsNew g k v → order_in (Some v) ≡ []
  order_none k (holds.Slot e) is = is.2
  order_none k (holds.Class q) is = refl
  order_none k (holds.Account c) is = refl
  order_none k (holds.Blocks x) is = refl
  order_none k (holds.Device x) is = refl

  pub new_at_rest : RestsAs g pages cells → IsAtRest pages [] cells
  new_at_rest rests = at_rest g pages cells rests [] record {
    listed = record { rising = tt; within = tt };
    others = λ p lt off. let x = are.each p (omega arith) in
        ap order_in (get_or_from_slice_get cells p (Some x.0) None x.1) ∙ order_none p x.0 x.2;
  }
