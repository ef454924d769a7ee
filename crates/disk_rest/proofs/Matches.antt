-- Rows whose values match place by place, and rows with empty orders.
use Rattle.std.proofs.Common.{◌≡◌, ℕ, zero, suc, ◌<◌, [], ◌∷◌, length, Some, None, slice_get, refl, sym, ap, ◌∙◌, subst, arith}
use Rattle.std.specs.Prelude.{option_map}
use Rattle.std.proofs.lemmas.List.{length-map}
use Rattle.std.proofs.lemmas.Option.{slice_get-map}
use Rattle.mem_account.specs.Counters.{Counters}
use Rattle.class_pool.specs.Pool.{PoolState}
use Rattle.lock_row.specs.declared.names.Held.TheVariants as holds
use Rattle.slot_entry.specs.Entries.{EntryState}
use Rattle.page_steps.specs.Steps.{DiskHeld}
use Rattle.joint_rule.specs.Starts.{Matched}
use Rattle.joint_rule.specs.Ends.{value_at}
use Rattle.disk_rest.specs.Rows.{Row, without_calls, cell_without_calls, without_orders}

-- The values of a place in two rows.
pub record Match (R : ℕ → DiskHeld → DiskHeld → Type 0) (xs ys : Row) (k : ℕ) : Type 0 where
  pub old : DiskHeld
  pub new : DiskHeld
  pub was : slice_get xs k ≡ Some (Some old)
  pub is : slice_get ys k ≡ Some (Some new)
  pub so : R k old new

pub matched : (R : ℕ → DiskHeld → DiskHeld → Type 0) (xs ys : Row) → length ys ≡ length xs
    → ((k : ℕ) → k < length xs → Match R xs ys k) → Matched R xs ys
matched R [] [] long each = tt
matched R [] (y ∷ ys) long each = absurd (omega arith)
matched R (x ∷ xs) [] long each = absurd (omega arith)
matched R (None ∷ xs) (y ∷ ys) long each = absurd (let h = (each 0 (omega arith)).was in cc)
matched R (Some v ∷ xs) (None ∷ ys) long each = absurd (let h = (each 0 (omega arith)).is in cc)
matched R (Some v ∷ xs) (Some u ∷ ys) long each =
    let h = each 0 (omega arith) in
    let p : h.old ≡ v = (let e = h.was in cc) in
    let q : h.new ≡ u = (let e = h.is in cc) in (
      subst (λ (x : DiskHeld × DiskHeld). R 0 x.0 x.1) (λ i. (p i, q i)) h.so,
      matched (λ j. R (suc j)) xs ys (omega arith) (λ k lt. let m = each (suc k) (omega arith) in
          record { old = m.old; new = m.new; was = m.was; is = m.is; so = m.so }),
    )

-- a value at home is there
pub value_there : (row : Row) (k : ℕ) (v : DiskHeld) → value_at row k ≡ Some v
    → slice_get row k ≡ Some (Some v)
value_there [] k v e = absurd (cc)
value_there (x ∷ xs) zero v e = ap Some e
value_there (x ∷ xs) (suc k) v e = value_there xs k v e

-- ---- empty orders

pub emptied_long : (row : Row) → length (without_orders row) ≡ length row
emptied_long row = length-map row cell_without_calls

pub emptied_at : (row : Row) (k : ℕ) (v : DiskHeld) → slice_get row k ≡ Some (Some v)
    → slice_get (without_orders row) k ≡ Some (Some (without_calls v))
emptied_at row k v e = slice_get-map cell_without_calls row k ∙ ap (option_map cell_without_calls) e

-- A value whose order was emptied.
pub record Was (row : Row) (k : ℕ) (u : DiskHeld) : Type 0 where
  pub value : DiskHeld
  pub at : slice_get row k ≡ Some (Some value)
  pub is : u ≡ without_calls value

pub was_at : (row : Row) (k : ℕ) (u : DiskHeld) → slice_get (without_orders row) k ≡ Some (Some u)
    → Was row k u
was_at [] k u e = absurd (cc)
was_at (None ∷ xs) zero u e = absurd (cc)
was_at (Some v ∷ xs) zero u e =
    record { value = v; at = refl; is = let q : u ≡ without_calls v = cc in q }
was_at (x ∷ xs) (suc k) u e =
    let w = was_at xs k u e in record { value = w.value; at = w.at; is = w.is }

-- An entry whose order was emptied.
pub record WasSlot (v : DiskHeld) (e : EntryState) : Type 0 where
  pub entry : EntryState
  pub is : v ≡ holds.Slot entry
  pub kept : e.kept ≡ entry.kept
  pub order : e.order ≡ []
  pub touched : e.touched ≡ entry.touched

pub was_slot : (v : DiskHeld) (e : EntryState) → holds.Slot e ≡ without_calls v → WasSlot v e
was_slot (holds.Slot x) e q =
    let s : e ≡ record x { order = []; room = 0 } = cc in record {
      entry = x;
      is = refl;
      kept = ap (λ (y : EntryState). y.kept) s;
      order = ap (λ (y : EntryState). y.order) s;
      touched = ap (λ (y : EntryState). y.touched) s;
    }
was_slot (holds.Class x) e q = absurd (cc)
was_slot (holds.Account x) e q = absurd (cc)
was_slot (holds.Blocks x) e q = absurd (cc)
was_slot (holds.Device x) e q = absurd (cc)

pub was_pool : (v : DiskHeld) (p : PoolState) → holds.Class p ≡ without_calls v
    → v ≡ holds.Class p
was_pool (holds.Slot x) p q = absurd (cc)
was_pool (holds.Class x) p q = sym q
was_pool (holds.Account x) p q = absurd (cc)
was_pool (holds.Blocks x) p q = absurd (cc)
was_pool (holds.Device x) p q = absurd (cc)

pub was_account : (v : DiskHeld) (c : Counters) → holds.Account c ≡ without_calls v
    → v ≡ holds.Account c
was_account (holds.Slot x) c q = absurd (cc)
was_account (holds.Class x) c q = absurd (cc)
was_account (holds.Account x) c q = sym q
was_account (holds.Blocks x) c q = absurd (cc)
was_account (holds.Device x) c q = absurd (cc)
