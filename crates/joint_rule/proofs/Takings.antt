-- A taking of another value than an entry leaves the entry in hand.
use Rattle.std.proofs.Common.{◌≡◌, ◌+◌, ◌<◌, ◌∷◌, ℕ, List, Option}
use Rattle.call_history.specs.declared.part.Part.{Part}
use Rattle.call_history.specs.declared.part.PartEnd.{PartEnd}
use Rattle.joint_rule.proofs.Places.{IsAccount, IsDevice, IsMap, IsPoolOf, account_kind, class_kind, device_kind, map_kind}
use Rattle.joint_rule.specs.Begins.{Begin}
use Rattle.joint_rule.specs.Joint.{Sound}
use Rattle.joint_rule.specs.Stages.{Stage, locks_at}
use Rattle.lock_row.specs.declared.names.At.{At}
use Rattle.lock_row.specs.declared.names.LockNo.{LockNo}
use Rattle.lock_row.specs.declared.names.Object.{Object}
use Rattle.lock_row.specs.declared.names.Pin.{Pin}
use Rattle.mem_account.specs.declared.weight.Weight.{Weight}
use Rattle.page_steps.specs.Pages.{next_form}
use Rattle.page_steps.specs.Steps.{DiskHeld, class_by, entry_or}
use Rattle.slot_entry.specs.Entries.{EntryState}
use Rattle.slot_entry.specs.Forms.{class_in}
use Rattle.lock_row.specs.declared.names.LockNo.TheVariants as lock
use Rattle.lock_row.specs.declared.names.Held.TheVariants as holds

module _ (g : Begin) (p : Part) (fresh : Option Object) (pin : Option Pin) (owed : ℕ)
    (ahead behind : Option Weight) (page : Option (List ℕ)) (fail : Option PartEnd)
    (e : EntryState) (v : DiskHeld) (ks : List LockNo) where
  abbrev n : ℕ
  n = g.given.size

  abbrev Stays : EntryState → At → Type 0
  Stays e at = Stage g p e at fresh pin owed ahead behind page fail

  abbrev Moved : List LockNo → LockNo → EntryState → At → Type 0
  Moved ks k e at = (k ∷ ks ≡ locks_at at p (class_by e.kept)
      (class_in g.chain (next_form p page e.kept))) × Stays e at

  abbrev Taken : LockNo → At → Type 0
  Taken m at = Moved ks m (entry_or v e) at

  -- another value is taken, and the entry in hand stays
  pub take_pool : (c : ℕ) (at : At) → c < 255 → Sound g (n + c) v
      → (lock.Class c ∷ ks ≡ locks_at at p (class_by e.kept)
      (class_in g.chain (next_form p page e.kept))) → Stays e at → Taken (lock.Class c) at
  take_pool c at low kind locks s = pool v (class_kind g c low v kind) where
    pool : (u : DiskHeld) → IsPoolOf u → Moved ks (lock.Class c) (entry_or u e) at
    pool (holds.Slot y) i = absurd i
    pool (holds.Class y) i = (locks, s)
    pool (holds.Account y) i = absurd i
    pool (holds.Blocks y) i = absurd i
    pool (holds.Device y) i = absurd i

  pub take_account : (at : At) → Sound g (n + 255) v → (lock.Account ∷ ks
      ≡ locks_at at p (class_by e.kept) (class_in g.chain (next_form p page e.kept))) → Stays e at
      → Taken lock.Account at
  take_account at kind locks s = account v (account_kind g v kind) where
    account : (u : DiskHeld) → IsAccount u → Moved ks lock.Account (entry_or u e) at
    account (holds.Slot y) i = absurd i
    account (holds.Class y) i = absurd i
    account (holds.Account y) i = (locks, s)
    account (holds.Blocks y) i = absurd i
    account (holds.Device y) i = absurd i

  pub take_map : (at : At) → Sound g (n + 256) v → (lock.Blocks ∷ ks
      ≡ locks_at at p (class_by e.kept) (class_in g.chain (next_form p page e.kept))) → Stays e at
      → Taken lock.Blocks at
  take_map at kind locks s = map_of v (map_kind g v kind) where
    map_of : (u : DiskHeld) → IsMap u → Moved ks lock.Blocks (entry_or u e) at
    map_of (holds.Slot y) i = absurd i
    map_of (holds.Class y) i = absurd i
    map_of (holds.Account y) i = absurd i
    map_of (holds.Blocks y) i = (locks, s)
    map_of (holds.Device y) i = absurd i

  pub take_device : (at : At) → Sound g (n + 257) v → (lock.Device ∷ ks
      ≡ locks_at at p (class_by e.kept) (class_in g.chain (next_form p page e.kept))) → Stays e at
      → Taken lock.Device at
  take_device at kind locks s = device v (device_kind g v kind) where
    device : (u : DiskHeld) → IsDevice u → Moved ks lock.Device (entry_or u e) at
    device (holds.Slot y) i = absurd i
    device (holds.Class y) i = absurd i
    device (holds.Account y) i = absurd i
    device (holds.Blocks y) i = absurd i
    device (holds.Device y) i = (locks, s)
