-- What setting a phase up makes of the entries: no calls, and room for the pieces that are counted.
use Rattle.std.specs.Prelude.{◌≡◌, ◌≢◌, ℕ, ◌<◌, ◌≤◌, Bool, true, false, List, [], length, Option, Some, slice_get}
use Rattle.std.specs.BTreeMap.{BTreeMap}
use Rattle.lock_row.specs.declared.names.Held.TheVariants as holds
use Rattle.slot_entry.specs.Entries.{EntryState}
use Rattle.page_steps.specs.Steps.{DiskHeld}
use Rattle.actor_steps.specs.Counts.{count_at}

-- A page's entry has no calls now and room for n; its page is as before, and the other values are.
pub record IsReserved (page n : ℕ) (old new : List (Option DiskHeld)) : Type 0 where
  pub size : length new ≡ length old
  pub others : (p : ℕ) → p ≢ page → slice_get new p ≡ slice_get old p
  pub was : EntryState
  pub is : EntryState
  pub before : slice_get old page ≡ Some (Some (holds.Slot was))
  pub after : slice_get new page ≡ Some (Some (holds.Slot is))
  pub kept : is ≡ record was { order = is.order; room = is.room }
  pub order : is.order ≡ []
  pub room : n ≤ is.room

-- A page's entry keeps its page; where it is done, it has no calls and room for those that are
-- counted, else it is as before.
pub record KeepsPage (done : ℕ → Bool) (counts : BTreeMap ℕ ℕ) (page : ℕ)
    (old new : List (Option DiskHeld)) : Type 0 where
  pub was : EntryState
  pub is : EntryState
  pub before : slice_get old page ≡ Some (Some (holds.Slot was))
  pub after : slice_get new page ≡ Some (Some (holds.Slot is))
  pub kept : is ≡ record was { order = is.order; room = is.room }
  pub order : done page ≡ true → is.order ≡ []
  pub room : done page ≡ true → count_at counts page ≤ is.room
  pub same : done page ≡ false → is ≡ was

-- All entries keep their pages, and those that are done have no calls and room for those that are
-- counted; all else is as before.
pub record AreReserved (done : ℕ → Bool) (counts : BTreeMap ℕ ℕ) (pages : ℕ)
    (old new : List (Option DiskHeld)) : Type 0 where
  pub size : length new ≡ length old
  pub each : (page : ℕ) → page < pages → KeepsPage done counts page old new
  pub others : (k : ℕ) → pages ≤ k → slice_get new k ≡ slice_get old k
