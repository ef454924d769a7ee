-- The givings of a page that is on the device: its block is read, or the device fails, which is
-- counted; and a change of the page frees the block.
use Rattle.std.proofs.Common.{◌≡◌, ℕ, true, false, List, Some, refl, sym, ap, ◌∙◌, inl, inr}
use Rattle.mem_account.specs.Counters.{Counters}
use Rattle.mem_account.specs.declared.weight.Weight.{Weight}
use Rattle.block_map.specs.declared.state.BlockState.TheVariants.{Free}
use Rattle.block_map.specs.BlockMap.{BlockMap, with_state}
use Rattle.backing_dev.specs.Dev.{DeviceState, ReadsBlock, FailsToRead}
use Rattle.bdi_page.specs.Packing.{IsPage}
use Rattle.call_history.specs.declared.part.PartEnd.TheVariants as over
use Rattle.lock_row.specs.declared.names.Held.TheVariants as holds
use Rattle.slot_entry.specs.declared.kept.Kept.{Kept}
use Rattle.slot_entry.specs.declared.kept.Kept.TheVariants as kept
use Rattle.slot_entry.specs.Entries.{EntryState, weight_of}
use Rattle.page_steps.specs.Steps.{DiskHeld}
use Rattle.page_steps.specs.Givings.{Notes, fetches, misses, counts, releases, errs, leaves}
use Rattle.page_steps.specs.Nexts.{fetching, missing, counting_failure, failing, freeing, emptied}
use Rattle.page_steps.specs.Calls.{Frame, here, is_count, fails_by}
use Rattle.page_steps.specs.Turns.{GivesAs}
use Rattle.page_steps.specs.declared.stage.Work.TheVariants as work
use Rattle.page_steps.specs.declared.stage.Head.{Head}
use Rattle.page_steps.specs.declared.stage.Scratch.{Scratch}
use Rattle.page_steps.specs.declared.stage.Own.{Own}
use Rattle.page_steps.specs.declared.stage.Stage.TheVariants as stage
use Rattle.page_steps.proofs.Plans.{AnyDevice, failed_is, read_is}
use Rattle.page_steps.proofs.Given.{notes_as}

pub can_fetch : (c : Head) (r : Scratch) (e : EntryState) (b : ℕ) (d d' : DeviceState)
    (page : List ℕ) → e.kept ≡ kept.Wb b → ReadsBlock d d' b page → IsPage page
    → GivesAs {D = AnyDevice} c r (stage.Fetching e b d) (fetching page) (holds.Device d')
can_fetch c r e b d d' page is read page_is x w =
    fetches x.part x.rest e b d d' page refl refl refl is read page_is refl refl

pub can_miss : (c : Head) (r : Scratch) (e : EntryState) (b : ℕ) (d d' : DeviceState)
    (fault : ℕ) → e.kept ≡ kept.Wb b → FailsToRead d d' fault
    → GivesAs {D = AnyDevice} c r (stage.Fetching e b d) (missing fault) (holds.Device d')
can_miss c r e b d d' fault is fails x w =
    misses x.part x.rest e b d d' fault refl refl refl is fails refl refl

pub can_count : (c : Head) (r : Scratch) (e : EntryState) (fault : ℕ) (a b : Counters)
    → is_count c.work ≡ false → b ≡ fails_by c.work a
    → GivesAs {D = AnyDevice} c r (stage.Counting e fault a) counting_failure (holds.Account b)
can_count c r e fault a b piece is x w =
    counts x.part x.rest e a refl refl refl
    (ap (λ y. holds.Account y) (is ∙ failed_is c r x (w.call piece) a)) refl

-- a read of which the device failed is noted, and a write isn't
pub can_end_missed : (c : Head) (r : Scratch) (e f : EntryState) (fault : ℕ)
    → is_count c.work ≡ false → (c.work ≡ work.Reads → Notes c.now e f e.kept c.tag)
    → ((c.work ≡ work.Reads → ⊥) → f ≡ e)
    → GivesAs {D = AnyDevice} c r (stage.Missed e fault) failing (holds.Slot f)
can_end_missed c r e f fault piece notes same x w =
    elim (read_is c r x (w.call piece)) [
      | inl reads ↦ errs x.part x.rest e f (over.Eio fault) refl refl refl refl reads.1
          (notes_as c r x e f e.kept (w.call piece) (notes reads.0)) refl refl
      | inr other ↦ leaves x.part x.rest e (over.Eio fault) refl refl refl refl other.1
          (ap (λ y. holds.Slot y) (same other.0)) refl
    ]

pub can_release : (c : Head) (r : Scratch) (own : Own) (b : ℕ) (next : Kept)
    (m m' : BlockMap) → own.entry.kept ≡ kept.Wb b → m' ≡ with_state m b Free
    → GivesAs {D = AnyDevice} c r (stage.Releasing own b next m) (freeing 0) (holds.Blocks m')
can_release c r own b next m m' is free x w =
    releases x.part x.rest own.entry b m refl refl refl is (ap (λ y. holds.Blocks y) free) refl

pub released_here : (x : Frame) (r : Scratch) (own : Own) (b : ℕ) (next : Kept)
    (m : BlockMap) (f : EntryState) (before : Weight) (v : DiskHeld)
    → f ≡ emptied own.entry → before ≡ weight_of own.entry.kept
    → freeing 0 (here {D = AnyDevice} x r (stage.Releasing own b next m)) v
    ≡ here {D = AnyDevice} x r (stage.Owing (record { entry = f; read = own.read; next = next }) 0
    (Some before))
released_here x r own b next m f before v is weighs =
    λ i. here {D = AnyDevice} x r (stage.Owing (record { entry = sym is i; read = own.read; next = next }) 0
    (Some (sym weighs i)))
