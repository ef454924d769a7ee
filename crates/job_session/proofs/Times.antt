-- No page was touched after the time that is set, where the disk stands for a rest.
use Rattle.std.proofs.Common.{◌≡◌, ◌⊎◌, ℕ, ◌≤◌, false, List, [], Option, Some, slice_get, sym, ap, ◌∙◌, subst, inl, inr, arith}
use Rattle.std.specs.Option.{option_map}
use Rattle.std.proofs.lemmas.Option.{slice_get-map}
use Rattle.plain_disk.specs.Rests.{Rest}
use Rattle.lock_row.specs.declared.names.Held.TheVariants as holds
use Rattle.page_steps.specs.Steps.{DiskHeld}
use Rattle.slot_entry.specs.Entries.{EntryState}
use Rattle.disk_rest.specs.Rows.{cell_without_calls}
use Rattle.disk_rest.specs.Resting.{StandsFor}
use Rattle.zr_core.specs.Rests.{no_blocks, IsTime}
use Rattle.job_session.specs.Stands.{IsBare, HasRow, Stands}
use Rattle.job_session.specs.Stepped.{Disk}
use Rattle.job_session.specs.Telling.{StandsForSome}
use Rattle.job_session.proofs.Lawful.{no_item}
use Rattle.job_session.proofs.Legal.{first_rest}
use Rattle.job_session.proofs.Written.{bare_disk, first_stands}

-- ---- the time

-- a page of a row that stands for a rest wasn't touched after its time
touched_before : (r : Rest) (row : List (Option DiskHeld)) (p : ℕ) (e : EntryState) → StandsFor r row
    → slice_get row p ≡ Some (Some (holds.Slot e)) → e.touched ≤ r.set.clock
touched_before r row p e stands is =
    let f : EntryState = record e { order = []; room = 0 } in
    let there = slice_get-map cell_without_calls row p ∙ ap (option_map cell_without_calls) is in
    let sound = (stands.rest.home p (holds.Slot f) there).sound in
    let at : e.touched ≡ r.touched p = sound.touched in
    let time : r.touched p ≤ r.set.clock = stands.plain.times p sound.page in
    omega (arith, at, time)

pub time_of : (d : Disk) → StandsForSome d → IsTime d.clock d.row
time_of d some p e is = by some.1.row
  where
    by : IsBare some.0 d ⊎ HasRow some.0 d → e.touched ≤ d.clock
    by (inl bare) =
        absurd (no_item p (Some (holds.Slot e)) (ap (λ row. slice_get row p) (sym bare.empty) ∙ is))
    by (inr has) =
        let time = touched_before some.0 d.row p e has.stands is in
        omega (arith, time, some.1.clock)

-- ---- before the first item

-- the disk of a new world stands for the first rest
pub first_some : (d : Disk) → d.size ≡ 0 → d.limit ≡ 0 → d.backed ≡ false → d.clock ≡ 0 → d.row ≡ []
    → d.blocks ≡ no_blocks → d.device.writes ≡ 0 → StandsForSome d
first_some d size limit backed clock row blocks none = (
  first_rest d.device,
  subst (Stands (first_rest d.device)) (sym (bare_disk d size limit backed clock row blocks))
      (first_stands d.device (omega arith)),
)
