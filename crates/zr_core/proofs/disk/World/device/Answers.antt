use Rattle.std.proofs.Common.{◌≡◌, ◌+◌, ◌≤◌, Some, None, slice_get, sym, ap, ◌∙◌}
use Rattle.std.specs.Option.{option_copied}
use Rattle.backing_dev.specs.Dev.{DeviceState}
use Rattle.lock_row.specs.declared.names.Held.TheVariants as holds
use Rattle.lock_row.specs.declared.names.LockNo.TheVariants as lock
use Rattle.lock_row.specs.Rows.{at_home}
use Rattle.zr_core.specs.Rests.{no_device, device_by}
use Rattle.zr_core.proofs.Names.{cell_at, names_some}
use Rattle.zr_core.proofs.Spares.{some_pages}
use Rattle.zr_core.proofs.Telling.{device_home, device_told}
use Rattle.zr_core.proofs.disk.World.device.Goals as goal
use Rattle.zr_core.proofs.disk.World.device.Goals.{After-value}

some : (o : _) (c : After-value o) → 1 ≤ c.args.self.now.pages
some o c = some_pages c.args.self.now.pages c.args.self.now.spare c.args.self.now.early
    (sym c.in_default.is)

-- the device that is at home
home : (o : _) (c : After-value o) → (d : DeviceState)
    × (slice_get c.args.self.now.row.cells (c.args.self.now.pages + 257) ≡ Some (Some (holds.Device d)))
home o c = device_home c.args.self.now.pages c.args.self.now.noted.items c.args.self.now.row.cells
    c.requires.rest (some o c)

value_at : (o : _) (c : After-value o)
    → option_copied c.value.result ≡ Some (holds.Device (home o c).0)
value_at o c = c.value.ensures ∙ ap at_home (cell_at c.args.self.now.pages
    c.names_have_places.ensures.there lock.Device tt c.args.self.now.row
    (c.args.self.now.names ∙ names_some c.args.self.now.pages (some o c)) ∙ (home o c).1)

pub unreachable-requires : goal.unreachable-requires
unreachable-requires o c =
    let v = value_at o (goal.at.unreachable-requires o c).After-value in
    let none : None ≡ Some _ = sym (ap option_copied c.in_default-value.is) ∙ v in cc

pub device_in-requires : goal.device_in-requires
device_in-requires o c =
    let a = (goal.at.device_in-requires o c).After-value in (
      (home o a).0,
      (let q : Some c.in-Some-value.value.now ≡ Some (holds.Device (home o a).0) =
          sym (ap option_copied c.in-Some-value.is) ∙ value_at o a in
          let r : c.in-Some-value.value.now ≡ holds.Device (home o a).0 = cc in r),
    )

pub returns : goal.returns
returns o c =
    let a = (goal.at.returns o c).After-value in
    let q : Some (holds.Device c.device_in.result.now) ≡ Some (holds.Device (home o a).0) =
    ap Some (sym c.device_in.ensures) ∙ sym (ap option_copied c.in-Some-value.is) ∙ value_at o a in
    let same : c.device_in.result.now ≡ (home o a).0 = cc in
    same ∙ sym (device_told c.args.self.now.pages c.args.self.now.row.cells no_device _ (home o a).1)
    ∙ ap (λ s. device_by s c.args.self.now.pages c.args.self.now.row.cells) (sym c.in_default.is)
