use Rattle.std.proofs.Common.{◌≡◌, ◌+◌, ◌≤◌, Some, slice_get, sym, ap, ◌∙◌, subst}
use Rattle.backing_dev.specs.Dev.{DeviceState}
use Rattle.lock_row.specs.declared.names.Held.TheVariants as holds
use Rattle.lock_row.specs.declared.names.LockNo.TheVariants as lock
use Rattle.lock_row.specs.Rows.{Row, IsIn, cell}
use Rattle.page_steps.specs.Steps.{DiskHeld}
use Rattle.zr_core.specs.Rests.{names_of, no_device, device_by}
use Rattle.zr_core.proofs.Names.{names_some}
use Rattle.zr_core.proofs.Preparing.{cell_home, is_in, not_out}
use Rattle.zr_core.proofs.Spares.{some_pages}
use Rattle.zr_core.proofs.Telling.{device_home, device_told}
use Rattle.zr_core.proofs.disk.World.close.Goals as goal
use Rattle.zr_core.proofs.disk.World.close.Goals.{After-hand-hand, In-Some-try_take, After-device_of}

some : (o : _) (c : After-hand-hand o) → 1 ≤ c.args.self.pages
some o c = some_pages c.args.self.pages c.args.self.spare c.args.self.early (sym c.in_default.is)

names_are : (o : _) (c : After-hand-hand o) → c.args.self.row.names ≡ names_of c.args.self.pages
names_are o c = c.args.self.names ∙ names_some c.args.self.pages (some o c)

-- the device that is at home
home : (o : _) (c : After-hand-hand o) → (d : DeviceState)
    × (slice_get c.args.self.row.cells (c.args.self.pages + 257) ≡ Some (Some (holds.Device d)))
home o c = device_home c.args.self.pages c.args.self.noted.items c.args.self.row.cells
    c.requires.rest (some o c)

pub try_take-requires : goal.try_take-requires
try_take-requires o c =
    let a = (goal.at.try_take-requires o c).After-hand-hand in
    subst (λ (r : Row DiskHeld). IsIn r lock.Device) (sym c.hand-hand.ensures.row)
    (is_in c.names_have_places.ensures.there c.args.self.pages lock.Device tt c.args.self.row
    (names_are o a) (holds.Device (home o a).0) (home o a).1)

pub unreachable-requires : goal.unreachable-requires
unreachable-requires o c =
    let a = (goal.at.unreachable-requires o c).After-hand-hand in
    not_out c.names_have_places.ensures.there c.args.self.pages lock.Device tt c.args.self.row
    (names_are o a) (holds.Device (home o a).0) (home o a).1
    (ap (λ (r : Row DiskHeld). cell r lock.Device) (sym c.hand-hand.ensures.row)
    ∙ c.in_default-try_take.ensures.outcome.2.out)

-- it is what is taken
value_is : (o : _) (c : In-Some-try_take o) (d : DeviceState)
    → slice_get c.args.self.row.cells (c.args.self.pages + 257) ≡ Some (Some (holds.Device d))
    → c.args.self.row.names ≡ names_of c.args.self.pages
    → c.in-Some-try_take.value ≡ holds.Device d
value_is o c d at names =
    let q : Some (Some c.in-Some-try_take.value) ≡ Some (Some (holds.Device d)) =
    sym c.in-Some-try_take.ensures.outcome.2.home
    ∙ ap (λ (r : Row DiskHeld). cell r lock.Device) c.hand-hand.ensures.row
    ∙ cell_home c.names_have_places.ensures.there c.args.self.pages lock.Device tt
    c.args.self.row names (holds.Device d) at in cc

pub device_of-requires : goal.device_of-requires
device_of-requires o c =
    let at = goal.at.device_of-requires o c in
    let a = at.After-hand-hand in
    ((home o a).0, value_is o at.In-Some-try_take (home o a).0 (home o a).1 (names_are o a))

-- the device that was taken is the world's
taken : (o : _) (c : After-device_of o) (d : DeviceState)
    → slice_get c.args.self.row.cells (c.args.self.pages + 257) ≡ Some (Some (holds.Device d))
    → c.in-Some-try_take.value ≡ holds.Device d
    → c.device_of.result ≡ device_by c.args.self.spare c.args.self.pages c.args.self.row.cells
taken o c d at is =
    let q : holds.Device c.device_of.result ≡ holds.Device d = sym c.device_of.ensures ∙ is in
    let same : c.device_of.result ≡ d = cc in
    same ∙ sym (device_told c.args.self.pages c.args.self.row.cells no_device d at)
    ∙ ap (λ s. device_by s c.args.self.pages c.args.self.row.cells) (sym c.in_default.is)

pub returns-clause-blocks : goal.returns-clause-blocks
returns-clause-blocks o c =
    let at = goal.at.returns-clause-blocks o c in
    let a = at.After-hand-hand in
    let h = home o a in
    c.into_inner-2.ensures.blocks ∙ ap (λ (d : DeviceState). d.blocks)
    (taken o at.After-device_of h.0 h.1 (value_is o at.In-Some-try_take h.0 h.1 (names_are o a)))

pub returns-clause-contents : goal.returns-clause-contents
returns-clause-contents o c =
    let at = goal.at.returns-clause-contents o c in
    let a = at.After-hand-hand in
    let h = home o a in
    c.into_inner-2.ensures.contents ∙ ap (λ (d : DeviceState). d.contents)
    (taken o at.After-device_of h.0 h.1 (value_is o at.In-Some-try_take h.0 h.1 (names_are o a)))

pub returns-clause-faults : goal.returns-clause-faults
returns-clause-faults o c =
    let at = goal.at.returns-clause-faults o c in
    let a = at.After-hand-hand in
    let h = home o a in
    c.into_inner-2.ensures.faults ∙ ap (λ (d : DeviceState). d.faults)
    (taken o at.After-device_of h.0 h.1 (value_is o at.In-Some-try_take h.0 h.1 (names_are o a)))

pub returns-clause-calls : goal.returns-clause-calls
returns-clause-calls o c =
    let at = goal.at.returns-clause-calls o c in
    let a = at.After-hand-hand in
    let h = home o a in
    c.into_inner-2.ensures.calls ∙ ap (λ (d : DeviceState). d.calls)
    (taken o at.After-device_of h.0 h.1 (value_is o at.In-Some-try_take h.0 h.1 (names_are o a)))

pub returns-clause-same : goal.returns-clause-same
returns-clause-same o c =
    let at = goal.at.returns-clause-same o c in
    let a = at.After-hand-hand in
    let h = home o a in
    c.into_inner-2.ensures.same ∙ ap (λ (d : DeviceState). d.references)
    (taken o at.After-device_of h.0 h.1 (value_is o at.In-Some-try_take h.0 h.1 (names_are o a)))
