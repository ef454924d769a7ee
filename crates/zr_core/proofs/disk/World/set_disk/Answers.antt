use Rattle.std.proofs.Common.{◌≡◌, ◌+◌, ℕ, List, sym, ap, ◌∙◌, subst}
use Rattle.backing_dev.specs.Dev.{DeviceState}
use Rattle.block_map.specs.BlockMap.{BlockMap}
use Rattle.zr_core.specs.Rests.{no_device, IsSpare, IsEarly, device_by, blocks_by, IsAtRest, RestsAs, new_disk, with_map}
use Rattle.zr_core.specs.Rows.{AreNew}
use Rattle.zr_core.proofs.Fresh.{out_blocks, out_device, device_at, blocks_at, account_at, row_new, new_rests, new_at_rest}
use Rattle.zr_core.proofs.Names.{names_some}
use Rattle.zr_core.proofs.Spares.{no_pages, early_some}
use Rattle.zr_core.proofs.Telling.{device_told, blocks_told}
use Rattle.zr_core.proofs.disk.World.set_disk.Goals as goal
use Rattle.zr_core.proofs.disk.World.set_disk.Goals.{After-put_device}

pub put_device-requires-clause-out : goal.put_device-requires-clause-out
put_device-requires-clause-out o c =
    let f = c.in_ok-row.ensures.cells in
    let long = (f.1 no_device).size in (
      out_blocks c.args.pages f.0 c.in_ok-row.row.cells long f.2,
      out_device c.args.pages f.0 c.in_ok-row.row.cells long f.2,
    )

pub invariant_of-self-clause-early : goal.invariant_of-self-clause-early
invariant_of-self-clause-early o c = subst (IsEarly c.args.pages) (sym c.take.ensures.after)
    (early_some o.row.D.Denot c.args.pages c.requires.some)

pub invariant_of-self-clause-names : goal.invariant_of-self-clause-names
invariant_of-self-clause-names o c = c.put_device.ensures.names ∙ c.in_ok-row.ensures.names
    ∙ sym (names_some c.args.pages c.requires.some)

-- ---- the row of the new disk

-- the device that stood beside it
beside : (o : _) (c : After-put_device o) → c.in-Some.spare.device
    ≡ device_by c.args.self.now.spare c.args.self.now.pages c.args.self.now.row.cells
beside o c = ap (λ s. device_by s c.args.self.now.pages c.args.self.now.row.cells)
    c.in-Some.ensures.value

-- and the map
map_beside : (o : _) (c : After-put_device o) → c.in-Some.spare.blocks
    ≡ blocks_by c.args.self.now.spare c.args.self.now.pages c.args.self.now.row.cells
map_beside o c = ap (λ s. blocks_by s c.args.self.now.pages c.args.self.now.row.cells)
    c.in-Some.ensures.value

is_spare : (o : _) (c : After-put_device o) → IsSpare c.in-Some.spare
is_spare o c = (no_pages c.args.self.now.pages c.args.self.now.spare c.in-Some.spare
    c.args.self.now.early c.in-Some.ensures.value).1

full : (o : _) (c : After-put_device o)
    → AreNew (new_disk c.args.pages c.args.self.now.limit c.in-Some.spare.device)
    (c.args.pages + 258) c.put_device.new.row.cells
full o c =
    let f = c.in_ok-row.ensures.cells in
    let s = is_spare o c in
    row_new c.args.pages c.args.self.now.limit c.in-Some.spare.device c.in-Some.spare.blocks f.0
    c.in_ok-row.row.cells c.put_device.new.row.cells (f.1 c.in-Some.spare.device) f.2
    c.put_device.ensures.cells s.free s.fits s.reads s.writes

rests : (o : _) (c : After-put_device o)
    → RestsAs (with_map (new_disk c.args.pages c.args.self.now.limit c.in-Some.spare.device)
    c.in-Some.spare.blocks) c.args.pages c.put_device.new.row.cells
rests o c =
    let f = c.in_ok-row.ensures.cells in
    let d = c.in-Some.spare.device in
    let x = c.in-Some.spare.blocks in
    new_rests c.args.pages c.args.self.now.limit d x c.put_device.new.row.cells (full o c)
    c.requires.some c.requires.most
    (account_at c.args.pages c.args.self.now.limit d x f.0 c.in_ok-row.row.cells
    c.put_device.new.row.cells (f.1 d) f.2 c.put_device.ensures.cells ∙ c.in_ok-row.ensures.account)
    (device_at c.args.pages c.args.self.now.limit d x f.0 c.in_ok-row.row.cells
    c.put_device.new.row.cells (f.1 d) f.2 c.put_device.ensures.cells)
    (blocks_at c.args.pages c.args.self.now.limit d x f.0 c.in_ok-row.row.cells
    c.put_device.new.row.cells (f.1 d) f.2 c.put_device.ensures.cells) c.disks_begin.ensures.rest
    c.disks_begin.ensures.proper

pub returns-clause-values : goal.returns-clause-values
returns-clause-values o c =
    let a = (goal.at.returns-clause-values o c).After-put_device in
    subst (λ (d : DeviceState). AreNew (new_disk c.args.pages c.args.self.now.limit d)
    (c.args.pages + 258) c.put_device.new.row.cells) (beside o a) (full o a)

pub returns-clause-new : goal.returns-clause-new
returns-clause-new o c =
    let a = (goal.at.returns-clause-new o c).After-put_device in
    subst (λ (s : DeviceState × BlockMap). RestsAs (with_map
    (new_disk c.args.pages c.args.self.now.limit s.0) s.1) c.args.pages c.put_device.new.row.cells)
    (λ i. (beside o a i, map_beside o a i)) (rests o a)

pub returns-clause-device : goal.returns-clause-device
returns-clause-device o c =
    let a = (goal.at.returns-clause-device o c).After-put_device in
    let f = c.in_ok-row.ensures.cells in
    let d = c.in-Some.spare.device in
    ap (λ s. device_by s c.args.pages c.put_device.new.row.cells) c.take.ensures.after
    ∙ device_told c.args.pages c.put_device.new.row.cells no_device d
    (device_at c.args.pages c.args.self.now.limit d c.in-Some.spare.blocks f.0 c.in_ok-row.row.cells
    c.put_device.new.row.cells (f.1 d) f.2 c.put_device.ensures.cells)
    ∙ beside o a

pub returns-clause-blocks : goal.returns-clause-blocks
returns-clause-blocks o c =
    let f = c.in_ok-row.ensures.cells in
    let d = c.in-Some.spare.device in
    let x = c.in-Some.spare.blocks in
    ap (λ s. blocks_by s c.args.pages c.put_device.new.row.cells) c.take.ensures.after
    ∙ blocks_told c.args.pages c.put_device.new.row.cells x
    (blocks_at c.args.pages c.args.self.now.limit d x f.0 c.in_ok-row.row.cells
    c.put_device.new.row.cells (f.1 d) f.2 c.put_device.ensures.cells)
    ∙ map_beside o (goal.at.returns-clause-blocks o c).After-put_device

pub returns-clause-rest : goal.returns-clause-rest
returns-clause-rest o c =
    let a = (goal.at.returns-clause-rest o c).After-put_device in
    subst (λ (noted : List ℕ). IsAtRest c.args.pages noted c.put_device.new.row.cells)
    (sym c.clear.ensures.items)
    (new_at_rest c.args.pages c.args.self.now.limit c.in-Some.spare.device c.in-Some.spare.blocks
    c.put_device.new.row.cells (full o a) (rests o a))
