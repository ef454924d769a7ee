use Rattle.std.proofs.Common.{Ok, refl, ap}
use Rattle.job_session.specs.Stepped.{disk_of}
use Rattle.job_session.proofs.Devices.{is_limited, is_lowered, is_budgeted}
use Rattle.job_session.proofs.Jobs.{attr_told}
use Rattle.job_session.proofs.Sending.{Tells-none}
use Rattle.job_session.proofs.items.set_attr.Goals as goal

pub returns-in-DiskPages-clause-item : goal.returns-in-DiskPages-clause-item
returns-in-DiskPages-clause-item g c = rw c.in-DiskPages.is (c.set_size.ensures.item c.args.clock.now)

pub returns-in-Backing-clause-item : goal.returns-in-Backing-clause-item
returns-in-Backing-clause-item g c = rw c.in-Backing.is (c.set_backing.ensures.item c.args.clock.now)

pub returns-in-LimitPages-clause-item : goal.returns-in-LimitPages-clause-item
returns-in-LimitPages-clause-item g c =
    let d = c.args.world.now in
    let m = c.set_limit.new.self in
    let clock = c.args.clock.now in
    let set = c.set_limit.ensures in
    rw c.in-LimitPages.is
    (attr_told (disk_of clock d) (disk_of clock m) _ _ c.args.out.now _ (Ok tt) (
      refl,
      is_limited clock d.backed m.backed d.spare m.spare d.pages m.pages d.limit m.limit d.row.cells m.row.cells
          set.spare set.pages set.backed c.requires.rest.rests (λ none. ap (λ row. row.cells) (set.none none))
          c.in-LimitPages.pages set.limit set.cells,
    )
    (Tells-none c.args.out.now))

pub returns-in-WritebackLimit-clause-item : goal.returns-in-WritebackLimit-clause-item
returns-in-WritebackLimit-clause-item g c =
    let d = c.args.world.now in
    let m = c.set_wb_limit.new.self in
    let clock = c.args.clock.now in
    let set = c.set_wb_limit.ensures in
    rw c.in-WritebackLimit.is
    (attr_told (disk_of clock d) (disk_of clock m) _ _ c.args.out.now _ (Ok tt) (
      refl,
      is_budgeted clock d.backed m.backed d.spare m.spare d.pages m.pages d.limit m.limit d.row.cells
          m.row.cells c.in-WritebackLimit.units (disk_of clock d).blocks.enabled set.pages set.limit
          set.backed set.device set.blocks (λ none. ap (λ row. row.cells) (set.none none)) set.cells,
    )
    (Tells-none c.args.out.now))

pub returns-in-WritebackLimitEnable-clause-item : goal.returns-in-WritebackLimitEnable-clause-item
returns-in-WritebackLimitEnable-clause-item g c =
    let d = c.args.world.now in
    let m = c.set_wb_enable.new.self in
    let clock = c.args.clock.now in
    let set = c.set_wb_enable.ensures in
    rw c.in-WritebackLimitEnable.is
    (attr_told (disk_of clock d) (disk_of clock m) _ _ c.args.out.now _ (Ok tt) (
      refl,
      is_budgeted clock d.backed m.backed d.spare m.spare d.pages m.pages d.limit m.limit d.row.cells
          m.row.cells (disk_of clock d).blocks.budget c.in-WritebackLimitEnable.on set.pages set.limit
          set.backed set.device set.blocks (λ none. ap (λ row. row.cells) (set.none none)) set.cells,
    )
    (Tells-none c.args.out.now))

pub returns-in-Clock-clause-item : goal.returns-in-Clock-clause-item
returns-in-Clock-clause-item g c =
    let d = c.args.world.now in
    rw c.in-Clock.is
    (attr_told (disk_of c.args.clock.now d) (disk_of c.in-Clock.seconds d) _ _ c.args.out.now _ (Ok tt)
    (refl, refl) (Tells-none c.args.out.now))

pub returns-in-LowerMax-clause-item : goal.returns-in-LowerMax-clause-item
returns-in-LowerMax-clause-item g c =
    let d = c.args.world.now in
    let m = c.lower_max.new.self in
    let clock = c.args.clock.now in
    let set = c.lower_max.ensures in
    rw c.in-LowerMax.is
    (attr_told (disk_of clock d) (disk_of clock m) _ _ c.args.out.now _ (Ok tt) (
      refl,
      is_lowered clock d.backed m.backed d.spare m.spare d.pages m.pages d.limit m.limit d.row.cells m.row.cells
          set.spare set.pages set.backed c.requires.rest.rests (λ none. ap (λ row. row.cells) (set.none none))
          set.limit set.cells,
    )
    (Tells-none c.args.out.now))
