use Rattle.std.proofs.Common.{◌≡◌, ◌<◌, Ok, sym, ◌∙◌, arith}
use Rattle.std.proofs.lemmas.Result.{err_from_is_err_and}
use Rattle.zr_core.specs.Rests.{device_by}
use Rattle.job_text.specs.declared.job.Attr.TheVariants.{DiskPages}
use Rattle.job_session.specs.Stepped.{disk_of}
use Rattle.job_session.proofs.Devices.{is_new_disk}
use Rattle.job_session.proofs.Jobs.{items_stop, size_busy, size_given, attr_told}
use Rattle.job_session.proofs.Sending.{Tells-none}
use Rattle.job_session.proofs.items.set_size.Goals as goal

pub returns-then-pages-gt0-clause-item : goal.returns-then-pages-gt0-clause-item
returns-then-pages-gt0-clause-item g c clock =
    let d = disk_of clock c.args.world.now in
    let some : 0 < d.size = omega (arith, c.if-pages-gt0.true, c.pages.ensures) in
    attr_told d d (DiskPages c.args.pages) _ c.args.out.now _ _
    (size_busy d.size d c.args.pages some) c.tell_refused.ensures

pub returns-in_err-set_disk-clause-item : goal.returns-in_err-set_disk-clause-item
returns-in_err-set_disk-clause-item g c clock =
    let p = err_from_is_err_and c.from_residual.result c.from_residual.ensures.1 in
    let err = c.in_err-set_disk.ensures.err in
    let none : c.args.world.now.pages ≡ 0 = omega (arith, c.if-pages-gt0.false, c.pages.ensures) in
    rw (p.1, p.2) (items_stop (disk_of clock c.args.world.now) (disk_of clock c.set_disk.new.self) _
    c.args.out.now _ tt
    (sym (λ i. device_by (err.3 i) ((err.0 ∙ sym none) i) (err.1 i).cells)))

pub returns-clause-item : goal.returns-clause-item
returns-clause-item g c clock =
    let d = disk_of clock c.args.world.now in
    let m = c.set_disk.new.self in
    let set = c.in_ok-set_disk.ensures in
    let some = c.requires.may.0 in
    let none : d.size ≡ 0 = omega (arith, c.if-pages-gt0.false, c.pages.ensures) in
    attr_told d (disk_of clock m) (DiskPages c.args.pages) _ c.args.out.now _ (Ok tt)
    (size_given d.size d (disk_of clock m) c.args.pages none
    (is_new_disk d m.backed m.spare m.pages c.args.pages m.limit m.row.cells set.pages some set.limit set.backed m.early
    set.device set.blocks set.values set.new))
    (Tells-none c.args.out.now)
