use Rattle.std.proofs.Common.{◌≡◌, ◌<◌, ◌≤◌, true, false, Ok, sym, ◌∙◌, arith}
use Rattle.std.specs.Prelude.{nat_lt}
use Rattle.std.proofs.lemmas.Bool.Decides.{nat_tests}
use Rattle.std.proofs.lemmas.Result.{err_from_is_err_and}
use Rattle.job_text.specs.declared.job.Attr.TheVariants.{Backing}
use Rattle.job_session.specs.Stepped.{disk_of, with_backing}
use Rattle.job_session.proofs.Jobs.{items_stop, backing_busy_now, backing_past, backing_given, attr_told}
use Rattle.job_session.proofs.Sending.{Tells-none}
use Rattle.job_session.proofs.items.set_backing.Goals as goal

pub returns-then-pages-gt0-clause-item : goal.returns-then-pages-gt0-clause-item
returns-then-pages-gt0-clause-item g c clock =
    let d = disk_of clock c.args.world.now in
    let some : 0 < d.size = omega (arith, c.if-pages-gt0.true, c.pages.ensures) in
    attr_told d d (Backing c.args.blocks) _ c.args.out.now _ _
    (backing_busy_now d.size (nat_lt d.device.blocks c.args.blocks) d c.args.blocks some)
    c.tell_refused.ensures

pub returns-then-device_blocks-blocks-clause-item : goal.returns-then-device_blocks-blocks-clause-item
returns-then-device_blocks-blocks-clause-item g c clock =
    let d = disk_of clock c.args.world.now in
    let none : d.size ≡ 0 = omega (arith, c.if-pages-gt0.false, c.pages.ensures) in
    let few : d.device.blocks < c.args.blocks =
    omega (arith, c.if-device_blocks-blocks.true, c.device_blocks.ensures) in
    let past : nat_lt d.device.blocks c.args.blocks ≡ true = grind (arith, nat_tests, few) in
    attr_told d d (Backing c.args.blocks) _ c.args.out.now _ _
    (backing_past d.size (nat_lt d.device.blocks c.args.blocks) d c.args.blocks none past)
    c.tell_refused-then-device_blocks-blocks.ensures

pub returns-in_err-set_backing-clause-item : goal.returns-in_err-set_backing-clause-item
returns-in_err-set_backing-clause-item g c clock =
    let p = err_from_is_err_and c.from_residual.result c.from_residual.ensures.1 in
    rw (p.1, p.2) (items_stop (disk_of clock c.args.world.now) (disk_of clock c.set_backing.new.self) _
    c.args.out.now _ tt (sym c.set_backing.ensures.device))

pub returns-clause-item : goal.returns-clause-item
returns-clause-item g c clock =
    let d = disk_of clock c.args.world.now in
    let m = disk_of clock c.set_backing.new.self in
    let set = c.in_ok-set_backing.ensures in
    let none : d.size ≡ 0 = omega (arith, c.if-pages-gt0.false, c.pages.ensures) in
    let fits : c.args.blocks ≤ d.device.blocks =
    omega (arith, c.if-device_blocks-blocks.false, c.device_blocks.ensures) in
    let past : nat_lt d.device.blocks c.args.blocks ≡ false = grind (arith, nat_tests, fits) in
    let some : nat_lt 0 c.args.blocks ≡ true = (let le = c.requires.may.0 in grind (arith, nat_tests, le)) in
    let same : m ≡ with_backing d c.args.blocks = λ i. record {
      size = set.pages i;
      limit = set.limit i;
      backed = (set.backed ∙ sym some) i;
      clock = clock;
      row = (set.row i).cells;
      device = set.device i;
      blocks = set.blocks i;
    } in
    attr_told d m (Backing c.args.blocks) _ c.args.out.now _ (Ok tt)
    (backing_given d.size (nat_lt d.device.blocks c.args.blocks) d m c.args.blocks none past same)
    (Tells-none c.args.out.now)
