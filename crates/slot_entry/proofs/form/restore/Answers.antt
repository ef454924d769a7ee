-- No object is longer than a page.
use Rattle.std.proofs.Common.{◌++◌, arith, length-append}
use Rattle.slot_entry.proofs.Forms.{kept_long}
use Rattle.slot_entry.proofs.form.restore.Goals as goal

pub joined-requires : goal.joined-requires
joined-requires c =
    let first = c.args.first.now in
    let second = c.args.second.now in
    let (known, is, e) = c.requires.kept in
    omega (
      arith,
      kept_long known (first ++ second) c.args.huge is e,
      length-append first second,
    )
