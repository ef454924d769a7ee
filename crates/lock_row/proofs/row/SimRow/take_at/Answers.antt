use Rattle.std.proofs.Common.{◌<◌, List, length, ap, ◌∙◌, subst}
use Rattle.lock_row.specs.declared.names.LockNo.{LockNo}
use Rattle.lock_row.specs.Rows.{place_in}
use Rattle.lock_row.proofs.Places.{taken}
use Rattle.lock_row.proofs.row.SimRow.take_at.Goals as goal

pub returns : goal.returns
returns g c =
    let names = c.deref.ensures.value in
    taken c.args.self.now c.self.inside.names.items c.self.inside.cells.items c.args.lock
    c.self.view_is c.self.invariant.size
    c.in-Some.at (c.in-Some.ensures.0
    ∙ ap (λ (ns : List LockNo). place_in ns c.args.lock) names)
    (subst (λ (ns : List LockNo). c.in-Some.at < length ns) names c.in-Some.ensures.1)
    c.index_mut.result.now c.take.new.self c.take.result c.index_mut.ensures.value
    c.take.ensures.value c.take.ensures.after
