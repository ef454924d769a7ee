-- The cell that comes back is the one that was lent, and the moves left it lent.
use Rattle.std.proofs.Common.{◌≡◌, sym, subst, ◌∙◌}
use Rattle.class_pool.specs.Pool.{IsLent}
use Rattle.class_pool.proofs.pool.tests.move_beside.Goals as goal

pub unpin-requires : goal.unpin-requires
unpin-requires g c =
    let same : c.pin-cell.result ≡ c.join-cell.result.1 = sym c.in_ok-child.ensures
    ∙ sym c.join-cell.ensures in
    subst (IsLent c.compact-moved.new.pool c.args.handle.0) same
    (c.compact-moved.ensures.lent c.args.handle.0 c.pin-cell.result c.pin-cell.ensures.lent)
