-- The objects that are left are others.
use Rattle.class_pool.proofs.pool.tests.Trial.free_one.Goals as goal

pub invariant_of-self : goal.invariant_of-self
invariant_of-self g c k h at =
    let other = c.take-handle.ensures.others k h at in
    c.free.ensures.others h.0 other.1 (c.self.invariant k h other.0)
