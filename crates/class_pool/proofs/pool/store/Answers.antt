-- The lowest free cell takes the object, and the free handle its place.
use Rattle.class_pool.specs.Pool.{new_use}
use Rattle.class_pool.proofs.PoolLaws.{stored_fit, number_free}
use Rattle.class_pool.proofs.pool.store.Goals as goal

pub free-number-requires : goal.free-number-requires
free-number-requires c = number_free c.args.id _ _ c.requires.fit c.requires.room

pub returns-clause-fit : goal.returns-clause-fit
returns-clause-fit c =
    let taken = c.take_cell-cell.ensures in
    stored_fit _ _ _ _ c.args.id c.take_cell-cell.result taken.0
    (new_use c.free-number.result c.args.bytes.now taken.1)
    c.requires.fit taken.2 taken.3.free c.free-number.ensures.within
    c.free-number.ensures.free taken.6 c.put.ensures
