use Rattle.page_steps.proofs.Pooled.{stores, makes_if}
use Rattle.page_steps.proofs.objects.add.Goals as goal

pub returns-then-room-clause-added : goal.returns-then-room-clause-added
returns-then-room-clause-added c =
    stores c.args.pool.now c.alloc.new.self c.alloc.result.0 c.args.bytes.now
    (c.room.ensures.room c.if-room.true) c.alloc.ensures.place c.alloc.ensures.fresh c.alloc.ensures.pool

pub returns-else-room-clause-added : goal.returns-else-room-clause-added
returns-else-room-clause-added c =
    makes_if c.args.pool.now c.alloc_new.new.self c.args.bytes.now c.alloc_new.result
    (c.room.ensures.none c.if-room.false) c.alloc_new.ensures.place c.alloc_new.ensures.fresh
    c.alloc_new.ensures.pool
