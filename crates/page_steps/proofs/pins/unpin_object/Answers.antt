use Rattle.page_steps.proofs.Pooled.{returns as gives_back}
use Rattle.page_steps.proofs.pins.unpin_object.Goals as goal

pub returns : goal.returns
returns c =
    gives_back c.args.pool.now c.unpin.new.self c.args.object.handle.0 c.unpin.ensures.cell
    c.unpin.ensures.pool
