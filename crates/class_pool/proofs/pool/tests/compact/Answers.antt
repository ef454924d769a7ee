-- Each move leaves at home what was at home, and lent what was lent.
use Rattle.class_pool.proofs.pool.tests.compact.Goals as goal

pub loop-frames-preserved : goal.loop-frames-preserved
loop-frames-preserved c = record {
  home = λ h among. c.move_one.ensures.home h (c.loop-frames.invariant.home h among);
  lent = λ h cell lent. c.move_one.ensures.lent h cell (c.loop-frames.invariant.lent h cell lent);
}
