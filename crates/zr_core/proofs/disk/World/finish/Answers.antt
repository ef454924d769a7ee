use Rattle.std.proofs.Common.{length, suc}
use Rattle.zr_core.proofs.Runs.{plays_none, then_round}
use Rattle.zr_core.proofs.disk.World.finish.Goals as goal

pub loop-self-init : goal.loop-self-init
loop-self-init o c = (0, plays_none _ c.requires.can)

pub loop-self-preserved : goal.loop-self-preserved
loop-self-preserved o c =
    let i = c.loop-self.invariant in
    (suc i.0, then_round _ _ _ (length c.args.actors.now) i.0 i.1 c.round.ensures.plays)
