-- The winner of the ranks is the fullest zspage with room.
use Rattle.std.proofs.Common.{sym, subst}
use Rattle.class_pool.specs.Zspages.{HasRoom, IsFullest}
use Rattle.zspage.specs.Cells.{entry}
use Rattle.class_pool.proofs.Ranks.{fullest_is}
use Rattle.class_pool.proofs.zspages.Zspages.fullest.Goals as goal

pub returns : goal.returns
returns c =
    subst (λ z. IsFullest z.zspages c.winner.result) c.self.view_is
    (fullest_is _ _ _ _ _ _ _ c.requires.0 c.self.invariant c.winner.ensures
    (subst (λ z. HasRoom (entry z.zspages c.requires.0)) (sym c.self.view_is) c.requires.1))
