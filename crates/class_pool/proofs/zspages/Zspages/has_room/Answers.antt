-- The winner has room where some zspage has.
use Rattle.std.proofs.Common.{arith, sym, subst}
use Rattle.std.proofs.lemmas.Bool.{leb-true, leb-false}
use Rattle.zspage.specs.Cells.{entry}
use Rattle.class_pool.specs.Zspages.{HasRoom}
use Rattle.class_pool.proofs.Ranks.{winner_room, winner_has}
use Rattle.class_pool.proofs.zspages.Zspages.has_room.Goals as goal

pub returns-clause-room : goal.returns-clause-room
returns-clause-room c high = (
  c.winner.result,
  subst (λ z. HasRoom (entry z.zspages c.winner.result)) c.self.view_is
      (winner_has _ _ _ _ _ _ _ c.self.invariant c.winner.ensures
      (omega (arith, leb-true _ _ high, c.rank.ensures))),
)

pub returns-clause-none : goal.returns-clause-none
returns-clause-none c low k room =
    omega (
      arith,
      leb-false _ _ low,
      c.rank.ensures,
      winner_room _ _ _ _ _ _ _ k c.self.invariant c.winner.ensures
          (subst (λ z. HasRoom (entry z.zspages k)) (sym c.self.view_is) room),
    )
