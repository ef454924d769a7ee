-- Where the two counts are equal all cells are at hand.
use Rattle.std.proofs.Common.{arith}
use Rattle.zspage.proofs.MoveLaws.{here}
use Rattle.zspage.proofs.zspage.Zspage.drop.Goals as goal

pub gather-requires-clause-here : goal.gather-requires-clause-here
gather-requires-clause-here c =
    let is = c.self.invariant.0 in
    here c.self.inside.spots.items (omega (arith, is.count, is.home_is, c.if-used-home.true))
