-- All cells are back, and make the chain whole.
use Rattle.std.proofs.Common.{◌≡◌, length, arith}
use Rattle.zspage.proofs.MoveLaws.{gathered_all, gather_step}
use Rattle.zspage.proofs.zspage.gather.Goals as goal

pub join-requires : goal.join-requires
join-requires c =
    let gone : length c.loop-spot.spots.items ≡ 0 =
    omega (arith, c.in_default.ensures.cases.0, c.loop-spot.spots.ok) in
    gathered_all c.args.cells c.loop-spot.cells c.args.spots.items c.loop-spot.spots.items
    c.loop-spot.invariant gone
    c.requires.emptied

pub loop-spot-preserved : goal.loop-spot-preserved
loop-spot-preserved c =
    gather_step c.args.cells c.loop-spot.cells c.push.new.self c.args.spots.items
    c.loop-spot.spots.items
    c.pop.new.self.items c.requires.placed.0 c.in-Some.spot c.into_cell.result c.loop-spot.invariant
    c.in-Some.ensures.items c.push.ensures c.requires.placed.1 c.into_cell.ensures
