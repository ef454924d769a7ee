use Rattle.std.proofs.Common.{◌≡◌, ◌<◌, length, Some, slice_get, sym, ap, ◌∙◌, arith}
use Rattle.std.proofs.lemmas.Bool.{leb-true, leb-false}
use Rattle.std.proofs.lemmas.Option.{slice_get_within}
use Rattle.zr_core.proofs.Lists.{at_index}
use Rattle.zr_core.proofs.Runs.{more_over}
use Rattle.zr_core.proofs.disk.World.is_busy.Goals as goal
use Rattle.zr_core.proofs.disk.World.is_busy.Goals.{After-as_slice}

below : (o : _) (c : After-as_slice o) → c.loop-actor.actor < length c.args.actors.now
below o c = let t = c.loop-actor-test.true in omega arith

worker_at : (o : _) (c : After-as_slice o)
    → slice_get c.args.phase.now.workers.items c.loop-actor.actor ≡ Some c.index.result.now
worker_at o c = at_index c.args.phase.now.workers.items c.loop-actor.actor c.index.result.now
    (let q = below o c in let n = c.requires in let k = c.args.phase.now.workers.ok in
    omega (arith, q, n, k.0)) c.index.ensures

ops_at : (o : _) (c : After-as_slice o)
    → slice_get c.args.actors.now c.loop-actor.actor ≡ Some c.as_slice.result.now
ops_at o c = at_index c.args.actors.now c.loop-actor.actor c.index-actors-actor.result
    (below o c) c.index-actors-actor.is
    ∙ ap Some (sym c.as_slice.ensures)

pub returns-then-not-is_done-clause-busy : goal.returns-then-not-is_done-clause-busy
returns-then-not-is_done-clause-busy o c = let a =
    (goal.at.returns-then-not-is_done-clause-busy o c).After-as_slice in record {
      actor = c.loop-actor.actor;
      ops = c.as_slice.result.now;
      worker = c.index.result.now;
      named = ops_at o a;
      there = worker_at o a;
      more = leb-false (length c.as_slice.result.now) c.index.result.now.place.nr
          (sym c.if-not-is_done.ensures);
    }

pub loop-actor-preserved : goal.loop-actor-preserved
loop-actor-preserved o c = let a = (goal.at.loop-actor-preserved o c).After-as_slice in
    more_over c.args.actors.now c.args.phase.now.workers.items c.loop-actor.actor
    c.as_slice.result.now c.index.result.now (ops_at o a) (worker_at o a)
    (leb-true (length c.as_slice.result.now) c.index.result.now.place.nr
    (sym c.if-not-is_done.ensures)) c.loop-actor.invariant

pub returns-clause-over : goal.returns-clause-over
returns-clause-over o c a ops w named there =
    c.loop-actor.invariant a ops w (let lt = slice_get_within c.args.actors.now a ops named in
    let t = c.loop-actor-test.false in omega arith) named there
