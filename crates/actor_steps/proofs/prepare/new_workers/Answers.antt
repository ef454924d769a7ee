use Rattle.std.proofs.Common.{◌≡◌, List, [], Some, slice_get, refl, sym, ap, ◌∙◌, subst, arith}
use Rattle.actor_steps.specs.declared.worker.Worker.{Worker}
use Rattle.actor_steps.specs.Preparing.{AreNewWorkers}
use Rattle.actor_steps.proofs.Places.{at_index}
use Rattle.actor_steps.proofs.Beginners.{worker_more, few_of}
use Rattle.actor_steps.proofs.prepare.new_workers.Goals as goal
use Rattle.actor_steps.proofs.prepare.new_workers.Goals.{After-as_slice}

ops_at : (g : _) (c : After-as_slice g)
    → slice_get c.args.ops.now c.loop-actor.actor-index ≡ Some c.as_slice.result.now
ops_at g c = at_index c.args.ops.now c.loop-actor.actor-index c.actor-item.result
    (let t = c.loop-actor-test.true in omega arith) c.actor-item.is
    ∙ ap Some (sym c.as_slice.ensures)

pub loop-actor-init : goal.loop-actor-init
loop-actor-init g c =
    let e = c.in_ok-workers.ensures in record {
      len = e.len;
      room = omega (arith, e.capacity);
      workers = subst (λ (ws : List (Worker _)).
          AreNewWorkers c.args.size c.args.backed c.args.chain [] ws) (sym e.items)
          (record { count = refl; each = λ a ops w at there. absurd (cc) });
    }

pub push_worker-requires-clause-requests : goal.push_worker-requires-clause-requests
push_worker-requires-clause-requests g c =
    c.requires.work.requests c.loop-actor.actor-index c.as_slice.result.now
    (ops_at g (goal.at.push_worker-requires-clause-requests g c).After-as_slice)

pub push_worker-requires-clause-few : goal.push_worker-requires-clause-few
push_worker-requires-clause-few g c =
    let a = (goal.at.push_worker-requires-clause-few g c).After-as_slice in
    let f = few_of c.args.ops.now c.loop-actor.actor-index c.as_slice.result.now (ops_at g a) in
    let m = c.requires.work.most in omega arith

pub push_worker-requires-clause-some : goal.push_worker-requires-clause-some
push_worker-requires-clause-some g c =
    let t = c.loop-actor-test.true in c.requires.some (omega arith)

pub push_worker-requires-clause-actors : goal.push_worker-requires-clause-actors
push_worker-requires-clause-actors g c =
    let i = c.loop-actor.invariant.len in
    let t = c.loop-actor-test.true in
    let m = c.requires.work.few in omega arith

pub loop-actor-preserved : goal.loop-actor-preserved
loop-actor-preserved g c =
    let a = (goal.at.loop-actor-preserved g c).After-as_slice in
    let i = c.loop-actor.invariant in
    let p = c.in_ok-push_worker.ensures in record {
      len = (let q = p.len in let r = i.len in omega arith);
      room = (let q = p.capacity in let r = i.room in omega arith);
      workers = worker_more c.args.size c.args.backed c.args.chain c.args.ops.now c.loop-actor.actor-index _
          c.as_slice.result.now c.loop-actor.workers.items c.push_worker.new.workers.items p.added.0
          i.len (ops_at g a) (let t = c.loop-actor-test.true in omega arith) p.added.2 i.workers
          p.added.1;
    }
