use Rattle.std.proofs.Common.{arith}
use Rattle.std.proofs.lemmas.Result.{err_from_is_err_and}
use Rattle.job_session.proofs.Lines.{next_actor, no_actor}
use Rattle.job_session.proofs.Shown.{ends_count, sectors_count, few_ops, ended, ends_size, sectors_size}
use Rattle.job_session.proofs.Sending.{SoFar-start, SoFar-more, SoFar-cut, SoFar-all}
use Rattle.job_session.proofs.tell.tell_actors.Goals as goal

pub loop-actor-init : goal.loop-actor-init
loop-actor-init g c = SoFar-start _ _

pub overflow_cast-ops : goal.overflow_cast-ops
overflow_cast-ops g c =
    let few = few_ops _ _ _ _ c.requires.fit.2 _ _ _ c.loop-actor-test.true c.index-actors-actor.is
    c.as_slice.ensures in
    omega (arith, few)

pub tell_actor-requires : goal.tell_actor-requires
tell_actor-requires g c = record {
  ends = ends_size _ _ _ _ c.requires.fit.2 _ _ _ c.loop-actor-test.true c.index-actors-actor.is
      c.as_slice.ensures;
  sectors = sectors_size _ _ _ _ c.requires.fit.2 _ _ _ c.loop-actor-test.true c.index-actors-actor.is
      c.as_slice.ensures;
  over = ended _ _ _ _ c.requires.fit.2 _ _ _ c.loop-actor-test.true c.index-actors-actor.is
      c.as_slice.ensures c.requires.over;
}

pub returns-in_err-tell_actor : goal.returns-in_err-tell_actor
returns-in_err-tell_actor g c =
    let p = err_from_is_err_and c.from_residual.result c.from_residual.ensures.1 in
    rw (p.1, p.2)
    (SoFar-cut _ _ _ _ _ c.loop-actor.invariant _ _ _
    (next_actor c.loop-actor.actor _ _
    (omega (arith, c.loop-actor-test.true, ends_count _ _ _ _ c.requires.fit.2))
    (omega (arith, c.loop-actor-test.true, sectors_count _ _ _ _ c.requires.fit.2)))
    c.in_err-tell_actor.ensures)

pub loop-actor-preserved : goal.loop-actor-preserved
loop-actor-preserved g c =
    SoFar-more _ _ _ _ _ c.loop-actor.invariant _ _
    (next_actor c.loop-actor.actor _ _
    (omega (arith, c.loop-actor-test.true, ends_count _ _ _ _ c.requires.fit.2))
    (omega (arith, c.loop-actor-test.true, sectors_count _ _ _ _ c.requires.fit.2)))
    c.in_ok-tell_actor.ensures

pub returns : goal.returns
returns g c =
    SoFar-all _ _ _ _ c.loop-actor.invariant
    (no_actor c.loop-actor.actor _ _
    (omega (arith, c.loop-actor-test.false, ends_count _ _ _ _ c.requires.fit.2)))
