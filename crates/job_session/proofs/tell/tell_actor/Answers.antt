use Rattle.std.proofs.Common.{arith}
use Rattle.zr_core.specs.States.{ends_shown, sectors_shown}
use Rattle.job_session.proofs.Lines.{next_op, no_op}
use Rattle.job_session.proofs.Shown.{op_there}
use Rattle.std.proofs.lemmas.Result.{err_from_is_err_and}
use Rattle.job_session.proofs.Sending.{SoFar-start, SoFar-more, SoFar-cut, SoFar-all}
use Rattle.job_session.proofs.tell.tell_actor.Goals as goal

pub loop-op-init : goal.loop-op-init
loop-op-init g c = SoFar-start _ _

pub end-end-requires-clause-there : goal.end-end-requires-clause-there
end-end-requires-clause-there g c =
    op_there (ends_shown c.args.phase.now.workers.items) c.args.actor c.loop-op.op
    (omega (arith, c.loop-op-test.true, c.requires.ends))

pub end-end-requires-clause-over : goal.end-end-requires-clause-over
end-end-requires-clause-over g c = c.requires.over c.loop-op.op c.loop-op-test.true

pub sectors-requires-clause-there : goal.sectors-requires-clause-there
sectors-requires-clause-there g c =
    op_there (sectors_shown c.args.phase.now.workers.items) c.args.actor c.loop-op.op
    (omega (arith, c.loop-op-test.true, c.requires.sectors))

pub sectors-requires-clause-over : goal.sectors-requires-clause-over
sectors-requires-clause-over g c = c.requires.over c.loop-op.op c.loop-op-test.true

pub returns-in_err-tell_op : goal.returns-in_err-tell_op
returns-in_err-tell_op g c =
    let p = err_from_is_err_and c.from_residual.result c.from_residual.ensures.1 in
    rw (p.1, p.2) (SoFar-cut _ _ _ _ _ c.loop-op.invariant _ _ _
    (next_op (ends_shown c.args.phase.now.workers.items)
    (sectors_shown c.args.phase.now.workers.items)
    c.args.actor c.loop-op.op _ _ c.end-end.ensures.end c.sectors.ensures.sectors)
    c.in_err-tell_op.ensures)

pub loop-op-preserved : goal.loop-op-preserved
loop-op-preserved g c = SoFar-more _ _ _ _ _ c.loop-op.invariant _ _
    (next_op (ends_shown c.args.phase.now.workers.items)
    (sectors_shown c.args.phase.now.workers.items)
    c.args.actor c.loop-op.op _ _ c.end-end.ensures.end c.sectors.ensures.sectors)
    c.in_ok-tell_op.ensures

pub returns : goal.returns
returns g c = SoFar-all _ _ _ _ c.loop-op.invariant
    (no_op c.args.actor c.loop-op.op _ _ (omega (arith, c.loop-op-test.false, c.requires.ends)))
