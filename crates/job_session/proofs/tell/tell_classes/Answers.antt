use Rattle.std.proofs.lemmas.Result.{err_from_is_err_and}
use Rattle.job_session.proofs.Lines.{next_on, none_on}
use Rattle.job_session.proofs.Reports.{class_lines}
use Rattle.job_session.proofs.Sending.{SoFar-range, SoFar-more, SoFar-cut, SoFar-all}
use Rattle.job_session.proofs.tell.tell_classes.Goals as goal

pub loop-class-init : goal.loop-class-init
loop-class-init g c = SoFar-range c.args.out.now (class_lines c.args.world.now.pages c.args.world.now.row.cells) 255

pub returns-in_err-tell_class : goal.returns-in_err-tell_class
returns-in_err-tell_class g c =
    let p = err_from_is_err_and c.from_residual.result c.from_residual.ensures.1 in
    rw (p.1, p.2)
    (SoFar-cut _ _ _ _ _ c.loop-class.invariant _ _ _
    (next_on (class_lines c.args.world.now.pages c.args.world.now.row.cells) c.loop-class.class 255 c.loop-class-test.true)
    c.in_err-tell_class.ensures)

pub loop-class-preserved : goal.loop-class-preserved
loop-class-preserved g c =
    SoFar-more _ _ _ _ _ c.loop-class.invariant _ _
    (next_on (class_lines c.args.world.now.pages c.args.world.now.row.cells) c.loop-class.class 255 c.loop-class-test.true)
    c.in_ok-tell_class.ensures

pub returns : goal.returns
returns g c =
    SoFar-all _ _ _ _ c.loop-class.invariant
    (none_on (class_lines c.args.world.now.pages c.args.world.now.row.cells) c.loop-class.class 255 c.loop-class-test.false)
