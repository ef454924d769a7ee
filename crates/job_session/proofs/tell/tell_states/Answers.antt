use Rattle.std.proofs.Common.{arith}
use Rattle.std.proofs.lemmas.Result.{err_from_is_err_and}
use Rattle.job_session.proofs.Lines.{next_on, none_on}
use Rattle.job_session.proofs.Reports.{state_lines}
use Rattle.job_session.proofs.Sending.{SoFar-range, SoFar-more, SoFar-cut, SoFar-all}
use Rattle.job_session.proofs.tell.tell_states.Goals as goal

pub loop-page-init : goal.loop-page-init
loop-page-init g c = SoFar-range c.args.out.now (state_lines c.args.world.now.row.cells) c.args.world.now.pages

pub returns-in_err-tell_state : goal.returns-in_err-tell_state
returns-in_err-tell_state g c =
    let p = err_from_is_err_and c.from_residual.result c.from_residual.ensures.1 in
    rw (p.1, p.2)
    (SoFar-cut _ _ _ _ _ c.loop-page.invariant _ _ _
    (next_on (state_lines c.args.world.now.row.cells) c.loop-page.page c.args.world.now.pages (omega (arith, c.loop-page-test.true, c.pages-page-end.ensures)))
    c.in_err-tell_state.ensures)

pub loop-page-preserved : goal.loop-page-preserved
loop-page-preserved g c =
    SoFar-more _ _ _ _ _ c.loop-page.invariant _ _
    (next_on (state_lines c.args.world.now.row.cells) c.loop-page.page c.args.world.now.pages (omega (arith, c.loop-page-test.true, c.pages-page-end.ensures)))
    c.in_ok-tell_state.ensures

pub returns : goal.returns
returns g c =
    SoFar-all _ _ _ _ c.loop-page.invariant
    (none_on (state_lines c.args.world.now.row.cells) c.loop-page.page c.args.world.now.pages (omega (arith, c.loop-page-test.false, c.pages-page-end.ensures)))
