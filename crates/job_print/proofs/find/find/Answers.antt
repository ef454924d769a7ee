use Rattle.std.proofs.Common.{Some, None, ◌∙◌}
use Rattle.job_print.proofs.Firsts.{found_past}
use Rattle.job_print.proofs.find.find.Goals as goal

pub returns-in_err-at : goal.returns-in_err-at
returns-in_err-at c =
    c.from_residual.ensures
    ∙ found_past c.args.byte c.passed-from.result c.args.text.now None
    c.passed-from.ensures.within c.passed-from.ensures.others c.in_err-at.ensures

pub returns : goal.returns
returns c =
    found_past c.args.byte c.passed-from.result c.args.text.now (Some c.in_ok-at.at)
    c.passed-from.ensures.within c.passed-from.ensures.others c.in_ok-at.ensures
