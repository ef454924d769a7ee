use Rattle.std.proofs.Common.{sym, ap, ◌∙◌}
use Rattle.job_text.specs.Answers.{with_last}
use Rattle.job_text.proofs.Digits.{exact_ok, exact_err}
use Rattle.job_text.proofs.number.exact.Goals as goal

pub returns-in-Ok : goal.returns-in-Ok
returns-in-Ok c =
    c.with_last.ensures
    ∙ ap (with_last c.in-Ok.value) c.digit.ensures
    ∙ exact_ok c.args.word.now c.in-len1-up.len_at_least c.in-Ok.value
    (sym c.in-Ok.is ∙ c.digits.ensures)

pub returns-in-Err : goal.returns-in-Err
returns-in-Err c =
    exact_err c.args.word.now c.in-len1-up.len_at_least c.in-Err.cause
    (sym c.in-Err.is ∙ c.digits.ensures)
