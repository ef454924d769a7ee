use Rattle.std.proofs.Common.{sym, ◌∙◌}
use Rattle.std.proofs.lemmas.Bool.{eqb-false}
use Rattle.job_text.proofs.Digits.{word_is}
use Rattle.job_text.proofs.number.word64.Goals as goal

pub returns : goal.returns
returns c = word_is c.args.word.now c.digits.result (eqb-false _ _ (sym c.is_empty.ensures
    ∙ c.if-is_empty.false)) c.if-word-gt16.false c.digits.ensures
