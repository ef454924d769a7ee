use Rattle.std.proofs.Common.{◌∷◌}
use Rattle.job_text.proofs.Lawful.{answered-lawful}
use Rattle.job_text.proofs.line.line_by_words.Goals as goal

pub returns-in-len1-up-clause-lawful : goal.returns-in-len1-up-clause-lawful
returns-in-len1-up-clause-lawful c =
    answered-lawful (_ ∷ _) c.named_line.result c.named_line.ensures
