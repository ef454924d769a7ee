use Rattle.job_print.proofs.Filled.{fill_by, hex_by}
use Rattle.job_print.proofs.laws.equal_words_fill.Goals as goal

pub returns : goal.returns
returns c = record { fill = fill_by; hex = hex_by }
