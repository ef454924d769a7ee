use Rattle.same_fill.proofs.Words.{word_in_line}
use Rattle.same_fill.proofs.line_at.Goals as goal

pub returns-clause-words : goal.returns-clause-words
returns-clause-words c j lt = word_in_line c.args.page.now c.args.i j c.requires.size
    c.type_inv.page c.requires.within lt
