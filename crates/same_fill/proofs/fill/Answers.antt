-- Eight sectors of the word are a page of it.
use Rattle.std.proofs.Common.{arith}
use Rattle.same_fill.proofs.Words.{word_in_sector}
use Rattle.same_fill.proofs.fill.Goals as goal

pub returns-clause-words : goal.returns-clause-words
returns-clause-words c j lt =
    word_in_sector c.loop-at.page c.sector_of-sector.result c.args.word j c.bytes-bytes.ensures.size
    lt
    (λ k small. c.loop-at.invariant k (omega arith)) c.sector_of-sector.ensures.words
