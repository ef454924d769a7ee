-- Eight bytes are written, and they spell the word.
use Rattle.std.proofs.Common.{length, ap, ◌∙◌}
use Rattle.std.specs.Simd.Lanes.{number_l}
use Rattle.same_fill.proofs.Words.{word_written, word_kept, word_back}
use Rattle.same_fill.proofs.put_word.Goals as goal

pub returns-clause-word : goal.returns-clause-word
returns-clause-word c =
    word_written c.args.bytes.now c.to_le_bytes.result c.args.k c.requires
    (ap length c.to_le_bytes.ensures)
    ∙ ap (number_l 256) c.to_le_bytes.ensures
    ∙ word_back c.args.word c.ranges.word.fits

pub returns-clause-others : goal.returns-clause-others
returns-clause-others c j lt = word_kept c.args.bytes.now c.to_le_bytes.result j c.args.k c.requires
    lt
