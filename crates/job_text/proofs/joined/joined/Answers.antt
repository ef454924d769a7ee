use Rattle.std.proofs.Common.{◌∙◌}
use Rattle.job_text.proofs.Joins.{joined_more}
use Rattle.job_text.proofs.joined.joined.Goals as goal

pub loop-word-preserved : goal.loop-word-preserved
loop-word-preserved c =
    c.in_ok-extend_from_slice.ensures.items
    ∙ joined_more c.args.words.now c.loop-word.all.items c.loop-word.word-index _
    c.loop-word.invariant c.loop-word-test.true
