use Rattle.std.proofs.Common.{◌≡◌, map, drop}
use Rattle.job_print.specs.Reading.{all_in, after, tag_in}
use Rattle.job_print.proofs.words.tags.Given as goal

abbrev pub invariant-loop-word : goal.invariant-loop-word
invariant-loop-word l =
    all_in tag_in (map (λ word. word.now) l.words)
    ≡ after l.tags (all_in tag_in (map (λ word. word.now) (drop l.word-index l.words)))
