use Rattle.std.proofs.Common.{◌≡◌, ◌++◌, drop, map}
use Rattle.job_print.specs.Texts.{tag_word, spaced}
use Rattle.job_print.proofs.put.put_tags.Given as goal

abbrev pub invariant-loop-tag : goal.invariant-loop-tag
invariant-loop-tag l =
    l.out.items ++ spaced (map tag_word (drop l.tag-index l.tags))
    ≡ l.fn.out.items ++ spaced (map tag_word l.tags)
