use Rattle.std.proofs.Common.{length, not, ◌==◌, ap, ◌∙◌, rules, tests}
use Rattle.std.proofs.lemmas.Iterator.Consumers.{map_from_collect, YieldsList-from_filter, YieldsList-at}
use Rattle.std.proofs.lemmas.Iterator.Splits.{YieldsList-from_slice_split}
use Rattle.job_text.specs.Lines.{is_blank, without_return, before_comment}
use Rattle.job_text.proofs.line.words.Goals as goal

pub returns : goal.returns
returns c =
    map_from_collect _ c.collect.ensures.ran
    (YieldsList-from_filter _ (λ word. not (length word == 0))
    (YieldsList-at c.filter.ensures.source
    (YieldsList-from_slice_split _ is_blank (before_comment (without_return c.args.line.now))
    (c.split.ensures.rest ∙ c.line_before_comment.ensures
    ∙ ap before_comment c.line_before_return.ensures)
    c.split.ensures.done c.split.ensures.closure
    (λ x b q k. search (rules, tests))))
    c.filter.ensures.closure (λ x b q k. search (rules, tests)))
