use Rattle.std.proofs.Common.{sym, ◌∙◌, rules, tests}
use Rattle.std.proofs.lemmas.Iterator.{YieldsList-from_slice}
use Rattle.std.proofs.lemmas.Iterator.Search.{all_from_yields_List}
use Rattle.std.proofs.lemmas.List.Folds.{list_all-map}
use Rattle.job_text.specs.Numbers.{is_turn}
use Rattle.job_text.proofs.turns.are_turns.Goals as goal

pub returns : goal.returns
returns c =
    all_from_yields_List (λ word. is_turn word.now) _ _ _ c.all.ensures.ran
    (YieldsList-from_slice c.args.words.now c.iter.ensures.rest) (λ x b q k. search (rules, tests))
    ∙ sym (list_all-map is_turn (λ word. word.now) c.args.words.now)
