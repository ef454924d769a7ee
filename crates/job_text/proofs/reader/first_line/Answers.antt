use Rattle.std.proofs.Common.{◌+◌, ◌==◌, ◌∷◌, take, drop, ap, sym, ◌∙◌, arith, length-drop}
use Rattle.std.proofs.lemmas.List.{take_all}
use Rattle.job_text.specs.Jobs.{text_lines}
use Rattle.job_text.proofs.Splits.{split-Some, split-None}
use Rattle.job_text.proofs.reader.first_line.Goals as goal

pub returns-in-Some-clause-lines : goal.returns-in-Some-clause-lines
returns-in-Some-clause-lines c =
    split-Some (λ byte. byte == 10) c.args.text.now c.in-Some.at
    (sym c.line_end.ensures ∙ c.in-Some.is)
    ∙ ap (λ xs. take c.in-Some.at c.args.text.now ∷ text_lines xs)
    (sym (take_all _ (drop (c.in-Some.at + 1) c.args.text.now)
    (omega (arith, length-drop (c.in-Some.at + 1) c.args.text.now))))

pub returns-in-None-clause-lines : goal.returns-in-None-clause-lines
returns-in-None-clause-lines c =
    split-None (λ byte. byte == 10) c.args.text.now (sym c.line_end.ensures
    ∙ c.in-None.is)
