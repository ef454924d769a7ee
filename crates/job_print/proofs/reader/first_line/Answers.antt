use Rattle.std.proofs.Common.{sym, ◌∙◌}
use Rattle.job_print.proofs.TextLaws.{faulty_none, faulty_line, found_line}
use Rattle.job_print.proofs.reader.first_line.Goals as goal

pub returns-in_default-clause-none : goal.returns-in_default-clause-none
returns-in_default-clause-none c none =
    faulty_none c.args.text.now (sym c.find.ensures ∙ c.in_default.is)

pub returns-in-None-clause-none : goal.returns-in-None-clause-none
returns-in-None-clause-none c none =
    faulty_line c.args.text.now c.in-Some.at (sym c.find.ensures ∙ c.in-Some.is)
    (sym c.in_ok-line.ensures ∙ c.in-None.is)

pub returns-in-Some-2-clause-proper : goal.returns-in-Some-2-clause-proper
returns-in-Some-2-clause-proper c =
    (found_line c.args.text.now c.in-Some.at c.in-Some-2.line (sym c.find.ensures ∙ c.in-Some.is)
    (sym c.in_ok-line.ensures ∙ c.in-Some-2.is)).0

pub returns-in-Some-2-clause-parts : goal.returns-in-Some-2-clause-parts
returns-in-Some-2-clause-parts c =
    (found_line c.args.text.now c.in-Some.at c.in-Some-2.line (sym c.find.ensures ∙ c.in-Some.is)
    (sym c.in_ok-line.ensures ∙ c.in-Some-2.is)).1
