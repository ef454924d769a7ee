use Rattle.std.proofs.Common.{◌≡◌, ◌++◌, ℕ, List, OnOk, sym, subst}
use Rattle.job_print.specs.declared.line.OutLine.TheVariants as lines
use Rattle.job_print.specs.Texts.{out_line}
use Rattle.job_print.proofs.put.put_state.Goals as goal

pub returns-clause-line : goal.returns-clause-line
returns-clause-line c s is =
    let P : ℕ × List ℕ × ℕ → Type 0 = λ x. OnOk c.put_letters.result
    (c.put_letters.new.out.items ≡ c.args.out.now.items ++ out_line (lines.State x.0 x.1 x.2)) in
    subst P (λ i. (sym is.page i, sym is.letters i, sym is.touched i)) c.put_letters.ensures
