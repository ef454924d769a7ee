use Rattle.std.proofs.Common.{◌≡◌, ◌++◌, OnOk, subst}
use Rattle.size_class.specs.declared.stat.ClassStat.{ClassStat}
use Rattle.job_print.specs.declared.line.OutLine.TheVariants as lines
use Rattle.job_print.specs.Texts.{out_line}
use Rattle.job_print.proofs.Summaries.{summary_is}
use Rattle.job_print.proofs.put.put_class.Goals as goal

pub returns-clause-line : goal.returns-clause-line
returns-clause-line c line is =
    let P : ClassStat → Type 0 = λ stat. OnOk c.put_stat.result
    (c.put_stat.new.out.items ≡ c.args.out.now.items ++ out_line (lines.Class stat)) in
    subst P (summary_is line c.args.stat.now is) c.put_stat.ensures
