use Rattle.std.proofs.Common.{◌≡◌, sym, subst}
use Rattle.std.proofs.lemmas.Result.{IfOk-weaker}
use Rattle.job_text.specs.Jobs.{MayFollow, nothing_used}
use Rattle.job_text.specs.Generator.{generated}
use Rattle.job_text.proofs.Generated.{generated_follows}
use Rattle.job_text.proofs.generator.gen_job.Goals as goal

pub returns-clause-lawful : goal.returns-clause-lawful
returns-clause-lawful c =
    IfOk-weaker c.items_of.result (λ job. job ≡ generated c.args.pages c.args.seed)
    (MayFollow nothing_used)
    (λ job same. subst (MayFollow nothing_used) (sym same)
    (generated_follows c.args.pages c.args.seed c.requires.some c.requires.most))
    c.items_of.ensures
