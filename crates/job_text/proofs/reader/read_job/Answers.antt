use Rattle.std.proofs.Common.{◌≡◌, List, Some, Ok, Err, Result, IfOk, sym, ◌∙◌}
use Rattle.job_text.specs.declared.fault.ReadFault.{ReadFault}
use Rattle.job_text.specs.declared.job.Item.{Item}
use Rattle.job_text.specs.Jobs.{IsJob}
use Rattle.job_text.specs.Totals.{IsWithinLimits}
use Rattle.job_text.specs.Reading.{job_of}
use Rattle.job_text.proofs.Texts.{is_job, job_is, no_job}
use Rattle.job_text.proofs.Totals.{job_fits}
use Rattle.job_text.proofs.reader.read_job.Goals as goal

pub returns-clause-found : goal.returns-clause-found
returns-clause-found c = by c.read_exact.result c.read_exact.ensures.found
  where
    by : (r : Result (List Item) ReadFault) → IfOk r (λ job. job_of c.args.bytes.now ≡ Some job)
        → IfOk r (λ job. IsJob c.args.bytes.now job)
    by (Ok job) e = is_job c.args.bytes.now job e
    by (Err fault) e = tt

pub returns-clause-only : goal.returns-clause-only
returns-clause-only c = by c.read_exact.result c.read_exact.ensures.found
  where
    by : (r : Result (List Item) ReadFault) → IfOk r (λ job. job_of c.args.bytes.now ≡ Some job)
        → IfOk r (λ job. (other : List Item) → IsJob c.args.bytes.now other → other ≡ job)
    by (Ok job) e = λ other is. let same = sym (job_is c.args.bytes.now other is) ∙ e in cc
    by (Err fault) e = tt

pub returns-clause-within : goal.returns-clause-within
returns-clause-within c = by c.read_exact.result c.read_exact.ensures.found
  where
    by : (r : Result (List Item) ReadFault) → IfOk r (λ job. job_of c.args.bytes.now ≡ Some job)
        → IfOk r IsWithinLimits
    by (Ok job) e = job_fits c.args.bytes.now job (is_job c.args.bytes.now job e)
    by (Err fault) e = tt

pub returns-clause-no_job : goal.returns-clause-no_job
returns-clause-no_job c fault is job at =
    no_job c.args.bytes.now fault job (c.read_exact.ensures.bad fault is) at
