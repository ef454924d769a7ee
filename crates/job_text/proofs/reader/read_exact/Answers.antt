use Rattle.std.proofs.Common.{◌≡◌, List, Result, Ok, Err, IsErr, IsErrAnd, ap, ◌∙◌}
use Rattle.job_text.specs.declared.fault.JobFault.{JobFault}
use Rattle.job_text.specs.declared.fault.ReadFault.{ReadFault}
use Rattle.job_text.specs.declared.fault.ReadFault.TheVariants.{Bad}
use Rattle.job_text.specs.declared.job.Item.{Item}
use Rattle.job_text.specs.Reading.{lines_left, fault_after}
use Rattle.job_text.proofs.reader.read_exact.Goals as goal

handed_on : (result : Result (List Item) ReadFault) (given : ReadFault) (fault : JobFault)
    → IsErr result × IsErrAnd result (λ e. e ≡ given) → result ≡ Err (Bad fault)
    → given ≡ Bad fault
handed_on (Ok job) given fault h is = cc
handed_on (Err e) given fault h is = let same = h.1 in cc

pub returns-in_err-numbered-clause-bad : goal.returns-in_err-numbered-clause-bad
returns-in_err-numbered-clause-bad c fault is =
    let given =
    handed_on c.from_residual.result c.in_err-numbered.field-0.0 fault c.from_residual.ensures is in
    c.loop-rest.invariant.1
    ∙ ap (λ rest. fault_after c.loop-rest.reading c.loop-rest.number (lines_left rest))
    c.in-Some.is
    ∙ ap (fault_after c.loop-rest.reading c.loop-rest.number) c.first_line.ensures.lines
    ∙ c.in_err-numbered.ensures.bad fault (ap (λ (e : ReadFault). Err e) given)
    (lines_left c.first_line.result.1)
