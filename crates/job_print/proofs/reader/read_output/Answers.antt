use Rattle.std.proofs.Common.{◌≡◌, ℕ, List, Result, Ok, Err, IfOk}
use Rattle.job_print.specs.declared.line.OutLine.{OutLine}
use Rattle.job_print.specs.declared.reader.OutFault.{OutFault}
use Rattle.job_print.specs.Outputs.{IsText}
use Rattle.job_print.proofs.TextLaws.{only_text, no_text}
use Rattle.job_print.proofs.reader.read_output.Goals as goal

only_by : (bytes : List ℕ) (result : Result (List OutLine) OutFault) → IfOk result (IsText bytes)
    → IfOk result (λ text. (other : List OutLine) → IsText bytes other → other ≡ text)
only_by bytes (Ok text) is = λ other. only_text bytes text other is
only_by bytes (Err fault) is = tt

pub returns-clause-only : goal.returns-clause-only
returns-clause-only c = only_by c.args.bytes.now c.read_lines.result c.read_lines.ensures.found

pub returns-clause-no_text : goal.returns-clause-no_text
returns-clause-no_text c number is other =
    no_text c.args.bytes.now number other (c.read_lines.ensures.fault number is)
