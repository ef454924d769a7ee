use Rattle.bdi_line.proofs.Least.{same_code}
use Rattle.bdi_line.proofs.Unique.{one_line}
use Rattle.bdi_line.proofs.laws.codings_have_one_line.Goals as goal

pub returns-clause-line : goal.returns-clause-line
returns-clause-line c code payload one other long wide k l =
    one_line one other long wide code payload k l

pub returns-clause-code : goal.returns-clause-code
returns-clause-code c = same_code
