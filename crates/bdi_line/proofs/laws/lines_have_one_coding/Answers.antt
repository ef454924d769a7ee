use Rattle.bdi_line.proofs.Least.{code_number-le, coded_line}
use Rattle.bdi_line.proofs.Unique.{coded_unique}
use Rattle.bdi_line.proofs.laws.lines_have_one_coding.Goals as goal

pub returns-clause-one : goal.returns-clause-one
returns-clause-one c line long = record {
  coded = coded_line line long;
  one = λ code payload k. coded_unique line payload code long k;
}

pub returns-clause-few : goal.returns-clause-few
returns-clause-few c = code_number-le
