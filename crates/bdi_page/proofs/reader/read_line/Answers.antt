-- A line has a code, whose number is below 9.
use Rattle.std.proofs.Common.{refl, arith}
use Rattle.bdi_line.specs.Packed.{code_of}
use Rattle.bdi_page.proofs.reader.read_line.Goals as goal

pub returns-in_err-code-clause-none : goal.returns-in_err-code-clause-none
returns-in_err-code-clause-none c _ line rest h =
    omega (
      arith,
      h.number_is,
      c.lines_have_one_coding.ensures.few (code_of line),
      c.in_err-code.ensures.none.0 refl,
    )
