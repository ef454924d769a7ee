-- A line has one code and payload.
use Rattle.std.proofs.Common.{◌≡◌, length, ◌++◌, sym, ap, subst, ◌∙◌, arith}
use Rattle.bdi_line.specs.Coded.{IsCoded}
use Rattle.bdi_line.specs.Packed.{payload_of, payload_under}
use Rattle.bdi_line.specs.declared.codes.Code.{Code}
use Rattle.bdi_line.proofs.Least.{coded_line}
use Rattle.bdi_line.proofs.Unique.{coded_unique}
use Rattle.bdi_line.proofs.pack.pack_line.Goals as goal

pub returns-clause-payload : goal.returns-clause-payload
returns-clause-payload c =
    let line = c.args.line.now in
    c.pack_into.ensures.payload
    ∙ ap (λ (x : Code). c.args.out.now.items ++ payload_under x line) c.pack_into.ensures.code

pub returns-clause-coded : goal.returns-clause-coded
returns-clause-coded c =
    let line = c.args.line.now in
    let long : length line ≡ 64 = omega arith in
    let P : Code → Type 0 = λ x. IsCoded line x (payload_of line) in (
      payload_of line,
      returns-clause-payload c,
      subst P (sym c.pack_into.ensures.code) (coded_line line long),
    )

pub returns-clause-one : goal.returns-clause-one
returns-clause-one c code payload k =
    let line = c.args.line.now in
    let same = coded_unique line payload code (omega arith) k in (
      same.0 ∙ sym c.pack_into.ensures.code,
      returns-clause-payload c ∙ ap (λ l. c.args.out.now.items ++ l) (sym same.1),
    )
