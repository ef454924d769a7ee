-- A line has one code and payload, so the one that is found decides.
use Rattle.std.proofs.Common.{◌≡◌, List, ℕ, ◌++◌, length, sym, ap, subst, ◌∙◌, arith}
use Rattle.bdi_line.specs.Coded.{IsCoded, code_number}
use Rattle.bdi_line.specs.Packed.{payload_of, payload_under}
use Rattle.bdi_line.specs.declared.codes.Code.{Code}
use Rattle.bdi_line.proofs.Least.{same_code, coded_line}
use Rattle.bdi_line.proofs.Unique.{coded_unique, under}
use Rattle.bdi_line.proofs.read.is_coded.Goals as goal

pub returns-then-number : goal.returns-then-number
returns-then-number c = (
  (λ no. absurd (cc)),
  λ k.
      (let line = c.args.line.now in
      let same = coded_unique line c.args.payload.now c.args.code (omega arith) k in
      absurd (c.if-number.true (c.number.ensures
      ∙ ap code_number (c.pack_into-found.ensures.code ∙ sym same.0) ∙ sym c.number-2.ensures))),
)

pub returns : goal.returns
returns c =
    let line = c.args.line.now in
    let long : length line ≡ 64 = omega arith in
    let found = c.pack_into-found in
    let is = found.ensures.code in
    let written : c.as_slice.result.now ≡ payload_of line =
    c.as_slice.ensures.value ∙ found.ensures.payload
    ∙ ap (λ l. l ++ payload_under found.result line) c.new-again.ensures
    ∙ ap (λ (x : Code). payload_under x line) is in
    let code : found.result ≡ c.args.code =
    same_code _ _ (sym c.number.ensures ∙ c.if-number.false ∙ c.number-2.ensures) in
    let P : List ℕ → Type 0 = IsCoded line c.args.code in (
      (λ yes. subst P (sym written ∙ c.same_bytes.ensures.0 yes)
          (under line _ _ _ (sym is ∙ code) (coded_line line long))),
      λ k. c.same_bytes.ensures.1 (written
          ∙ sym (coded_unique line c.args.payload.now c.args.code long k).1),
    )
