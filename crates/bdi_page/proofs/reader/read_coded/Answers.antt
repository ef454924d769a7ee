-- The line that is read is the only one that can stand here.
use Rattle.std.proofs.Common.{◌≡◌, ◌+◌, ◌-◌, ◌*◌, ◌++◌, length, take, drop, refl, sym, ap, ◌∙◌, arith}
use Rattle.std.proofs.lemmas.Simd.{take_more_put_chunk}
use Rattle.bdi_line.specs.Coded.{code_number}
use Rattle.bdi_line.specs.declared.codes.Code.{Code}
use Rattle.bdi_page.proofs.Here.{line_fits, coded_here, rest_here}
use Rattle.bdi_page.proofs.Lines.{take_add}
use Rattle.bdi_page.proofs.reader.read_coded.Goals as goal

pub returns-then-size-bytes-clause-none : goal.returns-then-size-bytes-clause-none
returns-then-size-bytes-clause-none c _ line rest h =
    let code = c.args.code in
    let number = code_number code in
    let one : (other : Code) → code_number other ≡ number → other ≡ code =
    λ other e. c.codings_have_one_line.ensures.code other code e in
    omega (
      arith,
      line_fits c.lines_have_one_coding.ensures.one c.args.bytes.now number
          c.args.at
          c.size-size.result code c.size-size.ensures one line
          rest h,
    )

pub returns-in_err-line-clause-none : goal.returns-in_err-line-clause-none
returns-in_err-line-clause-none c _ line rest h =
    let code = c.args.code in
    let number = code_number code in
    let one : (other : Code) → code_number other ≡ number → other ≡ code =
    λ other e. c.codings_have_one_line.ensures.code other code e in
    c.in_err-line.ensures.none refl line h.line_is
    (coded_here c.lines_have_one_coding.ensures.one c.args.bytes.now number c.args.at
    c.size-size.result code c.size-size.ensures one line rest h)

pub returns-clause-some : goal.returns-clause-some
returns-clause-some c =
    let code = c.args.code in
    let number = code_number code in
    let one : (other : Code) → code_number other ≡ number → other ≡ code =
    λ other e. c.codings_have_one_line.ensures.code other code e in
    let law = c.lines_have_one_coding.ensures.one in
    let bytes = c.args.bytes.now in
    let at = c.args.at in
    let n = c.size-size.result in
    let line = c.in_ok-line.line in
    let long : length line ≡ 64 = omega arith in
    let coded = (law line long).one code _ c.in_ok-line.ensures.some in
    record {
      line = line;
      long = long;
      number_is = sym (ap code_number coded.0);
      payload_is =
          take_add at n bytes
          ∙ ap (λ l. take at bytes ++ l)
          (ap (λ k. take k (drop at bytes)) (let e : n ≡ at + n - at = omega arith in e)
          ∙ coded.1);
      from = omega arith;
      within = omega (arith, c.if-size-bytes.false, c.requires.within);
      lines =
          ap (take (64 * (c.args.i + 1))) c.put_line.ensures.after
          ∙ take_more_put_chunk (64 * c.args.i) c.args.read.now line (64 * (c.args.i + 1))
          (omega arith)
          (omega (arith, c.requires.size, c.requires.line));
      only = λ other rest h. (
        c.in_ok-line.ensures.only other h.line_is
            (coded_here law bytes number at n code c.size-size.ensures
            one other rest h),
        rest_here law bytes number at n code c.size-size.ensures one
            other rest h,
      );
    }
