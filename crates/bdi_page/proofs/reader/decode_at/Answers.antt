-- A line that stands here has this code, and is the one that is decoded.
use Rattle.std.proofs.Common.{◌≡◌, ◌+◌, ◌*◌, ◌++◌, length, take, sym, ap, ◌∙◌, arith}
use Rattle.std.proofs.lemmas.Simd.{take_more_put_chunk}
use Rattle.bdi_page.proofs.Here.{line_fits, coded_here, rest_here}
use Rattle.bdi_page.proofs.reader.decode_at.Goals as goal

pub slice_bounds-decode_line-end : goal.slice_bounds-decode_line-end
slice_bounds-decode_line-end c =
    let here = c.requires.here in
    omega (
      arith,
      c.requires.within,
      line_fits c.lines_have_one_coding.ensures.one c.args.bytes.now
          c.args.number c.args.at c.size.result c.in-Some.code c.size.ensures c.in-Some.ensures.one
          here.0 here.1 here.2,
    )

pub returns-clause-put : goal.returns-clause-put
returns-clause-put c line rest h =
    let law = c.lines_have_one_coding.ensures.one in
    let bytes = c.args.bytes.now in
    let at = c.args.at in
    let n = c.size.result in
    let code = c.in-Some.code in
    let is = c.in-Some.ensures.one in
    let found = c.decode_line.result in
    let long : length found ≡ 64 = omega arith in
    let same : line ≡ found =
    c.decode_line.ensures.only line h.line_is
    (coded_here law bytes c.args.number at n code c.size.ensures is line rest h) in
    record {
      lines =
          ap (take (64 * (c.args.i + 1))) c.put_line.ensures.after
          ∙ take_more_put_chunk (64 * c.args.i) c.args.read.now found (64 * (c.args.i + 1))
          (omega arith)
          (omega (arith, c.requires.size, c.requires.line))
          ∙ ap (λ l. take (64 * c.args.i) c.args.read.now ++ l) (sym same);
      rest_is = rest_here law bytes c.args.number at n code c.size.ensures is line rest h;
      within = omega (
        arith,
        c.requires.within,
        line_fits law bytes c.args.number at n code c.size.ensures is line rest h,
      );
    }
