-- From no line to all of the known page.
use Rattle.std.proofs.Common.{◌≡◌, ℕ, List, sym, subst, ◌∙◌, arith}
use Rattle.bdi_page.specs.Packing.{IsPage, packed}
use Rattle.bdi_page.specs.Pairs.{first_line, second_line}
use Rattle.bdi_page.proofs.Packed.{one_packing}
use Rattle.bdi_page.proofs.Reading.{IsLeft, behind, long_enough, has_pair, left_none, left_more, left_same}
use Rattle.bdi_page.proofs.reader.decode.Goals as goal

pub loop-j-init : goal.loop-j-init
loop-j-init c =
    let bytes = c.args.bytes.now in
    let known = c.requires.packing.0 in
    let is = c.requires.packing.1 in
    let k = c.requires.packing.2 in
    record {
      within = long_enough known bytes
          ((one_packing c.lines_have_one_coding.ensures.one known is.0).one bytes k);
      size = omega arith;
      left = λ other _ e. left_none bytes _ other e;
    }

pub decode_pair-at-requires-clause-codes : goal.decode_pair-at-requires-clause-codes
decode_pair-at-requires-clause-codes c =
    let bytes = c.args.bytes.now in
    let known = c.requires.packing.0 in
    let law = one_packing c.lines_have_one_coding.ensures.one known c.requires.packing.1.0 in
    let some = long_enough known bytes (law.one bytes c.requires.packing.2) in
    let lt = c.loop-j-test.true in
    omega (arith, some, lt)

pub decode_pair-at-requires-clause-here : goal.decode_pair-at-requires-clause-here
decode_pair-at-requires-clause-here c =
    let here = c.loop-j.invariant in
    let bytes = c.args.bytes.now in
    let j = c.loop-j.j in
    let known = c.requires.packing.0 in
    let is = c.requires.packing.1 in
    let e = (one_packing c.lines_have_one_coding.ensures.one known is.0).one bytes
    c.requires.packing.2 in (
      first_line known j,
      second_line known j,
      behind j known,
      has_pair j c.loop-j.at bytes c.loop-j.read known c.loop-j-test.true is e
          (here.left known is e),
    )

pub loop-j-preserved : goal.loop-j-preserved
loop-j-preserved c =
    let here = c.loop-j.invariant in
    let bytes = c.args.bytes.now in
    let j = c.loop-j.j in
    let lt = c.loop-j-test.true in
    let known = c.requires.packing.0 in
    let is = c.requires.packing.1 in
    let k = c.requires.packing.2 in
    let put = λ (other : List ℕ) (page : IsPage other) (e : bytes ≡ packed other).
    c.decode_pair-at.ensures.put _ _ _
    (has_pair j c.loop-j.at bytes c.loop-j.read other lt page e (here.left other page e)) in
    record {
      within = (put known is ((one_packing c.lines_have_one_coding.ensures.one known is.0).one bytes
          k)).within;
      size = c.decode_pair-at.ensures.size;
      left = λ other page e.
          left_more j c.loop-j.at c.decode_pair-at.result bytes c.loop-j.read
          c.decode_pair-at.new.read other page.0
          lt (here.left other page e) (put other page e);
    }

pub returns : goal.returns
returns c = record {
  page = λ known is k.
      (let here = c.loop-j.invariant in
      let bytes = c.args.bytes.now in
      let all : c.loop-j.j ≡ 32 = omega arith in
      let e = (one_packing c.lines_have_one_coding.ensures.one known is.0).one bytes k in
      let J : ℕ → Type 0 = λ j. IsLeft j bytes c.loop-j.read known c.loop-j.at in
      c.put_bytes.ensures.bytes
      ∙ sym (left_same bytes c.loop-j.read known c.loop-j.at here.size is.0
      (subst J all (here.left known is e))));
}
