-- From no line to all, and each way to fail shows that no page has these bytes.
use Rattle.std.proofs.Common.{◌≡◌, ℕ, List, refl, sym, subst, ◌∙◌, arith}
use Rattle.bdi_page.specs.Packing.{IsPacking}
use Rattle.bdi_page.proofs.Packed.{one_packing}
use Rattle.bdi_page.proofs.Reading.{Reads, long_enough, has_pair, reads_none, reads_more, reads_all, left_end, left_same}
use Rattle.bdi_page.proofs.reader.unpack.Goals as goal

pub returns-then-bytes-lt32-clause-none : goal.returns-then-bytes-lt32-clause-none
returns-then-bytes-lt32-clause-none c _ other is k =
    let law = one_packing c.lines_have_one_coding.ensures.one other is.0 in
    omega (arith, long_enough other c.args.bytes.now (law.one c.args.bytes.now k))

pub loop-j-init : goal.loop-j-init
loop-j-init c = record {
  within = c.if-bytes-lt32.false;
  size = omega arith;
  reads = reads_none c.args.bytes.now _;
}

pub unpack_pair-requires-clause-within : goal.unpack_pair-requires-clause-within
unpack_pair-requires-clause-within c = c.loop-j.invariant.within

pub returns-in-None-clause-none : goal.returns-in-None-clause-none
returns-in-None-clause-none c _ other is k =
    let bytes = c.args.bytes.now in
    let e = (one_packing c.lines_have_one_coding.ensures.one other is.0).one bytes k in
    let left = c.loop-j.invariant.reads.left other is e in
    c.in-None.ensures.none refl _ _ _
    (has_pair c.loop-j.j c.loop-j.at bytes c.loop-j.read other c.loop-j-test.true is e left)

pub loop-j-preserved : goal.loop-j-preserved
loop-j-preserved c =
    let here = c.loop-j.invariant in
    let pair = c.in-Some.ensures.some in
    record {
      within = pair.within;
      size = c.in-Some.ensures.size;
      reads = reads_more c.loop-j.j c.loop-j.at c.in-Some.next c.args.bytes.now c.loop-j.read
          c.unpack_pair.new.read c.loop-j-test.true c.if-bytes-lt32.false here.size pair here.reads;
    }

pub returns-then-at-bytes-clause-none : goal.returns-then-at-bytes-clause-none
returns-then-at-bytes-clause-none c _ other is k =
    let here = c.loop-j.invariant in
    let bytes = c.args.bytes.now in
    let all : c.loop-j.j ≡ 32 = omega arith in
    let J : ℕ → Type 0 = λ j. Reads j bytes c.loop-j.read c.loop-j.at in
    let e = (one_packing c.lines_have_one_coding.ensures.one other is.0).one bytes k in
    c.if-at-bytes.true
    (left_end bytes c.loop-j.read other c.loop-j.at here.within
    ((subst J all here.reads).left other is e))

pub returns-clause-yes : goal.returns-clause-yes
returns-clause-yes c _ =
    let here = c.loop-j.invariant in
    let bytes = c.args.bytes.now in
    let all : c.loop-j.j ≡ 32 = omega arith in
    let J : ℕ → Type 0 = λ j. Reads j bytes c.loop-j.read c.loop-j.at in
    let P : List ℕ → Type 0 = λ page. IsPacking page bytes in
    let Q : List ℕ → Type 0 = IsPacking c.loop-j.read in
    let e = reads_all bytes c.loop-j.read c.loop-j.at c.if-at-bytes.false
    (subst J all here.reads) in
    subst P (sym c.put_bytes.ensures.bytes)
    (subst Q (sym e) (one_packing c.lines_have_one_coding.ensures.one c.loop-j.read
    here.size).packing)

pub returns-clause-only : goal.returns-clause-only
returns-clause-only c _ other is k =
    let here = c.loop-j.invariant in
    let bytes = c.args.bytes.now in
    let all : c.loop-j.j ≡ 32 = omega arith in
    let J : ℕ → Type 0 = λ j. Reads j bytes c.loop-j.read c.loop-j.at in
    let e = (one_packing c.lines_have_one_coding.ensures.one other is.0).one bytes k in
    left_same bytes c.loop-j.read other c.loop-j.at here.size is.0
    ((subst J all here.reads).left other is e) ∙ sym c.put_bytes.ensures.bytes
