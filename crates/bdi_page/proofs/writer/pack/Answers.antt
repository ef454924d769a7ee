-- From no line to all, and the codes go in front.
use Rattle.std.proofs.Common.{◌≡◌, ℕ, [], ◌∷◌, ◌++◌, List, length, drop, refl, sym, ap, subst, ◌∙◌, arith, length-set}
use Rattle.std.proofs.lemmas.List.{take_all, drop_all, take_more_set, drop-append-le}
use Rattle.bdi_line.specs.Packed.{payload_of}
use Rattle.bdi_page.specs.Packing.{IsPacking, lines_of, codes_of, payloads_of, packed}
use Rattle.bdi_page.specs.Pairs.{first_line, second_line}
use Rattle.bdi_page.proofs.Lines.{lines_of-more, codes_of-two, payloads_of-two}
use Rattle.bdi_page.proofs.Packed.{one_packing}
use Rattle.bdi_page.proofs.writer.pack.Goals as goal

pub loop-j-init : goal.loop-j-init
loop-j-init c =
    let len = rw c.unwrap.ensures at c.try_extend_from_slice.ensures.len in
    let items : length c.try_extend_from_slice.new.self.items ≡ 32 =
    omega (arith, len, ap length c.requires) in
    record {
      size = ap length c.bytes-bytes.ensures.bytes ∙ c.bytes-bytes.ensures.size;
      from = omega arith;
      most = omega arith;
      long = omega arith;
      front = refl;
      back = drop_all 32 c.try_extend_from_slice.new.self.items (omega arith);
    }

pub pack_pair-requires-clause-room : goal.pack_pair-requires-clause-room
pack_pair-requires-clause-room c = omega (arith, c.loop-j.invariant.most, c.loop-j-test.true)

pub loop-j-preserved : goal.loop-j-preserved
loop-j-preserved c =
    let here = c.loop-j.invariant in
    let page = c.bytes-bytes.result.now in
    let j = c.loop-j.j in
    let items = c.loop-j.out.items in
    let first = first_line page j in
    let second = second_line page j in
    record {
      size = here.size;
      from = omega (arith, here.from, c.pack_pair.ensures.grows);
      most = omega (arith, here.most, c.pack_pair.ensures.room);
      long = length-set c.loop-j.codes j c.pack_pair.result ∙ here.long;
      front =
          take_more_set c.loop-j.codes j c.pack_pair.result (omega (arith, here.long))
          ∙ (λ i. here.front i ++ c.pack_pair.ensures.byte i ∷ [])
          ∙ sym (ap codes_of (lines_of-more j page) ∙ codes_of-two j page first second);
      back =
          ap (drop 32) c.pack_pair.ensures.payloads
          ∙ drop-append-le 32 items (payload_of first ++ payload_of second) here.from
          ∙ ap (λ l. l ++ (payload_of first ++ payload_of second)) here.back
          ∙ sym (ap payloads_of (lines_of-more j page)
          ∙ payloads_of-two (lines_of j page) first second);
    }

pub put_codes-requires : goal.put_codes-requires
put_codes-requires c = c.loop-j.invariant.from

pub returns-clause-written : goal.returns-clause-written
unfolding packed
returns-clause-written c =
    let here = c.loop-j.invariant in
    let page = c.bytes-bytes.result.now in
    let all : c.loop-j.j ≡ 32 = omega arith in
    c.put_codes.ensures
    ∙ ap (λ l. l ++ drop 32 c.loop-j.out.items)
    (sym (take_all c.loop-j.j c.loop-j.codes (omega (arith, here.long))) ∙ here.front)
    ∙ ap (λ l. codes_of (lines_of c.loop-j.j page) ++ l) here.back
    ∙ ap (λ n. codes_of (lines_of n page) ++ payloads_of (lines_of n page)) all
    ∙ ap packed c.bytes-bytes.ensures.bytes

pub returns-clause-packing : goal.returns-clause-packing
returns-clause-packing c =
    let P : List ℕ → Type 0 = IsPacking c.args.page.now in
    subst P (sym (returns-clause-written c))
    (one_packing c.lines_have_one_coding.ensures.one c.args.page.now
    c.bytes-bytes.ensures.size).packing

pub returns-clause-one : goal.returns-clause-one
returns-clause-one c bytes k =
    (one_packing c.lines_have_one_coding.ensures.one c.args.page.now c.bytes-bytes.ensures.size).one
    bytes k
    ∙ sym (returns-clause-written c)
