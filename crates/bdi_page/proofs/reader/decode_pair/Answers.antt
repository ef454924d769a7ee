-- The byte's two codes are decoded one after the other.
use Rattle.std.proofs.Common.{◌++◌, get_or, refl}
use Rattle.bdi_line.specs.Packed.{payload_of}
use Rattle.bdi_page.proofs.Here.{first_here, second_here, pair_put}
use Rattle.bdi_page.proofs.reader.decode_pair.Goals as goal

pub decode_at-middle-requires-clause-here : goal.decode_at-middle-requires-clause-here
decode_at-middle-requires-clause-here c =
    let bytes = c.args.bytes.now in
    let (first, second, rest, h) = c.requires.here in (
      first,
      payload_of second ++ rest,
      first_here c.lines_have_one_coding.ensures.few bytes c.args.j c.args.at
          (get_or bytes c.args.j 0) refl
          first second rest h,
    )

pub decode_at-requires-clause-within : goal.decode_at-requires-clause-within
decode_at-requires-clause-within c =
    let bytes = c.args.bytes.now in
    let (first, second, rest, h) = c.requires.here in
    (c.decode_at-middle.ensures.put first (payload_of second ++ rest)
    (first_here c.lines_have_one_coding.ensures.few bytes c.args.j c.args.at
    (get_or bytes c.args.j 0) refl
    first second rest h)).within

pub decode_at-requires-clause-here : goal.decode_at-requires-clause-here
decode_at-requires-clause-here c =
    let few = c.lines_have_one_coding.ensures.few in
    let bytes = c.args.bytes.now in
    let b = get_or bytes c.args.j 0 in
    let (first, second, rest, h) = c.requires.here in
    let put = c.decode_at-middle.ensures.put first (payload_of second ++ rest)
    (first_here few bytes c.args.j c.args.at b refl first second rest h) in (
      second,
      rest,
      second_here few bytes c.args.j c.args.at b refl first second rest h c.decode_at-middle.result
          put.rest_is,
    )

pub returns-clause-put : goal.returns-clause-put
returns-clause-put c first second rest h =
    let bytes = c.args.bytes.now in
    pair_put c.lines_have_one_coding.ensures.few bytes c.args.read.now c.decode_at-middle.new.read
    c.decode_at.new.read c.args.j c.args.at c.decode_at-middle.result c.decode_at.result
    (get_or bytes c.args.j 0) refl first second rest h c.decode_at-middle.ensures.put
    c.decode_at.ensures.put
