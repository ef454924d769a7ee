-- The byte's two codes are read one after the other.
use Rattle.std.proofs.Common.{◌++◌, get_or, refl}
use Rattle.bdi_line.specs.Packed.{payload_of}
use Rattle.bdi_page.proofs.Here.{first_here, second_here, pair_read}
use Rattle.bdi_page.proofs.reader.unpack_pair.Goals as goal

pub returns-in_err-middle-clause-none : goal.returns-in_err-middle-clause-none
returns-in_err-middle-clause-none c _ first second rest h =
    let bytes = c.args.bytes.now in
    c.in_err-middle.ensures.none refl first (payload_of second ++ rest)
    (first_here c.lines_have_one_coding.ensures.few bytes c.args.j c.args.at
    (get_or bytes c.args.j 0) refl
    first second rest h)

pub returns-in_err-next-clause-none : goal.returns-in_err-next-clause-none
returns-in_err-next-clause-none c _ first second rest h =
    let few = c.lines_have_one_coding.ensures.few in
    let bytes = c.args.bytes.now in
    let b = get_or bytes c.args.j 0 in
    let low = c.in_ok-middle.ensures.some.only first (payload_of second ++ rest)
    (first_here few bytes c.args.j c.args.at b refl first second rest h) in
    c.in_err-next.ensures.none refl second rest
    (second_here few bytes c.args.j c.args.at b refl first second rest h c.in_ok-middle.middle
    low.1)

pub returns-clause-some : goal.returns-clause-some
returns-clause-some c =
    let bytes = c.args.bytes.now in
    pair_read c.lines_have_one_coding.ensures.few bytes c.args.read.now c.read_line.new.read
    c.read_line-2.new.read c.args.j c.args.at c.in_ok-middle.middle c.in_ok-next.next
    (get_or bytes c.args.j 0) refl c.in_ok-middle.ensures.some c.in_ok-next.ensures.some
