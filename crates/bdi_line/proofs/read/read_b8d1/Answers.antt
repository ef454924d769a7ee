-- The values that a line with this payload has are those that are read.
use Rattle.std.proofs.Common.{◌^◌, get_or, refl, ap, ◌∙◌, arith, lit<}
use Rattle.std.specs.Simd.Lanes.{number_l, digits_l}
use Rattle.bdi_line.specs.Line.{values, b8d1}
use Rattle.bdi_line.proofs.Digits.{length-values, values_below}
use Rattle.bdi_line.proofs.Decoded.{values_read, chunk_tail, first_byte}
use Rattle.bdi_line.proofs.read.read_b8d1.Goals as goal

pub returns : goal.returns
returns c line split =
    let p = c.args.payload.now in
    values_read 128 256 72057594037927935 (2 ^ 64) b8d1 (values 8 8 line) p split refl refl refl
    refl refl
    (length-values 8 8 line) (values_below 8 8 line (lit< tt)) (lit< tt)
    (get_or p 0 0) c.word_at_front-base.result c.words_from_1-low.result
    c.signed_words.result c.based_words.result
    (first_byte p (omega (arith, c.requires)))
    (c.word_at_front-base.ensures ∙ ap (number_l 256) (chunk_tail 8 1 p))
    (c.words_from_1-low.ensures
    ∙ ap (λ l. digits_l 256 8 (number_l 256 l)) (chunk_tail 8 9 p))
    c.signed_words.ensures c.based_words.ensures.len c.based_words.ensures.lanes
