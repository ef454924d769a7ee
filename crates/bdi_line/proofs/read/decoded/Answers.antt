-- A line with this code and payload is the decoded one.
use Rattle.std.proofs.Common.{◌≡◌, ◌^◌, refl, sym, ap, ◌∙◌, arith, lit<}
use Rattle.std.specs.Simd.Lanes.{number_l, digits_l}
use Rattle.bdi_line.specs.declared.codes.Code.TheVariants.{Zeros, Repeated, B8D1, B8D2, B8D4, B4D1, B4D2, B2D1, Raw}
use Rattle.bdi_line.proofs.Digits.{bytes_back}
use Rattle.std.proofs.lemmas.List.{take_all}
use Rattle.bdi_line.proofs.Unique.{bytes_of_line, zero_line, repeated_line, under}
use Rattle.bdi_line.proofs.read.decoded.Goals as goal
use Rattle.bdi_line.proofs.read.decoded.Goals.{in-Zeros, in-Repeated, in-B8D1, in-B8D2, in-B8D4, in-B4D1, in-B4D2, in-B2D1, in-Raw}

pub returns : goal.returns
returns c line is k =
    let p = c.args.payload.now in
    let bytes = bytes_of_line line is in
    elim c.match-code.branch as (λ _. line ≡ c.match-code.result) [
      | in-Zeros w ↦
          let coded = under line p c.args.code Zeros w.in-Zeros.is k in
          sym (w.result-is ∙ w.line_of_zeros.ensures ∙ zero_line line is coded.fits)
      | in-Repeated w ↦
          let coded = under line p c.args.code Repeated w.in-Repeated.is k in
          sym (w.result-is ∙ w.line_of_words.ensures
          ∙ ap (λ l. digits_l 256 64 (number_l (2 ^ 64) l))
          (w.read_repeated.ensures
          ∙ repeated_line line p _ is coded.fits coded.payload_is refl)
          ∙ bytes_back 8 8 line is.0 bytes (lit< tt) refl)
      | in-B8D1 w ↦
          let coded = under line p c.args.code B8D1 w.in-B8D1.is k in
          sym (w.result-is ∙ w.line_of_words-in-B8D1.ensures
          ∙ ap (λ l. digits_l 256 64 (number_l (2 ^ 64) l))
          (w.read_b8d1.ensures line coded.payload_is)
          ∙ bytes_back 8 8 line is.0 bytes (lit< tt) refl)
      | in-B8D2 w ↦
          let coded = under line p c.args.code B8D2 w.in-B8D2.is k in
          sym (w.result-is ∙ w.line_of_words-in-B8D2.ensures
          ∙ ap (λ l. digits_l 256 64 (number_l (2 ^ 64) l))
          (w.read_b8d2.ensures line coded.payload_is)
          ∙ bytes_back 8 8 line is.0 bytes (lit< tt) refl)
      | in-B8D4 w ↦
          let coded = under line p c.args.code B8D4 w.in-B8D4.is k in
          sym (w.result-is ∙ w.line_of_words-in-B8D4.ensures
          ∙ ap (λ l. digits_l 256 64 (number_l (2 ^ 64) l))
          (w.read_b8d4.ensures line coded.payload_is)
          ∙ bytes_back 8 8 line is.0 bytes (lit< tt) refl)
      | in-B4D1 w ↦
          let coded = under line p c.args.code B4D1 w.in-B4D1.is k in
          sym (w.result-is ∙ w.line_of_halves.ensures
          ∙ ap (λ l. digits_l 256 64 (number_l (2 ^ 32) l))
          (w.read_b4d1.ensures line coded.payload_is)
          ∙ bytes_back 4 16 line is.0 bytes (lit< tt) refl)
      | in-B4D2 w ↦
          let coded = under line p c.args.code B4D2 w.in-B4D2.is k in
          sym (w.result-is ∙ w.line_of_halves-in-B4D2.ensures
          ∙ ap (λ l. digits_l 256 64 (number_l (2 ^ 32) l))
          (w.read_b4d2.ensures line coded.payload_is)
          ∙ bytes_back 4 16 line is.0 bytes (lit< tt) refl)
      | in-B2D1 w ↦
          let coded = under line p c.args.code B2D1 w.in-B2D1.is k in
          sym (w.result-is ∙ w.line_of_quarters.ensures
          ∙ ap (λ l. digits_l 256 64 (number_l (2 ^ 16) l))
          (w.read_b2d1.ensures line coded.payload_is)
          ∙ bytes_back 2 32 line is.0 bytes (lit< tt) refl)
      | in-Raw w ↦
          let coded = under line p c.args.code Raw w.in-Raw.is k in
          sym (w.result-is ∙ w.line_at_front.ensures
          ∙ take_all 64 p (omega (arith, c.requires)) ∙ coded.payload_is)
    ]
