-- The line of a word is packed as the word, so it is the one that was decoded.
use Rattle.std.proofs.Common.{◌≡◌, ◌≢◌, ◌<◌, ◌^◌, ℕ, List, length, not, ap, subst, arith}
use Rattle.std.proofs.lemmas.Bool.{eq-eqb}
use Rattle.std.proofs.lemmas.Grind.{get_or_default_zero}
use Rattle.std.proofs.lemmas.Simd.{below_from_Fits, chunk-fits}
use Rattle.std.specs.Int.{w8}
use Rattle.std.specs.Simd.Lanes.{chunk, Each1}
use Rattle.bdi_line.specs.Coded.{IsCoded, IsByteLine}
use Rattle.bdi_line.specs.declared.codes.Code.TheVariants.{Repeated}
use Rattle.bdi_line.proofs.Equal.{word_line, word_is_bytes, word_coded, coded_word, tells_more}
use Rattle.bdi_line.proofs.read.holds_repeated.Goals as goal

pub returns : goal.returns
returns c =
    let line = c.args.line.now in
    let p = c.args.payload.now in
    let v = c.word_at_front.result in
    let short : length p ≡ 8 = c.requires.size in
    let some : Each1 (λ x. x < 256) (chunk 0 8 p) =
    below_from_Fits w8 _ (chunk-fits w8 0 8 p c.type_inv.payload) in
    let below : v < 2 ^ 64 = c.word_at_front.type_inv in
    let bytes : IsByteLine line = (
      c.told-line,
      λ k d lt.
          let e = get_or_default_zero line k d lt in
          let b = c.fits-line k in
          omega (arith, e, b),
    ) in
    let P : List ℕ → Type 0 = λ l. IsCoded l Repeated p in (
      (λ full.
          let more : v ≢ 0 = λ e. (let none = ap not (eq-eqb v 0 e) in absurd (cc)) in
          let coded = word_coded p v short some c.word_at_front.ensures below more in
          subst P (c.requires.only (word_line v) (word_is_bytes v) coded) coded),
      λ k. tells_more v (coded_word p v short some c.word_at_front.ensures line bytes k),
    )
