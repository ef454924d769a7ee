-- No lane is marked exactly where every word is the first, and so is the second then.
use Rattle.std.proofs.Common.{not, eqb, ap, ◌∙◌, lit≤, arith}
use Rattle.std.proofs.lemmas.Grind.{get_or_default_zero}
use Rattle.std.proofs.lemmas.Simd.{bitmask_splat}
use Rattle.std.specs.Int.{w64}
use Rattle.bdi_line.specs.Packed.{is_all}
use Rattle.bdi_line.proofs.pack.is_repeated.Goals as goal

pub returns : goal.returns
returns c =
    let words = c.args.words in
    ap (λ m. eqb m 0)
    (bitmask_splat w64 (λ a b. not (eqb a b)) words 8 c.index-3.result.now c.fits-words.0 (lit≤ tt))
    ∙ ap (λ x. is_all x words)
    (c.index-3.ensures ∙ get_or_default_zero words 0 _ (omega (arith, c.fits-words.0)))
