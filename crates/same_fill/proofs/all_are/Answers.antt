-- No lane is marked exactly where every word is this one.
use Rattle.std.proofs.Common.{not, eqb, ◌∙◌, sym, lit≤}
use Rattle.std.proofs.lemmas.Bool.{eqb-true, eq-eqb}
use Rattle.std.proofs.lemmas.Simd.{bitmask_splat}
use Rattle.std.specs.Int.{w64}
use Rattle.same_fill.proofs.Words.{all_lanes}
use Rattle.same_fill.proofs.all_are.Goals as goal

pub returns : goal.returns
returns c =
    let mask = bitmask_splat w64 (λ a b. not (eqb a b)) c.args.words 8 c.args.word c.fits-words.0
    (lit≤ tt) in
    let lanes = all_lanes c.args.word c.args.words c.fits-words.0 in (
      (λ t. lanes.0 (sym mask ∙ eqb-true _ 0 t)),
      λ same. eq-eqb _ 0 (mask ∙ lanes.1 same),
    )
