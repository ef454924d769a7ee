-- The digits of the number that bytes spell are these bytes.
use Rattle.std.proofs.Common.{sym, ap, ◌∙◌, map-id}
use Rattle.std.specs.Int.{w8}
use Rattle.std.specs.Simd.Lanes.{digits_l, number_l, chunk}
use Rattle.std.proofs.lemmas.Simd.{below_from_Fits, chunk-fits, length-chunk}
use Rattle.bdi_line.proofs.Digits.{digits-number}
use Rattle.bdi_line.proofs.quarters.quarters_from_1.Goals as goal

pub returns : goal.returns
returns c =
    let bytes = chunk 0 32 c.args.bytes.now in
    map-id bytes
    ∙ sym (ap (λ k. digits_l 256 k (number_l 256 bytes))
    (sym (length-chunk 0 32 c.args.bytes.now c.requires))
    ∙ digits-number 256 bytes (below_from_Fits w8 bytes
    (chunk-fits w8 0 32 c.args.bytes.now c.type_inv.bytes)))
