-- 8 bytes spell a number of 64 bits.
use Rattle.std.proofs.Common.{◌∙◌}
use Rattle.std.specs.Int.{w8}
use Rattle.std.proofs.Math.Nat.{mod-eq_of_lt}
use Rattle.std.proofs.lemmas.Simd.{below_from_Fits, chunk-fits}
use Rattle.bdi_line.proofs.Digits.{number_of_bytes}
use Rattle.bdi_line.proofs.read.word_at_front.Goals as goal

pub returns : goal.returns
returns c =
    c.index.ensures
    ∙ mod-eq_of_lt (number_of_bytes 0 8 c.args.bytes.now
    (below_from_Fits w8 _ (chunk-fits w8 0 8 c.args.bytes.now c.type_inv.bytes)) c.requires)
