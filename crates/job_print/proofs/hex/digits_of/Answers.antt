use Rattle.std.proofs.Common.{w8, refl, arith}
use Rattle.std.proofs.lemmas.Simd.{SwzOk-from_below}
use Rattle.job_print.proofs.Sixteen.{looked_up}
use Rattle.job_print.proofs.hex.digits_of.Goals as goal

pub swizzle : goal.swizzle
swizzle c =
    let long = c.fits-numbers.0 in
    SwzOk-from_below w8 16 1 16 0 c.args.numbers refl (omega arith) c.requires

pub returns : goal.returns
returns c = looked_up c.args.numbers c.fits-numbers.0 c.requires
