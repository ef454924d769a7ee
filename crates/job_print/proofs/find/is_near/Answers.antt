use Rattle.std.proofs.Common.{◌≡◌, ℕ, ◌==◌, not, false, w8, arith}
use Rattle.std.proofs.lemmas.Bool.Decides.{nat_tests}
use Rattle.std.proofs.lemmas.Simd.{length-chunk, bitmask_splat, none_from_empty_mask}
use Rattle.std.specs.Simd.Lanes.{chunk}
use Rattle.job_print.proofs.find.is_near.Goals as goal

zero_by : (x y : ℕ) → not (x == 0) ≡ false → x ≡ y → y ≡ 0
zero_by x y none same = grind (arith, nat_tests)

pub returns : goal.returns
returns c none =
    let text = c.args.text.now in
    let at = c.args.at in
    none_from_empty_mask (λ x. x == c.args.byte) text at 16 0 c.requires
    (zero_by _ _ none (bitmask_splat w8 (λ a b. a == b) (chunk at 16 text) 16 c.args.byte
    (length-chunk at 16 text c.requires) (omega arith)))
