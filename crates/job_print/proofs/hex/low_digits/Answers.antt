use Rattle.std.proofs.Common.{ℕ, ◌%◌, ◌<◌, List, map, bit_and, Fits, w8, sym, ap, subst, ◌∙◌, arith}
use Rattle.std.specs.Simd.Lanes.{Each1}
use Rattle.std.proofs.lemmas.Nat.{and_mask}
use Rattle.job_print.specs.Texts.{hex_digit}
use Rattle.job_print.proofs.Sixteen.{splat_16, same_maps, each_in_map, map_twice}
use Rattle.job_print.proofs.hex.low_digits.Goals as goal

pub digits_of-requires : goal.digits_of-requires
digits_of-requires c =
    let lanes = splat_16 bit_and 15 c.args.bytes c.fits-bytes.0
    ∙ same_maps (λ a. bit_and a 15) (λ a. a % 16) (λ x. and_mask x 4) c.args.bytes in
    let P : List ℕ → Type 0 = λ xs. Each1 (λ n. n < 16) xs in
    subst P (sym lanes) (each_in_map (Fits w8) (λ n. n < 16) (λ a. a % 16)
    (λ x fits. omega arith) c.args.bytes c.fits-bytes.1)

pub returns : goal.returns
returns c =
    let lanes = splat_16 bit_and 15 c.args.bytes c.fits-bytes.0
    ∙ same_maps (λ a. bit_and a 15) (λ a. a % 16) (λ x. and_mask x 4) c.args.bytes in
    c.digits_of.ensures ∙ ap (map hex_digit) lanes
    ∙ map_twice hex_digit (λ a. a % 16) c.args.bytes
