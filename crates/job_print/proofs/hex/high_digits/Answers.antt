use Rattle.std.proofs.Common.{ℕ, ◌/◌, ◌<◌, ◌^◌, List, map, Fits, w8, sym, ap, subst, ◌∙◌, arith}
use Rattle.std.specs.Simd.Lanes.{Each1}
use Rattle.job_print.specs.Texts.{hex_digit}
use Rattle.job_print.proofs.Sixteen.{splat_16, each_in_map, map_twice}
use Rattle.job_print.proofs.hex.high_digits.Goals as goal

pub digits_of-requires : goal.digits_of-requires
digits_of-requires c =
    let lanes = splat_16 (λ a b. a / 2 ^ b) 4 c.args.bytes c.fits-bytes.0 in
    let P : List ℕ → Type 0 = λ xs. Each1 (λ n. n < 16) xs in
    subst P (sym lanes) (each_in_map (Fits w8) (λ n. n < 16) (λ a. a / 2 ^ 4)
    (λ x fits. let small = fits.fits in omega arith) c.args.bytes c.fits-bytes.1)

pub returns : goal.returns
returns c =
    let lanes = splat_16 (λ a b. a / 2 ^ b) 4 c.args.bytes c.fits-bytes.0 in
    c.digits_of.ensures ∙ ap (map hex_digit) lanes
    ∙ map_twice hex_digit (λ a. a / 2 ^ 4) c.args.bytes
