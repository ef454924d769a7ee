-- The places that the code picks are those of the low bytes of each lane.
use Rattle.std.proofs.Common.{◌^◌, refl, sym, ◌∙◌, lit≤}
use Rattle.std.specs.Int.{w32}
use Rattle.std.specs.Simd.Lanes.{digits_l, number_l}
use Rattle.std.proofs.lemmas.Simd.{below_from_Fits, pick_l_left}
use Rattle.bdi_line.proofs.Digits.{length-digits, low_bytes_picked, places}
use Rattle.bdi_line.proofs.halves.low_1_of_halves.Goals as goal

pub returns : goal.returns
returns c =
    let bytes = digits_l 256 64 (number_l (2 ^ 32) c.args.deltas) in
    pick_l_left 0 bytes bytes 64 (places 4 1 16 0)
    (length-digits 256 64 (number_l (2 ^ 32) c.args.deltas)) tt
    ∙ low_bytes_picked (2 ^ 32) 4 64 c.args.deltas refl
    (below_from_Fits w32 c.args.deltas c.fits-deltas.1) 1 16 0 (lit≤ tt) (lit≤ tt)
    (sym c.fits-deltas.0)
