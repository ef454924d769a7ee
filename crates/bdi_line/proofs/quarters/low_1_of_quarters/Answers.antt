-- The places that the code picks are those of the low bytes of each lane.
use Rattle.std.proofs.Common.{◌^◌, refl, sym, ◌∙◌, lit≤}
use Rattle.std.specs.Int.{w16}
use Rattle.std.specs.Simd.Lanes.{digits_l, number_l}
use Rattle.std.proofs.lemmas.Simd.{below_from_Fits, pick_l_left}
use Rattle.bdi_line.proofs.Digits.{length-digits, low_bytes_picked, places}
use Rattle.bdi_line.proofs.quarters.low_1_of_quarters.Goals as goal

pub returns : goal.returns
returns c =
    let bytes = digits_l 256 64 (number_l (2 ^ 16) c.args.deltas) in
    pick_l_left 0 bytes bytes 64 (places 2 1 32 0)
    (length-digits 256 64 (number_l (2 ^ 16) c.args.deltas)) tt
    ∙ low_bytes_picked (2 ^ 16) 2 64 c.args.deltas refl
    (below_from_Fits w16 c.args.deltas c.fits-deltas.1) 1 32 0 (lit≤ tt) (lit≤ tt)
    (sym c.fits-deltas.0)
