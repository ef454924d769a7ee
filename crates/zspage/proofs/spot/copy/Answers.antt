-- The two parts are the bytes of the other cell.
use Rattle.std.proofs.Common.{◌≡◌, ◌++◌, length, ap, arith}
use Rattle.std.proofs.lemmas.List.{length-append}
use Rattle.zspage.proofs.spot.copy.Goals as goal

pub overflow_cast-first : goal.overflow_cast-first
overflow_cast-first c =
    omega (
      arith,
      c.requires.small,
      ap length c.parts.ensures.whole,
      length-append c.parts.result.0.now c.parts.result.1.now,
    )
