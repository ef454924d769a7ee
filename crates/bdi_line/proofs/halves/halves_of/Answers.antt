use Rattle.std.proofs.Common.{refl}
use Rattle.bdi_line.specs.Line.{values}
use Rattle.bdi_line.proofs.halves.halves_of.Goals as goal

pub returns : goal.returns
unfolding values
returns c = refl
