use Rattle.disk_rest.proofs.Begun.{begins}
use Rattle.disk_rest.proofs.laws.disks_begin.Goals as goal

pub returns : goal.returns
returns c r n row low high long new limit maps = let law = c.disks_begin.ensures in (
  law.plain r n,
  begins r n row law.rest law.account low high long new limit maps,
)
