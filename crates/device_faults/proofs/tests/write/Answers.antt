use Rattle.std.proofs.Common.{◌∙◌}
use Rattle.zr_base.specs.declared.op.Stuff.TheVariants.{Fill}
use Rattle.device_faults.proofs.Works.{new_write}
use Rattle.device_faults.proofs.tests.write.Goals as goal

pub returns : goal.returns
returns c =
    new_write c.args.op (record c.args.scratch.now { fresh = c.put_sector.new.self }) (Fill 9)
    c.write.result c.write.ensures (c.put_sector.ensures.put ∙ c.sector.ensures)
