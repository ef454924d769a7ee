use Rattle.std.proofs.Common.{sym, ◌∙◌}
use Rattle.disk_rest.proofs.Counted.{counts_sum, counts_length, counts_group, objects_length}
use Rattle.disk_rest.proofs.laws.pools_count.Goals as goal

pub returns : goal.returns
returns c p = (
  counts_sum p.zspages ∙ sym (objects_length p),
  counts_length p.zspages,
  λ g. counts_group p.per g p.zspages,
)
