-- A cell has from 32 to 4096 bytes, and a chain from 1 to 16 frames.
use Rattle.std.proofs.Common.{arith}
use Rattle.size_class.proofs.ClassRules.{per_some, per_bound}
use Rattle.size_class.proofs.table.per.Goals as goal

pub returns-clause-some : goal.returns-clause-some
returns-clause-some c = per_some _ _ c.chain.ensures.rule.some (omega arith) c.size.ensures.bound

pub returns-clause-bound : goal.returns-clause-bound
returns-clause-bound c = per_bound _ _ c.chain.ensures.bound (omega arith)
