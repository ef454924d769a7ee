use Rattle.std.proofs.Common.{◌≡◌}
use Rattle.job_text.specs.Generator.{ops_of}
use Rattle.job_text.proofs.generator.ops_of.Given as goal

abbrev pub invariant-loop-page : goal.invariant-loop-page
invariant-loop-page l = l.ops ≡ ops_of l.fn.seed l.fn.actor l.page
