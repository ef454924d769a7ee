use Rattle.std.proofs.Common.{◌≡◌, ◌++◌, drop, map}
use Rattle.std.specs.Fmt.{decimal}
use Rattle.job_print.specs.Texts.{spaced}
use Rattle.job_print.proofs.put.put_groups.Given as goal

abbrev pub invariant-loop-n : goal.invariant-loop-n
invariant-loop-n l =
    l.out.items ++ spaced (map decimal (drop l.n-index l.groups))
    ≡ l.fn.out.items ++ spaced (map decimal l.groups)
