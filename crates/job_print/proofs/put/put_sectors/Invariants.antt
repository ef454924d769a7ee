use Rattle.std.proofs.Common.{◌≡◌, ◌++◌, drop, map}
use Rattle.plain_disk.specs.Output.{sector}
use Rattle.job_print.specs.Texts.{text}
use Rattle.job_print.proofs.put.put_sectors.Given as goal

abbrev pub invariant-loop-bytes : goal.invariant-loop-bytes
invariant-loop-bytes l =
    l.out.items ++ text (map sector (drop l.bytes-index l.told))
    ≡ l.fn.out.items ++ text (map sector l.told)
