use Rattle.std.proofs.Common.{◌≡◌, take}
use Rattle.job_print.proofs.lines.list.Given as goal

abbrev pub invariant-loop-byte : goal.invariant-loop-byte
invariant-loop-byte l = l.list ≡ take l.byte-index l.bytes
