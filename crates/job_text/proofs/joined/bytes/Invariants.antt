use Rattle.std.proofs.Common.{◌≡◌, map}
use Rattle.std.specs.List.{range_with_len}
use Rattle.job_text.specs.Numbers.{byte_at}
use Rattle.job_text.proofs.joined.bytes.Given as goal

abbrev pub invariant-loop-k : goal.invariant-loop-k
invariant-loop-k l = l.bytes ≡ map (byte_at l.digits) (range_with_len 0 l.k)
