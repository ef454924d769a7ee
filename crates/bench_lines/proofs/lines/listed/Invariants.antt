-- The list has the bytes so far.
use Rattle.std.proofs.Common.{◌≡◌, ◌<◌, take}
use Rattle.std.specs.List.{AllByRecursion}
use Rattle.bench_lines.proofs.lines.listed.Given as goal

abbrev pub invariant-loop-byte : goal.invariant-loop-byte
invariant-loop-byte l =
    (l.list ≡ take l.byte-index l.bytes) × AllByRecursion (λ byte. byte < 256) l.list
