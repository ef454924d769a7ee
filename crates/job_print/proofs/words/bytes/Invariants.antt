use Rattle.std.proofs.Common.{◌≡◌, ◌*◌, nat_lt, take, drop}
use Rattle.std.specs.Prelude.{None, if◌then◌else◌}
use Rattle.job_print.specs.Reading.{after, bytes_in}
use Rattle.job_print.proofs.words.bytes.Given as goal

-- what the digits are read as, as far as each so far is one
abbrev pub invariant-loop-k : goal.invariant-loop-k
invariant-loop-k l =
    bytes_in l.digits
    ≡ (if nat_lt l.greatest 16
    then after (take l.k l.into) (bytes_in (drop (2 * l.k) l.digits)) else None)
