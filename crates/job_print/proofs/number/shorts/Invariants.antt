use Rattle.std.proofs.Common.{◌≡◌, map, take, drop}
use Rattle.job_print.specs.Reading.{all_in, after, short_in}
use Rattle.job_print.proofs.number.shorts.Given as goal

abbrev pub invariant-loop-k : goal.invariant-loop-k
invariant-loop-k l =
    all_in short_in (map (λ word. word.now) l.words)
    ≡ after (take l.k l.into) (all_in short_in (map (λ word. word.now) (drop l.k l.words)))
