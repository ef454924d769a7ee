use Rattle.std.proofs.Common.{◌≡◌, map, take, drop}
use Rattle.job_print.specs.Reading.{all_in, after, number_in}
use Rattle.job_print.proofs.number.numbers.Given as goal

abbrev pub invariant-loop-k : goal.invariant-loop-k
invariant-loop-k l =
    all_in number_in (map (λ word. word.now) l.words)
    ≡ after (take l.k l.into) (all_in number_in (map (λ word. word.now) (drop l.k l.words)))
