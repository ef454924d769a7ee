use Rattle.std.proofs.Common.{◌≡◌, ◌<◌, ◌^◌, drop}
use Rattle.job_text.specs.Numbers.{are_digits, value_from}
use Rattle.job_text.specs.Answers.{saturated}
use Rattle.job_text.proofs.number.digits.Given as goal

abbrev pub invariant-loop-c : goal.invariant-loop-c
invariant-loop-c l =
    (l.value < 2 ^ 64)
    × (are_digits l.base l.word ≡ are_digits l.base (drop l.c-index l.word))
    × (saturated (value_from l.base 0 l.word)
    ≡ saturated (value_from l.base l.value (drop l.c-index l.word)))
