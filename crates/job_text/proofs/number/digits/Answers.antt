use Rattle.std.proofs.Common.{◌≡◌, true, refl, ap, ◌∙◌, arith}
use Rattle.std.proofs.lemmas.List.{drop_all}
use Rattle.job_text.specs.Numbers.{are_digits, value_from}
use Rattle.job_text.specs.Answers.{saturated}
use Rattle.job_text.proofs.Digits.{saturated_more, are_more}
use Rattle.job_text.proofs.number.digits.Goals as goal

pub loop-c-preserved : goal.loop-c-preserved
loop-c-preserved c =
    let base = c.args.base in
    let value = c.loop-c.value in
    let at = c.loop-c.c-index in
    let word = c.args.word.now in
    let below = c.loop-c-test.true in (
      omega arith,
      c.loop-c.invariant.1 ∙ are_more base value at word below (omega arith),
      c.loop-c.invariant.2
          ∙ saturated_more base value at word below c.saturating_add-value.result
          c.requires.low (omega arith),
    )

pub returns : goal.returns
returns c =
    let all : are_digits c.args.base c.args.word.now ≡ true =
    c.loop-c.invariant.1
    ∙ ap (are_digits c.args.base) (drop_all c.loop-c.c-index c.args.word.now c.loop-c-test.false) in
    let value : saturated (value_from c.args.base 0 c.args.word.now) ≡ saturated c.loop-c.value =
    c.loop-c.invariant.2
    ∙ ap (λ cs. saturated (value_from c.args.base c.loop-c.value cs))
    (drop_all c.loop-c.c-index c.args.word.now c.loop-c-test.false) in
    let same : saturated c.loop-c.value ≡ c.loop-c.value = omega (arith, c.loop-c.invariant.0) in
    rw (all, value, same) refl
