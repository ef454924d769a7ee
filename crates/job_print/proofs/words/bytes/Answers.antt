use Rattle.std.proofs.Common.{◌≡◌, ap, ◌∙◌, arith}
use Rattle.std.specs.Prelude.{max}
use Rattle.job_print.proofs.Steps.{digits_more}
use Rattle.job_print.proofs.words.bytes.Goals as goal

pub loop-k-preserved : goal.loop-k-preserved
loop-k-preserved c =
    let greatest : c.max-greatest.result ≡ max (max c.loop-k.greatest c.digit-high.result) c.digit-low.result =
    c.max-greatest.ensures ∙ ap (λ n. max n c.digit-low.result) c.max.ensures in
    c.loop-k.invariant
    ∙ digits_more c.args.digits.now c.loop-k.into c.loop-k.k (omega arith) (omega arith)
    c.digit-high.result c.digit-low.result c.loop-k.greatest c.max-greatest.result
    c.digit-high.ensures c.digit-low.ensures greatest
