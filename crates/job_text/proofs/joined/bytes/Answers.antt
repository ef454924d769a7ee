use Rattle.std.proofs.Common.{sym, ◌∙◌, arith}
use Rattle.std.proofs.lemmas.List.FromFn.{map-range_with_len_more}
use Rattle.job_text.specs.Numbers.{byte_at}
use Rattle.job_text.proofs.joined.bytes.Goals as goal

pub loop-k-preserved : goal.loop-k-preserved
loop-k-preserved c =
    c.in_ok-push.ensures
    ∙ (cc)
    ∙ sym (map-range_with_len_more (byte_at c.args.digits.now) 0 c.loop-k.k c.loop-k.k
    (omega arith))
