use Rattle.job_print.proofs.Sixteen.{sixteen_put}
use Rattle.job_print.proofs.hex.put_sixteen.Goals as goal

pub returns-clause-put : goal.returns-clause-put
returns-clause-put c = sixteen_put c.args.at c.args.digits.now c.high_digits.result
    c.low_digits.result c.args.bytes
    c.fits-bytes.0 c.requires c.high_digits.ensures c.low_digits.ensures
