use Rattle.std.proofs.Common.{◌∙◌, arith}
use Rattle.zr_base.proofs.Words.{words-fill}
use Rattle.zr_base.proofs.op.put_same_words.Goals as goal

pub returns : goal.returns
returns c = c.put_words.ensures ∙ words-fill c.args.word c.args.from 64 (omega arith)
