use Rattle.std.proofs.Common.{◌*◌, ◌∙◌, arith}
use Rattle.std.proofs.lemmas.List.{take-replicate}
use Rattle.cell_arena.proofs.chain.Chain.new.Goals as goal

pub returns : goal.returns
returns c = c.in_ok-strip.ensures.1
    ∙ take-replicate (c.args.frames * 4096) 65536 0 (omega (arith, c.requires.few))
