-- The block is one of the front.
use Rattle.std.proofs.Common.{set, ap, ◌∙◌, arith}
use Rattle.backing_dev.specs.MemoryInside.{all_blocks}
use Rattle.backing_dev.proofs.Blocks.{front_set}
use Rattle.backing_dev.proofs.memory.put_block.Goals as goal

pub returns-clause-set : goal.returns-clause-set
returns-clause-set c =
    let blocks = c.args.blocks in
    let front = c.reach.new.pages.items in
    let b = c.args.b in
    ap (λ page. all_blocks blocks (set front b page)) c.put_bytes.ensures.bytes
    ∙ front_set blocks front b c.args.page.now (omega (arith, c.reach.ensures.reached))
    ∙ ap (λ all. set all b c.args.page.now) c.reach.ensures.same
