-- One block of zeros more.
use Rattle.std.proofs.Common.{◌<◌, [], ◌∷◌, ◌++◌, ap, ◌∙◌, length, arith}
use Rattle.backing_dev.specs.MemoryInside.{all_blocks}
use Rattle.backing_dev.proofs.Blocks.{front_longer}
use Rattle.backing_dev.proofs.memory.reach.Goals as goal

pub loop-pages-preserved : goal.loop-pages-preserved
loop-pages-preserved c =
    let front = c.loop-pages.pages in
    let blocks = c.args.blocks in
    let small : length front.items < blocks = omega (arith, front.ok.0, c.loop-pages-test.true, c.requires.block) in record {
      same = ap (all_blocks blocks) c.push_reserved.ensures.items
          ∙ ap (λ zeros. all_blocks blocks (front.items ++ zeros ∷ [])) c.zero_page.ensures
          ∙ front_longer blocks front.items small ∙ c.loop-pages.invariant.same;
      front = omega (arith, c.push_reserved.ensures.len, front.ok.0, small);
      room = c.push_reserved.ensures.capacity ∙ c.loop-pages.invariant.room;
    }
