-- The object that is freed is another one than the one that was added.
use Rattle.std.proofs.Common.{◌∙◌, sym, arith}
use Rattle.bench_pool.proofs.plan.Goals as goal

pub loop-init : goal.loop-init
loop-init c = record {
  home = c.free.ensures.others c.in_ok-handle.handle.0
      (λ same. c.in_ok-handle.ensures.fresh c.requires.home.0 c.requires.home.1
      (c.requires.home.2 ∙ sym same)) c.in_ok-handle.ensures.home;
  few = omega arith;
}
