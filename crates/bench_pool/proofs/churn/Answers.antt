-- The object that is freed is none of those that were at home before.
use Rattle.std.proofs.Common.{◌∙◌}
use Rattle.class_pool.specs.Pool.{IsAtHome}
use Rattle.bench_pool.proofs.Sizes.{size_stays}
use Rattle.bench_pool.proofs.churn.Goals as goal

pub returns-in_err-handle-clause-others : goal.returns-in_err-handle-clause-others
returns-in_err-handle-clause-others c h among =
    c.add-in-loop-2.ensures.others h (c.loop-2.invariant.others h among)

pub loop-2-preserved : goal.loop-2-preserved
loop-2-preserved c = record {
  size = size_stays _ _ _ _ _ _ c.free.ensures.place.6 ∙ c.add-in-loop-2.ensures.size
      ∙ c.loop-2.invariant.size;
  others = λ h among.
      let was : IsAtHome c.loop-2.pool h = c.loop-2.invariant.others h among in
      c.free.ensures.others h (λ same. c.in_ok-handle.ensures.fresh was.0 was.1 (was.2 ∙ same))
      (c.add-in-loop-2.ensures.others h was);
}
