-- One more number is free.
use Rattle.std.proofs.Common.{◌+◌, [], ◌∷◌, None, ap, arith, length}
use Rattle.std.proofs.lemmas.List.{length-append}
use Rattle.class_pool.proofs.Numbers.{one_more}
use Rattle.class_pool.proofs.places.Places.grow.Goals as goal

pub loop-preserved : goal.loop-preserved
loop-preserved c = record {
  more = (
    c.loop.invariant.more.0 + 1,
    one_more _ _ _ _ c.loop.invariant.more.1
        c.in_ok-push.ensures.ok,
  );
  long = omega (
    arith,
    ap length c.in_ok-push.ensures.ok,
    length-append c.loop.self (None ∷ []),
    c.loop.invariant.long,
  );
  from = omega (arith, c.loop.invariant.from);
  stays = λ enough. absurd (omega (arith, enough, c.loop.invariant.from, c.loop-test.true));
}
