use Rattle.std.proofs.Common.{sym, subst}
use Rattle.lock_table.specs.Sittings.{Ground}
use Rattle.lock_table.specs.Hands.{MayGive}
use Rattle.bench_lock_table.specs.Tagging.{gave}
use Rattle.bench_lock_table.specs.TagRule.{tagging}
use Rattle.bench_lock_table.specs.Ready.{Mine}
use Rattle.bench_lock_table.proofs.Gifts.{may_give}
use Rattle.bench_lock_table.proofs.turns.give.Goals as goal

pub give-requires : goal.give-requires
give-requires c = subst
    (λ (p : Ground × Mine). MayGive tagging p.0 p.1 c.args.lock gave c.args.tags)
    (λ i. (sym c.at-at.ensures.row i, sym c.at-at.ensures.hand i))
    (may_give c.args.row.now c.args.hand.now c.args.lock c.args.tags c.requires)
