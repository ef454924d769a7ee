use Rattle.std.proofs.Common.{◌≡◌, ℕ, Bool, ◌+◌, ◌<◌, drop}
use Rattle.actor_steps.specs.Counts.{count_at, pieces_each, HasOnlyCounts}
use Rattle.actor_steps.proofs.count.count_pieces.Given as goal

abbrev pub invariant-loop-actor : goal.invariant-loop-actor
invariant-loop-actor l = record {
  only : HasOnlyCounts l.size l.counts;
  counted : (backed : Bool) (p : ℕ) → p < l.size
      → count_at l.counts p + pieces_each l.size backed (drop l.actor-index l.ops) p
      ≡ pieces_each l.size backed l.ops p;
}
