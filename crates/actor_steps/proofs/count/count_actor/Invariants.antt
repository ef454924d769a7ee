use Rattle.std.proofs.Common.{◌≡◌, ℕ, Bool, ◌+◌, ◌<◌, drop}
use Rattle.call_history.specs.Parts.{program}
use Rattle.actor_steps.specs.Counts.{pieces_on, count_at, HasOnlyCounts}
use Rattle.actor_steps.proofs.count.count_actor.Given as goal

abbrev pub invariant-loop-op : goal.invariant-loop-op
invariant-loop-op l = record {
  only : HasOnlyCounts l.size l.counts;
  counted : (backed : Bool) (p : ℕ) → p < l.size
      → count_at l.counts p + pieces_on l.size p (program l.size backed 0 (drop l.op-index l.ops))
      ≡ count_at l.initial.counts p + pieces_on l.size p (program l.size backed 0 l.ops);
}
