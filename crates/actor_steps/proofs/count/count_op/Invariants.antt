use Rattle.std.proofs.Common.{◌≡◌, ℕ, Bool, ◌+◌, ◌<◌}
use Rattle.std.specs.List.{AllByRecursion}
use Rattle.call_history.specs.Parts.{parts}
use Rattle.actor_steps.specs.Counts.{pieces_on, count_at, HasOnlyCounts}
use Rattle.actor_steps.proofs.Counts.{carried_on}
use Rattle.actor_steps.proofs.count.count_op.Given as goal

abbrev pub invariant-loop-piece : goal.invariant-loop-piece
invariant-loop-piece l = record {
  only : HasOnlyCounts l.size l.counts;
  below : AllByRecursion (λ piece. piece.page.0 < l.size) l.piece-iterator;
  counted : (backed : Bool) (p : ℕ) → p < l.size
      → count_at l.counts p + carried_on l.size l.op p l.piece-iterator
      ≡ count_at l.initial.counts p + pieces_on l.size p (parts l.size backed 0 l.op);
}
