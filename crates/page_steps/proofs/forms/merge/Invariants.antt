use Rattle.std.proofs.Common.{◌≡◌, ℕ, ◌+◌, ◌<◌, ◌≤◌, length}
use Rattle.zr_base.specs.Sectors.{page_sector}
use Rattle.page_steps.specs.Calls.{IsBeside}
use Rattle.page_steps.proofs.forms.merge.Given as goal

abbrev pub invariant-loop-k : goal.invariant-loop-k
invariant-loop-k l = record {
  kept : (j : ℕ) → j < 8 → l.piece.first ≤ j → j < l.piece.first + l.piece.count
      → page_sector l.fresh j ≡ page_sector l.initial.fresh j;
  merged : (j : ℕ) → j < l.k → IsBeside l.piece j → page_sector l.fresh j ≡ page_sector l.old j;
  long : length l.fresh ≡ 4096;
}
