-- Turns of a compaction from what its hand did.
use Rattle.std.proofs.Common.{◌≡◌, ℕ, refl, sym, ap, ◌∙◌, subst}
use Rattle.zr_base.specs.declared.op.Op.{Op}
use Rattle.zr_base.specs.Plain.{is_beyond, is_maintenance}
use Rattle.lock_row.specs.declared.names.LockNo.{LockNo}
use Rattle.lock_row.specs.declared.names.Plan.TheVariants.{Take, Give}
use Rattle.page_steps.specs.Steps.{DiskHeld, Here, start_plan, plan, took}
use Rattle.page_steps.specs.Givings.{Works}
use Rattle.page_steps.specs.Nexts.{Next}
use Rattle.page_steps.specs.Calls.{Frame}
use Rattle.page_steps.specs.Turns.{HasMoved, waited, took_it, gave_it}
use Rattle.page_steps.specs.declared.stage.Progress.{Progress}
use Rattle.page_steps.specs.declared.stage.Progress.TheVariants as progress
use Rattle.post_steps.specs.Turns.{TakesAs, GivesAs, after}
use Rattle.post_steps.specs.Compact.{here, next_event, IsWork, IsFit, IsGoing, IsOnward, IsReady, HasAdvanced}
use Rattle.post_steps.specs.declared.compact.CompactStage.{CompactStage}
use Rattle.post_steps.specs.declared.compact.CompactStage.TheVariants as stage

-- what a compaction does next is what its actor's plan says
pub plan_is : (chain : ℕ) (x : Frame) (s : CompactStage) → IsGoing s → IsWork chain x
    → plan x.terms (here x s) ≡ next_event s
plan_is chain x stage.Start on w = ap (λ (op : Op).
    start_plan (is_maintenance op) (is_beyond x.terms.size x.part.op) (record x.part { op = op })) w.op
plan_is chain x (stage.Sweeping y) on w = refl
plan_is chain x (stage.Moving y q) on w = refl
plan_is chain x (stage.Shrunk y frames) on w = refl
plan_is chain x (stage.Shrinking y frames a) on w = refl
plan_is chain x stage.Over on w = absurd on

module _ {X : Type 0} {can_take : X → LockNo → Next → Type 0}
    {takes : X → LockNo → Next → DiskHeld → X → Type 0} {misses : X → LockNo → X → Type 0}
    {can_give : X → LockNo → Next → DiskHeld → Type 0}
    {gives : X → LockNo → Next → DiskHeld → X → Type 0}
    {chain : ℕ} {s : CompactStage} {h g : X} {k : LockNo} where
  -- its next lock was held
  pub waits : IsReady can_take takes can_give chain s h → IsGoing s → next_event s ≡ Take k
      → misses h k g → HasAdvanced takes misses gives chain s h s g (progress.Waits k)
  waits ready on what miss = record {
    fit = ready.fit;
    turn = λ x w. waited k (plan_is chain x s on w ∙ what) miss refl refl;
    onward = on;
  }

  -- it took its next lock
  pub takes_it : {f : Next} {v : DiskHeld} {s' : CompactStage}
      → IsReady can_take takes can_give chain s h → IsGoing s → next_event s ≡ Take k
      → TakesAs (IsWork chain) (λ x. here x s) f → takes h k f v g → IsFit chain s' → IsGoing s'
      → ((x : Frame) → IsWork chain x → here x s' ≡ took x.terms (here x s) v)
      → HasAdvanced takes misses gives chain s h s' g progress.Moved
  takes_it {f} {v} {s'} ready on what so take fit on' is = record {
    fit = fit;
    turn = λ x w. took_it k f v (plan_is chain x s on w ∙ what) take (so x v w) (is x w) refl;
    onward = on';
  }

  -- it gave a lock back
  pub gives_it : (f : Next) {v : DiskHeld} {s' : CompactStage} {p : Progress}
      → IsReady can_take takes can_give chain s h → IsGoing s → next_event s ≡ Give k
      → GivesAs (IsWork chain) (λ x. here x s) f v → gives h k f v g → IsFit chain s'
      → IsOnward p s' → ((x : Frame) → HasMoved p (here x s))
      → ((x : Frame) → IsWork chain x → f (here x s) v ≡ after (here x s) (here x s') p)
      → HasAdvanced takes misses gives chain s h s' g p
  gives_it f {v} {s'} {p} ready on what so give fit on' moved is = record {
    fit = fit;
    turn = λ x w. gave_it k f v (plan_is chain x s on w ∙ what) give (is x w)
        (subst (λ (m : Here). Works x.terms (here x s) v m) (is x w) (so x w)) (moved x);
    onward = on';
  }

-- the same turn where what follows is told otherwise
pub told_so : {X : Type 0} {takes : X → LockNo → Next → DiskHeld → X → Type 0}
    {misses : X → LockNo → X → Type 0} {gives : X → LockNo → Next → DiskHeld → X → Type 0}
    {chain : ℕ} {s s' s'' : CompactStage} {h g : X} {p p' : Progress} → s'' ≡ s' → p' ≡ p
    → HasAdvanced takes misses gives chain s h s' g p
    → HasAdvanced takes misses gives chain s h s'' g p'
told_so {takes} {misses} {gives} {chain} {s} {s'} {s''} {h} {g} {p} {p'} is done adv =
    subst (λ (y : CompactStage). HasAdvanced takes misses gives chain s h y g p') (sym is)
    (subst (λ (t : Progress). HasAdvanced takes misses gives chain s h s' g t) (sym done) adv)
