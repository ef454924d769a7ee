-- Turns of a call from what its hand did.
use Rattle.std.proofs.Common.{◌≡◌, refl, sym, ◌∙◌, subst}
use Rattle.lock_row.specs.declared.names.LockNo.{LockNo}
use Rattle.lock_row.specs.declared.names.Plan.TheVariants.{Take, Give}
use Rattle.page_steps.specs.Steps.{DiskHeld, Here, took}
use Rattle.page_steps.specs.Givings.{Works}
use Rattle.page_steps.specs.Nexts.{Next}
use Rattle.page_steps.specs.Calls.{Frame, here, next_event, IsWork, IsFit, IsGoing}
use Rattle.page_steps.specs.Turns.{IsReady, TakesAs, GivesAs, HasMoved, IsOnward, HasAdvanced, after, waited, took_it, gave_it}
use Rattle.page_steps.specs.declared.stage.Head.{Head}
use Rattle.page_steps.specs.declared.stage.Scratch.{Scratch}
use Rattle.page_steps.specs.declared.stage.Stage.{Stage}
use Rattle.page_steps.specs.declared.stage.Progress.{Progress}
use Rattle.page_steps.specs.declared.stage.Progress.TheVariants as progress
use Rattle.page_steps.proofs.Plans.{plan_is}

module _ {X : Type 0} {can_take : X → LockNo → Next → Type 0}
    {takes : X → LockNo → Next → DiskHeld → X → Type 0} {misses : X → LockNo → X → Type 0}
    {can_give : X → LockNo → Next → DiskHeld → Type 0}
    {gives : X → LockNo → Next → DiskHeld → X → Type 0}
    {D : Type 0} {c : Head} {r : Scratch} {s : Stage D} {h g : X} {k : LockNo} where
  -- its next lock was held
  pub waits : IsReady can_take takes can_give c r s h → IsGoing s → next_event c s ≡ Take k
      → misses h k g → HasAdvanced takes misses gives c r s h r s g (progress.Waits k)
  waits ready on what miss = record {
    fit = ready.fit;
    turn = λ x w. waited k (plan_is c r x s ready.fit on w ∙ what) miss refl refl;
    onward = on;
    work = λ x w. w;
    table = refl;
  }

  -- it took its next lock
  pub moves : {f : Next} {v : DiskHeld} {r' : Scratch} {s' : Stage D}
      → IsReady can_take takes can_give c r s h → IsGoing s → next_event c s ≡ Take k
      → TakesAs c r s f → takes h k f v g → IsFit c r' s' → IsGoing s'
      → ((x : Frame) → IsWork c r x → IsWork c r' x) → r'.table ≡ r.table
      → ((x : Frame) → IsWork c r x → here x r' s' ≡ took x.terms (here x r s) v)
      → HasAdvanced takes misses gives c r s h r' s' g progress.Moved
  moves {f} {v} {r'} {s'} ready on what so take fit on' work table is = record {
    fit = fit;
    turn = λ x w. took_it k f v (plan_is c r x s ready.fit on w ∙ what) take (so x v w) (is x w) refl;
    onward = on';
    work = work;
    table = table;
  }

  -- it took its next lock, and the scratch is as before
  pub takes_it : {f : Next} {v : DiskHeld} {s' : Stage D}
      → IsReady can_take takes can_give c r s h → IsGoing s → next_event c s ≡ Take k
      → TakesAs c r s f → takes h k f v g → IsFit c r s' → IsGoing s'
      → ((x : Frame) → IsWork c r x → here x r s' ≡ took x.terms (here x r s) v)
      → HasAdvanced takes misses gives c r s h r s' g progress.Moved
  takes_it ready on what so take fit on' is =
      moves ready on what so take fit on' (λ x w. w) refl is

  -- it gave a lock back
  pub ends : (f : Next) {v : DiskHeld} {r' : Scratch} {s' : Stage D} {p : Progress}
      → IsReady can_take takes can_give c r s h → IsGoing s → next_event c s ≡ Give k
      → GivesAs c r s f v → gives h k f v g → IsFit c r' s' → IsOnward p s'
      → ((x : Frame) → IsWork c r x → IsWork c r' x) → r'.table ≡ r.table
      → ((x : Frame) → HasMoved p (here x r s))
      → ((x : Frame) → IsWork c r x → f (here x r s) v ≡ after x (here x r s) r' s' p)
      → HasAdvanced takes misses gives c r s h r' s' g p
  ends f {v} {r'} {s'} {p} ready on what so give fit on' work table moved is = record {
    fit = fit;
    turn = λ x w. gave_it k f v (plan_is c r x s ready.fit on w ∙ what) give (is x w)
        (subst (λ (m : Here). Works x.terms (here x r s) v m) (is x w) (so x w)) (moved x);
    onward = on';
    work = work;
    table = table;
  }

  -- it gave a lock back and goes on, and the scratch is as before
  pub gives_it : (f : Next) {v : DiskHeld} {s' : Stage D}
      → IsReady can_take takes can_give c r s h → IsGoing s → next_event c s ≡ Give k
      → GivesAs c r s f v → gives h k f v g → IsFit c r s' → IsGoing s'
      → ((x : Frame) → IsWork c r x → f (here x r s) v ≡ here x r s')
      → HasAdvanced takes misses gives c r s h r s' g progress.Moved
  gives_it f ready on what so give fit on' is =
      ends f ready on what so give fit on' (λ x w. w) refl (λ x. tt) is

-- the same turn where the stage is told otherwise
pub at_stage : {X : Type 0} {takes : X → LockNo → Next → DiskHeld → X → Type 0}
    {misses : X → LockNo → X → Type 0} {gives : X → LockNo → Next → DiskHeld → X → Type 0}
    {D : Type 0} {c : Head} {r r' : Scratch} {s s' s'' : Stage D} {h g : X} {p : Progress} → s'' ≡ s'
    → HasAdvanced takes misses gives c r s h r' s' g p
    → HasAdvanced takes misses gives c r s h r' s'' g p
at_stage {takes} {misses} {gives} {D} {c} {r} {r'} {s} {s'} {s''} {h} {g} {p} is adv =
    subst (λ (y : Stage D). HasAdvanced takes misses gives c r s h r' y g p) (sym is) adv
