-- Turns of a call that writes pages back from what its hand did.
use Rattle.std.proofs.Common.{◌≡◌, refl, ap, ◌∙◌, sym, subst}
use Rattle.zr_base.specs.declared.op.Op.{Op}
use Rattle.zr_base.specs.Plain.{is_beyond, is_maintenance}
use Rattle.lock_row.specs.declared.names.LockNo.{LockNo}
use Rattle.lock_row.specs.declared.names.LockNo.TheVariants as lock
use Rattle.lock_row.specs.declared.names.Held.TheVariants as holds
use Rattle.lock_row.specs.declared.names.At.{At}
use Rattle.lock_row.specs.declared.names.Plan.TheVariants.{Take, Give}
use Rattle.class_pool.specs.Pool.{PoolState}
use Rattle.slot_entry.specs.declared.kept.Stored.{Stored}
use Rattle.slot_entry.specs.declared.kept.Kept.{Kept}
use Rattle.slot_entry.specs.declared.kept.Kept.TheVariants as kept
use Rattle.page_steps.specs.Steps.{DiskHeld, Here, start_plan, plan, took, with_lock, class_by}
use Rattle.page_steps.specs.Givings.{Works}
use Rattle.page_steps.specs.Nexts.{Next}
use Rattle.page_steps.specs.Calls.{Frame}
use Rattle.page_steps.specs.Turns.{HasMoved, waited, took_it, gave_it}
use Rattle.page_steps.specs.declared.stage.Progress.{Progress}
use Rattle.page_steps.specs.declared.stage.Progress.TheVariants as progress
use Rattle.page_steps.specs.declared.stage.Scratch.{Scratch}
use Rattle.post_steps.specs.Turns.{TakesAs, GivesAs, after}
use Rattle.post_steps.specs.Writeback.{here, next_event, IsWork, IsFit, IsGoing, IsOnward, IsReady, HasAdvanced}
use Rattle.post_steps.specs.declared.writeback.WritebackHead.{WritebackHead}
use Rattle.post_steps.specs.declared.writeback.WritebackStage.{WritebackStage}
use Rattle.post_steps.specs.declared.writeback.WritebackStage.TheVariants as stage

-- what the call does next is what its actor's plan says
pub plan_is : {D : Type 0} (c : WritebackHead) (r : Scratch) (x : Frame) (s : WritebackStage D)
    → IsFit c s → IsGoing s → IsWork c x → plan x.terms (here x r s) ≡ next_event s
plan_is c r x stage.Start fit on w = ap (λ (op : Op).
    start_plan (is_maintenance op) (is_beyond x.terms.size x.part.op) (record x.part { op = op })) w.op
plan_is c r x (stage.Arriving y) fit on w = refl
plan_is c r x (stage.Passing y e) fit on w = refl
plan_is c r x (stage.Asking y e o) fit on w = refl
plan_is c r x (stage.Reserving y e o b) fit on w = refl
plan_is c r x (stage.Quitting y e end) fit on w = refl
plan_is c r x (stage.Seen y e o) fit on w = ap (λ k. Take (lock.Class (class_by k))) fit.1
plan_is c r x (stage.Pinning y e o q) fit on w = ap (λ k. Give (lock.Class (class_by k))) fit.1
plan_is c r x (stage.Pinned y e o) fit on w = ap (λ k. Take (lock.Class (class_by k))) fit.1
plan_is c r x (stage.Unpinning y e o q) fit on w = ap (λ k. Give (lock.Class (class_by k))) fit.1
plan_is c r x (stage.Marking y e) fit on w = refl
plan_is c r x (stage.Flying y) fit on w = refl
plan_is c r x (stage.Storing y d) fit on w = refl
plan_is c r x (stage.Landing y end) fit on w = refl
plan_is c r x (stage.Won y e o) fit on w = ap (λ k. Take (lock.Class (class_by k))) fit.1
plan_is c r x (stage.Freeing y e o q) fit on w = ap (λ k. Give (lock.Class (class_by k))) fit.1
plan_is c r x (stage.Backing y e frames was) fit on w = refl
plan_is c r x (stage.Committing y e frames was b) fit on w = refl
plan_is c r x (stage.Owing y e frames was) fit on w = refl
plan_is c r x (stage.Paying y e frames was a) fit on w = refl
plan_is c r x (stage.Putting y e) fit on w = refl
plan_is c r x (stage.Losing y e end) fit on w = refl
plan_is c r x (stage.Undoing y end) fit on w = refl
plan_is c r x (stage.Releasing y end b) fit on w = refl
plan_is c r x stage.Over fit on w = absurd on

module _ {X : Type 0} {can_take : X → LockNo → Next → Type 0}
    {takes : X → LockNo → Next → DiskHeld → X → Type 0} {misses : X → LockNo → X → Type 0}
    {can_give : X → LockNo → Next → DiskHeld → Type 0}
    {gives : X → LockNo → Next → DiskHeld → X → Type 0}
    {D : Type 0} {c : WritebackHead} {r : Scratch} {s : WritebackStage D} {h g : X} {k : LockNo} where
  -- its next lock was held
  pub waits : IsReady can_take takes can_give c r s h → IsGoing s → next_event s ≡ Take k
      → misses h k g → HasAdvanced takes misses gives c r s h r s g (progress.Waits k)
  waits ready on what miss = record {
    fit = ready.fit;
    turn = λ x w. waited k (plan_is c r x s ready.fit on w ∙ what) miss refl refl;
    onward = on;
    table = refl;
  }

  -- it took its next lock
  pub takes_it : {f : Next} {v : DiskHeld} {s' : WritebackStage D}
      → IsReady can_take takes can_give c r s h → IsGoing s → next_event s ≡ Take k
      → TakesAs (IsWork c) (λ x. here x r s) f → takes h k f v g → IsFit c s' → IsGoing s'
      → ((x : Frame) → IsWork c x → here x r s' ≡ took x.terms (here x r s) v)
      → HasAdvanced takes misses gives c r s h r s' g progress.Moved
  takes_it {f} {v} {s'} ready on what so take fit on' is = record {
    fit = fit;
    turn = λ x w. took_it k f v (plan_is c r x s ready.fit on w ∙ what) take (so x v w) (is x w) refl;
    onward = on';
    table = refl;
  }

  -- it gave a lock back
  pub gives_it : (f : Next) {v : DiskHeld} {r' : Scratch} {s' : WritebackStage D} {p : Progress}
      → IsReady can_take takes can_give c r s h → IsGoing s → next_event s ≡ Give k
      → GivesAs (IsWork c) (λ x. here x r s) f v → gives h k f v g → IsFit c s' → IsOnward p s'
      → r'.table ≡ r.table → ((x : Frame) → HasMoved p (here x r s))
      → ((x : Frame) → IsWork c x → f (here x r s) v ≡ after (here x r s) (here x r' s') p)
      → HasAdvanced takes misses gives c r s h r' s' g p
  gives_it f {v} {r'} {s'} {p} ready on what so give fit on' table moved is = record {
    fit = fit;
    turn = λ x w. gave_it k f v (plan_is c r x s ready.fit on w ∙ what) give (is x w)
        (subst (λ (m : Here). Works x.terms (here x r s) v m) (is x w) (so x w)) (moved x);
    onward = on';
    table = table;
  }

  -- and goes on, and the scratch is as before
  pub goes_on : (f : Next) {v : DiskHeld} {s' : WritebackStage D}
      → IsReady can_take takes can_give c r s h → IsGoing s → next_event s ≡ Give k
      → GivesAs (IsWork c) (λ x. here x r s) f v → gives h k f v g → IsFit c s' → IsGoing s'
      → ((x : Frame) → IsWork c x → f (here x r s) v ≡ here x r s')
      → HasAdvanced takes misses gives c r s h r s' g progress.Moved
  goes_on f ready on what so give fit on' is =
      gives_it f ready on what so give fit on' refl (λ x. tt) is

-- the same turn where what follows is told otherwise
pub told_so : {X : Type 0} {takes : X → LockNo → Next → DiskHeld → X → Type 0}
    {misses : X → LockNo → X → Type 0} {gives : X → LockNo → Next → DiskHeld → X → Type 0}
    {D : Type 0} {c : WritebackHead} {r r' : Scratch} {s s' s'' : WritebackStage D} {h g : X}
    {p p' : Progress} → s'' ≡ s' → p' ≡ p
    → HasAdvanced takes misses gives c r s h r' s' g p
    → HasAdvanced takes misses gives c r s h r' s'' g p'
told_so {takes} {misses} {gives} {D} {c} {r} {r'} {s} {s'} {s''} {h} {g} {p} {p'} is done adv =
    subst (λ (y : WritebackStage D). HasAdvanced takes misses gives c r s h r' y g p') (sym is)
    (subst (λ (t : Progress). HasAdvanced takes misses gives c r s h r' s' g t) (sym done) adv)

-- the local after the class of the page's object was taken
pub took_class : (l : Here) (a : At) (k : Kept) (o : Stored) (v : DiskHeld) (q : PoolState)
    → k ≡ kept.Obj o → v ≡ holds.Class q
    → with_lock l a (lock.Class o.class) (holds.Class q) ≡ with_lock l a (lock.Class (class_by k)) v
took_class l a k o v q is v_is = λ i. with_lock l a (lock.Class (class_by (sym is i))) (sym v_is i)
