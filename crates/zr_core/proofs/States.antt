-- The state that a row and its workers stand for, and its turns.
use Rattle.std.proofs.Common.{◌≡◌, ℕ, zero, suc, ◌<◌, Bool, true, false, List, [], ◌∷◌, length, Option, Some, None, slice_get, slice_set, refl, sym, ap, ◌∙◌, subst, arith, ⊎_elim, length-set}
use Rattle.zr_base.specs.declared.op.Op.{Op}
use Rattle.zr_base.specs.Plain.{is_beyond, is_maintenance}
use Rattle.call_history.specs.declared.part.Part.{Part}
use Rattle.call_history.specs.declared.part.Done.{Done}
use Rattle.lock_row.specs.declared.names.LockNo.{LockNo}
use Rattle.lock_row.specs.declared.names.At.{At}
use Rattle.lock_row.specs.declared.names.At.TheVariants as at
use Rattle.lock_row.specs.declared.names.Step.{Step}
use Rattle.lock_row.specs.declared.names.Step.TheVariants as step
use Rattle.lock_row.specs.declared.names.Plan.TheVariants.{Finished, Take, Give}
use Rattle.lock_row.specs.Rows.{Row, place_in, cell, with_cell}
use Rattle.page_steps.specs.Pages.{new_class}
use Rattle.page_steps.specs.Steps.{Terms, DiskHeld, Here, spot, class_by, start_plan, visit_plan, plan_at, plan_by, entry_in, plan}
use Rattle.page_steps.specs.Nexts.{Next}
use Rattle.actor_steps.specs.declared.worker.Worker.{Worker}
use Rattle.actor_steps.specs.declared.worker.Turn.{Turn}
use Rattle.actor_steps.specs.declared.worker.Turn.TheVariants as turn
use Rattle.page_steps.specs.declared.stage.Progress.{Progress}
use Rattle.page_steps.specs.declared.stage.Progress.TheVariants as progress
use Rattle.page_steps.specs.Turns.{HasWaited, HasMoved, waited, took_it, gave_it}
use Rattle.actor_steps.specs.Workers.{here, Keeps, IsFit, turn_of, Turned, finished, turned}
use Rattle.zr_core.specs.States.{heres, AreFit, AreKept, taken, given, TurnIs}
use Rattle.zr_core.proofs.Lists.{get_set, set_same}

-- ---- lists

pub heres_get : {D : Type 0} (t : Terms) (backed : Bool) (actors : List (List Op)) (ws : List (Worker D))
    (dones : List (List Done))
    (a : ℕ) (ops : List Op) (w : Worker D) (done : List Done)
    → slice_get actors a ≡ Some ops → slice_get ws a ≡ Some w → slice_get dones a ≡ Some done
    → slice_get (heres t backed actors ws dones) a ≡ Some (here t.size backed ops w done)
heres_get t backed [] ws ds a ops w done e f h = absurd (cc)
heres_get t backed (x ∷ xs) [] ds a ops w done e f h = absurd (cc)
heres_get t backed (x ∷ xs) (y ∷ ys) [] a ops w done e f h = absurd (cc)
heres_get t backed (x ∷ xs) (y ∷ ys) (z ∷ zs) zero ops w done e f h =
    let p : x ≡ ops = (let q : Some x ≡ Some ops = e in cc) in
    let q : y ≡ w = (let q : Some y ≡ Some w = f in cc) in
    let r : z ≡ done = (let q : Some z ≡ Some done = h in cc) in
    λ i. Some (here t.size backed (p i) (q i) (r i))
heres_get t backed (x ∷ xs) (y ∷ ys) (z ∷ zs) (suc a) ops w done e f h =
    heres_get t backed xs ys zs a ops w done e f h

pub heres_set : {D : Type 0} (t : Terms) (backed : Bool) (actors : List (List Op)) (ws : List (Worker D))
    (dones : List (List Done))
    (a : ℕ) (ops : List Op) (w : Worker D) (done : List Done)
    → slice_get actors a ≡ Some ops → a < length ws → a < length dones
    → heres t backed actors (slice_set ws a w) (slice_set dones a done)
    ≡ slice_set (heres t backed actors ws dones) a (here t.size backed ops w done)
heres_set t backed [] ws ds a ops w done e f h = absurd (cc)
heres_set t backed (x ∷ xs) [] ds a ops w done e f h = absurd (omega arith)
heres_set t backed (x ∷ xs) (y ∷ ys) [] a ops w done e f h = absurd (omega arith)
heres_set t backed (x ∷ xs) (y ∷ ys) (z ∷ zs) zero ops w done e f h =
    let p : x ≡ ops = (let q : Some x ≡ Some ops = e in cc) in
    ap (λ (os : List Op). here t.size backed os w done ∷ heres t backed xs ys zs) p
heres_set t backed (x ∷ xs) (y ∷ ys) (z ∷ zs) (suc a) ops w done e f h =
    ap (λ (ls : List Here). here t.size backed x y z ∷ ls)
    (heres_set t backed xs ys zs a ops w done e (omega arith) (omega arith))

same_ops : (xs : List (List Op)) (a b : ℕ) (ops os : List Op) → a ≡ b → slice_get xs a ≡ Some ops
    → slice_get xs b ≡ Some os → ops ≡ os
same_ops xs a b ops os same e f =
    let q : Some ops ≡ Some os = sym e ∙ ap (slice_get xs) same ∙ f in let r : ops ≡ os = cc in r

pub fit_set : {D : Type 0} (t : Terms) (backed : Bool) (actors : List (List Op)) (ws : List (Worker D))
    (a : ℕ) (ops : List Op) (old w : Worker D)
    → AreFit t backed actors ws → slice_get actors a ≡ Some ops → slice_get ws a ≡ Some old
    → IsFit t backed ops w
    → AreFit t backed actors (slice_set ws a w)
fit_set {D} t backed actors ws a ops old w fit named there new = record {
  count = length-set ws a w ∙ fit.count;
  each = λ b os v e f. ⊎_elim
      (λ s. subst (λ (x : List Op × Worker D). IsFit t backed x.0 x.1)
      (λ i. (same_ops actors a b ops os (sym s.0) named e i, s.1 i)) new)
      (λ o. fit.each b os v e o.1)
      (get_set ws a b w v old there f);
}

pub kept_set : {D : Type 0} (backed : Bool) (actors : List (List Op)) (ws : List (Worker D))
    (dones : List (List Done)) (a : ℕ) (ops : List Op) (old w : Worker D) (was done : List Done)
    → AreKept backed actors ws dones → slice_get actors a ≡ Some ops → slice_get ws a ≡ Some old
    → slice_get dones a ≡ Some was → Keeps backed ops w done
    → AreKept backed actors (slice_set ws a w) (slice_set dones a done)
kept_set {D} backed actors ws dones a ops old w was done kept named there had new = record {
  count = length-set dones a done ∙ kept.count ∙ sym (length-set ws a w);
  each = λ b os v d n e f. ⊎_elim
      (λ s. ⊎_elim
      (λ t. subst (λ (x : List Op × Worker D × List Done). Keeps backed x.0 x.1 x.2)
      (λ i. (same_ops actors a b ops os (sym s.0) named n i, s.1 i, t.1 i)) new)
      (λ t. absurd (t.0 s.0))
      (get_set dones a b done d was had f))
      (λ o. ⊎_elim
      (λ t. absurd (o.0 t.0))
      (λ t. kept.each b os v d n o.1 t.1)
      (get_set dones a b done d was had f))
      (get_set ws a b w v old there e);
}

-- an actor without a plan has no piece left
pub no_plan : (t : Terms) (l : Here) → plan t l ≡ Finished → l.todo ≡ []
no_plan t l e = todo l.todo refl where
  todo : (ps : List Part) → l.todo ≡ ps → l.todo ≡ []
  todo [] is = is
  todo (p ∷ ps) is = absurd (going l.at _ _
      (sym (ap (λ (qs : List Part). plan_by t.size qs l.at (class_by (entry_in l.held).kept)
      (new_class t.chain qs l.page (entry_in l.held).kept)) is) ∙ e)) where
        going : (at : At) (c d : ℕ) → plan_at t.size at p c d ≡ Finished → ⊥
        going at.Start c d f = started (is_maintenance p.op) (is_beyond t.size p.op) f where
          started : (c b : Bool) → start_plan c b p ≡ Finished → ⊥
          started true b g = cc
          started false true g = cc
          started false false g = cc
        going at.Refusing c d f = cc
        going at.Seen c d f = cc
        going at.Pinning c d f = cc
        going at.Pinned c d f = cc
        going at.Unpinning c d f = cc
        going at.Leaving c d f = cc
        going at.Away c d f = cc
        going at.Fetching c d f = cc
        going at.Failing c d f = cc
        going at.Counting c d f = cc
        going at.Missed c d f = cc
        going at.Wanting c d f = cc
        going at.Inside c d f = cc
        going at.Both c d f = cc
        going at.Made c d f = cc
        going at.Old c d f = cc
        going at.Freeing c d f = cc
        going at.Backed c d f = cc
        going at.Releasing c d f = cc
        going at.Owing c d f = cc
        going at.Giving c d f = cc
        going at.Ready c d f = cc
        going (at.Scanning x) c d f = cc
        going (at.Marking x) c d f = cc
        going (at.Visiting s x) c d f = visiting s f where
          visiting : (s : Step) → visit_plan s x c ≡ Finished → ⊥
          visiting step.Arriving f = cc
          visiting step.Passing f = cc
          visiting step.Asking f = cc
          visiting step.Reserving f = cc
          visiting step.Quitting f = cc
          visiting step.Seen f = cc
          visiting step.Pinning f = cc
          visiting step.Pinned f = cc
          visiting step.Unpinning f = cc
          visiting step.Marking f = cc
          visiting step.Flying f = cc
          visiting step.Storing f = cc
          visiting step.Landing f = cc
          visiting step.Won f = cc
          visiting step.Freeing f = cc
          visiting step.Backing f = cc
          visiting step.Committing f = cc
          visiting step.Owing f = cc
          visiting step.Paying f = cc
          visiting step.Putting f = cc
          visiting step.Losing f = cc
          visiting step.Undoing f = cc
          visiting step.Releasing f = cc
        going (at.Sweeping x) c d f = cc
        going (at.Moving x) c d f = cc
        going (at.Shrunk x) c d f = cc
        going (at.Shrinking x) c d f = cc

-- ---- a turn by a hand over the row

waited_is : (p : Progress) (k : LockNo) → HasWaited p k → turn_of p ≡ turn.Waited k
waited_is progress.Moved k is = absurd is
waited_is (progress.Waits j) k is = ap turn.Waited is
waited_is (progress.Done end) k is = absurd is

moved_is : (p : Progress) (l : Here) → HasMoved p l → turn_of p ≡ turn.Went
moved_is progress.Moved l is = refl
moved_is (progress.Waits k) l is = absurd is
moved_is (progress.Done end) l is = refl

module _ {X : Type 0} {takes : X → LockNo → Next → DiskHeld → X → Type 0} {misses : X → LockNo → X
    → Type 0} {gives : X → LockNo → Next → DiskHeld → X → Type 0} {t : Terms} {l : Here} {h : X}
    {m : Here} {g : X} where
  -- what each event keeps, the turn keeps
  pub turn_keeps : {Y : Type 0} (name : X → Y)
      → ((k : LockNo) (f : Next) (v : DiskHeld) → takes h k f v g → name g ≡ name h)
      → ((k : LockNo) → misses h k g → name g ≡ name h)
      → ((k : LockNo) (f : Next) (v : DiskHeld) → gives h k f v g → name g ≡ name h)
      → {r : Turn} → Turned takes misses gives t l h m g r → name g ≡ name h
  turn_keeps name x y z (finished what same still is) = ap name still
  turn_keeps name x y z (turned p (waited k what miss same told) is) = y k miss
  turn_keeps name x y z (turned p (took_it k f v what take by same told) is) = x k f v take
  turn_keeps name x y z (turned p (gave_it k f v what give by work told) is) = z k f v give

  pub turn_is : (row_of : X → Row DiskHeld) (cells : List (Option DiskHeld)) (ls : List Here)
      (a : ℕ)
      → slice_get ls a ≡ Some l → (row_of h).cells ≡ cells
      → ((k : LockNo) → plan t l ≡ Take k → place_in (row_of h).names k ≡ spot t.size k)
      → ((k : LockNo) → plan t l ≡ Give k → place_in (row_of h).names k ≡ spot t.size k)
      → ((k : LockNo) (f : Next) (v : DiskHeld) → takes h k f v g
      → (cell (row_of h) k ≡ Some (Some v)) × (row_of g ≡ with_cell (row_of h) k None))
      → ((k : LockNo) → misses h k g → (cell (row_of h) k ≡ Some None) × (row_of g ≡ row_of h))
      → ((k : LockNo) (f : Next) (v : DiskHeld) → gives h k f v g
      → (cell (row_of h) k ≡ Some None) × (row_of g ≡ with_cell (row_of h) k (Some v)))
      → {r : Turn} → Turned takes misses gives t l h m g r
      → TurnIs t a (record { row = cells; locals = ls })
      (record { row = (row_of g).cells; locals = slice_set ls a m }) r
  turn_is row_of cells ls a who is tp gp x y z {r} (finished what same still now) =
      subst (TurnIs t a (record { row = cells; locals = ls })
      (record { row = (row_of g).cells; locals = slice_set ls a m })) (sym now) (
        l,
        who,
        no_plan t l what,
        λ i. record {
          row = (ap (λ x. (row_of x).cells) still
              ∙ is) i;
          locals = (ap (λ x. slice_set ls a x) same ∙ set_same ls a l who) i;
        },
      )
  turn_is row_of cells ls a who is tp gp x y z {r} (turned p (waited k what miss same told) now) =
      let n = y k miss in
      subst (TurnIs t a (record { row = cells; locals = ls })
      (record { row = (row_of g).cells; locals = slice_set ls a m }))
      (sym (now ∙ waited_is p k told)) (
        l,
        who,
        what,
        (λ i. slice_get (sym is i) (sym (tp k what) i))
            ∙ n.0,
        λ i. record {
          row = (ap (λ (x : Row DiskHeld). x.cells) n.1
              ∙ is) i;
          locals = (ap (λ x. slice_set ls a x) same ∙ set_same ls a l who) i;
        },
      )
  turn_is row_of cells ls a who is tp gp x y z {r}
      (turned p (took_it k f v what take by same told) now) =
      let n = x k f v take in
      subst (TurnIs t a (record { row = cells; locals = ls })
      (record { row = (row_of g).cells; locals = slice_set ls a m }))
      (sym (now ∙ ap turn_of told))
      (taken l k v record {
        who = who;
        what = what;
        there = (λ i. slice_get (sym is i) (sym (tp k what) i)) ∙ n.0;
        after = λ i. record {
          row = (ap (λ (x : Row DiskHeld). x.cells) n.1
              ∙ (λ j. slice_set (is j) (tp k what j) None)) i;
          locals = slice_set ls a (same i);
        };
      })
  turn_is row_of cells ls a who is tp gp x y z {r}
      (turned p (gave_it k f v what give by work told) now) =
      let n = z k f v give in
      subst (TurnIs t a (record { row = cells; locals = ls })
      (record { row = (row_of g).cells; locals = slice_set ls a m }))
      (sym (now ∙ moved_is p l told))
      (given l k v m record {
        who = who;
        what = what;
        there = (λ i. slice_get (sym is i) (sym (gp k what) i)) ∙ n.0;
        work = work;
        after = λ i. record {
          row = (ap (λ (x : Row DiskHeld). x.cells) n.1
              ∙ (λ j. slice_set (is j) (gp k what j) (Some v))) i;
          locals = slice_set ls a m;
        };
      })
