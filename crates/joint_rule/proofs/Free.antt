-- Takings go from slots to classes, and last to the account, the blocks or the device, so some actor
-- can always move.
use Rattle.lock_row.specs.declared.names.Trip.{Trip}
use Rattle.lock_row.specs.declared.names.Step.{Step}
use Rattle.lock_row.specs.declared.names.Step.TheVariants as step
use Rattle.std.proofs.Common.{◌≡◌, ◌+◌, ◌≤◌, ◌<◌, ◌∷◌, ◌∙◌, ℕ, zero, suc, Bool, true, false, List, [], map, length, Option, Some, None, slice_get, refl, sym, ap, subst, arith, ⊎_elim}
use Rattle.zr_base.specs.declared.op.Op.TheVariants.{Compact, Discard, Idle, Read, Write, Writeback}
use Rattle.zr_base.specs.declared.op.Op.{Op}
use Rattle.joint_rule.proofs.Takes.{some_actor}
use Rattle.call_history.specs.Parts.{EndsSo, Follows, program}
use Rattle.call_history.specs.declared.part.Part.{Part}
use Rattle.joint_rule.proofs.Facts.{Known}
use Rattle.joint_rule.proofs.Gifts.{all, stage}
use Rattle.joint_rule.proofs.Pages.{form_low}
use Rattle.joint_rule.proofs.Pools.{same_is, same_self}
use Rattle.joint_rule.proofs.Rests.{no_todo}
use Rattle.joint_rule.proofs.Stages.{OnDisk, old_low, on_disk}
use Rattle.joint_rule.proofs.Starts.{none_first}
use Rattle.joint_rule.proofs.Sums.{locals_le, row_le, some_local}
use Rattle.joint_rule.specs.Begins.{Begin, finding, ground_of, terms}
use Rattle.joint_rule.specs.Joint.{IsActor, Joint, Sound}
use Rattle.joint_rule.specs.Laws.{CanMove, gives, takes, IsLock}
use Rattle.joint_rule.specs.Stages.{Stage, locks_at, locks_by, visit_locks}
use Rattle.joint_rule.specs.Weights.{HeldAll, at_place, none, same}
use Rattle.lock_row.specs.Totals.{held_sum, locals_sum, mass, row_sum}
use Rattle.lock_row.specs.declared.names.At.{At}
use Rattle.lock_row.specs.declared.names.At.TheVariants.{Away, Backed, Both, Counting, Failing, Fetching, Freeing, Giving, Inside, Leaving, Made, Missed, Old, Owing, Pinned, Pinning, Ready, Refusing, Releasing, Seen, Start, Unpinning, Wanting, Sweeping, Moving, Shrunk, Shrinking, Scanning, Marking, Visiting}
use Rattle.lock_row.specs.declared.names.LockNo.{LockNo}
use Rattle.lock_row.specs.declared.names.Plan.{Plan}
use Rattle.lock_row.specs.declared.names.Plan.TheVariants.{Finished, Give, Take}
use Rattle.lock_row.specs.declared.names.State.{State}
use Rattle.page_steps.specs.Pages.{new_class, next_form}
use Rattle.page_steps.specs.Steps.{DiskHeld, Here, class_by, entry_in, plan, plan_at, plan_by, slot, spot, start_plan, first_lock, visit_plan}
use Rattle.slot_entry.specs.Forms.{class_in}
use Rattle.std.proofs.lemmas.Bool.{or_from}
use Rattle.zr_base.specs.Plain.{Finds, is_beyond, is_maintenance}
use Rattle.lock_row.specs.declared.names.LockNo.TheVariants as lock
use Rattle.lock_row.specs.declared.names.Held.TheVariants as holds

-- ---- places

same_one : (a b : ℕ) → 1 ≤ same a b → a ≡ b
same_one a b le = ⊎_elim (λ z. absurd (omega arith)) (λ s. s.1) (same_is a b)

-- the places of some locks
abbrev places_sum : ℕ → ℕ → List LockNo → ℕ
places_sum size j [] = 0
places_sum size j (k ∷ ks) = same j (spot size k) + places_sum size j ks

held_places : (size j : ℕ) (xs : List (LockNo × DiskHeld))
    → held_sum (spot size) (at_place j) xs ≡ places_sum size j
    (map (λ (x : LockNo × DiskHeld). x.0) xs)
held_places size j [] = refl
held_places size j (x ∷ xs) = let r = held_places size j xs in omega arith

sound_low : (g : Begin) (j : ℕ) (v : DiskHeld) → Sound g j v → j < g.given.size + 258
sound_low g j (holds.Slot e) s = let z = s.page in omega arith
sound_low g j (holds.Class p) s = let z = s.0 in let c = s.1.class in omega arith
sound_low g j (holds.Account c) s = omega arith
sound_low g j (holds.Blocks x) s = omega arith
sound_low g j (holds.Device x) s = let z = s.0 in omega arith

-- a place that is out
none_home : (k : ℕ) (row : List (Option DiskHeld)) → slice_get row k ≡ Some None
    → row_sum (at_place k) row ≡ 0
none_home k [] e = absurd (cc)
none_home zero (None ∷ xs) e = let r = none_first xs in omega arith
none_home zero (Some x ∷ xs) e = absurd (cc)
none_home (suc k) (None ∷ xs) e = let r = none_home k xs e in omega arith
none_home (suc k) (Some x ∷ xs) e = let r = none_home k xs e in omega arith

cell_at_place : (row : List (Option DiskHeld)) (k : ℕ) → k < length row
    → (x : Option DiskHeld) × (slice_get row k ≡ Some x)
cell_at_place [] k lt = absurd (omega arith)
cell_at_place (x ∷ xs) zero lt = (x, refl)
cell_at_place (x ∷ xs) (suc k) lt = cell_at_place xs k (omega arith)

-- ---- stages

-- a piece begins with a taking
no_start_gives : (p : Part) (k : LockNo) (a b : Bool) → start_plan a b p ≡ Give k → ⊥
no_start_gives p k true b e = cc
no_start_gives p k false true e = cc
no_start_gives p k false false e = cc

taken_first : (k m : LockNo) → Take m ≡ Take k → m ≡ k
taken_first k m e = cc

-- what a writeback gives it took last
visit_gives : (s : Step) (x : Trip) (c : ℕ) (k : LockNo) → visit_plan s x c ≡ Give k
    → (ks : List LockNo) × (visit_locks s x c ≡ k ∷ ks)
visit_gives step.Passing x c k e =
    ([], (let q : slot x.page ≡ k = cc in ap (λ (y : LockNo). y ∷ []) q))
visit_gives step.Reserving x c k e = (
  slot x.page ∷ [],
  (let q : lock.Blocks ≡ k = cc in ap (λ (y : LockNo). y ∷ slot x.page ∷ []) q),
)
visit_gives step.Quitting x c k e =
    ([], (let q : slot x.page ≡ k = cc in ap (λ (y : LockNo). y ∷ []) q))
visit_gives step.Pinning x c k e = (
  slot x.page ∷ [],
  (let q : lock.Class c ≡ k = cc in ap (λ (y : LockNo). y ∷ slot x.page ∷ []) q),
)
visit_gives step.Unpinning x c k e = (
  slot x.page ∷ [],
  (let q : lock.Class c ≡ k = cc in ap (λ (y : LockNo). y ∷ slot x.page ∷ []) q),
)
visit_gives step.Marking x c k e =
    ([], (let q : slot x.page ≡ k = cc in ap (λ (y : LockNo). y ∷ []) q))
visit_gives step.Storing x c k e =
    ([], (let q : lock.Device ≡ k = cc in ap (λ (y : LockNo). y ∷ []) q))
visit_gives step.Freeing x c k e = (
  slot x.page ∷ [],
  (let q : lock.Class c ≡ k = cc in ap (λ (y : LockNo). y ∷ slot x.page ∷ []) q),
)
visit_gives step.Committing x c k e = (
  slot x.page ∷ [],
  (let q : lock.Blocks ≡ k = cc in ap (λ (y : LockNo). y ∷ slot x.page ∷ []) q),
)
visit_gives step.Paying x c k e = (
  slot x.page ∷ [],
  (let q : lock.Account ≡ k = cc in ap (λ (y : LockNo). y ∷ slot x.page ∷ []) q),
)
visit_gives step.Putting x c k e =
    ([], (let q : slot x.page ≡ k = cc in ap (λ (y : LockNo). y ∷ []) q))
visit_gives step.Losing x c k e =
    ([], (let q : slot x.page ≡ k = cc in ap (λ (y : LockNo). y ∷ []) q))
visit_gives step.Releasing x c k e =
    ([], (let q : lock.Blocks ≡ k = cc in ap (λ (y : LockNo). y ∷ []) q))
visit_gives s x c k e = absurd (cc)

-- what an actor gives it took last
gives_last : (size : ℕ) (at : At) (p : Part) (c d : ℕ) (k : LockNo) → plan_at size at p c d ≡ Give k
    → (ks : List LockNo) × (locks_at at p c d ≡ k ∷ ks)
gives_last size Start p c d k e = absurd (no_start_gives p k (is_maintenance p.op)
    (is_beyond size p.op) e)
gives_last size (Scanning x) p c d k e = absurd (cc)
gives_last size (Marking x) p c d k e = (
  [],
  (let q : slot x.page ≡ k = cc in
      ap (λ (y : LockNo). y ∷ []) q),
)
gives_last size (Visiting s x) p c d k e = visit_gives s x c k e
gives_last size (Sweeping x) p c d k e = absurd (cc)
gives_last size (Moving x) p c d k e = (
  [],
  (let q : lock.Class x.class ≡ k = cc in
      ap (λ (y : LockNo). y ∷ []) q),
)
gives_last size (Shrunk x) p c d k e = absurd (cc)
gives_last size (Shrinking x) p c d k e = (
  [],
  (let q : lock.Account ≡ k = cc in
      ap (λ (y : LockNo). y ∷ []) q),
)
gives_last size Refusing p c d k e = (
  [],
  (let q : lock.Account ≡ k = cc in
      ap (λ (x : LockNo). x ∷ []) q),
)
gives_last size Seen p c d k e = absurd (cc)
gives_last size Pinning p c d k e = (
  slot p.page ∷ [],
  (let q : lock.Class c ≡ k = cc in
      ap (λ (x : LockNo). x ∷ slot p.page ∷ []) q),
)
gives_last size Pinned p c d k e = absurd (cc)
gives_last size Unpinning p c d k e = (
  slot p.page ∷ [],
  (let q : lock.Class c ≡ k = cc in ap (λ (x : LockNo). x ∷ slot p.page ∷ []) q),
)
gives_last size Leaving p c d k e = (
  [],
  (let q : slot p.page ≡ k = cc in
      ap (λ (x : LockNo). x ∷ []) q),
)
gives_last size Away p c d k e = absurd (cc)
gives_last size Fetching p c d k e = (
  slot p.page ∷ [],
  (let q : lock.Device ≡ k = cc in
      ap (λ (x : LockNo). x ∷ slot p.page ∷ []) q),
)
gives_last size Failing p c d k e = absurd (cc)
gives_last size Counting p c d k e = (
  slot p.page ∷ [],
  (let q : lock.Account ≡ k = cc in
      ap (λ (x : LockNo). x ∷ slot p.page ∷ []) q),
)
gives_last size Missed p c d k e = (
  [],
  (let q : slot p.page ≡ k = cc in
      ap (λ (x : LockNo). x ∷ []) q),
)
gives_last size Wanting p c d k e = absurd (cc)
gives_last size Inside p c d k e = absurd (cc)
gives_last size Both p c d k e = (
  lock.Class d ∷ slot p.page ∷ [],
  (let q : lock.Account ≡ k = cc in ap (λ (x : LockNo). x ∷ lock.Class d ∷ slot p.page ∷ []) q),
)
gives_last size Made p c d k e = (
  slot p.page ∷ [],
  (let q : lock.Class d ≡ k = cc in
      ap (λ (x : LockNo). x ∷ slot p.page ∷ []) q),
)
gives_last size Old p c d k e = absurd (cc)
gives_last size Freeing p c d k e = (
  slot p.page ∷ [],
  (let q : lock.Class c ≡ k = cc in
      ap (λ (x : LockNo). x ∷ slot p.page ∷ []) q),
)
gives_last size Backed p c d k e = absurd (cc)
gives_last size Releasing p c d k e = (
  slot p.page ∷ [],
  (let q : lock.Blocks ≡ k = cc in
      ap (λ (x : LockNo). x ∷ slot p.page ∷ []) q),
)
gives_last size Owing p c d k e = absurd (cc)
gives_last size Giving p c d k e = (
  slot p.page ∷ [],
  (let q : lock.Account ≡ k = cc in
      ap (λ (x : LockNo). x ∷ slot p.page ∷ []) q),
)
gives_last size Ready p c d k e = (
  [],
  (let q : slot p.page ≡ k = cc in
      ap (λ (x : LockNo). x ∷ []) q),
)

module _ (size : ℕ) (p : Part) (c d : ℕ) (k : LockNo) where
  -- What an actor takes lies in the row, after all that it holds.
  abbrev IsAbove : At → Type 0
  IsAbove at = (spot size k < size + 258) × ((j : ℕ) → 1 ≤ places_sum size j (locks_at at p c d)
      → j < spot size k)

  above_class : (at : At) (x s : ℕ) → lock.Class x ≡ k → x < 255 → s < size
      → locks_at at p c d ≡ slot s ∷ [] → IsAbove at
  above_class at x s e low lt is =
      let q : size + x ≡ spot size k = ap (spot size) e in (
        omega arith,
        (λ j le. let t = ap (places_sum size j) is in
            let r = same_one j s (omega arith) in omega arith),
      )

  -- the account, the blocks and the device
  above_last : (at : At) (m : LockNo) (s : ℕ) → m ≡ k → size + 255 ≤ spot size m
      → spot size m < size + 258 → s < size → locks_at at p c d ≡ slot s ∷ [] → IsAbove at
  above_last at m s e high low lt is =
      let q : spot size m ≡ spot size k = ap (spot size) e in (
        omega arith,
        (λ j le. let t = ap (places_sum size j) is in
            let r = same_one j s (omega arith) in omega arith),
      )

  above_none : (at : At) (m : LockNo) → m ≡ k → spot size m < size + 258 → locks_at at p c d ≡ []
      → IsAbove at
  above_none at m e lt is =
      let q : spot size m ≡ spot size k = ap (spot size) e in (
        omega arith,
        (λ j le. let s = ap (places_sum size j) is in absurd (omega arith)),
      )

  above_both : lock.Account ≡ k → p.page < size → d < 255 → IsAbove Inside
  above_both e lt low =
      let q : size + 255 ≡ spot size k = ap (spot size) e in (
        omega arith,
        (λ j le. ⊎_elim
            (λ z. let r = same_one j p.page (omega arith) in omega arith)
            (λ s. let r = s.1 in omega arith)
            (same_is j (size + d))),
      )

module _ (g : Begin) (ok : Known g) (w : State DiskHeld) (j : Joint g w) where
  abbrev n : ℕ
  n = g.given.size

  module _ (a : ℕ) (l : Here) (who : slice_get w.locals a ≡ Some l) where
    fit : IsActor g a l
    fit = j.each.in_local a l who

    module _ (p : Part) (rest : List Part) (todo : l.todo ≡ p ∷ rest) where
      disk : OnDisk n p
      disk = on_disk (EndsSo (ground_of g)) n g.given.backed fit.ops l.done p rest
          (subst (Follows (EndsSo (ground_of g)) (program n g.given.backed 0 fit.ops) l.done) todo fit.follows)

      abbrev c : ℕ
      c = class_by (entry_in l.held).kept

      abbrev d : ℕ
      d = class_in g.chain (next_form p l.page (entry_in l.held).kept)

      here : (at : At) → l.at ≡ at → Stage g p (entry_in l.held) at l.fresh l.pin l.owed l.ahead
          l.behind l.page l.fail
      here at is = stage g ok w j a l who p rest todo l.held at refl is

      plan_here : plan (terms g) l ≡ plan_at n l.at p c d
      plan_here = ap (λ (ps : List Part). plan_by n ps l.at c
          (new_class g.chain ps l.page (entry_in l.held).kept)) todo

      locks_here : map (λ (x : LockNo × DiskHeld). x.0) l.held ≡ locks_at l.at p c d
      locks_here = fit.locks ∙ ap (λ (ps : List Part). locks_by ps l.at c
          (new_class g.chain ps l.page (entry_in l.held).kept)) todo

      -- there is a page
      some : 0 < n
      some = ok.proper.some (some_actor g.given.actors a fit.ops fit.named)

      -- the first lock of what is no request is one of the disk
      first_is : (op : Op) → IsLock n (first_lock op)
      first_is (Idle age) = some
      first_is (Writeback mode) = some
      first_is (Write start count stuff) = omega arith
      first_is (Read start count) = omega arith
      first_is (Discard start count) = omega arith
      first_is Compact = omega arith

      first_low : (m : LockNo) → IsLock n m → spot n m < n + 258
      first_low (lock.Slot page) i = omega arith
      first_low (lock.Class x) i = omega arith
      first_low lock.Account i = omega arith
      first_low lock.Blocks i = omega arith
      first_low lock.Device i = omega arith

      above_start : (k : LockNo) (a b : Bool) → is_maintenance p.op ≡ a → is_beyond n p.op ≡ b
          → start_plan a b p ≡ Take k → IsAbove n p c d k Start
      above_start k true b a b_is e = above_none n p c d k Start (first_lock p.op)
          (taken_first k (first_lock p.op) e) (first_low (first_lock p.op) (first_is p.op)) refl
      above_start k false true a b e = above_none n p c d k Start lock.Account
          (let z : lock.Account ≡ k = cc in z) (omega arith) refl
      above_start k false false a b e =
          let lt = (disk (or_from _ _ a b)).0 in above_none n p c d k Start (slot p.page)
          (let z : slot p.page ≡ k = cc in z) (omega arith) refl

      -- the steps of a writeback
      module _ (k : LockNo) where
        trip_low : (s : Step) (x : Trip) → l.at ≡ Visiting s x → x.page < n
        trip_low s x is = (here (Visiting s x) is).visits.trip.page

        above_visit : (s : Step) (x : Trip) → l.at ≡ Visiting s x → visit_plan s x c ≡ Take k
            → IsAbove n p c d k (Visiting s x)
        above_visit step.Arriving x is e = let low = trip_low step.Arriving x is in
            above_none n p c d k (Visiting step.Arriving x) (slot x.page)
            (let q : slot x.page ≡ k = cc in q) (omega arith) refl
        above_visit step.Asking x is e = above_last n p c d k (Visiting step.Asking x) lock.Blocks
            x.page (let q : lock.Blocks ≡ k = cc in q) (omega arith) (omega arith)
            (trip_low step.Asking x is) refl
        above_visit step.Seen x is e = above_class n p c d k (Visiting step.Seen x) c x.page
            (let q : lock.Class c ≡ k = cc in q)
            (old_low g.chain _ _ (here (Visiting step.Seen x) is).visits.step.0.page.stands)
            (trip_low step.Seen x is) refl
        above_visit step.Pinned x is e = above_class n p c d k (Visiting step.Pinned x) c x.page
            (let q : lock.Class c ≡ k = cc in q)
            (old_low g.chain _ _ (here (Visiting step.Pinned x) is).visits.step.0.page.stands)
            (trip_low step.Pinned x is) refl
        above_visit step.Flying x is e = above_none n p c d k (Visiting step.Flying x) lock.Device
            (let q : lock.Device ≡ k = cc in q) (omega arith) refl
        above_visit step.Landing x is e = let low = trip_low step.Landing x is in
            above_none n p c d k (Visiting step.Landing x) (slot x.page)
            (let q : slot x.page ≡ k = cc in q) (omega arith) refl
        above_visit step.Won x is e = above_class n p c d k (Visiting step.Won x) c x.page
            (let q : lock.Class c ≡ k = cc in q)
            (old_low g.chain _ _ (here (Visiting step.Won x) is).visits.step.0.page.stands)
            (trip_low step.Won x is) refl
        above_visit step.Backing x is e = above_last n p c d k (Visiting step.Backing x) lock.Blocks
            x.page (let q : lock.Blocks ≡ k = cc in q) (omega arith) (omega arith)
            (trip_low step.Backing x is) refl
        above_visit step.Owing x is e = above_last n p c d k (Visiting step.Owing x) lock.Account
            x.page (let q : lock.Account ≡ k = cc in q) (omega arith) (omega arith)
            (trip_low step.Owing x is) refl
        above_visit step.Undoing x is e = above_none n p c d k (Visiting step.Undoing x) lock.Blocks
            (let q : lock.Blocks ≡ k = cc in q) (omega arith) refl
        above_visit s x is e = absurd (cc)

        visit_takes : (s : Step) (x : Trip) → l.at ≡ Visiting s x → visit_plan s x c ≡ Take k
            → IsLock n k
        visit_takes step.Arriving x is e = subst (IsLock n) (let q : slot x.page ≡ k = cc in q)
            (trip_low step.Arriving x is)
        visit_takes step.Asking x is e = subst (IsLock n) (let q : lock.Blocks ≡ k = cc in q) tt
        visit_takes step.Seen x is e = subst (IsLock n) (let q : lock.Class c ≡ k = cc in q)
            (old_low g.chain _ _ (here (Visiting step.Seen x) is).visits.step.0.page.stands)
        visit_takes step.Pinned x is e = subst (IsLock n) (let q : lock.Class c ≡ k = cc in q)
            (old_low g.chain _ _ (here (Visiting step.Pinned x) is).visits.step.0.page.stands)
        visit_takes step.Flying x is e = subst (IsLock n) (let q : lock.Device ≡ k = cc in q) tt
        visit_takes step.Landing x is e = subst (IsLock n) (let q : slot x.page ≡ k = cc in q)
            (trip_low step.Landing x is)
        visit_takes step.Won x is e = subst (IsLock n) (let q : lock.Class c ≡ k = cc in q)
            (old_low g.chain _ _ (here (Visiting step.Won x) is).visits.step.0.page.stands)
        visit_takes step.Backing x is e = subst (IsLock n) (let q : lock.Blocks ≡ k = cc in q) tt
        visit_takes step.Owing x is e = subst (IsLock n) (let q : lock.Account ≡ k = cc in q) tt
        visit_takes step.Undoing x is e = subst (IsLock n) (let q : lock.Blocks ≡ k = cc in q) tt
        visit_takes s x is e = absurd (cc)

        visit_lock : (s : Step) (x : Trip) → l.at ≡ Visiting s x → visit_plan s x c ≡ Give k
            → IsLock n k
        visit_lock step.Passing x is e = subst (IsLock n) (let q : slot x.page ≡ k = cc in q)
            (trip_low step.Passing x is)
        visit_lock step.Reserving x is e = subst (IsLock n) (let q : lock.Blocks ≡ k = cc in q) tt
        visit_lock step.Quitting x is e = subst (IsLock n) (let q : slot x.page ≡ k = cc in q)
            (trip_low step.Quitting x is)
        visit_lock step.Pinning x is e = subst (IsLock n) (let q : lock.Class c ≡ k = cc in q)
            (old_low g.chain _ _ (here (Visiting step.Pinning x) is).visits.step.0.page.stands)
        visit_lock step.Unpinning x is e = subst (IsLock n) (let q : lock.Class c ≡ k = cc in q)
            (old_low g.chain _ _ (here (Visiting step.Unpinning x) is).visits.step.0.page.stands)
        visit_lock step.Marking x is e = subst (IsLock n) (let q : slot x.page ≡ k = cc in q)
            (trip_low step.Marking x is)
        visit_lock step.Storing x is e = subst (IsLock n) (let q : lock.Device ≡ k = cc in q) tt
        visit_lock step.Freeing x is e = subst (IsLock n) (let q : lock.Class c ≡ k = cc in q)
            (old_low g.chain _ _ (here (Visiting step.Freeing x) is).visits.step.0.page.stands)
        visit_lock step.Committing x is e = subst (IsLock n) (let q : lock.Blocks ≡ k = cc in q) tt
        visit_lock step.Paying x is e = subst (IsLock n) (let q : lock.Account ≡ k = cc in q) tt
        visit_lock step.Putting x is e = subst (IsLock n) (let q : slot x.page ≡ k = cc in q)
            (trip_low step.Putting x is)
        visit_lock step.Losing x is e = subst (IsLock n) (let q : slot x.page ≡ k = cc in q)
            (trip_low step.Losing x is)
        visit_lock step.Releasing x is e = subst (IsLock n) (let q : lock.Blocks ≡ k = cc in q) tt
        visit_lock s x is e = absurd (cc)

      above : (k : LockNo) (at : At) → l.at ≡ at → plan_at n at p c d ≡ Take k
          → IsAbove n p c d k at
      above k Start is e = above_start k (is_maintenance p.op) (is_beyond n p.op) refl refl e
      above k (Scanning x) is e = let low = (here (Scanning x) is).scans.page in
          above_none n p c d k (Scanning x) (slot x.page)
          (let q : slot x.page ≡ k = cc in q) (omega arith) refl
      above k (Sweeping x) is e = let low = (here (Sweeping x) is).compacts.class in
          above_none n p c d k (Sweeping x) (lock.Class x.class)
          (let q : lock.Class x.class ≡ k = cc in q) (omega arith) refl
      above k (Shrunk x) is e = above_none n p c d k (Shrunk x) lock.Account
          (let q : lock.Account ≡ k = cc in q) (omega arith) refl
      above k Seen is e = let s = here Seen is in above_class n p c d k Seen c p.page
          (let q : lock.Class c ≡ k = cc in q) (old_low g.chain _ _ s.stands) (disk s.begun).0 refl
      above k Pinned is e = let s = here Pinned is in above_class n p c d k Pinned c p.page
          (let q : lock.Class c ≡ k = cc in q) (old_low g.chain _ _ s.stands) (disk s.begun).0 refl
      above k Wanting is e = let s = here Wanting is in
          above_class n p c d k Wanting d p.page (let q : lock.Class d ≡ k = cc in
          q) (form_low g.chain _) (disk s.begun).0 refl
      above k Inside is e = let s = here Inside is in above_both n p c d k
          (let q : lock.Account ≡ k = cc in q) (disk s.begun).0 (form_low g.chain _)
      above k Old is e = let s = here Old is in above_class n p c d k Old c p.page
          (let q : lock.Class c ≡ k = cc in q) (old_low g.chain _ _ s.stands) (disk s.begun).0 refl
      above k Owing is e = let s = here Owing is in above_last n p c d k Owing lock.Account p.page
          (let q : lock.Account ≡ k = cc in q) (omega arith) (omega arith) (disk s.begun).0 refl
      above k Away is e = let s = here Away is in above_last n p c d k Away lock.Device p.page
          (let q : lock.Device ≡ k = cc in q) (omega arith) (omega arith) (disk s.begun).0 refl
      above k Failing is e = let s = here Failing is in above_last n p c d k Failing lock.Account p.page
          (let q : lock.Account ≡ k = cc in q) (omega arith) (omega arith) (disk s.begun).0 refl
      above k Backed is e = let s = here Backed is in above_last n p c d k Backed lock.Blocks p.page
          (let q : lock.Blocks ≡ k = cc in q) (omega arith) (omega arith) (disk s.begun).0 refl
      above k Fetching is e = absurd (cc)
      above k Counting is e = absurd (cc)
      above k Missed is e = absurd (cc)
      above k Releasing is e = absurd (cc)
      above k Refusing is e = absurd (cc)
      above k Pinning is e = absurd (cc)
      above k Unpinning is e = absurd (cc)
      above k Leaving is e = absurd (cc)
      above k Both is e = absurd (cc)
      above k Made is e = absurd (cc)
      above k Freeing is e = absurd (cc)
      above k Giving is e = absurd (cc)
      above k Ready is e = absurd (cc)
      above k (Marking x) is e = absurd (cc)
      above k (Visiting s x) is e = above_visit k s x is e
      above k (Moving x) is e = absurd (cc)
      above k (Shrinking x) is e = absurd (cc)

      on_new : IsLock n (lock.Class d)
      on_new = form_low g.chain _

      start_lock : (k : LockNo) (a b : Bool) → is_maintenance p.op ≡ a → is_beyond n p.op ≡ b
          → start_plan a b p ≡ Take k → IsLock n k
      start_lock k true b a b_is e = subst (IsLock n) (taken_first k (first_lock p.op) e)
          (first_is p.op)
      start_lock k false true a b e = subst (IsLock n) (let q : lock.Account ≡ k = cc in q) tt
      start_lock k false false a b e = subst (IsLock n) (let q : slot p.page ≡ k = cc in q)
          (disk (or_from _ _ a b)).0

      -- what it takes is a lock of the disk
      take_lock : (k : LockNo) (at : At) → l.at ≡ at → plan_at n at p c d ≡ Take k → IsLock n k
      take_lock k Start is e = start_lock k (is_maintenance p.op) (is_beyond n p.op) refl refl e
      take_lock k (Scanning x) is e = subst (IsLock n) (let q : slot x.page ≡ k = cc in q)
          (here (Scanning x) is).scans.page
      take_lock k (Sweeping x) is e = subst (IsLock n) (let q : lock.Class x.class ≡ k = cc in q)
          (here (Sweeping x) is).compacts.class
      take_lock k (Shrunk x) is e = subst (IsLock n) (let q : lock.Account ≡ k = cc in q) tt
      take_lock k Seen is e = subst (IsLock n) (let q : lock.Class c ≡ k = cc in q)
          (old_low g.chain _ _ (here Seen is).stands)
      take_lock k Pinned is e = subst (IsLock n) (let q : lock.Class c ≡ k = cc in q)
          (old_low g.chain _ _ (here Pinned is).stands)
      take_lock k Wanting is e = subst (IsLock n) (let q : lock.Class d ≡ k = cc in q) on_new
      take_lock k Inside is e = subst (IsLock n) (let q : lock.Account ≡ k = cc in q) tt
      take_lock k Old is e = subst (IsLock n) (let q : lock.Class c ≡ k = cc in q)
          (old_low g.chain _ _ (here Old is).stands)
      take_lock k Owing is e = subst (IsLock n) (let q : lock.Account ≡ k = cc in q) tt
      take_lock k Away is e = subst (IsLock n) (let q : lock.Device ≡ k = cc in q) tt
      take_lock k Failing is e = subst (IsLock n) (let q : lock.Account ≡ k = cc in q) tt
      take_lock k Backed is e = subst (IsLock n) (let q : lock.Blocks ≡ k = cc in q) tt
      take_lock k Fetching is e = absurd (cc)
      take_lock k Counting is e = absurd (cc)
      take_lock k Missed is e = absurd (cc)
      take_lock k Releasing is e = absurd (cc)
      take_lock k Refusing is e = absurd (cc)
      take_lock k Pinning is e = absurd (cc)
      take_lock k Unpinning is e = absurd (cc)
      take_lock k Leaving is e = absurd (cc)
      take_lock k Both is e = absurd (cc)
      take_lock k Made is e = absurd (cc)
      take_lock k Freeing is e = absurd (cc)
      take_lock k Giving is e = absurd (cc)
      take_lock k Ready is e = absurd (cc)
      take_lock k (Marking x) is e = absurd (cc)
      take_lock k (Visiting s x) is e = visit_takes k s x is e
      take_lock k (Moving x) is e = absurd (cc)
      take_lock k (Shrinking x) is e = absurd (cc)

      -- and so is what it gives
      give_lock : (k : LockNo) (at : At) → l.at ≡ at → plan_at n at p c d ≡ Give k → IsLock n k
      give_lock k Start is e = absurd (no_start_gives p k (is_maintenance p.op)
          (is_beyond n p.op) e)
      give_lock k (Marking x) is e = subst (IsLock n) (let q : slot x.page ≡ k = cc in q)
          (here (Marking x) is).scans.scan.page
      give_lock k (Visiting s x) is e = visit_lock k s x is e
      give_lock k (Moving x) is e = subst (IsLock n) (let q : lock.Class x.class ≡ k = cc in q)
          (here (Moving x) is).compacts.class
      give_lock k (Shrinking x) is e = subst (IsLock n) (let q : lock.Account ≡ k = cc in q) tt
      give_lock k Refusing is e = subst (IsLock n) (let q : lock.Account ≡ k = cc in q) tt
      give_lock k Pinning is e = subst (IsLock n) (let q : lock.Class c ≡ k = cc in q)
          (old_low g.chain _ _ (here Pinning is).stands)
      give_lock k Unpinning is e = subst (IsLock n) (let q : lock.Class c ≡ k = cc in q)
          (old_low g.chain _ _ (here Unpinning is).stands)
      give_lock k Leaving is e = subst (IsLock n) (let q : slot p.page ≡ k = cc in q)
          (disk (here Leaving is).begun).0
      give_lock k Both is e = subst (IsLock n) (let q : lock.Account ≡ k = cc in q) tt
      give_lock k Made is e = subst (IsLock n) (let q : lock.Class d ≡ k = cc in q) on_new
      give_lock k Freeing is e = subst (IsLock n) (let q : lock.Class c ≡ k = cc in q)
          (old_low g.chain _ _ (here Freeing is).stands)
      give_lock k Giving is e = subst (IsLock n) (let q : lock.Account ≡ k = cc in q) tt
      give_lock k Ready is e = subst (IsLock n) (let q : slot p.page ≡ k = cc in q)
          (disk (here Ready is).begun).0
      give_lock k Fetching is e = subst (IsLock n) (let q : lock.Device ≡ k = cc in q) tt
      give_lock k Counting is e = subst (IsLock n) (let q : lock.Account ≡ k = cc in q) tt
      give_lock k Missed is e = subst (IsLock n) (let q : slot p.page ≡ k = cc in q)
          (disk (here Missed is).begun).0
      give_lock k Releasing is e = subst (IsLock n) (let q : lock.Blocks ≡ k = cc in q) tt
      give_lock k Away is e = absurd (cc)
      give_lock k Failing is e = absurd (cc)
      give_lock k Backed is e = absurd (cc)
      give_lock k Seen is e = absurd (cc)
      give_lock k Pinned is e = absurd (cc)
      give_lock k Wanting is e = absurd (cc)
      give_lock k Inside is e = absurd (cc)
      give_lock k Old is e = absurd (cc)
      give_lock k Owing is e = absurd (cc)
      give_lock k (Scanning x) is e = absurd (cc)
      give_lock k (Sweeping x) is e = absurd (cc)
      give_lock k (Shrunk x) is e = absurd (cc)

    todo_of : (ps : List Part) → l.todo ≡ ps → (plan (terms g) l ≡ Finished → ⊥)
        → (p : Part) × (rest : List Part) × (l.todo ≡ p ∷ rest)
    todo_of [] todo go = absurd (go (ap (λ (ps : List Part).
        plan_by n ps l.at (class_by (entry_in l.held).kept)
        (new_class g.chain ps l.page (entry_in l.held).kept)) todo))
    todo_of (p ∷ rest) todo go = (p, rest, todo)

    -- what it takes lies after what it holds
    rises : (k : LockNo) → plan (terms g) l ≡ Take k → (spot n k < n + 258)
        × ((i : ℕ) → 1 ≤ held_sum (spot n) (at_place i) l.held → i < spot n k)
    rises k what =
        let t = todo_of l.todo refl (λ fin. let z : Finished ≡ Take k = sym fin ∙ what in cc) in
        let u = above t.0 t.1 t.2 k l.at refl (sym (plan_here t.0 t.1 t.2) ∙ what) in (
          u.0,
          (λ i le. u.1 i (let h = held_places n i l.held in
              let s = ap (places_sum n i) (locks_here t.0 t.1 t.2) in omega arith)),
        )

    -- what it gives is out
    given_out : (k : LockNo) → plan (terms g) l ≡ Give k → slice_get w.row (spot n k) ≡ Some None
    given_out k what =
        let t = todo_of l.todo refl (λ fin. let z : Finished ≡ Give k = sym fin ∙ what in cc) in
        let u = gives_last n l.at t.0 (c t.0 t.1 t.2) (d t.0 t.1 t.2) k (sym (plan_here t.0 t.1 t.2)
        ∙ what) in
        let names : map (λ (x : LockNo × DiskHeld). x.0) l.held ≡ k ∷ u.0 = locks_here t.0 t.1 t.2
        ∙ u.1 in
        out_of l.held u.0 names fit.sound refl where
          out_of : (xs : List (LockNo × DiskHeld)) (ks : List LockNo)
              → map (λ (x : LockNo × DiskHeld). x.0) xs ≡ k ∷ ks → HeldAll n (Sound g) xs
              → l.held ≡ xs → slice_get w.row (spot n k) ≡ Some None
          out_of [] ks e all is = absurd (cc)
          out_of (x ∷ xs) ks e all is =
              let x_is : x.0 ≡ k = cc in
              let low = sound_low g (spot n x.0) x.1 all.0 in
              let q : spot n x.0 ≡ spot n k = ap (spot n) x_is in
              let mine : held_sum (spot n) (at_place (spot n k)) l.held
              ≡ same (spot n k) (spot n x.0) + held_sum (spot n) (at_place (spot n k)) xs =
              ap (held_sum (spot n) (at_place (spot n k))) is in
              let one_there : same (spot n k) (spot n x.0) ≡ 1 = ap (same (spot n k)) q
              ∙ same_self (spot n k) in
              let cell = cell_at_place w.row (spot n k) (let r = j.row in omega arith) in
              by_cell cell.0 cell.1 (let m = locals_le n
              (mass (spot n) (at_place (spot n k)) none) w.locals a l who in omega arith) where
                by_cell : (y : Option DiskHeld) → slice_get w.row (spot n k) ≡ Some y
                    → 1 ≤ locals_sum (mass (spot n) (at_place (spot n k)) none) w.locals
                    → slice_get w.row (spot n k) ≡ Some None
                by_cell None e le = e
                by_cell (Some v) e le = absurd (let r =
                    row_le n (at_place (spot n k)) w.row (spot n k) (Some v) e in
                    let s = same_self (spot n k) in let al = j.alone (spot n k) in
                    let no : ⊥ = omega arith in no)

    pub takes_lock : (k : LockNo) → plan (terms g) l ≡ Take k → IsLock n k
    takes_lock k what =
        let t = todo_of l.todo refl (λ fin. let z : Finished ≡ Take k = sym fin ∙ what in cc) in
        take_lock t.0 t.1 t.2 k l.at refl (sym (plan_here t.0 t.1 t.2) ∙ what)

    pub gives_lock : (k : LockNo) → plan (terms g) l ≡ Give k
        → IsLock n k × (slice_get w.row (spot n k) ≡ Some None)
    gives_lock k what =
        let t = todo_of l.todo refl (λ fin. let z : Finished ≡ Give k = sym fin ∙ what in cc) in
        (give_lock t.0 t.1 t.2 k l.at refl (sym (plan_here t.0 t.1 t.2) ∙ what), given_out k what)

  -- who holds what is out
  holder : (k : ℕ) → slice_get w.row k ≡ Some None → k < n + 258
      → (b : ℕ) × (m : Here) × (slice_get w.locals b ≡ Some m)
      × (0 < mass (spot n) (at_place k) none m)
  holder k e lt = let z = none_home k w.row e in let f = j.found k (let r = j.row in omega arith) in
      some_local n (mass (spot n) (at_place k) none) w.locals (omega arith)

  busy : (b : ℕ) (m : Here) → slice_get w.locals b ≡ Some m → (k : ℕ)
      → 0 < mass (spot n) (at_place k) none m → plan (terms g) m ≡ Finished → ⊥
  busy b m who k lt fin =
      let t = no_todo n m.todo m.at _ _ fin in
      let e = (j.each.in_local b m who).locks ∙ ap (λ (ps : List Part).
      locks_by ps m.at (class_by (entry_in m.held).kept)
      (new_class g.chain ps m.page (entry_in m.held).kept)) t in
      let h = held_places n k m.held in let s = ap (places_sum n k) e in omega arith

  taken_or : (a : ℕ) (l : Here) → slice_get w.locals a ≡ Some l → (k : LockNo)
      → plan (terms g) l ≡ Take k
      → (y : Option DiskHeld) → slice_get w.row (spot n k) ≡ Some y
      → (slice_get w.row (spot n k) ≡ Some None → CanMove g w) → CanMove g w
  taken_or a l who k what (Some v) e or_else = takes a l k v who what e
  taken_or a l who k what None e or_else = or_else e

  -- who waits for a place waits for somebody who waits for a place after it, if for any
  by_plan : (fuel : ℕ) (a : ℕ) (l : Here) → slice_get w.locals a ≡ Some l → (x : Plan)
      → plan (terms g) l ≡ x → (x ≡ Finished → ⊥)
      → ((k : LockNo) → x ≡ Take k → n + 258 ≤ fuel + spot n k) → CanMove g w
  by_plan fuel a l who Finished what go le = absurd (go refl)
  by_plan fuel a l who (Give k) what go le = gives a l k who what (given_out a l who k what)
  by_plan zero a l who (Take k) what go le = absurd (let r = (rises a l who k what).0 in
      let s = le k refl in omega arith)
  by_plan (suc fuel) a l who (Take k) what go le =
      let low = (rises a l who k what).0 in
      let cell = cell_at_place w.row (spot n k) (let r = j.row in omega arith) in
      taken_or a l who k what cell.0 cell.1 (λ e.
      let h = holder (spot n k) e low in
      by_plan fuel h.0 h.1 h.2 (plan (terms g) h.1) refl (busy h.0 h.1 h.2 (spot n k) h.3)
      (λ k' is. let up = (rises h.0 h.1 h.2 k' is).1 (spot n k) (let z = h.3 in omega arith) in
      let s = le k refl in omega arith))

  -- where some actor isn't finished, some actor can move
  pub free : (a : ℕ) (l : Here) → slice_get w.locals a ≡ Some l → (plan (terms g) l ≡ Finished → ⊥)
      → CanMove g w
  free a l who go = by_plan (n + 258) a l who (plan (terms g) l) refl go (λ k is. omega arith)

-- who can move doesn't hang on what calls find
pub moves_so : (g : Begin) (finds : ℕ → Finds) (w : State DiskHeld) → CanMove (finding g finds) w
    → CanMove g w
moves_so g finds w (takes a l k v who what there) = takes a l k v who what there
moves_so g finds w (gives a l k who what there) = gives a l k who what there
