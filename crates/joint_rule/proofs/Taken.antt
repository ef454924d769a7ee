-- Where no block is free, pages and actors can have had more blocks than the disk uses.
use Rattle.std.proofs.Common.{◌≡◌, ◌+◌, ◌≤◌, ◌<◌, ◌∷◌, ◌&&◌, not, ℕ, suc, Bool, true, false, cond, List, [], map, length, Option, Some, None, slice_get, refl, sym, ap, subst, arith}
use Rattle.std.specs.Prelude.{⊤}
use Rattle.block_map.specs.BlockMap.{BlockMap, HasNoFree}
use Rattle.block_map.specs.declared.state.BlockState.{BlockState}
use Rattle.block_map.specs.declared.state.BlockState.TheVariants.{Free, Held, Left, Owned}
use Rattle.call_history.specs.declared.part.Part.{Part}
use Rattle.call_history.specs.declared.part.PartEnd.{PartEnd}
use Rattle.joint_rule.proofs.Blocks.{under_blocks}
use Rattle.joint_rule.proofs.Gets.{total_add}
use Rattle.joint_rule.proofs.Lookups.{lone}
use Rattle.joint_rule.proofs.Pages.{ever_now}
use Rattle.joint_rule.proofs.Pools.{same_self}
use Rattle.joint_rule.proofs.Rests.{no_held}
use Rattle.joint_rule.proofs.Sums.{total_split, total_up_over}
use Rattle.joint_rule.specs.Begins.{Begin, form_at}
use Rattle.joint_rule.specs.Joint.{AtHome, Joint, Sound}
use Rattle.joint_rule.specs.Rule.{FewBack}
use Rattle.joint_rule.specs.Stages.{IsForm, IsNothing, NoObj, Stage, StageBy, StepAt, locks_at, locks_by, visit_locks}
use Rattle.joint_rule.specs.Weights.{BlockWeigh, HeldAll, at_place, block_by, block_claims, block_uses, ever_at, map_size, new_back_at, none, on_blocks, one, use_at, use_in, used_from, was_back, wrote_told}
use Rattle.lock_row.specs.Totals.{by_option, held_sum, locals_sum, total}
use Rattle.lock_row.specs.declared.names.At.{At}
use Rattle.lock_row.specs.declared.names.At.TheVariants.{Giving, Marking, Moving, Owing, Ready, Refusing, Scanning, Shrinking, Shrunk, Start, Sweeping, Visiting}
use Rattle.lock_row.specs.declared.names.LockNo.{LockNo}
use Rattle.lock_row.specs.declared.names.Object.{Object}
use Rattle.lock_row.specs.declared.names.Pin.{Pin}
use Rattle.lock_row.specs.declared.names.State.{State}
use Rattle.lock_row.specs.declared.names.Step.{Step}
use Rattle.lock_row.specs.declared.names.Trip.{Trip}
use Rattle.mem_account.specs.declared.weight.Weight.{Weight}
use Rattle.page_steps.specs.Steps.{DiskHeld, Here, entry_in, entry_or, spot}
use Rattle.slot_entry.specs.Entries.{EntryState, is_wb}
use Rattle.slot_entry.specs.Forms.{Blank, PageForm, Pooled, Word, pooled}
use Rattle.slot_entry.specs.declared.kept.Kept.{Kept}
use Rattle.lock_row.specs.declared.names.Held.TheVariants as holds
use Rattle.lock_row.specs.declared.names.LockNo.TheVariants as lock
use Rattle.lock_row.specs.declared.names.Step.TheVariants as step
use Rattle.slot_entry.specs.declared.kept.Kept.TheVariants as kept

-- each block weighs 1, whoever has it
abbrev pub each_block : BlockWeigh
each_block who b = 1

all_used : (b : ℕ) (states : List BlockState) → HasNoFree states
    → used_from each_block b states ≡ length states
all_used b [] full = refl
all_used b (Free ∷ xs) full = absurd (full 0 refl)
all_used b (Held ∷ xs) full = let r = all_used (suc b) xs (λ i. full (suc i)) in omega arith
all_used b (Owned ∷ xs) full = let r = all_used (suc b) xs (λ i. full (suc i)) in omega arith
all_used b (Left ∷ xs) full = let r = all_used (suc b) xs (λ i. full (suc i)) in omega arith

-- ---- actors

few_blocks : (o : Option ℕ) → by_option (λ b. 1) o ≤ 1
few_blocks None = omega arith
few_blocks (Some b) = omega arith

step_uses : (s : Step) (x : Trip) → use_at each_block s x ≤ 1
step_uses step.Arriving x = omega arith
step_uses step.Passing x = omega arith
step_uses step.Asking x = omega arith
step_uses step.Reserving x = omega arith
step_uses step.Quitting x = omega arith
step_uses s x = few_blocks x.block

one_use : (at : At) → use_in each_block at ≤ 1
one_use (Visiting s x) = step_uses s x
one_use at = omega arith

-- ---- values

by_form : (chain : ℕ) (f : PageForm) (k : Kept) → IsForm chain f k
    → block_by each_block k ≤ pooled f
by_form chain f kept.Empty i = omega arith
by_form chain f (kept.Same w) i = omega arith
by_form chain f (kept.Obj o) i = omega arith
by_form chain Blank (kept.Wb b) i = absurd i
by_form chain (Word w) (kept.Wb b) i = absurd i
by_form chain (Pooled bytes huge) (kept.Wb b) i = omega arith

no_obj : (k : Kept) → NoObj k → block_by each_block k ≡ 0
no_obj (kept.Obj o) i = absurd i
no_obj (kept.Wb b) i = absurd i
no_obj k i = refl

is_nothing : (k : Kept) → IsNothing k → block_by each_block k ≡ 0
is_nothing kept.Empty i = refl
is_nothing k i = absurd i

-- a page in a block was there before the phase, or is new there
both_ways : (a b : Bool) → 1 ≤ cond {A = ℕ} a 1 0 + cond {A = ℕ} (true && not (a && b)) 1 0
both_ways true true = omega arith
both_ways true false = omega arith
both_ways false b = omega arith

module _ (g : Begin) where
  -- the weight of a page that was on the device, or is new there
  abbrev either : ℕ → DiskHeld → ℕ
  either j v = was_back g j v + new_back_at g j v

  kept_either : (j : ℕ) (k : Kept) (back now : Bool) → is_wb k ≡ now
      → block_by each_block k
      ≤ cond {A = ℕ} (g.back j) 1 0 + cond {A = ℕ} (is_wb k && not (g.back j && back)) 1 0
  kept_either j kept.Empty back now e = omega arith
  kept_either j (kept.Same w) back now e = omega arith
  kept_either j (kept.Obj o) back now e = omega arith
  kept_either j (kept.Wb b) back now e = both_ways (g.back j) back

  claims_either : (j : ℕ) (v : DiskHeld) → block_claims each_block j v ≤ either j v
  claims_either j (holds.Slot e) = kept_either j e.kept _ _ refl
  claims_either j (holds.Class p) = omega arith
  claims_either j (holds.Account c) = omega arith
  claims_either j (holds.Blocks x) = omega arith
  claims_either j (holds.Device d) = omega arith

  held_either : (xs : List (LockNo × DiskHeld))
      → held_sum (spot g.given.size) (block_claims each_block) xs
      ≤ held_sum (spot g.given.size) either xs
  held_either [] = omega arith
  held_either (x ∷ xs) = let r = held_either xs in
      let s = claims_either (spot g.given.size x.0) x.1 in omega arith

  -- a page in a block has the form of one in the pool
  stood : (p : ℕ) (e : EntryState) → IsForm g.chain (form_at g p e.order) e.kept
      → block_claims each_block p (holds.Slot e) ≤ ever_at g p (holds.Slot e)
  stood p e i = let r = by_form g.chain (form_at g p e.order) e.kept i in
      let s = ever_now g p e.order in omega arith

  home_claims : (j : ℕ) (v : DiskHeld) → AtHome g j v → block_claims each_block j v ≤ ever_at g j v
  home_claims j (holds.Slot e) h = stood j e h.stands
  home_claims j (holds.Class p) h = omega arith
  home_claims j (holds.Account c) h = omega arith
  home_claims j (holds.Blocks x) h = omega arith
  home_claims j (holds.Device d) h = omega arith

  -- ---- the entry in hand

  -- of these locks the last alone may be a slot, where this entry is
  abbrev Fits : EntryState → List LockNo → Type 0
  Fits e [] = ⊤
  Fits e (lock.Slot s ∷ ks) = (ks ≡ [])
      × (block_claims each_block s.0 (holds.Slot e) ≤ ever_at g s.0 (holds.Slot e))
  Fits e (k ∷ ks) = Fits e ks

  step_fits : (s : Step) (x : Trip) (c : ℕ) (e : EntryState) (page : Option (List ℕ))
      (fail : Option PartEnd) → StepAt g s x e page fail → Fits e (visit_locks s x c)
  step_fits step.Arriving x c e page fail i = tt
  step_fits step.Passing x c e page fail i = (refl, stood x.page e i.0.stands)
  step_fits step.Asking x c e page fail i = (refl, stood x.page e i.0.page.stands)
  step_fits step.Reserving x c e page fail i = (refl, stood x.page e i.0.page.stands)
  step_fits step.Quitting x c e page fail i = (refl, stood x.page e i.0.page.stands)
  step_fits step.Seen x c e page fail i = (refl, stood x.page e i.0.page.stands)
  step_fits step.Pinning x c e page fail i = (refl, stood x.page e i.0.page.stands)
  step_fits step.Pinned x c e page fail i = (refl, stood x.page e i.0.page.stands)
  step_fits step.Unpinning x c e page fail i = (refl, stood x.page e i.0.page.stands)
  step_fits step.Marking x c e page fail i = (refl, stood x.page e i.0.page.stands)
  step_fits step.Flying x c e page fail i = tt
  step_fits step.Storing x c e page fail i = tt
  step_fits step.Landing x c e page fail i = tt
  step_fits step.Won x c e page fail i = (refl, stood x.page e i.0.page.stands)
  step_fits step.Freeing x c e page fail i = (refl, stood x.page e i.0.page.stands)
  step_fits step.Losing x c e page fail i = (refl, stood x.page e i.0.page.stands)
  step_fits step.Undoing x c e page fail i = tt
  step_fits step.Releasing x c e page fail i = tt
  step_fits step.Backing x c e page fail i = (refl, let z = is_nothing e.kept i.0.gone in omega arith)
  step_fits step.Committing x c e page fail i =
      (refl, let z = is_nothing e.kept i.0.gone in omega arith)
  step_fits step.Owing x c e page fail i = (refl, let z = is_nothing e.kept i.0.gone in omega arith)
  step_fits step.Paying x c e page fail i = (refl, let z = is_nothing e.kept i.0.gone in omega arith)
  step_fits step.Putting x c e page fail i = (refl, let z = is_nothing e.kept i.0.gone in omega arith)

  stage_fits : (p : Part) (e : EntryState) (at : At) (fresh : Option Object) (pin : Option Pin)
      (owed : ℕ) (more less : Option Weight) (page : Option (List ℕ)) (fail : Option PartEnd)
      (c d : ℕ) → Stage g p e at fresh pin owed more less page fail → Fits e (locks_at at p c d)
  stage_fits p e Start fresh pin owed more less page fail c d st = tt
  stage_fits p e Refusing fresh pin owed more less page fail c d st = tt
  stage_fits p e (Scanning x) fresh pin owed more less page fail c d st = tt
  stage_fits p e (Sweeping x) fresh pin owed more less page fail c d st = tt
  stage_fits p e (Moving x) fresh pin owed more less page fail c d st = tt
  stage_fits p e (Shrunk x) fresh pin owed more less page fail c d st = tt
  stage_fits p e (Shrinking x) fresh pin owed more less page fail c d st = tt
  stage_fits p e (Marking x) fresh pin owed more less page fail c d st =
      (refl, stood x.page e st.scans.stands)
  stage_fits p e (Visiting s x) fresh pin owed more less page fail c d st =
      step_fits s x c e page fail st.visits.step
  stage_fits p e Owing fresh pin owed more less page fail c d st =
      (refl, let z = no_obj e.kept st.kind.1 in omega arith)
  stage_fits p e Giving fresh pin owed more less page fail c d st =
      (refl, let z = no_obj e.kept st.kind.1 in omega arith)
  stage_fits p e Ready fresh pin owed more less page fail c d st =
      (refl, let z = no_obj e.kept st.kind.1 in omega arith)
  stage_fits p e at fresh pin owed more less page fail c d st = (refl, stood p.page e st.stands)

  by_fits : (ps : List Part) (e : EntryState) (at : At) (fresh : Option Object) (pin : Option Pin)
      (owed : ℕ) (more less : Option Weight) (page : Option (List ℕ)) (fail : Option PartEnd)
      (c d : ℕ) → StageBy g ps e at fresh pin owed more less page fail → Fits e (locks_by ps at c d)
  by_fits [] e at fresh pin owed more less page fail c d st = tt
  by_fits (p ∷ ps) e at fresh pin owed more less page fail c d st =
      stage_fits p e at fresh pin owed more less page fail c d st

  abbrev names : List (LockNo × DiskHeld) → List LockNo
  names xs = map (λ (x : LockNo × DiskHeld). x.0) xs

  abbrev Low : List (LockNo × DiskHeld) → Type 0
  Low xs = held_sum (spot g.given.size) (block_claims each_block) xs
      ≤ held_sum (spot g.given.size) (ever_at g) xs

  slot_low : (s : ℕ) (v : DiskHeld) (e : EntryState)
      → block_claims each_block s (holds.Slot (entry_or v e)) ≤ ever_at g s (holds.Slot (entry_or v e))
      → block_claims each_block s v ≤ ever_at g s v
  slot_low s (holds.Slot e) d le = le
  slot_low s (holds.Class p) d le = omega arith
  slot_low s (holds.Account c) d le = omega arith
  slot_low s (holds.Blocks x) d le = omega arith
  slot_low s (holds.Device x) d le = omega arith

  beside_low : (k : LockNo) → g.given.size ≤ spot g.given.size k → (v : DiskHeld)
      (xs : List (LockNo × DiskHeld)) → Sound g (spot g.given.size k) v
      → Fits (entry_or v (entry_in xs)) (names xs) → (Fits (entry_in xs) (names xs) → Low xs)
      → Low ((k, v) ∷ xs)
  beside_low k far (holds.Slot e) xs so fits more =
      absurd (let lt = so.page in let no : ⊥ = omega arith in no)
  beside_low k far (holds.Class p) xs so fits more = let r = more fits in omega arith
  beside_low k far (holds.Account c) xs so fits more = let r = more fits in omega arith
  beside_low k far (holds.Blocks x) xs so fits more = let r = more fits in omega arith
  beside_low k far (holds.Device x) xs so fits more = let r = more fits in omega arith

  lock_low : (k : LockNo) (v : DiskHeld) (xs : List (LockNo × DiskHeld))
      → Sound g (spot g.given.size k) v → Fits (entry_or v (entry_in xs)) (k ∷ names xs)
      → (Fits (entry_in xs) (names xs) → Low xs) → Low ((k, v) ∷ xs)
  lock_low (lock.Slot s) v xs so fits more =
      let none = no_held xs fits.0 in
      let a = ap (held_sum (spot g.given.size) (block_claims each_block)) none in
      let b = ap (held_sum (spot g.given.size) (ever_at g)) none in
      let r = slot_low s.0 v (entry_in xs) fits.1 in omega arith
  lock_low (lock.Class c) v xs so fits more =
      beside_low (lock.Class c) (omega arith) v xs so fits more
  lock_low lock.Account v xs so fits more = beside_low lock.Account (omega arith) v xs so fits more
  lock_low lock.Blocks v xs so fits more = beside_low lock.Blocks (omega arith) v xs so fits more
  lock_low lock.Device v xs so fits more = beside_low lock.Device (omega arith) v xs so fits more

  hand_low : (xs : List (LockNo × DiskHeld)) → HeldAll g.given.size (Sound g) xs
      → Fits (entry_in xs) (names xs) → Low xs
  hand_low [] all fits = omega arith
  hand_low (x ∷ xs) all fits = lock_low x.0 x.1 xs all.0 fits (hand_low xs all.1)

-- ---- a refusal

module _ (g : Begin) (w : State DiskHeld) (j : Joint g w) where
  abbrev n : ℕ
  n = g.given.size

  actor_low : (b : ℕ) (m : Here) → slice_get w.locals b ≡ Some m
      → held_sum (spot n) (block_claims each_block) m.held ≤ held_sum (spot n) (ever_at g) m.held
  actor_low b m e =
      let f = j.each.in_local b m e in
      hand_low g m.held f.sound (subst (Fits g (entry_in m.held)) (sym f.locks)
      (by_fits g m.todo (entry_in m.held) m.at m.fresh m.pin m.owed m.ahead m.behind m.page m.fail
      _ _ f.stage))

  module _ (a : ℕ) (l : Here) (who : slice_get w.locals a ≡ Some l) (y : BlockMap)
      (rest : List (LockNo × DiskHeld)) (held : l.held ≡ (lock.Blocks, holds.Blocks y) ∷ rest)
      (alone : (f : BlockMap → ℕ) → held_sum (spot n) (on_blocks f) rest ≡ 0)
      (bare : block_uses each_block l ≡ 0)
      (size : total (spot n) map_size none w ≡ g.blocks) (full : HasNoFree y.states) where
    here : (f : BlockMap → ℕ) → total (spot n) (on_blocks f) none w ≡ f y
    here f =
        let r = ap (held_sum (spot n) (at_place (spot n lock.Blocks))) held in
        let q = same_self (n + 256) in
        let t = lone g w j a l who lock.Blocks (on_blocks f) (under_blocks g f) (omega arith) in
        let s = ap (held_sum (spot n) (on_blocks f)) held in let z = alone f in omega arith

    -- all blocks are those of pages and actors
    all_taken : total (spot n) (block_claims each_block) (block_uses each_block) w ≡ g.blocks
    all_taken =
        let e = j.blocks each_block in let s = here (λ x. used_from each_block 0 x.states) in
        let t = here (λ x. length x.states) in let u = all_used 0 y.states full in omega arith

    pub below_reach : g.blocks < total (spot n) (ever_at g) one w
    below_reach =
        let e = all_taken in
        let u = total_up_over n (AtHome g) (block_claims each_block) (ever_at g)
        (block_uses each_block) one (home_claims g) w j.each.in_row
        (λ b m e. let r = actor_low b m e in let s = one_use m.at in omega arith) a l who in
        let r = actor_low a l who in omega arith

    pub below_taken : FewBack g w
        → g.blocks < total (spot n) (was_back g) one w + locals_sum wrote_told w.locals
    below_taken few =
        let e = all_taken in
        let u = total_up_over n (λ i v. ⊤) (block_claims each_block) (either g)
        (block_uses each_block) one (λ i v h. claims_either g i v) w (λ i v h. tt)
        (λ b m h. let r = held_either g m.held in let s = one_use m.at in omega arith) a l who in
        let r = held_either g l.held in
        let x = total_split n (either g) one w in let z = total_split n (was_back g) one w in
        let t = total_add n (was_back g) (new_back_at g) w in omega arith
