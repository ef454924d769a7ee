-- What the joint rule tells of the pool that an actor holds, beside its entry.
use Rattle.lock_row.specs.declared.names.Step.{Step}
use Rattle.std.proofs.Common.{◌≡◌, ◌+◌, ◌≤◌, ◌<◌, ◌∷◌, ◌∙◌, ℕ, zero, suc, Bool, true, false, cond, List, [], length, sum_by, Option, Some, None, slice_get, refl, sym, ap, arith, ⊎_elim}
use Rattle.call_history.specs.declared.part.Part.{Part}
use Rattle.call_history.specs.declared.part.PartEnd.{PartEnd}
use Rattle.class_pool.specs.Pool.{IsAtHome, PoolState, used_cells}
use Rattle.joint_rule.proofs.Lookups.{cell_at, class_is, lone, mine, name_at, pick_none, pick_self, sound, under_outs, under_stored}
use Rattle.joint_rule.proofs.Pools.{pick, same_is, same_self, sum_same}
use Rattle.joint_rule.proofs.Sums.{held_nothing, locals_le, locals_mono, locals_over, row_nothing, total_mono, total_split}
use Rattle.joint_rule.specs.Begins.{Begin, image}
use Rattle.joint_rule.specs.Joint.{IsActor, Joint, Sound}
use Rattle.joint_rule.specs.Rule.{owed}
use Rattle.joint_rule.specs.Stages.{IsPinned, MayPin, Names, NoneOf, PinAt, StageBy, VisitPin}
use Rattle.joint_rule.specs.Weights.{PinWeigh, at_place, cell_weight, claim_by, claims, each_one, fresh_claim, none, nothing, object_weight, one, out_weight, outs, pinned, same, stored}
use Rattle.lock_row.specs.Totals.{by_option, held_sum, locals_sum, mass, row_sum, total}
use Rattle.lock_row.specs.declared.names.At.{At}
use Rattle.lock_row.specs.declared.names.At.TheVariants.{Both, Freeing, Inside, Made, Old, Pinned, Unpinning, Wanting, Visiting}
use Rattle.lock_row.specs.declared.names.LockNo.{LockNo}
use Rattle.lock_row.specs.declared.names.Object.{Object}
use Rattle.lock_row.specs.declared.names.Pin.{Pin}
use Rattle.lock_row.specs.declared.names.State.{State}
use Rattle.mem_account.specs.declared.weight.Weight.{Weight}
use Rattle.page_steps.specs.Steps.{DiskHeld, Here, entry_in, entry_or, slot, spot}
use Rattle.slot_entry.specs.Entries.{EntryState}
use Rattle.slot_entry.specs.declared.kept.Kept.{Kept}
use Rattle.slot_entry.specs.declared.kept.Stored.{Stored}
use Rattle.std.proofs.lemmas.Bool.{cases_lt}
use Rattle.std.proofs.lemmas.List.Sums.{sum_by-cons}
use Rattle.std.specs.Prelude.{Contains}
use Rattle.zspage.specs.Cells.{UsedCell}
use Rattle.lock_row.specs.declared.names.LockNo.TheVariants as lock
use Rattle.lock_row.specs.declared.names.Step.TheVariants as step
use Rattle.lock_row.specs.declared.names.Held.TheVariants as holds
use Rattle.slot_entry.specs.declared.kept.Kept.TheVariants as kept

-- ---- a weight above zero has a cause

abbrev pub Cause : (UsedCell → ℕ) → List UsedCell → Type 0
Cause f us = (u : UsedCell) × Contains us u × (0 < f u)

by_head : (f : UsedCell → ℕ) (u : UsedCell) (us : List UsedCell) (n : ℕ) → f u ≡ n
    → 0 < f u + sum_by f us → (0 < sum_by f us → Cause f us) → Cause f (u ∷ us)
by_head f u us zero e lt more = let r = more (omega arith) in
    (r.0, (suc r.1.0, omega (arith, r.1.1), r.1.2), r.2)
by_head f u us (suc n) e lt more = (u, (0, omega arith, refl), omega arith)

pub some_use : (f : UsedCell → ℕ) (us : List UsedCell) → 0 < sum_by f us → Cause f us
some_use f [] lt = absurd (omega arith)
some_use f (u ∷ us) lt = by_head f u us (f u) refl (let a = sum_by-cons f u us in
    omega arith) (some_use f us)

-- what an actor has pinned, its entry names
names_claim : (c h : ℕ) (k : Kept) (b : List ℕ) (x : Pin) → Names k x
    → cell_at c h x ≤ claim_by (name_at c h) k b
names_claim c h kept.Empty b x i = absurd i
names_claim c h (kept.Same w) b x i = absurd i
names_claim c h (kept.Obj o) b x i = let e : cell_at c h x
    ≡ pick (same c o.class) (same h o.handle.0) 0 = (λ j.
    pick (same c (i.0 j)) (same h (i.1 j)) 0) in omega arith
names_claim c h (kept.Wb x) b y i = absurd i

none_pins : (f : PinWeigh) (x : Option Pin) → NoneOf x → by_option f x ≡ 0
none_pins f None e = refl
none_pins f (Some x) e = absurd e

is_claim : (c h : ℕ) (k : Kept) (b : List ℕ) (x : Option Pin) → IsPinned k x
    → by_option (cell_at c h) x ≤ claim_by (name_at c h) k b
is_claim c h k b None i = absurd i
is_claim c h k b (Some x) i = names_claim c h k b x i

may_claim : (c h : ℕ) (k : Kept) (b : List ℕ) (x : Option Pin) → MayPin k x
    → by_option (cell_at c h) x ≤ claim_by (name_at c h) k b
may_claim c h k b None i = omega arith
may_claim c h k b (Some x) i = names_claim c h k b x i

visit_pin : (c h : ℕ) (s : Step) (k : Kept) (b : List ℕ) (x : Option Pin) → VisitPin s k x
    → by_option (cell_at c h) x ≤ claim_by (name_at c h) k b
visit_pin c h step.Pinned k b x i = is_claim c h k b x i
visit_pin c h step.Unpinning k b x i = is_claim c h k b x i
visit_pin c h s k b x i = let r = none_pins (cell_at c h) x i in omega arith

pin_at : (c h : ℕ) (at : At) (k : Kept) (b : List ℕ) (x : Option Pin) → PinAt at k x
    → by_option (cell_at c h) x ≤ claim_by (name_at c h) k b
pin_at c h Pinned k b x i = is_claim c h k b x i
pin_at c h Unpinning k b x i = is_claim c h k b x i
pin_at c h Wanting k b x i = may_claim c h k b x i
pin_at c h Inside k b x i = may_claim c h k b x i
pin_at c h Both k b x i = may_claim c h k b x i
pin_at c h Made k b x i = may_claim c h k b x i
pin_at c h Old k b x i = may_claim c h k b x i
pin_at c h Freeing k b x i = may_claim c h k b x i
pin_at c h (Visiting s y) k b x i = visit_pin c h s k b x i
pin_at c h at k b x i = let r = none_pins (cell_at c h) x i in omega arith

any_bytes : (c h : ℕ) (k : Kept) (b d : List ℕ) → claim_by (name_at c h) k b
    ≡ claim_by (name_at c h) k d
any_bytes c h kept.Empty b d = refl
any_bytes c h (kept.Same w) b d = refl
any_bytes c h (kept.Obj o) b d = refl
any_bytes c h (kept.Wb x) b d = refl

module _ (g : Begin) (c h : ℕ) where
  entry_claim : (j n : ℕ) (v : DiskHeld) (e : EntryState) → claim_by (name_at c h) e.kept [] ≤ n
      → claim_by (name_at c h) (entry_or v e).kept [] ≤ claims g (name_at c h) j v + n
  entry_claim j n (holds.Slot x) e le = let r = any_bytes c h x.kept [] (image g j x.order) in
      omega arith
  entry_claim j n (holds.Class x) e le = omega arith
  entry_claim j n (holds.Account x) e le = omega arith
  entry_claim j n (holds.Blocks x) e le = omega arith
  entry_claim j n (holds.Device x) e le = omega arith

  held_claim : (xs : List (LockNo × DiskHeld)) → claim_by (name_at c h) (entry_in xs).kept []
      ≤ held_sum (spot g.given.size) (claims g (name_at c h)) xs
  held_claim [] = omega arith
  held_claim (x ∷ xs) = entry_claim (spot g.given.size x.0)
      (held_sum (spot g.given.size) (claims g (name_at c h)) xs) x.1 (entry_in xs) (held_claim xs)

  pin_by : (ps : List Part) (e : EntryState) (at : At) (fresh : Option Object) (pin : Option Pin)
      (owed : ℕ) (x y : Option Weight) (page : Option (List ℕ)) (fail : Option PartEnd)
      → StageBy g ps e at fresh pin owed x y page fail → by_option (cell_at c h) pin
      ≤ claim_by (name_at c h) e.kept []
  pin_by [] e at fresh pin owed x y page fail s = let r = none_pins (cell_at c h) pin s.pins in
      omega arith
  pin_by (p ∷ ps) e at fresh pin owed x y page fail s = pin_at c h at e.kept [] pin s.pins

  below : {a : ℕ} (m : Here) → IsActor g a m → pinned (cell_at c h) m
      ≤ mass (spot g.given.size) (claims g (name_at c h)) (fresh_claim (name_at c h)) m
  below m f =
      let r = pin_by m.todo (entry_in m.held) m.at m.fresh m.pin m.owed m.ahead m.behind m.page
      m.fail f.stage in
      let s = held_claim m.held in omega arith

abbrev home_weight : ℕ → UsedCell → ℕ
home_weight h u = cond u.out 0 (same h u.handle)

split_out : (b : Bool) (m : ℕ) → cond b 0 m + cond b m 0 ≡ m
split_out true m = omega arith
split_out false m = omega arith

home_sum : (h : ℕ) (us : List UsedCell) → sum_by (home_weight h) us + sum_by
    (out_weight (λ y. same h y.handle) 0) us ≡ sum_by (cell_weight (λ i b. same h i)) us
home_sum h [] = refl
home_sum h (u ∷ us) =
    let x = sum_by-cons (home_weight h) u us in let y =
    sum_by-cons (out_weight (λ y. same h y.handle) 0) u us in
    let t = sum_by-cons (cell_weight (λ i b. same h i)) u us in
    let here = split_out u.out (same h u.handle) in let rest = home_sum h us in omega arith

home_out : (h : ℕ) (u : UsedCell) → 0 < home_weight h u → u.out ≡ false
home_out h u lt = out_by u.out (same h u.handle) lt where
  out_by : (b : Bool) (m : ℕ) → 0 < cond b 0 m → b ≡ false
  out_by true m l = absurd (omega arith)
  out_by false m l = refl

home_handle : (h : ℕ) (u : UsedCell) → 0 < home_weight h u → u.handle ≡ h
home_handle h u lt = handle_by u.out lt where
  handle_by : (b : Bool) → 0 < cond b 0 (same h u.handle) → u.handle ≡ h
  handle_by true l = absurd (omega arith)
  handle_by false l = ⊎_elim (λ x. absurd (omega arith)) (λ x. sym x.1) (same_is h u.handle)

module _ (g : Begin) (w : State DiskHeld) (j : Joint g w) (a : ℕ) (l : Here)
    (who : slice_get w.locals a ≡ Some l) (s : ℕ) (o : Stored) (q : PoolState) (e : EntryState)
    (held : l.held ≡ (lock.Class o.class, holds.Class q) ∷ (slot s, holds.Slot e) ∷ [])
    (is : e.kept ≡ kept.Obj o) where
  abbrev n : ℕ
  n = g.given.size

  abbrev p : PinWeigh
  p = cell_at o.class o.handle.0

  my_class : q.class ≡ o.class
  my_class = class_is g w j a l who s o q e held is

  names_here : sum_by (cell_weight (λ h b. same o.handle.0 h)) (used_cells q.zspages)
      ≡ total (spot n) (stored (name_at o.class o.handle.0)) none w
  names_here =
      let t = lone g w j a l who (lock.Class o.class) (stored (name_at o.class o.handle.0))
      (under_stored g o.class (name_at o.class o.handle.0)
      (λ d i x z. pick_none o.class d (same o.handle.0 i) z))
      (mine g w j a l who s o q e held is) in
      let x : held_sum (spot n) (stored (name_at o.class o.handle.0)) l.held
      ≡ sum_by (cell_weight (name_at o.class o.handle.0 q.class)) (used_cells q.zspages) + 0 =
      (ap (held_sum (spot n) (stored (name_at o.class o.handle.0))) held ∙ omega arith) in
      let v = sum_same (cell_weight (name_at o.class o.handle.0 q.class))
      (cell_weight (λ h b. same o.handle.0 h)) (λ i.
      pick_self o.class q.class (same o.handle.0 i.handle) (sym my_class))
      (used_cells q.zspages) in omega arith

  outs_here : sum_by (out_weight (λ y. same o.handle.0 y.handle) 0) (used_cells q.zspages)
      ≡ total (spot n) (outs p) none w
  outs_here =
      let t = lone g w j a l who (lock.Class o.class) (outs p)
      (under_outs g o.class p (λ y z. pick_none o.class y.class (same o.handle.0 y.handle) z))
      (mine g w j a l who s o q e held is) in
      let x : held_sum (spot n) (outs p) l.held ≡ sum_by (out_weight p q.class)
      (used_cells q.zspages) + 0 = (ap (held_sum (spot n) (outs p)) held ∙ omega arith) in
      let v = sum_same (out_weight p q.class) (out_weight (λ y. same o.handle.0 y.handle) 0)
      (λ i. same_out i.out (pick_self o.class q.class (same o.handle.0 i.handle)
      (sym my_class))) (used_cells q.zspages) in omega arith where
        same_out : {x y : ℕ} (b : Bool) → x ≡ y → cond b x 0 ≡ cond b y 0
        same_out b e' = ap (λ (z : ℕ). cond b z 0) e'

  claim_is : claim_by (name_at o.class o.handle.0) e.kept (image g s e.order) ≡ 1
  claim_is = ap (λ k. claim_by (name_at o.class o.handle.0) k (image g s e.order)) is
      ∙ (pick_self o.class o.class (same o.handle.0 o.handle.0) refl ∙ same_self o.handle.0)

  -- the object is there
  pub is_there : 1 ≤ sum_by (cell_weight (λ h b. same o.handle.0 h)) (used_cells q.zspages)
  is_there =
      let eq = j.owners (name_at o.class o.handle.0) in
      let m = locals_le n (mass (spot n) (claims g (name_at o.class o.handle.0))
      (fresh_claim (name_at o.class o.handle.0))) w.locals a l who in
      let y = ap (held_sum (spot n) (claims g (name_at o.class o.handle.0))) held in
      let c = claim_is in let r = names_here in omega arith

  -- no other actor has pinned it
  pub in_place : sum_by (out_weight (λ y. same o.handle.0 y.handle) 0) (used_cells q.zspages)
      ≤ pinned p l
  in_place =
      let eq = j.owners (name_at o.class o.handle.0) in let np = j.pins p in
      let once = (sound g w j a l who s o q e held is).1.once o.handle.0 in
      let y = ap (held_sum (spot n) (claims g (name_at o.class o.handle.0))) held in
      let c = claim_is in
      let r = names_here in let t = outs_here in
      let over = locals_over n (pinned p) (mass (spot n) (claims g (name_at o.class o.handle.0))
      (fresh_claim (name_at o.class o.handle.0))) w.locals
      (λ i k at. below g o.class o.handle.0 k (j.each.in_local i k at)) a l who in
      let s1 = total_split n nothing (pinned p) w in let s2 =
      total_mono n (Sound g) nothing nothing (λ i v x. omega arith) w
      (λ i v x. (j.each.in_row i v x).sound) (λ i m x. (j.each.in_local i m x).sound) in
      let z = nothing_total w in omega arith where
        nothing_total : (u : State DiskHeld) → total (spot n) nothing none u ≡ 0
        nothing_total u = let r = row_nothing n u.row in let s' = locals_nothing u.locals in
            omega arith where
              locals_nothing : (ls : List Here) → locals_sum (mass (spot n) nothing none) ls ≡ 0
              locals_nothing [] = refl
              locals_nothing (x ∷ xs) = let r = locals_nothing xs in let t = held_nothing n x.held in
                  omega arith

  -- its cell is at home, where this actor hasn't pinned it
  pub at_home : NoneOf l.pin → IsAtHome q o.handle.0
  at_home free =
      let there = is_there in let out = in_place in let z = none_pins p l.pin free in
      let r = some_use (home_weight o.handle.0) (used_cells q.zspages)
      (let k = home_sum o.handle.0 (used_cells q.zspages) in omega arith) in
      (r.0, r.1, home_handle o.handle.0 r.0 r.2, home_out o.handle.0 r.0 r.2)

-- ---- how many objects there are

abbrev lower : ℕ → ℕ → ℕ
lower zero j = 0
lower (suc n) j = lower n j + same n j

abbrev pub low_at : ℕ → ℕ → DiskHeld → ℕ
low_at n j v = lower n j

pub is_lower : (n j : ℕ) → j < n → 1 ≤ lower n j
is_lower zero j lt = absurd (omega arith)
is_lower (suc n) j lt = ⊎_elim
    (λ z. let r = is_lower n j (smaller n j lt z) in omega arith)
    (λ o. let q = o.0 in omega arith)
    (same_is n j) where
      smaller : (n j : ℕ) → j < suc n → same n j ≡ 0 → j < n
      smaller n j l z = ⊎_elim (λ s. s) (λ s. absurd (let e : n ≡ j = omega arith in
          let q : same n j ≡ 1 = ap (same n) (sym e) ∙ same_self n in let none : ⊥ = omega arith in
          none)) (cases_lt j n)

module _ (size : ℕ) where
  row_add : (f h : ℕ → DiskHeld → ℕ) (row : List (Option DiskHeld))
      → row_sum (λ j v. f j v + h j v) row ≡ row_sum f row + row_sum h row
  row_add f h [] = refl
  row_add f h (None ∷ xs) = let r = row_add (λ j. f (suc j)) (λ j. h (suc j)) xs in omega arith
  row_add f h (Some x ∷ xs) = let r = row_add (λ j. f (suc j)) (λ j. h (suc j)) xs in omega arith

  held_add : (f h : ℕ → DiskHeld → ℕ) (xs : List (LockNo × DiskHeld))
      → held_sum (spot size) (λ j v. f j v + h j v) xs ≡ held_sum (spot size) f xs + held_sum
      (spot size) h xs
  held_add f h [] = refl
  held_add f h (x ∷ xs) = let r = held_add f h xs in omega arith

  all_add : (f h : ℕ → DiskHeld → ℕ) (ls : List Here) → locals_sum
      (mass (spot size) (λ j v. f j v + h j v) none) ls
      ≡ locals_sum (mass (spot size) f none) ls + locals_sum (mass (spot size) h none) ls
  all_add f h [] = refl
  all_add f h (l ∷ ls) = let r = all_add f h ls in let s = held_add f h l.held in omega arith

  -- the total of two weights together
  pub total_add : (f h : ℕ → DiskHeld → ℕ) (w : State DiskHeld)
      → total (spot size) (λ j v. f j v + h j v) none w
      ≡ total (spot size) f none w + total (spot size) h none w
  total_add f h w =
      let r = row_add f h w.row in let s = all_add f h w.locals in omega arith

  no_low : (ls : List Here) → locals_sum (mass (spot size) (low_at 0) none) ls ≡ 0
  no_low [] = refl
  no_low (x ∷ xs) = let r = no_low xs in let s = held_nothing size x.held in omega arith

  pub total_low : (w : State DiskHeld) → ((k : ℕ) → total (spot size) (at_place k) none w ≤ 1)
      → (n : ℕ) → total (spot size) (low_at n) none w ≤ n
  total_low w alone zero = let r = row_nothing size w.row in let s = no_low w.locals in omega arith
  total_low w alone (suc n) = let a = alone n in let r = total_low w alone n in
      let b = row_add (low_at n) (at_place n) w.row in let c =
      all_add (low_at n) (at_place n) w.locals in omega arith

claim_one : (k : Kept) (b : List ℕ) → claim_by each_one k b ≤ 1
claim_one kept.Empty b = omega arith
claim_one (kept.Same w) b = omega arith
claim_one (kept.Obj o) b = omega arith
claim_one (kept.Wb x) b = omega arith

claim_low : (g : Begin) (j : ℕ) (v : DiskHeld) → Sound g j v
    → claims g each_one j v ≤ low_at g.given.size j v
claim_low g j (holds.Slot e) s = let r = claim_one e.kept (image g j e.order) in
    let q = is_lower g.given.size j s.page in omega arith
claim_low g j (holds.Class e) s = omega arith
claim_low g j (holds.Account e) s = omega arith
claim_low g j (holds.Blocks e) s = omega arith
claim_low g j (holds.Device e) s = omega arith

fresh_one : (x : Option Object) → by_option (object_weight each_one) x ≤ 1
fresh_one None = omega arith
fresh_one (Some o) = omega arith

pub count_locals : (ls : List Here) → locals_sum one ls ≡ length ls
count_locals [] = refl
count_locals (l ∷ ls) = let r = count_locals ls in omega arith

-- as many at most as the disk has pages and the phase has actors
pub few_objects : (g : Begin) (w : State DiskHeld) → Joint g w
    → total (spot g.given.size) (stored each_one) none w ≤ g.given.size + length w.locals
few_objects g w j =
    let n = g.given.size in
    let o = j.owners each_one in
    let a = total_split n (claims g each_one) (fresh_claim each_one) w in
    let b = total_mono n (Sound g) (claims g each_one) (low_at n) (claim_low g) w
    (λ i v e. (j.each.in_row i v e).sound) (λ i m e. (j.each.in_local i m e).sound) in
    let c = total_low n w j.alone n in
    let d = locals_mono n (fresh_claim each_one) one w.locals (λ i m e. fresh_one m.fresh) in
    let e = count_locals w.locals in omega arith
