-- What the joint rule tells of the values that an actor holds.
use Rattle.lock_row.specs.declared.names.Step.{Step}
use Rattle.lock_row.specs.declared.names.Step.TheVariants as step
use Rattle.std.proofs.Common.{◌≡◌, ◌+◌, ◌≤◌, ◌∷◌, ◌∙◌, ℕ, Bool, true, false, cond, not, List, [], sum_by, Option, Some, None, slice_get, refl, sym, ap, subst, arith, inl, inr, ⊎_elim}
use Rattle.call_history.specs.declared.part.Part.{Part}
use Rattle.call_history.specs.declared.part.PartEnd.{PartEnd}
use Rattle.class_pool.specs.Pool.{PoolState, used_cells}
use Rattle.joint_rule.proofs.Pools.{bit, exactly, failing, list_self, passing, pick, same_is, same_lists, same_pin_is, same_pin_self, same_self, sum_le, sum_same, sum_zero, test_is}
use Rattle.joint_rule.proofs.Sums.{Under, locals_le, locals_over, total_lone, total_split}
use Rattle.joint_rule.specs.Begins.{Begin, image}
use Rattle.joint_rule.specs.Joint.{IsActor, Joint, Sound}
use Rattle.joint_rule.specs.Rule.{owed}
use Rattle.joint_rule.specs.Stages.{CountAt, Names, NoneOf, StageBy, VisitCount}
use Rattle.joint_rule.specs.Weights.{Backs, Count, HeldAll, Huges, PackedBytes, Packs, PinWeigh, Sames, Weigh, ahead, at_place, behind, cell_weight, chains, claim_by, claims, counter, counters, fresh_claim, measure, none, nothing, on_account, out_weight, outs, owing, pages, pin_in, pinned, same, same_pin, shown, stored}
use Rattle.lock_row.specs.Totals.{by_option, held_sum, mass, total}
use Rattle.lock_row.specs.declared.names.At.{At}
use Rattle.lock_row.specs.declared.names.At.TheVariants.{Away, Backed, Both, Counting, Failing, Fetching, Freeing, Giving, Inside, Leaving, Made, Missed, Old, Owing, Pinned, Pinning, Ready, Refusing, Releasing, Seen, Start, Unpinning, Wanting, Sweeping, Moving, Shrunk, Shrinking, Scanning, Marking, Visiting}
use Rattle.lock_row.specs.declared.names.LockNo.{LockNo}
use Rattle.lock_row.specs.declared.names.Object.{Object}
use Rattle.lock_row.specs.declared.names.Pin.{Pin}
use Rattle.lock_row.specs.declared.names.State.{State}
use Rattle.mem_account.specs.Counters.{Counters}
use Rattle.mem_account.specs.declared.weight.Weight.{Weight}
use Rattle.page_steps.specs.Pages.{next_form}
use Rattle.page_steps.specs.Steps.{DiskHeld, Here, entry_in, entry_or, on, slot, spot}
use Rattle.slot_entry.specs.Entries.{EntryState, weight_of}
use Rattle.slot_entry.specs.Forms.{PageForm, same_list}
use Rattle.slot_entry.specs.declared.kept.Kept.{Kept}
use Rattle.slot_entry.specs.declared.kept.Stored.{Stored}
use Rattle.std.proofs.lemmas.Bool.{cases_Bool}
use Rattle.zr_base.specs.Plain.{named}
use Rattle.zspage.specs.Cells.{UsedCell}
use Rattle.lock_row.specs.declared.names.LockNo.TheVariants as lock
use Rattle.lock_row.specs.declared.names.Held.TheVariants as holds
use Rattle.slot_entry.specs.declared.kept.Kept.TheVariants as kept

-- weights of one name, one object, one cell
abbrev pub name_at : ℕ → ℕ → Weigh
name_at c h d g b = pick (same c d) (same h g) 0

abbrev pub object_at : ℕ → ℕ → List ℕ → Weigh
object_at c h b d g e = pick (same c d) (exactly h b g e) 0

abbrev pub cell_at : ℕ → ℕ → PinWeigh
cell_at c h x = pick (same c x.class) (same h x.handle) 0

pub pick_self : (c d x : ℕ) → c ≡ d → pick (same c d) x 0 ≡ x
pick_self c d x e = let s : same c d ≡ 1 = ap (same c) (sym e) ∙ same_self c in rw s refl

pub pick_none : (c d x : ℕ) → same c d ≡ 0 → pick (same c d) x 0 ≡ 0
pick_none c d x e = rw e refl

module _ (g : Begin) where
  abbrev size : ℕ
  size = g.given.size

  -- another place's pool is of another class
  other_class : (c j : ℕ) (p : PoolState) → Sound g j (holds.Class p)
      → at_place (spot size (lock.Class c)) j (holds.Class p) ≡ 0 → same c p.class ≡ 0
  other_class c j p s z = ⊎_elim
      (λ n. n)
      (λ o. absurd (let e : size + c ≡ j = (let a = s.0 in let b = o.1 in omega arith) in
      let q : same (size + c) j ≡ 1 = ap (same (size + c)) (sym e) ∙ same_self (size + c) in
      let none : ⊥ = omega arith in none))
      (same_is c p.class)

  pub under_stored : (c : ℕ) (f : Weigh) → ((d h : ℕ) (b : List ℕ) → same c d ≡ 0 → f d h b ≡ 0)
      → Under size (Sound g) (at_place (spot size (lock.Class c))) (stored f)
  under_stored c f u j (holds.Slot e) s z = refl
  under_stored c f u j (holds.Account n) s z = refl
  under_stored c f u j (holds.Blocks n) s z = refl
  under_stored c f u j (holds.Device n) s z = refl
  under_stored c f u j (holds.Class p) s z = sum_zero (cell_weight (f p.class))
      (λ x. u p.class x.handle x.bytes (other_class c j p s z)) (used_cells p.zspages)

  out_zero : (b : Bool) (n : ℕ) → n ≡ 0 → cond b n 0 ≡ 0
  out_zero true n e = e
  out_zero false n e = refl

  pub under_outs : (c : ℕ) (f : PinWeigh) → ((x : Pin) → same c x.class ≡ 0 → f x ≡ 0)
      → Under size (Sound g) (at_place (spot size (lock.Class c))) (outs f)
  under_outs c f u j (holds.Slot e) s z = refl
  under_outs c f u j (holds.Account n) s z = refl
  under_outs c f u j (holds.Blocks n) s z = refl
  under_outs c f u j (holds.Device n) s z = refl
  under_outs c f u j (holds.Class p) s z = sum_zero (out_weight f p.class)
      (λ x. out_zero x.out (f (pin_in p.class x)) (u (pin_in p.class x) (other_class c j p s z)))
      (used_cells p.zspages)

  pub not_account : (j : ℕ) → j ≡ size + 255 → same (size + 255) j ≡ 0 → ⊥
  not_account j e z = let q : same (size + 255) j ≡ 1 = ap (same (size + 255)) e
      ∙ same_self (size + 255) in omega arith

  pub under_account : (f : Counters → ℕ) → Under size (Sound g) (at_place (spot size lock.Account))
      (on_account f)
  under_account f j (holds.Slot e) s z = refl
  under_account f j (holds.Class p) s z = refl
  under_account f j (holds.Blocks p) s z = refl
  under_account f j (holds.Device p) s z = refl
  under_account f j (holds.Account n) s z = absurd (not_account j s z)

pub none_weight : (q : Count) (x : Option Weight) → NoneOf x → by_option (measure q) x ≡ 0
none_weight q None e = refl
none_weight q (Some x) e = absurd e

pub nothing_shown : (q : Count) → measure q (weight_of kept.Empty) ≡ 0
nothing_shown Sames = refl
nothing_shown Packs = refl
nothing_shown PackedBytes = refl
nothing_shown Huges = refl
nothing_shown Backs = refl

entry_shown : (size : ℕ) (q : Count) (j n : ℕ) (v : DiskHeld) (e : EntryState)
    → measure q (weight_of e.kept) ≤ n → measure q (weight_of (entry_or v e).kept) ≤ shown q j v + n
entry_shown size q j n (holds.Slot x) e le = omega arith
entry_shown size q j n (holds.Class x) e le = omega arith
entry_shown size q j n (holds.Account x) e le = omega arith
entry_shown size q j n (holds.Blocks x) e le = omega arith
entry_shown size q j n (holds.Device x) e le = omega arith

held_shown : (size : ℕ) (q : Count) (xs : List (LockNo × DiskHeld))
    → measure q (weight_of (entry_in xs).kept) ≤ held_sum (spot size) (shown q) xs
held_shown size q [] = let r = nothing_shown q in omega arith
held_shown size q (x ∷ xs) = entry_shown size q (spot size x.0)
    (held_sum (spot size) (shown q) xs) x.1 (entry_in xs) (held_shown size q xs)

behind_visit : (q : Count) (s : Step) (x y : Option Weight) (k : Kept) → VisitCount s x y k
    → by_option (measure q) y ≤ measure q (weight_of k)
behind_visit q step.Putting x y k c = let r = c.behind q in omega arith
behind_visit q s x y k c = let r = none_weight q y c.1 in omega arith

behind_at : (q : Count) (at : At) (x y : Option Weight) (f : PageForm) (k : Kept)
    → CountAt at x y f k → by_option (measure q) y ≤ measure q (weight_of k)
behind_at q Start x y f k c = let r = none_weight q y c.1 in omega arith
behind_at q Refusing x y f k c = let r = none_weight q y c.1 in omega arith
behind_at q Seen x y f k c = let r = none_weight q y c.1 in omega arith
behind_at q Pinning x y f k c = let r = none_weight q y c.1 in omega arith
behind_at q Pinned x y f k c = let r = none_weight q y c.1 in omega arith
behind_at q Unpinning x y f k c = let r = none_weight q y c.1 in omega arith
behind_at q Leaving x y f k c = let r = none_weight q y c.1 in omega arith
behind_at q Away x y f k c = let r = none_weight q y c.1 in omega arith
behind_at q Fetching x y f k c = let r = none_weight q y c.1 in omega arith
behind_at q Failing x y f k c = let r = none_weight q y c.1 in omega arith
behind_at q Counting x y f k c = let r = none_weight q y c.1 in omega arith
behind_at q Missed x y f k c = let r = none_weight q y c.1 in omega arith
behind_at q Backed x y f k c = let r = none_weight q y c.1 in omega arith
behind_at q Releasing x y f k c = let r = none_weight q y c.1 in omega arith
behind_at q Wanting x y f k c = let r = none_weight q y c.1 in omega arith
behind_at q Inside x y f k c = let r = none_weight q y c.1 in omega arith
behind_at q Both x y f k c = let r = none_weight q y c.1 in omega arith
behind_at q Made x y f k c = let r = none_weight q y c.1 in omega arith
behind_at q Old x y f k c = let r = none_weight q y c.1 in omega arith
behind_at q Freeing x y f k c = let r = none_weight q y c.1 in omega arith
behind_at q Owing x y f k c = let r = none_weight q y c.1 in omega arith
behind_at q Giving x y f k c = let r = none_weight q y c.1 in omega arith
behind_at q (Scanning z) x y f k c = let r = none_weight q y c.1 in omega arith
behind_at q (Marking z) x y f k c = let r = none_weight q y c.1 in omega arith
behind_at q (Visiting s z) x y f k c = behind_visit q s x y k c
behind_at q (Sweeping z) x y f k c = let r = none_weight q y c.1 in omega arith
behind_at q (Moving z) x y f k c = let r = none_weight q y c.1 in omega arith
behind_at q (Shrunk z) x y f k c = let r = none_weight q y c.1 in omega arith
behind_at q (Shrinking z) x y f k c = let r = none_weight q y c.1 in omega arith
behind_at q Ready x y f k c = let r = c.behind q in omega arith

module _ (g : Begin) where
  behind_by : (q : Count) (ps : List Part) (e : EntryState) (at : At) (fresh : Option Object)
      (pin : Option Pin) (owed : ℕ) (x y : Option Weight) (page : Option (List ℕ))
      (fail : Option PartEnd)
      → StageBy g ps e at fresh pin owed x y page fail → by_option (measure q) y
      ≤ measure q (weight_of e.kept)
  behind_by q [] e at fresh pin owed x y page fail s = let r = none_weight q y s.less in omega arith
  behind_by q (p ∷ ps) e at fresh pin owed x y page fail s =
      behind_at q at x y (next_form p page e.kept) e.kept s.counts

  -- what an actor doesn't count any more, its entry shows
  pub behind_shown : {a : ℕ} (q : Count) (m : Here) → IsActor g a m
      → behind q m ≤ held_sum (spot g.given.size) (shown q) m.held
  behind_shown q m f =
      let r = behind_by q m.todo (entry_in m.held) m.at m.fresh m.pin m.owed m.ahead m.behind m.page
      m.fail f.stage in
      let s = held_shown g.given.size q m.held in omega arith

module _ (g : Begin) (w : State DiskHeld) (j : Joint g w) (a : ℕ) (l : Here)
    (who : slice_get w.locals a ≡ Some l) where
  abbrev n : ℕ
  n = g.given.size

  pub lone : (k : LockNo) (f : ℕ → DiskHeld → ℕ) → Under n (Sound g) (at_place (spot n k)) f
      → 1 ≤ held_sum (spot n) (at_place (spot n k)) l.held
      → total (spot n) f none w ≡ held_sum (spot n) f l.held
  lone k f u m = let z = j.alone (spot n k) in total_lone n (Sound g) (at_place (spot n k)) f u w
      (λ i v e. (j.each.in_row i v e).sound) (λ b m e. (j.each.in_local b m e).sound) a l who
      (omega arith)

  -- it holds a pool and the slot of an entry that names one of its objects
  module _ (s : ℕ) (o : Stored) (q : PoolState) (e : EntryState)
      (held : l.held ≡ (lock.Class o.class, holds.Class q) ∷ (slot s, holds.Slot e) ∷ [])
      (is : e.kept ≡ kept.Obj o) where
    abbrev b : List ℕ
    b = image g s e.order

    pub mine : 1 ≤ held_sum (spot n) (at_place (spot n (lock.Class o.class))) l.held
    mine = let r = ap (held_sum (spot n) (at_place (spot n (lock.Class o.class)))) held in
        let k = same_self (n + o.class) in omega arith

    pub sound : Sound g (spot n (lock.Class o.class)) (holds.Class q)
    sound = (subst (HeldAll n (Sound g)) held (j.each.in_local a l who).sound).0

    pub class_is : q.class ≡ o.class
    class_is = let k = sound.0 in omega arith

    -- the pool's object of that name has the page's bytes
    pub object_is : (u : UsedCell) → ((f : ℕ → List ℕ → ℕ)
        → cell_weight f u ≤ sum_by (cell_weight f) (used_cells q.zspages)) → u.handle ≡ o.handle.0
        → u.bytes ≡ b
    object_is u there named =
        let f : Weigh = object_at o.class o.handle.0 b in
        let eq = j.owners f in
        let t : total (spot n) (stored f) none w ≡ held_sum (spot n) (stored f) l.held =
        lone (lock.Class o.class) (stored f) (under_stored g o.class f
        (λ d h x z. pick_none o.class d (exactly o.handle.0 b h x) z)) mine in
        let x : held_sum (spot n) (stored f) l.held ≡ sum_by (cell_weight (f q.class))
        (used_cells q.zspages) + 0 = (ap (held_sum (spot n) (stored f)) held ∙ omega arith) in
        let y : held_sum (spot n) (claims g f) l.held ≡ claim_by f e.kept b + 0 =
        (ap (held_sum (spot n) (claims g f)) held ∙ omega arith) in
        let m = locals_le n (mass (spot n) (claims g f) (fresh_claim f)) w.locals a l who in
        let u1 : claim_by f e.kept b ≡ 1 = ap (λ k. claim_by f k b) is
        ∙ (pick_self o.class o.class (exactly o.handle.0 b o.handle.0 b) refl
        ∙ (pick_self o.handle.0 o.handle.0 (bit (same_list b b)) refl ∙ ap bit (list_self b)))
        in
        let v : sum_by (cell_weight (f q.class)) (used_cells q.zspages)
        ≡ sum_by (cell_weight (exactly o.handle.0 b)) (used_cells q.zspages) =
        sum_same (cell_weight (f q.class)) (cell_weight (exactly o.handle.0 b))
        (λ i. pick_self o.class q.class (exactly o.handle.0 b i.handle i.bytes) (sym class_is))
        (used_cells q.zspages) in
        sym (same_lists b u.bytes (test_is o.handle.0 (λ i. same_list b i.bytes) u
        (used_cells q.zspages) (sound.1.once o.handle.0) (omega arith)
        (there (λ i c. pick (same o.handle.0 i) (bit (not (same_list b c))) 0)) named))

    -- the pool's cells that are out weigh what actors have pinned
    module _ (x : Pin) (is_pin : l.pin ≡ Some x) (of : Names e.kept x) where
      names_it : Names (kept.Obj o) x
      names_it = subst (λ k. Names k x) is of

      abbrev one_pin : PinWeigh
      one_pin y = bit (same_pin x y)

      no_other : (y : Pin) → same o.class y.class ≡ 0 → one_pin y ≡ 0
      no_other y z = elim (cases_Bool (same_pin x y)) [
        | inl on ↦ absurd (
            let c : o.class ≡ y.class = sym names_it.0 ∙ ap (λ (v : Pin). v.class)
            (same_pin_is x y on) in
            let e1 : same o.class y.class ≡ 1 = ap (same o.class) (sym c) ∙ same_self o.class in
            let no : ⊥ = omega arith in no)
        | inr off ↦ ap bit off
      ]

      pub pin_out : 1 ≤ sum_by (out_weight one_pin q.class) (used_cells q.zspages)
      pin_out =
          let t = lone (lock.Class o.class) (outs one_pin)
          (under_outs g o.class one_pin no_other) mine in
          let y : held_sum (spot n) (outs one_pin) l.held
          ≡ sum_by (out_weight one_pin q.class) (used_cells q.zspages) + 0 =
          (ap (held_sum (spot n) (outs one_pin)) held ∙ omega arith) in
          let m = locals_le n (mass (spot n) nothing (pinned one_pin)) w.locals a l who in
          let z : pinned one_pin l ≡ 1 = ap (by_option one_pin) is_pin ∙ ap bit (same_pin_self x) in
          let eq = j.pins one_pin in omega arith

      is_passing : (u : UsedCell) → out_weight one_pin q.class u
          ≤ passing x.handle (λ i. same_pin x (pin_in q.class i)) u
      is_passing u = elim (cases_Bool (same_pin x (pin_in q.class u))) [
        | inl on ↦ (let h : same x.handle u.handle ≡ 1 =
            ap (same x.handle) (sym (ap (λ (v : Pin). v.handle)
            (same_pin_is x (pin_in q.class u) on))) ∙ same_self x.handle in
            rw (on, h) (at_most u.out))
        | inr off ↦ rw off (let z = out_zero g u.out 0 refl in omega arith)
      ] where
        at_most : (b : Bool) → cond b 1 0 ≤ 1
        at_most true = omega arith
        at_most false = omega arith

      -- the used cell of that handle is the one that was pinned
      pub pin_is : (u : UsedCell) → ((f : UsedCell → ℕ) → f u ≤ sum_by f (used_cells q.zspages))
          → u.handle ≡ x.handle → pin_in q.class u ≡ x
      pin_is u there named =
          let r = pin_out in
          let s = sum_le (out_weight one_pin q.class) (passing x.handle
          (λ i. same_pin x (pin_in q.class i))) is_passing (used_cells q.zspages) in
          sym (same_pin_is x (pin_in q.class u) (test_is x.handle
          (λ i. same_pin x (pin_in q.class i)) u (used_cells q.zspages) (sound.1.once x.handle)
          (omega arith) (there (failing x.handle (λ i. same_pin x (pin_in q.class i)))) named))

  -- the account
  module _ (c : Counters) (rest : List (LockNo × DiskHeld))
      (held : l.held ≡ (lock.Account, holds.Account c) ∷ rest) where
    pub mine_account : 1 ≤ held_sum (spot n) (at_place (spot n lock.Account)) l.held
    mine_account = let r = ap (held_sum (spot n) (at_place (spot n lock.Account))) held in
        let k = same_self (n + 255) in omega arith

    pub can_repay : held_sum (spot n) pages rest ≡ 0 → l.owed ≤ c.pages
    can_repay z0 =
        let z = lone lock.Account pages (under_account g (λ c. c.pages)) mine_account in
        let q = ap (held_sum (spot n) pages) held in
        let m = locals_le n (mass (spot n) chains owing) w.locals a l who in
        let f = j.frames in omega arith

    -- what is counted of a page, the account counts
    module _ (z0 : (q : Count) → held_sum (spot n) (counters q) rest ≡ 0)
        (quiet : NoneOf l.behind) where
      pub has_counted : (q : Count) → mass (spot n) (shown q) (ahead q) l ≤ counter q c
      has_counted q =
          let z = lone lock.Account (counters q) (under_account g (counter q)) mine_account in
          let r = ap (held_sum (spot n) (counters q)) held in
          let x = z0 q in
          let s = total_split n (counters q) (behind q) w in
          let m = locals_over n (behind q) (mass (spot n) (shown q) (ahead q)) w.locals
          (λ i k at. let y = behind_shown g q k (j.each.in_local i k at) in
          omega arith) a l who in
          let o : behind q l ≡ 0 = none_weight q l.behind quiet in
          let f = j.counts q in omega arith
