-- What a writeback that has found its mark, or lost it, knows of its page.
use Rattle.std.proofs.Common.{◌≡◌, ◌+◌, ◌≤◌, ◌<◌, ◌∷◌, ◌∙◌, ◌&&◌, ℕ, Bool, true, false, cond, is_none, List, [], map, Option, Some, None, slice_get, refl, sym, ap, subst, arith, ⊎_elim, eqb}
use Rattle.call_history.specs.declared.part.Part.{Part}
use Rattle.call_history.specs.declared.part.PartEnd.{PartEnd}
use Rattle.joint_rule.proofs.Blockings.{mark_is, won_page}
use Rattle.joint_rule.proofs.Lookups.{lone}
use Rattle.joint_rule.proofs.Places.{IsEntry, entry_kind}
use Rattle.joint_rule.proofs.Pools.{list_self, same_is, same_self}
use Rattle.joint_rule.proofs.Sums.{Under, locals_le}
use Rattle.joint_rule.specs.Begins.{Begin, content}
use Rattle.joint_rule.specs.Joint.{Joint, Sound}
use Rattle.joint_rule.specs.Laws.{has_won}
use Rattle.joint_rule.specs.Stages.{HasSome, IsUnmarked, IsVisiting, NoneOf, QuitAt, Stage, StageBy, locks_at, locks_by}
use Rattle.plain_disk.specs.Phases.{foreign}
use Rattle.joint_rule.specs.Weights.{HeldAll, at_place, carries, carries_at, is_carrying, is_written, lies_at, mark_at, mark_by, marks_of, none, pair, same, shows_at, stored_at, written_at, written_by}
use Rattle.lock_row.specs.Totals.{held_sum, mass, total}
use Rattle.lock_row.specs.declared.names.At.{At}
use Rattle.lock_row.specs.declared.names.At.TheVariants.{Start, Visiting}
use Rattle.lock_row.specs.declared.names.LockNo.{LockNo}
use Rattle.lock_row.specs.declared.names.State.{State}
use Rattle.lock_row.specs.declared.names.Step.{Step}
use Rattle.lock_row.specs.declared.names.Step.TheVariants as step
use Rattle.lock_row.specs.declared.names.Trip.{Trip}
use Rattle.page_steps.specs.Pages.{new_class}
use Rattle.page_steps.specs.Steps.{DiskHeld, Here, class_by, entry_in, is_mark_of, slot, spot}
use Rattle.slot_entry.specs.Entries.{EntryState}
use Rattle.std.proofs.lemmas.Bool.{eq-eqb, eqb-false, ne_eqb}
use Rattle.lock_row.specs.declared.names.LockNo.TheVariants as lock
use Rattle.lock_row.specs.declared.names.Held.TheVariants as holds

-- ---- the entry in hand

module _ (g : Begin) (s : ℕ) (low : s < g.given.size) where
  to_entry : (v : DiskHeld) → IsEntry v → (e : EntryState) × (v ≡ holds.Slot e)
  to_entry (holds.Slot e) i = (e, refl)
  to_entry (holds.Class p) i = absurd i
  to_entry (holds.Account c) i = absurd i
  to_entry (holds.Blocks x) i = absurd i
  to_entry (holds.Device x) i = absurd i

  -- the slot of the page is held alone
  one_held : (xs : List (LockNo × DiskHeld)) → map (λ (x : LockNo × DiskHeld). x.0) xs ≡ slot s ∷ []
      → HeldAll g.given.size (Sound g) xs → (e : EntryState) × (xs ≡ (slot s, holds.Slot e) ∷ [])
  one_held [] e all = absurd (cc)
  one_held (x ∷ y ∷ ys) e all = absurd (cc)
  one_held (x ∷ []) e all =
      let x_is : x.0 ≡ slot s = cc in
      let d = to_entry x.1 (entry_kind g s low x.1
      (subst (λ (i : LockNo). Sound g (spot g.given.size i) x.1) x_is all.0)) in
      (d.0, λ i. (x_is i, d.1 i) ∷ [])

  -- or under another lock
  two_held : (k : LockNo) → g.given.size ≤ spot g.given.size k → (xs : List (LockNo × DiskHeld))
      → map (λ (x : LockNo × DiskHeld). x.0) xs ≡ k ∷ slot s ∷ [] → HeldAll g.given.size (Sound g) xs
      → (v : DiskHeld) × (e : EntryState) × (xs ≡ (k, v) ∷ (slot s, holds.Slot e) ∷ [])
  two_held k far [] e all = absurd (cc)
  two_held k far (x ∷ []) e all = absurd (cc)
  two_held k far (x ∷ y ∷ z ∷ zs) e all = absurd (cc)
  two_held k far (x ∷ y ∷ []) e all =
      let x_is : x.0 ≡ k = cc in let y_is : y.0 ≡ slot s = cc in
      let d = to_entry y.1 (entry_kind g s low y.1
      (subst (λ (i : LockNo). Sound g (spot g.given.size i) y.1) y_is all.1.0)) in
      (x.1, d.0, λ i. (x_is i, x.1) ∷ (y_is i, d.1 i) ∷ [])

  -- the other one is no entry
  no_entry : (k : LockNo) → g.given.size ≤ spot g.given.size k → (v : DiskHeld) (e : EntryState) (rest : List (LockNo × DiskHeld))
      → Sound g (spot g.given.size k) v → entry_in ((k, v) ∷ (slot s, holds.Slot e) ∷ rest) ≡ e
  no_entry k far (holds.Slot d) e rest so = absurd (let z = so.page in let no : ⊥ = omega arith in no)
  no_entry k far (holds.Class q) e rest so = refl
  no_entry k far (holds.Account c) e rest so = refl
  no_entry k far (holds.Blocks y) e rest so = refl
  no_entry k far (holds.Device d) e rest so = refl

  -- so the slot's entry weighs at least so much
  one_weighs : (f : ℕ → DiskHeld → ℕ) (xs : List (LockNo × DiskHeld))
      → map (λ (x : LockNo × DiskHeld). x.0) xs ≡ slot s ∷ [] → HeldAll g.given.size (Sound g) xs
      → f s (holds.Slot (entry_in xs)) ≤ held_sum (spot g.given.size) f xs
  one_weighs f xs names all =
      let x = one_held xs names all in
      let r = ap (held_sum (spot g.given.size) f) x.1 in
      let q = ap (λ (ys : List (LockNo × DiskHeld)). f s (holds.Slot (entry_in ys))) x.1 in omega arith

  two_weighs : (f : ℕ → DiskHeld → ℕ) (k : LockNo) → g.given.size ≤ spot g.given.size k → (xs : List (LockNo × DiskHeld))
      → map (λ (x : LockNo × DiskHeld). x.0) xs ≡ k ∷ slot s ∷ [] → HeldAll g.given.size (Sound g) xs
      → f s (holds.Slot (entry_in xs)) ≤ held_sum (spot g.given.size) f xs
  two_weighs f k far xs names all =
      let x = two_held k far xs names all in
      let so : Sound g (spot g.given.size k) x.0 = (subst (HeldAll g.given.size (Sound g)) x.2 all).0 in
      let e = no_entry k far x.0 x.1 [] so in
      let r = ap (held_sum (spot g.given.size) f) x.2 in
      let q = ap (λ (ys : List (LockNo × DiskHeld)). f s (holds.Slot (entry_in ys))) x.2 in
      let t = ap (λ (y : EntryState). f s (holds.Slot y)) e in omega arith

-- ---- steps

won_carries : (s : Step) → has_won s ≡ true → is_carrying s ≡ true
won_carries step.Won i = refl
won_carries step.Freeing i = refl
won_carries step.Backing i = refl
won_carries step.Committing i = refl
won_carries step.Owing i = refl
won_carries step.Paying i = refl
won_carries step.Putting i = refl
won_carries s i = absurd (cc)

won_writes : (s : Step) → has_won s ≡ true → (is_written s && is_carrying s) ≡ true
won_writes step.Won i = refl
won_writes step.Freeing i = refl
won_writes step.Backing i = refl
won_writes step.Committing i = refl
won_writes step.Owing i = refl
won_writes step.Paying i = refl
won_writes step.Putting i = refl
won_writes s i = absurd (cc)

won_mark : (g : Begin) (s : Step) (x : Trip) (e : EntryState) (page : Option (List ℕ))
    (fail : Option PartEnd) → IsVisiting g s x e page fail → has_won s ≡ true
    → HasSome x.block × (is_mark_of x.block e.under ≡ true)
won_mark g step.Won x e page fail v i = (v.step.1, v.step.0.mark)
won_mark g step.Freeing x e page fail v i = (v.step.1, v.step.0.mark)
won_mark g step.Backing x e page fail v i = (v.step.1, v.step.0.mark)
won_mark g step.Committing x e page fail v i = (v.step.1, v.step.0.mark)
won_mark g step.Owing x e page fail v i = (v.step.1, v.step.0.mark)
won_mark g step.Paying x e page fail v i = (v.step.1, v.step.0.mark)
won_mark g step.Putting x e page fail v i = (v.step.1, v.step.0.mark)
won_mark g s x e page fail v i = absurd (cc)

won_well : (g : Begin) (p : Part) (s : Step) (x : Trip) (fail : Option PartEnd) → QuitAt g p s x fail
    → has_won s ≡ true → NoneOf fail
won_well g p step.Won x fail q i = q
won_well g p step.Freeing x fail q i = q
won_well g p step.Backing x fail q i = q
won_well g p step.Committing x fail q i = q
won_well g p step.Owing x fail q i = q
won_well g p step.Paying x fail q i = q
won_well g p step.Putting x fail q i = q
won_well g p s x fail q i = absurd (cc)

is_some_block : (o : Option ℕ) → HasSome o → (b : ℕ) × (o ≡ Some b)
is_some_block None i = absurd i
is_some_block (Some b) i = (b, refl)

none_well : (x : Option PartEnd) → NoneOf x → is_none x ≡ true
none_well None i = refl
none_well (Some x) i = absurd i

-- ---- the laws

module _ (g : Begin) (w : State DiskHeld) (j : Joint g w) (a : ℕ) (l : Here)
    (who : slice_get w.locals a ≡ Some l) (s : Step) (x : Trip) (at : l.at ≡ Visiting s x) where
  -- what it is at
  here : (p : Part) × (rest : List Part) × (l.todo ≡ p ∷ rest)
      × Stage g p (entry_in l.held) (Visiting s x) l.fresh l.pin l.owed l.ahead l.behind l.page l.fail
  here = by_todo l.todo refl where
    by_todo : (ps : List Part) → l.todo ≡ ps → (p : Part) × (rest : List Part) × (l.todo ≡ p ∷ rest)
        × Stage g p (entry_in l.held) (Visiting s x) l.fresh l.pin l.owed l.ahead l.behind l.page
        l.fail
    by_todo [] todo = absurd (
        let q = subst (λ (ts : List Part). StageBy g ts (entry_in l.held) l.at l.fresh l.pin l.owed
        l.ahead l.behind l.page l.fail) todo (j.each.in_local a l who).stage in
        let z : Start ≡ Visiting s x = sym q.begun ∙ at in cc)
    by_todo (p ∷ rest) todo = (
      p,
      rest,
      todo,
      subst (λ (y : List Part × At). StageBy g y.0
          (entry_in l.held) y.1 l.fresh l.pin l.owed l.ahead l.behind l.page l.fail)
          (λ i. (todo i, at i)) (j.each.in_local a l who).stage,
    )

  st : Stage g here.0 (entry_in l.held) (Visiting s x) l.fresh l.pin l.owed l.ahead l.behind l.page
      l.fail
  st = here.3

  low : x.page < g.given.size
  low = st.visits.trip.page

  -- its locks
  names : map (λ (y : LockNo × DiskHeld). y.0) l.held
      ≡ locks_at (Visiting s x) here.0 (class_by (entry_in l.held).kept)
      (new_class g.chain (here.0 ∷ here.1) l.page (entry_in l.held).kept)
  names = subst (λ (y : List Part × At). map (λ (y : LockNo × DiskHeld). y.0) l.held
      ≡ locks_by y.0 y.1 (class_by (entry_in l.held).kept)
      (new_class g.chain y.0 l.page (entry_in l.held).kept)) (λ i. (here.2 i, at i))
      (j.each.in_local a l who).locks

  abbrev e : EntryState
  e = entry_in l.held

  abbrev Weighs : Step → Type 0
  Weighs t = (f : ℕ → DiskHeld → ℕ) → map (λ (y : LockNo × DiskHeld). y.0) l.held
      ≡ locks_at (Visiting t x) here.0 (class_by e.kept)
      (new_class g.chain (here.0 ∷ here.1) l.page e.kept)
      → f x.page (holds.Slot e) ≤ held_sum (spot g.given.size) f l.held

  sound : HeldAll g.given.size (Sound g) l.held
  sound = (j.each.in_local a l who).sound

  won_weighs : (t : Step) → has_won t ≡ true → Weighs t
  won_weighs step.Won i f is = one_weighs g x.page low f l.held is sound
  won_weighs step.Freeing i f is =
      two_weighs g x.page low f (lock.Class (class_by e.kept)) (omega arith) l.held is sound
  won_weighs step.Backing i f is = one_weighs g x.page low f l.held is sound
  won_weighs step.Committing i f is =
      two_weighs g x.page low f lock.Blocks (omega arith) l.held is sound
  won_weighs step.Owing i f is = one_weighs g x.page low f l.held is sound
  won_weighs step.Paying i f is =
      two_weighs g x.page low f lock.Account (omega arith) l.held is sound
  won_weighs step.Putting i f is = one_weighs g x.page low f l.held is sound
  won_weighs t i f is = absurd (cc)

  module _ (won : has_won s ≡ true) (page : List ℕ) (copied : l.page ≡ Some page) where
    -- the page that it carries is what its page holds
    pub keeps_page : page ≡ content g x.page e.order
    keeps_page =
        let v = won_mark g s x e l.page l.fail st.visits won in
        let b = is_some_block x.block v.0 in
        let there = mark_is x.block e.under b.0 b.1 v.1 in
        let bytes = content g x.page e.order in
        let one : mark_by x.page b.0 bytes x.page e.under bytes ≡ 1 =
        ap (λ (u : Option ℕ). mark_by x.page b.0 bytes x.page u bytes) there
        ∙ rw (eq-eqb x.page x.page refl, eq-eqb b.0 b.0 refl, list_self bytes) refl in
        let r = won_weighs s won (mark_at g x.page b.0 bytes) names in
        won_page g w j a l who s x at b.0 b.1 (won_carries s won) bytes page copied (omega arith)

    -- and its block has it
    pub has_page : (b : ℕ) → x.block ≡ Some b → 0 < total (spot g.given.size) (stored_at b page) none w
    has_page b block =
        let well = none_well l.fail (won_well g here.0 s x l.fail st.fails won) in
        let z : written_at b page l ≡ 1 =
        (λ i. cond (well i) (written_by b page (at i) (copied i)) 0)
        ∙ ap (λ (k : Bool). cond k (pair b page x.block (Some page)) 0) (won_writes s won)
        ∙ ap (λ (k : Option ℕ). pair b page k (Some page)) block
        ∙ rw (eq-eqb b b refl, list_self page) refl in
        let y = locals_le g.given.size (mass (spot g.given.size) (lies_at g b page) (written_at b page)) w.locals a l who in
        j.disk b page (omega arith)

-- where its mark is gone, another actor's tag is in the page's order
module _ (g : Begin) (w : State DiskHeld) (j : Joint g w) (a : ℕ) (l : Here)
    (who : slice_get w.locals a ≡ Some l) (x : Trip) (at : l.at ≡ Visiting step.Losing x)
    (well : l.fail ≡ None) where
  abbrev mine : EntryState
  mine = entry_in l.held

  under_shows : (b : ℕ) → Under g.given.size (Sound g) (at_place (spot g.given.size (slot x.page))) (shows_at a x.page b)
  under_shows b i (holds.Slot d) so z =
      ap (λ (k : Bool). cond k (marks_of b d.under + foreign a d.order) 0)
      (ne_eqb x.page i (λ q. let r : same x.page i ≡ 1 = ap (same x.page) (sym q)
      ∙ same_self x.page in let no : ⊥ = omega arith in no))
  under_shows b i (holds.Class d) so z = refl
  under_shows b i (holds.Account d) so z = refl
  under_shows b i (holds.Blocks d) so z = refl
  under_shows b i (holds.Device d) so z = refl

  no_marks : (block under : Option ℕ) (b : ℕ) → block ≡ Some b → is_mark_of block under ≡ false
      → marks_of b under ≡ 0
  no_marks block None b is off = refl
  no_marks block (Some c) b is off =
      let q : eqb b c ≡ false = ap (λ (o : Option ℕ). is_mark_of o (Some c)) (sym is) ∙ off in
      ⊎_elim (λ z. z) (λ o. absurd (eqb-false b c q o.1)) (same_is b c)

  pub has_other : 1 ≤ foreign a mine.order
  has_other =
      let s = st g w j a l who step.Losing x at in
      let p = low g w j a l who step.Losing x at in
      let b = is_some_block x.block s.visits.step.1 in
      let d = one_held g x.page p l.held (names g w j a l who step.Losing x at)
      (sound g w j a l who step.Losing x at) in
      let entry : mine ≡ d.0 = ap entry_in d.1 in
      let carries_it : carries l ≡ Some (x.page, b.0) =
      ap carries_at at ∙ ap (λ (o : Option ℕ). carries_at (Visiting step.Losing (record x { block = o })))
      b.1 in
      let t = j.carriers a l x.page b.0 who carries_it in
      let q = lone g w j a l who (slot x.page) (shows_at a x.page b.0) (under_shows b.0)
      (let r = ap (held_sum (spot g.given.size) (at_place x.page)) d.1 in let q = same_self x.page in omega arith)
      in
      let r = ap (held_sum (spot g.given.size) (shows_at a x.page b.0)) d.1 in
      let gone = subst (λ (y : Option PartEnd). IsUnmarked y x.block mine.under) well
      s.visits.step.0.gone in
      let z = no_marks x.block mine.under b.0 b.1 gone in
      let u : shows_at a x.page b.0 x.page (holds.Slot d.0)
      ≡ marks_of b.0 d.0.under + foreign a d.0.order =
      ap (λ (k : Bool). cond k (marks_of b.0 d.0.under + foreign a d.0.order) 0)
      (eq-eqb x.page x.page refl) in
      let m = ap (λ (y : EntryState). marks_of b.0 y.under) entry in
      let f = ap (λ (y : EntryState). foreign a y.order) entry in omega arith
