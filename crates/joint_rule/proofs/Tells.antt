-- Each turn keeps orders, what they make of pages, and what pieces have read.
use Rattle.plain_disk.specs.Idles.{may_write}
use Rattle.joint_rule.proofs.Courses.{Course, IsCourse, course_of, carries_of}
use Rattle.std.proofs.Common.{◌≡◌, ◌≢◌, ◌+◌, ◌*◌, ◌-◌, ◌≤◌, ◌∷◌, ◌++◌, ◌∙◌, ◌⊎◌, ℕ, zero, suc, Bool, true, false, cond, eqb, List, [], length, take, Option, Some, None, slice_get, slice_set, refl, sym, ap, subst, arith, inl, inr, ⊎_elim, length-append}
use Rattle.call_history.specs.Parts.{got_by, is_carried, is_on, is_read, left_by, stands_so, without}
use Rattle.call_history.specs.Shows.{Grown, SeesSo, ShowsPage, got_from, tag_by}
use Rattle.call_history.specs.declared.part.Done.{Done}
use Rattle.call_history.specs.declared.part.Part.{Part}
use Rattle.call_history.specs.declared.part.PartEnd.{PartEnd}
use Rattle.call_history.specs.declared.part.PartEnd.TheVariants.{AtLimit, Carried, Eio, NoMemory, Whole}
use Rattle.joint_rule.proofs.Chosen.{Chosen, FindsSo}
use Rattle.joint_rule.proofs.Events.{Event}
use Rattle.joint_rule.proofs.Facts.{Known}
use Rattle.joint_rule.proofs.Gifts.{Gift, is_named, stage}
use Rattle.joint_rule.proofs.Givings.{event_is, given_lock}
use Rattle.joint_rule.proofs.Pages.{content_carries, seen_by, sees_any}
use Rattle.joint_rule.proofs.Pools.{same_self}
use Rattle.joint_rule.proofs.Sums.{each_take, get_else, get_here, get_set, gone, locals_two}
use Rattle.joint_rule.specs.Begins.{Begin, back_at, content, piece_on, pieces_on, terms}
use Rattle.joint_rule.specs.Joint.{Joint}
use Rattle.joint_rule.specs.Rule.{FindHeld, OfOrder, ShowsOrder, Told, done_by, dones, owed, owed_by}
use Rattle.joint_rule.specs.Stages.{Changes, FailBy, IsFault}
use Rattle.joint_rule.specs.Weights.{HeldAll, at_place, none, same}
use Rattle.lock_row.specs.Totals.{held_sum, mass}
use Rattle.lock_row.specs.declared.names.At.TheVariants.{Leaving, Missed, Ready, Marking}
use Rattle.lock_row.specs.declared.names.LockNo.{LockNo}
use Rattle.lock_row.specs.declared.names.Plan.TheVariants.{Give, Take}
use Rattle.lock_row.specs.declared.names.State.{State}
use Rattle.page_steps.specs.Pages.{page_in}
use Rattle.page_steps.specs.Steps.{DiskHeld, Here, lock_of, on, piece_over, plan, slot, spot, took}
use Rattle.plain_disk.specs.Ends.{is_single}
use Rattle.plain_disk.specs.Phases.{begun}
use Rattle.slot_entry.specs.Entries.{EntryState}
use Rattle.std.proofs.lemmas.Bool.{and_left, and_right, cases_Bool, eq-eqb, ne_eqb}
use Rattle.zr_base.specs.Plain.{named}
use Rattle.zr_base.specs.Sectors.{page_sector}
use Rattle.zr_base.specs.declared.op.Op.{Op}
use Rattle.zr_base.specs.declared.op.Op.TheVariants.{Compact, Discard, Idle, Read, Write, Writeback}
use Rattle.zr_base.specs.declared.op.Tag.{Tag}
use mathlib.Core.Logic.{dite}
use mathlib.Core.Path.{fun_ext}
use native.Mathlib.Decide.{ℕ_discrete}
use Rattle.joint_rule.proofs.Events as event
use Rattle.joint_rule.proofs.Courses as course
use Rattle.lock_row.specs.declared.names.Held.TheVariants as holds
use Rattle.zr_base.specs.declared.op.OpEnd.TheVariants as ends

-- ---- locals

dones_here : (ls : List Here) (a : ℕ) (l m : Here) → slice_get ls a ≡ Some l
    → dones (slice_set ls a m) a ≡ m.done
dones_here ls a l m who = ap done_by (get_here ls a m l who)

dones_else : (ls : List Here) (a b : ℕ) (m : Here) → b ≢ a → dones (slice_set ls a m) b ≡ dones ls b
dones_else ls a b m ne = ap done_by (get_else ls a b m ne)

dones_same : (ls : List Here) (a : ℕ) (l m : Here) → slice_get ls a ≡ Some l → m.done ≡ l.done
    → dones ls ≡ dones (slice_set ls a m)
dones_same ls a l m who e = fun_ext (λ b. dite (ℕ_discrete b a)
    (λ s. subst (λ (c : ℕ). dones ls c ≡ dones (slice_set ls a m) c) (sym s) (ap done_by who
    ∙ sym (dones_here ls a l m who ∙ e)))
    (λ ne. sym (dones_else ls a b m ne)))

dones_grown : (ls : List Here) (a : ℕ) (l m : Here) (d : Done) → slice_get ls a ≡ Some l
    → m.done ≡ l.done ++ d ∷ [] → Grown (dones ls) (dones (slice_set ls a m)) a d
dones_grown ls a l m d who more = record {
  here = dones_here ls a l m who ∙ more ∙ ap (λ (o : Option Here). done_by o ++ d ∷ []) (sym who);
  others = λ b ne. dones_else ls a b m ne;
}

module _ (size page : ℕ) where
  fewer_on : (nr : ℕ) (ps : List Part) → pieces_on size page (without nr ps)
      ≤ pieces_on size page ps
  fewer_on nr [] = omega arith
  fewer_on nr (p ∷ ps) = let r = fewer_on nr ps in elim
      (cases_Bool (eqb p.nr nr)) [ inl on ↦ rw on (omega arith) | inr off ↦ rw off (omega arith) ]

  left_on : (end : PartEnd) (nr : ℕ) (ps : List Part) → pieces_on size page (left_by end nr ps)
      ≤ pieces_on size page ps
  left_on end nr ps = elim (cases_Bool (is_carried end)) [
    | inl on ↦ rw on
        (omega arith)
    | inr off ↦ rw off (fewer_on nr ps)
  ]

-- a piece that is on the disk is on its page
pub once : (size : ℕ) (p : Part) → is_single size p.op ≡ false → piece_on size p.page p ≡ 1
once size p off =
    ap (λ (b : Bool). cond {A = ℕ} b 0 (cond (eqb p.page p.page) 1 0)) off
    ∙ ap (λ (b : Bool). cond {A = ℕ} b 1 0) (eq-eqb p.page p.page refl)

-- ---- orders

orders_map : (P Q : ℕ → List Tag → ℕ → Type 0) (j : ℕ) → ((o : List Tag) (r : ℕ) → P j o r
    → Q j o r) → (v : DiskHeld) → OfOrder P j v → OfOrder Q j v
orders_map P Q j f (holds.Slot e) h = f e.order e.room h
orders_map P Q j f (holds.Class e) h = tt
orders_map P Q j f (holds.Account e) h = tt
orders_map P Q j f (holds.Blocks e) h = tt
orders_map P Q j f (holds.Device e) h = tt

module _ (size : ℕ) (P Q : ℕ → List Tag → ℕ → Type 0) where
  held_map : ((j : ℕ) (o : List Tag) (r : ℕ) → P j o r → Q j o r) → (xs : List (LockNo × DiskHeld))
      → HeldAll size (OfOrder P) xs → HeldAll size (OfOrder Q) xs
  held_map f [] h = tt
  held_map f (x ∷ xs) h = (
    orders_map P Q (spot size x.0) (f (spot size x.0)) x.1 h.0,
    held_map f xs h.1,
  )

  held_apart : (k : ℕ) → ((j : ℕ) (o : List Tag) (r : ℕ) → j ≢ k → P j o r → Q j o r)
      → (xs : List (LockNo × DiskHeld)) → held_sum (spot size) (at_place k) xs ≡ 0
      → HeldAll size (OfOrder P) xs → HeldAll size (OfOrder Q) xs
  held_apart k f [] z h = tt
  held_apart k f (x ∷ xs) z h = (
    orders_map P Q (spot size x.0) (λ o r. f (spot size x.0) o r
        (λ e. let q : same k (spot size x.0) ≡ 1 = ap (same k) e ∙ same_self k in
        let none : ⊥ = omega arith in none)) x.1 h.0,
    held_apart k f xs (omega arith) h.1,
  )

push_at : {A : Type 0} (xs : List A) (x : A) (i : ℕ) (y : A)
    → slice_get (xs ++ x ∷ []) i ≡ Some y
    → ((slice_get xs i ≡ Some y) × (take i (xs ++ x ∷ []) ≡ take i xs))
    ⊎ ((x ≡ y) × (take i (xs ++ x ∷ []) ≡ xs))
push_at [] x zero y e = inr ((let q : Some x ≡ Some y = e in cc), refl)
push_at [] x (suc i) y e = absurd (cc)
push_at (z ∷ zs) x zero y e = inl (e, refl)
push_at {A} (z ∷ zs) x (suc i) y e = ⊎_elim
    (λ o. inl (o.0, ap (λ (ts : List A). z ∷ ts) o.1))
    (λ o. inr (o.0, ap (λ (ts : List A). z ∷ ts) o.1)) (push_at zs x i y e)

-- one more call finds what is held, where its page isn't on the device
held_push : (g : Begin) (p : ℕ) (order : List Tag) (t : Tag) → FindHeld g p order
    → (may_write g.given.backed g.given.actors ≡ false → back_at g p order ≡ false → (s : ℕ)
    (old : List ℕ) → g.given.finds p t s old ≡ old)
    → FindHeld g p (order ++ t ∷ [])
held_push g p order t old new none i u is off s bytes = ⊎_elim
    (λ o. old none i u o.0 (subst (λ (ts : List Tag). back_at g p ts ≡ false) o.1 off) s bytes)
    (λ o. subst (λ (x : Tag). g.given.finds p x s bytes ≡ bytes) o.0
    (new none (subst (λ (ts : List Tag). back_at g p ts ≡ false) o.1 off) s bytes))
    (push_at order t i u is)

-- ---- what a giving does to orders

module _ (g : Begin) (P : ℕ → List Tag → ℕ → Type 0) where
  -- what all orders in hand have, they have after the giving
  abbrev Carry : Here → LockNo → DiskHeld → Type 0
  Carry l k v = HeldAll g.given.size (OfOrder P) l.held → OfOrder P (spot g.given.size k) v

  -- the piece in work goes on, or it is over and its tag is noted, or over without
  pub data Tells (l : Here) (k : LockNo) (v : DiskHeld) (m : Here) : Type 0 where
    quiet : m.done ≡ l.done → m.todo ≡ l.todo → (HeldAll g.given.size (OfOrder P) l.held
        → OfOrder P (spot g.given.size k) v × HeldAll g.given.size (OfOrder P) m.held)
        → Tells l k v m
    noted : (p : Part) (rest : List Part) (e f : EntryState) (end : PartEnd)
        (got : List (List ℕ)) (seen : List ℕ) → l.todo ≡ p ∷ rest → k ≡ slot p.page
        → l.held ≡ (slot p.page, holds.Slot e) ∷ []
        → v ≡ holds.Slot f
        → is_single g.given.size p.op ≡ false → f.order ≡ e.order ++ tag_by l.actor p ∷ []
        → e.room ≤ f.room + 1 → stands_so p.op end ≡ true
        → got ≡ cond (is_carried end) (got_from seen p) []
        → SeesSo p.op (g.given.finds p.page (tag_by l.actor p)) p.page (content g p.page e.order)
        seen
        → FindsSo g p e.order (tag_by l.actor p) → m ≡ piece_over l p end got rest
        → Tells l k v m
    refused : (p : Part) (rest : List Part) (end : PartEnd) → l.todo ≡ p ∷ rest
        → stands_so p.op end ≡ false → Carry l k v → m ≡ piece_over l p end [] rest → Tells l k v m

abbrev got_at : Op → Part → List ℕ → List (List ℕ)
got_at o p page = got_by o p.page (λ s. page_sector page (s - 8 * p.page))

no_got : (op : Op) (p : Part) (page : List ℕ) → p.op ≡ op → Changes op
    → (let xs : List (List ℕ) = [] in xs) ≡ got_from page p
no_got (Write start count stuff) p page e c = ap (λ (o : Op). got_at o p page) (sym e)
no_got (Read start count) p page e c = absurd c
no_got (Discard start count) p page e c = ap (λ (o : Op). got_at o p page) (sym e)
no_got (Idle age) p page e c = absurd c
no_got (Writeback mode) p page e c = absurd c
no_got Compact p page e c = absurd c

bad_stands : (g : Begin) (p : Part) (op : Op) (x : PartEnd) → FailBy g p op (Some x)
    → stands_so op x ≡ false
bad_stands g p (Write start count stuff) Carried f = absurd f
bad_stands g p (Write start count stuff) (Whole end) f = absurd f
bad_stands g p (Write start count stuff) (AtLimit c n l) f = refl
bad_stands g p (Write start count stuff) NoMemory f = refl
bad_stands g p (Write start count stuff) (Eio fault) f = absurd f
bad_stands g p (Read start count) x f = absurd f
bad_stands g p (Discard start count) x f = absurd f
bad_stands g p (Idle age) x f = absurd f
bad_stands g p (Writeback mode) x f = absurd f
bad_stands g p Compact x f = absurd f

-- a piece of which the device failed stands where it is a read, and has read nothing
fault_stands : (g : Begin) (p : Part) (op : Op) (x : PartEnd) (b : Bool) → IsFault g p (Some x)
    → is_read op ≡ b → stands_so op x ≡ b
fault_stands g p op Carried b f e = absurd f
fault_stands g p op (AtLimit c n l) b f e = absurd f
fault_stands g p op NoMemory b f e = absurd f
fault_stands g p op (Eio fault) b f e = e
fault_stands g p op (Whole end) b f e = absurd f

fault_got : (g : Begin) (p : Part) (x : PartEnd) (got : List (List ℕ)) → IsFault g p (Some x)
    → (let xs : List (List ℕ) = [] in xs) ≡ cond (is_carried x) got []
fault_got g p Carried got f = absurd f
fault_got g p (AtLimit c n l) got f = absurd f
fault_got g p NoMemory got f = absurd f
fault_got g p (Eio fault) got f = refl
fault_got g p (Whole end) got f = absurd f

module _ (g : Begin) (ok : Known g) (w : State DiskHeld) (j : Joint g w) (a : ℕ) (l : Here)
    (who : slice_get w.locals a ≡ Some l) (k : LockNo) (v : DiskHeld) (m : Here)
    (what : plan (terms g) l ≡ Give k) (P : ℕ → List Tag → ℕ → Type 0) where
  same_tells : (v₀ : DiskHeld) (m₀ : Here) → v ≡ v₀ → m ≡ m₀ → Tells g P l k v₀ m₀
      → Tells g P l k v m
  same_tells v₀ m₀ e f t = subst (λ (x : DiskHeld × Here). Tells g P l k x.0 x.1)
      (λ i. (sym e i, sym f i)) t

  -- a giving of a writeback leaves orders as they are
  visit_tells : (c : IsCourse g l v m) → (HeldAll g.given.size (OfOrder P) l.held
      → OfOrder P (spot g.given.size k) v × HeldAll g.given.size (OfOrder P) m.held)
      → Tells g P l k v m
  visit_tells c carry = by_course c.course where
    by_course : Course l v c.p c.rest m → Tells g P l k v m
    by_course (course.goes s y done todo at fail) = quiet done todo carry
    by_course (course.halts s y end done todo at well fail i) = quiet done todo carry
    by_course (course.errs s y d d' b fault wrote lost done todo at well fail held v_is failed) =
        quiet done todo carry
    by_course (course.tells wrote lost well m_is) =
        refused c.p c.rest (Whole (ends.Written wrote lost)) c.todo refl (λ h. (carry h).0) m_is
    by_course (course.closes end i fail m_is) =
        refused c.p c.rest (Whole end) c.todo refl (λ h. (carry h).0) m_is

  pub tells_of : (ev : Event g l v m) → Chosen g l v m ev → Tells g P l k v m
  tells_of (event.visits t) chosen = visit_tells (course_of g ok w j a l who v m t)
      (carries_of g ok w j a l who v m k what P t)
  tells_of (event.refuses p rest c todo at held v_is m_is) chosen =
      same_tells _ m v_is refl (refused p rest (Whole ends.Range) todo refl (λ h. tt) m_is)
  tells_of (event.pins p rest e o q q' u u' cell todo at held is sw named_u free outside is_cell
      in_cell lk v_is m_is) chosen = same_tells _ _ v_is m_is (quiet refl refl
      (λ h. (tt, (subst (HeldAll g.given.size (OfOrder P)) held h).1)))
  tells_of (event.unpins p rest e o q q' u u' todo at held is sw named_u outside free lk v_is m_is)
      chosen =
      same_tells _ _ v_is m_is (quiet refl refl (λ h. (
        tt,
        (subst (HeldAll g.given.size (OfOrder P)) held h).1,
      )))
  tells_of (event.charges p rest e c q q' cl h₁ need bytes huge todo at held is_form is_class within
      al v_is m_is) chosen = same_tells _ _ v_is m_is (quiet refl refl
      (λ h. (tt, (tt, (subst (HeldAll g.given.size (OfOrder P)) held h).1.1))))
  tells_of (event.limits p rest e c q cl need todo at held is_need past v_is m_is) chosen =
      same_tells _ _ v_is m_is (quiet refl refl (λ h. (
        tt,
        (subst (HeldAll g.given.size (OfOrder P)) held h).1,
      )))
  tells_of (event.starves p rest e c q cl todo at held v_is m_is) chosen =
      same_tells _ _ v_is m_is (quiet refl refl (λ h. (
        tt,
        (subst (HeldAll g.given.size (OfOrder P)) held h).1,
      )))
  tells_of (event.stows p rest e q cl todo at held well v_is m_is) chosen =
      same_tells _ _ v_is m_is (quiet refl refl (λ h. (
        tt,
        (subst (HeldAll g.given.size (OfOrder P)) held h).1,
      )))
  tells_of (event.quits p rest e q cl x todo at held bad v_is m_is) chosen =
      same_tells _ _ v_is m_is (quiet refl refl (λ h. (
        tt,
        (subst (HeldAll g.given.size (OfOrder P)) held h).1,
      )))
  tells_of (event.frees p rest e o q q' frames todo at held is fp v_is m_is) chosen =
      same_tells _ _ v_is m_is (quiet refl refl (λ h. (
        tt,
        (subst (HeldAll g.given.size (OfOrder P)) held h).1,
      )))
  tells_of (event.repays p rest e c todo at held v_is m_is) chosen =
      same_tells _ _ v_is m_is (quiet refl refl (λ h. (
        tt,
        (subst (HeldAll g.given.size (OfOrder P)) held h).1,
      )))
  tells_of (event.puts p rest e f todo at held notes v_is m_is) chosen =
      let st = stage g ok w j a l who p rest todo _ Ready held at in
      noted p rest e f Carried [] (seen_by g ok p.page e.order (tag_by l.actor p)) todo
      (sym (given_lock g ok w j a l who k v m what (slot p.page)
      (event_is g ok w j a l who k v m what p rest _ Ready todo held at))) held v_is st.begun
      notes.order notes.room refl (no_got p.op p _ refl st.kind.0)
      (sees_any g ok p.op p.page e.order (tag_by l.actor p)) chosen.finds m_is
  tells_of (event.reads p rest e f todo at held well notes v_is m_is) chosen =
      let st = stage g ok w j a l who p rest todo _ Leaving held at in
      noted p rest e f Carried _ (page_in l.page e.kept) todo
      (sym (given_lock g ok w j a l who k v m what (slot p.page)
      (event_is g ok w j a l who k v m what p rest _ Leaving todo held at))) held v_is st.begun
      notes.order notes.room refl refl chosen.sees chosen.finds m_is
  tells_of (event.fails p rest e x todo at held bad v_is m_is) chosen =
      let st = stage g ok w j a l who p rest todo _ Leaving held at in
      let k_is = given_lock g ok w j a l who k v m what (slot p.page)
      (event_is g ok w j a l who k v m what p rest _ Leaving todo held at) in
      same_tells _ m v_is refl (refused p rest x todo (bad_stands g p p.op x
      (subst (FailBy g p p.op) bad st.fails)) (λ h.
      subst (λ (c : LockNo). OfOrder P (spot g.given.size c) (holds.Slot e)) k_is
      (subst (HeldAll g.given.size (OfOrder P)) held h).0) m_is)
  tells_of (event.fetches p rest e b d d' page todo at held is reads is_page v_is m_is) chosen =
      same_tells _ _ v_is m_is (quiet refl refl (λ h. (
        tt,
        (subst (HeldAll g.given.size (OfOrder P)) held h).1,
      )))
  tells_of (event.misses p rest e b d d' fault todo at held is fails v_is m_is) chosen =
      same_tells _ _ v_is m_is (quiet refl refl (λ h. (
        tt,
        (subst (HeldAll g.given.size (OfOrder P)) held h).1,
      )))
  tells_of (event.counts p rest e c todo at held v_is m_is) chosen =
      same_tells _ _ v_is m_is (quiet refl refl (λ h. (
        tt,
        (subst (HeldAll g.given.size (OfOrder P)) held h).1,
      )))
  tells_of (event.errs p rest e f x todo at held bad reads notes v_is m_is) chosen =
      let st = stage g ok w j a l who p rest todo _ Missed held at in
      let fault = subst (IsFault g p) bad st.fails in
      noted p rest e f x [] (seen_by g ok p.page e.order (tag_by l.actor p)) todo
      (sym (given_lock g ok w j a l who k v m what (slot p.page)
      (event_is g ok w j a l who k v m what p rest _ Missed todo held at))) held v_is st.begun
      notes.order notes.room (fault_stands g p p.op x true fault reads)
      (fault_got g p x (got_from (seen_by g ok p.page e.order (tag_by l.actor p)) p) fault)
      (sees_any g ok p.op p.page e.order (tag_by l.actor p)) chosen m_is
  tells_of (event.leaves p rest e x todo at held bad other v_is m_is) chosen =
      let st = stage g ok w j a l who p rest todo _ Missed held at in
      let k_is = given_lock g ok w j a l who k v m what (slot p.page)
      (event_is g ok w j a l who k v m what p rest _ Missed todo held at) in
      same_tells _ m v_is refl (refused p rest x todo (fault_stands g p p.op x false
      (subst (IsFault g p) bad st.fails) other) (λ h.
      subst (λ (c : LockNo). OfOrder P (spot g.given.size c) (holds.Slot e)) k_is
      (subst (HeldAll g.given.size (OfOrder P)) held h).0) m_is)
  tells_of (event.releases p rest e b x todo at held is v_is m_is) chosen =
      same_tells _ _ v_is m_is (quiet refl refl (λ h. (
        tt,
        (subst (HeldAll g.given.size (OfOrder P)) held h).1,
      )))
  tells_of (event.scans p rest age x e todo op at held other v_is m_is) chosen =
      let k_is = given_lock g ok w j a l who k v m what (slot x.page)
      (event_is g ok w j a l who k v m what p rest _ (Marking x) todo held at) in
      same_tells _ _ v_is m_is (quiet refl refl (λ h. (
        subst (λ (c : LockNo). OfOrder P (spot g.given.size c) (holds.Slot e)) k_is
            (subst (HeldAll g.given.size (OfOrder P)) held h).0,
        tt,
      )))
  tells_of (event.stops p rest age x e todo op at held last v_is m_is) chosen =
      let k_is = given_lock g ok w j a l who k v m what (slot x.page)
      (event_is g ok w j a l who k v m what p rest _ (Marking x) todo held at) in
      same_tells _ m v_is refl (refused p rest (Whole (ends.Marked _)) todo refl (λ h.
      subst (λ (c : LockNo). OfOrder P (spot g.given.size c) (holds.Slot e)) k_is
      (subst (HeldAll g.given.size (OfOrder P)) held h).0) m_is)
  tells_of (event.moves p rest x q q' u u' budget frames todo at held sh some one v_is m_is) chosen =
      same_tells _ _ v_is m_is (quiet refl refl (λ h. (tt, tt)))
  tells_of (event.sweeps p rest x q todo at held stuck other v_is m_is) chosen =
      same_tells _ _ v_is m_is (quiet refl refl (λ h. (tt, tt)))
  tells_of (event.closes p rest x q todo at held stuck last v_is m_is) chosen =
      same_tells _ m v_is refl (refused p rest (Whole (ends.Compacted x.moves x.frames)) todo refl
      (λ h. tt) m_is)
  tells_of (event.shrinks p rest x c todo at held v_is m_is) chosen =
      same_tells _ _ v_is m_is (quiet refl refl (λ h. (tt, tt)))

-- ---- the law

module _ (g : Begin) (ok : Known g) (w : State DiskHeld) (j : Joint g w) (t : Told g w) (a : ℕ)
    (l : Here) (who : slice_get w.locals a ≡ Some l) (k : LockNo) (v : DiskHeld) where
  abbrev n : ℕ
  n = g.given.size

  module _ (m : Here) where
    abbrev now : List Here
    now = slice_set w.locals a m

    -- nothing is over, and nothing less is left
    still_all : m.done ≡ l.done → m.todo ≡ l.todo → (i : ℕ) (o : List Tag) (r : ℕ)
        → ShowsOrder g w.locals i o r → ShowsOrder g now i o r
    still_all done todo i o r h =
        let q = ok.facts.moves (owed_by n i) w.locals a l m who in
        let s : owed_by n i m ≡ owed_by n i l = ap (pieces_on n i) todo in record {
          shows = subst (λ (D : ℕ → List Done). ShowsPage g.given D i (content g i o) o)
              (dones_same w.locals a l m who done) h.shows;
          finds = h.finds;
          spare = let z = h.spare in omega arith;
          few = let z = h.few in omega arith;
        }

  pub told_take : plan (terms g) l ≡ Take k → slice_get w.row (spot n k) ≡ Some (Some v)
      → Told g (gone n w a l who k None (took (terms g) l v))
  told_take what there =
      let m = took (terms g) l v in
      let f = still_all m refl refl in
      let P = ShowsOrder g w.locals in let Q = ShowsOrder g (slice_set w.locals a m) in
      each_take n w a l who (OfOrder Q) (λ b x. HeldAll n (OfOrder Q) x.held)
      (record {
        in_row = λ i u e. orders_map P Q i (f i) u (t.in_row i u e);
        in_local = λ b x e. held_map n P Q f x.held (t.in_local b x e);
      })
      k v m there (
        (let q : spot n k ≡ spot n (lock_of (plan (terms g) l)) =
            ap (λ p. spot n (lock_of p)) (sym what) in subst (λ (i : ℕ). OfOrder Q i v) q
            (orders_map P Q (spot n k) (f (spot n k)) v (t.in_row (spot n k) v there))),
        held_map n P Q f l.held (t.in_local a l who),
      )

  module _ (m : Here) (there : slice_get w.row (spot n k) ≡ Some None) (x : Gift g w a l k v m) where
    abbrev P : ℕ → List Tag → ℕ → Type 0
    P = ShowsOrder g w.locals

    abbrev Q : ℕ → List Tag → ℕ → Type 0
    Q = ShowsOrder g (slice_set w.locals a m)

    -- other actors hold other places
    apart : (b : ℕ) (y : Here) → slice_get w.locals b ≡ Some y → b ≢ a
        → held_sum (spot n) (at_place (spot n k)) y.held ≡ 0
    apart b y e ne =
        let q = locals_two n (mass (spot n) (at_place (spot n k)) none) w.locals a b l y who e ne in
        let r = j.alone (spot n k) in let s = x.alone (spot n k) in let z = same_self (spot n k) in
        omega arith

    goes : ((i : ℕ) (o : List Tag) (r : ℕ) → i ≢ spot n k → P i o r → Q i o r)
        → OfOrder Q (spot n k) v → HeldAll n (OfOrder Q) m.held
        → Told g (gone n w a l who k (Some v) m)
    goes f here hand = record {
      in_row = λ i u e. ⊎_elim
          (λ s. let z : v ≡ u = (let y = s.1 in cc) in subst
          (λ (y : ℕ × DiskHeld). OfOrder Q y.0 y.1) (λ h. (sym s.0 h, z h)) here)
          (λ o. orders_map P Q i (λ ts r. f i ts r o.0) u (t.in_row i u o.1))
          (get_set w.row (spot n k) i (Some v) (Some u) None there e);
      in_local = λ b y e. ⊎_elim
          (λ s. subst (λ (z : Here). HeldAll n (OfOrder Q) z.held) s.1 hand)
          (λ o. held_apart n P Q (spot n k) f y.held (apart b y o.1 o.0) (t.in_local b y o.1))
          (get_set w.locals a b m y l who e);
    }

    less_left : (p : Part) (rest : List Part) (end : PartEnd) (got : List (List ℕ))
        → l.todo ≡ p ∷ rest → m ≡ piece_over l p end got rest → (i : ℕ)
        → owed_by n i m + piece_on n i p ≤ owed_by n i l
    less_left p rest end got todo m_is i =
        let q : owed_by n i m ≡ pieces_on n i (left_by end p.nr rest) = ap (owed_by n i) m_is in
        let r : owed_by n i l ≡ piece_on n i p + pieces_on n i rest = ap (pieces_on n i) todo in
        let s = left_on n i end p.nr rest in omega arith

    fewer : (p : Part) (rest : List Part) (end : PartEnd) (got : List (List ℕ)) → l.todo ≡ p ∷ rest
        → m ≡ piece_over l p end got rest → (i : ℕ) → owed n (slice_set w.locals a m) i
        + piece_on n i p ≤ owed n w.locals i
    fewer p rest end got todo m_is i = let q = ok.facts.moves (owed_by n i) w.locals a l m who in
        let r = less_left p rest end got todo m_is i in omega arith

    abbrev done_one : Part → PartEnd → List (List ℕ) → Done
    done_one p end got = record { part = p; end = end; got = got }

    grown : (p : Part) (rest : List Part) (end : PartEnd) (got : List (List ℕ))
        → m ≡ piece_over l p end got rest → Grown (dones w.locals)
        (dones (slice_set w.locals a m)) a (done_one p end got)
    grown p rest end got m_is = dones_grown w.locals a l m (done_one p end got) who
        (ap (λ (y : Here). y.done) m_is)

    empty_hand : (p : Part) (rest : List Part) (end : PartEnd) (got : List (List ℕ))
        → m ≡ piece_over l p end got rest → HeldAll n (OfOrder Q) m.held
    empty_hand p rest end got m_is = subst (λ (y : Here). HeldAll n (OfOrder Q) y.held)
        (sym m_is) tt

    -- a piece that isn't on the page
    off_page : (p : Part) (rest : List Part) (end : PartEnd) (got : List (List ℕ))
        → l.todo ≡ p ∷ rest → m ≡ piece_over l p end got rest → (i : ℕ) (o : List Tag) (r : ℕ)
        → is_on i (done_one p end got) ≡ false → P i o r → Q i o r
    off_page p rest end got todo m_is i o r off h =
        let q = fewer p rest end got todo m_is i in record {
          shows = ok.facts.elsewhere g.given (dones w.locals) (dones (slice_set w.locals a m)) a
              (done_one p end got) i (content g i o) o (grown p rest end got m_is) off h.shows;
          finds = h.finds;
          spare = let z = h.spare in omega arith;
          few = let z = h.few in omega arith;
        }

    note_here : (p : Part) (rest : List Part) (e f : EntryState) (end : PartEnd)
        (got : List (List ℕ)) (seen : List ℕ) → l.todo ≡ p ∷ rest → is_single n p.op ≡ false
        → f.order ≡ e.order ++ tag_by l.actor p ∷ [] → e.room ≤ f.room + 1
        → stands_so p.op end ≡ true
        → got ≡ cond (is_carried end) (got_from seen p) []
        → SeesSo p.op (g.given.finds p.page (tag_by l.actor p)) p.page (content g p.page e.order)
        seen
        → FindsSo g p e.order (tag_by l.actor p)
        → m ≡ piece_over l p end got rest → P p.page e.order e.room → Q p.page f.order f.room
    note_here p rest e f end got seen todo begun order room stands got_is sees held m_is h =
        let who_is = (j.each.in_local a l who).who in
        let named_a : named g.given.actors (tag_by a p) ≡ Some p.op =
        ap (λ (b : ℕ). named g.given.actors (tag_by b p)) (sym who_is)
        ∙ is_named g ok w j a l who p rest todo in
        let q = fewer p rest end got todo m_is p.page in let s = once n p begun in
        let len : length f.order ≡ length e.order + 1 = ap length order
        ∙ length-append e.order (tag_by l.actor p ∷ []) in record {
          shows = subst (λ (o : List Tag). ShowsPage g.given (dones (slice_set w.locals a m)) p.page
              (content g p.page o) o) (sym (order ∙ ap (λ (b : ℕ).
              e.order ++ tag_by b p ∷ []) who_is))
              (ok.facts.here g.given (dones w.locals) (dones (slice_set w.locals a m)) a
              (done_one p end got) p (content g p.page e.order) seen e.order
              (content g p.page (e.order ++ tag_by a p ∷ [])) (e.order ++ tag_by a p ∷ [])
              (grown p rest end got m_is) refl stands
              (content_carries g ok p e.order a named_a) named_a
              (subst (λ (b : ℕ). SeesSo p.op (g.given.finds p.page (tag_by b p)) p.page
              (content g p.page e.order) seen) who_is sees) got_is h.shows);
          finds = subst (FindHeld g p.page) (sym order)
              (held_push g p.page e.order (tag_by l.actor p) h.finds held);
          spare = let z = h.spare in omega arith;
          few = let z = h.few in omega arith;
        }

    pub told_give : Tells g Q l k v m → Told g (gone n w a l who k (Some v) m)
    told_give (quiet done todo carry) =
        let f = still_all m done todo in let c = carry (held_map n P Q f l.held
        (t.in_local a l who)) in
        goes (λ i o r ne. f i o r) c.0 c.1
    told_give (refused p rest end todo off carry m_is) =
        let f : (i : ℕ) (o : List Tag) (r : ℕ) → P i o r
        → Q i o r = λ i o r. off_page p rest end [] todo m_is i o r
        (and_right (eqb p.page i) (stands_so p.op end) off) in
        goes (λ i o r ne. f i o r) (carry (held_map n P Q f l.held (t.in_local a l who)))
        (empty_hand p rest end [] m_is)
    told_give (noted p rest e f end got seen todo k_is held v_is begun order room stands got_is sees
        finds m_is) =
        goes (λ i o r ne. off_page p rest end got todo m_is i o r
        (and_left (eqb p.page i) (stands_so p.op end)
        (ne_eqb p.page i (λ s. ne (sym s ∙ ap (spot n) (sym k_is))))))
        (subst (λ (y : LockNo × DiskHeld). OfOrder Q (spot n y.0) y.1)
        (λ i. (sym k_is i, sym v_is i))
        (note_here p rest e f end got seen todo begun order room stands got_is sees finds m_is
        (subst (HeldAll n (OfOrder P)) held (t.in_local a l who)).0))
        (empty_hand p rest end got m_is)
