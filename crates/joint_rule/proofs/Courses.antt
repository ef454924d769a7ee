-- What each giving of a writeback tells, and what it leaves of orders and of the account's counters.
use Rattle.page_steps.specs.Nexts.{emptied}
use Rattle.joint_rule.specs.Rule.{OfOrder}
use Rattle.slot_entry.specs.declared.kept.Stored.{Stored}
use Rattle.slot_entry.specs.declared.kept.Kept.{Kept}
use Rattle.lock_row.specs.declared.names.Plan.TheVariants.{Give}
use Rattle.joint_rule.proofs.Givings.{event_is, given_lock}
use Rattle.std.proofs.Common.{◌≡◌, ◌+◌, ◌≤◌, ◌∷◌, ◌∙◌, ℕ, true, List, [], Option, Some, None, slice_get, refl, sym, ap, subst, arith}
use Rattle.std.specs.Prelude.{⊤}
use Rattle.backing_dev.specs.Dev.{DeviceState, FailsToWrite}
use Rattle.block_map.specs.declared.blocks.Reserve.{Reserve}
use Rattle.block_map.specs.declared.blocks.Reserve.TheVariants.{BudgetSpent, Got, NoBlock}
use Rattle.call_history.specs.declared.part.Part.{Part}
use Rattle.call_history.specs.declared.part.PartEnd.{PartEnd}
use Rattle.call_history.specs.declared.part.PartEnd.TheVariants.{AtLimit, Carried, Eio, NoMemory, Whole}
use Rattle.joint_rule.proofs.Facts.{Known}
use Rattle.joint_rule.proofs.Gifts.{stage}
use Rattle.joint_rule.proofs.Visits.{Onward, VisitEvent}
use Rattle.joint_rule.specs.Begins.{Begin, terms}
use Rattle.joint_rule.specs.Joint.{Joint}
use Rattle.joint_rule.specs.Stages.{IsQuit, MayQuit, NoneOf, StopsSo}
use Rattle.joint_rule.specs.Weights.{device_faults, device_reads, none, on_account, on_entry, HeldAll}
use Rattle.lock_row.specs.Totals.{held_sum, mass}
use Rattle.lock_row.specs.declared.names.At.TheVariants.{Visiting}
use Rattle.lock_row.specs.declared.names.LockNo.{LockNo}
use Rattle.lock_row.specs.declared.names.State.{State}
use Rattle.lock_row.specs.declared.names.Step.{Step}
use Rattle.lock_row.specs.declared.names.Step.TheVariants as step
use Rattle.lock_row.specs.declared.names.Trip.{Trip}
use Rattle.mem_account.specs.Counters.{Counters, counted}
use Rattle.mem_account.specs.declared.weight.Weight.{Weight}
use Rattle.mem_account.specs.declared.weight.Weight.TheVariants.{Back}
use Rattle.mem_account.specs.declared.weight.Delta.TheVariants as delta
use Rattle.page_steps.specs.Compactions.{repaid}
use Rattle.page_steps.specs.Steps.{DiskHeld, Here, piece_over, slot, spot, class_by, entry_in, plan, visit_plan}
use Rattle.page_steps.specs.Visits.{refused_end, put_back, unmarked}
use Rattle.slot_entry.specs.Entries.{EntryState}
use Rattle.zr_base.specs.Plain.{is_writeback}
use Rattle.zr_base.specs.declared.op.OpEnd.{OpEnd}
use Rattle.zr_base.specs.declared.op.OpEnd.TheVariants as ends
use Rattle.zr_base.specs.declared.op.Tag.{Tag}
use Rattle.lock_row.specs.declared.names.LockNo.TheVariants as lock
use Rattle.lock_row.specs.declared.names.Held.TheVariants as holds
use Rattle.slot_entry.specs.declared.kept.Kept.TheVariants as kept
use Rattle.joint_rule.proofs.Visits as visit

-- ---- ends of a writeback

-- it is an end of a writeback
abbrev pub IsTripEnd : OpEnd → Type 0
IsTripEnd (ends.Written wrote lost) = ⊤
IsTripEnd (ends.Budget wrote lost) = ⊤
IsTripEnd (ends.NoBlock wrote lost) = ⊤
IsTripEnd (ends.WriteEio fault wrote lost) = ⊤
IsTripEnd x = ⊥

-- one for which no block was reserved
abbrev pub IsRefused : OpEnd → Type 0
IsRefused (ends.Budget wrote lost) = ⊤
IsRefused (ends.NoBlock wrote lost) = ⊤
IsRefused x = ⊥

pub refused_trip : (end : OpEnd) → IsRefused end → IsTripEnd end
refused_trip (ends.Budget wrote lost) i = tt
refused_trip (ends.NoBlock wrote lost) i = tt
refused_trip x i = absurd i

stops_trip : (y : Trip) (end : OpEnd) → StopsSo y end → IsTripEnd end
stops_trip y (ends.Budget wrote lost) i = tt
stops_trip y (ends.NoBlock wrote lost) i = tt
stops_trip y (ends.WriteEio fault wrote lost) i = tt
stops_trip y x i = absurd i

pub is_refused : (r : Reserve) (x : Trip) (end : OpEnd) → refused_end r x ≡ Some end
    → IsRefused end
is_refused (Got b) x end e = absurd (cc)
is_refused BudgetSpent x end e =
    let q : ends.Budget x.wrote x.lost ≡ end = cc in subst IsRefused q tt
is_refused NoBlock x end e =
    let q : ends.NoBlock x.wrote x.lost ≡ end = cc in subst IsRefused q tt

-- ---- what a giving tells

-- What a writeback tells by a giving of the value v: it goes on, or it is over, and may say so before.
pub data Course (l : Here) (v : DiskHeld) (p : Part) (rest : List Part) (m : Here) : Type 0 where
  goes : (s : Step) (y : Trip) → m.done ≡ l.done → m.todo ≡ l.todo → m.at ≡ Visiting s y
      → m.fail ≡ l.fail → Course l v p rest m
  halts : (s : Step) (y : Trip) (end : OpEnd) → m.done ≡ l.done → m.todo ≡ l.todo
      → m.at ≡ Visiting s y → NoneOf l.fail → m.fail ≡ Some (Whole end) → IsRefused end
      → Course l v p rest m
  errs : (s : Step) (y : Trip) (d d' : DeviceState) (b fault wrote lost : ℕ) → m.done ≡ l.done
      → m.todo ≡ l.todo → m.at ≡ Visiting s y → NoneOf l.fail
      → m.fail ≡ Some (Whole (ends.WriteEio fault wrote lost))
      → l.held ≡ (lock.Device, holds.Device d) ∷ [] → v ≡ holds.Device d'
      → FailsToWrite d d' b fault → Course l v p rest m
  tells : (wrote lost : ℕ) → NoneOf l.fail
      → m ≡ piece_over l p (Whole (ends.Written wrote lost)) [] rest → Course l v p rest m
  closes : (end : OpEnd) → IsTripEnd end → l.fail ≡ Some (Whole end)
      → m ≡ piece_over l p (Whole end) [] rest → Course l v p rest m

-- A giving of a writeback.
pub record IsCourse (g : Begin) (l : Here) (v : DiskHeld) (m : Here) : Type 0 where
  pub p : Part
  pub rest : List Part
  pub todo : l.todo ≡ p ∷ rest
  pub wb : is_writeback p.op ≡ true
  pub s : Step
  pub x : Trip
  pub at : l.at ≡ Visiting s x
  pub course : Course l v p rest m

quit_end : (g : Begin) (p : Part) (y : Trip) (end : PartEnd) → IsQuit g p y (Some end)
    → (e : OpEnd) × (end ≡ Whole e) × IsTripEnd e
quit_end g p y Carried i = absurd i
quit_end g p y (AtLimit charged need limit) i = absurd i
quit_end g p y NoMemory i = absurd i
quit_end g p y (Eio fault) i = absurd i
quit_end g p y (Whole e) i = (e, refl, stops_trip y e i.1)

module _ (g : Begin) (ok : Known g) (w : State DiskHeld) (j : Joint g w) (a : ℕ) (l : Here)
    (who : slice_get w.locals a ≡ Some l) (v : DiskHeld) (m : Here) where
  onward_course : (p : Part) (rest : List Part) (y : Trip) → NoneOf l.fail → Onward g l p rest y m
      → (l.fail ≡ None) → Course l v p rest m
  onward_course p rest y well (visit.next off m_is) none = goes step.Arriving y
      (ap (λ (i : Here). i.done) m_is) (ap (λ (i : Here). i.todo) m_is)
      (ap (λ (i : Here). i.at) m_is) (ap (λ (i : Here). i.fail) m_is ∙ sym none)
  onward_course p rest y well (visit.last on m_is) none = tells y.wrote y.lost well m_is

  no_fail : (x : Option PartEnd) → NoneOf x → x ≡ None
  no_fail None i = refl
  no_fail (Some x) i = absurd i

  over_by : (p : Part) (rest : List Part) (y : Trip) (end : PartEnd) → IsQuit g p y (Some end)
      → l.fail ≡ Some end → m ≡ piece_over l p end [] rest → Course l v p rest m
  over_by p rest y end is bad m_is = let q = quit_end g p y end is in
      closes q.0 q.2 (bad ∙ ap Some q.1)
      (m_is ∙ ap (λ (e : PartEnd). piece_over l p e [] rest) q.1)

  on_so : (p : Part) (rest : List Part) (s : Step) (y : Trip) (m₀ : Here) → m ≡ m₀
      → m₀.done ≡ l.done → m₀.todo ≡ l.todo → m₀.at ≡ Visiting s y → m₀.fail ≡ l.fail
      → Course l v p rest m
  on_so p rest s y m₀ is done todo at fail = goes s y (ap (λ (i : Here). i.done) is ∙ done)
      (ap (λ (i : Here). i.todo) is ∙ todo) (ap (λ (i : Here). i.at) is ∙ at)
      (ap (λ (i : Here). i.fail) is ∙ fail)

  pub course_of : VisitEvent g l v m → IsCourse g l v m
  course_of (visit.passes p rest x e todo at held v_is on) =
      let st = stage g ok w j a l who p rest todo _ (Visiting step.Passing x) held at in record {
        p = p;
        rest = rest;
        todo = todo;
        wb = st.begun;
        s = step.Passing;
        x = x;
        at = at;
        course = onward_course p rest _ st.fails on (no_fail l.fail st.fails);
      }
  course_of (visit.reserves p rest x e y b todo at held answer v_is m_is) =
      let st = stage g ok w j a l who p rest todo _ (Visiting step.Reserving x) held at in record {
        p = p;
        rest = rest;
        todo = todo;
        wb = st.begun;
        s = step.Reserving;
        x = x;
        at = at;
        course = on_so p rest step.Seen _ _ m_is refl refl refl refl;
      }
  course_of (visit.refrains p rest x e y r end todo at held answer is v_is m_is) =
      let st = stage g ok w j a l who p rest todo _ (Visiting step.Reserving x) held at in record {
        p = p;
        rest = rest;
        todo = todo;
        wb = st.begun;
        s = step.Reserving;
        x = x;
        at = at;
        course = halts step.Quitting x end (ap (λ (i : Here). i.done) m_is)
            (ap (λ (i : Here). i.todo) m_is) (ap (λ (i : Here). i.at) m_is) st.fails
            (ap (λ (i : Here). i.fail) m_is) (is_refused r x end is);
      }
  course_of (visit.quits p rest x e end todo at held bad v_is m_is) =
      let st = stage g ok w j a l who p rest todo _ (Visiting step.Quitting x) held at in record {
        p = p;
        rest = rest;
        todo = todo;
        wb = st.begun;
        s = step.Quitting;
        x = x;
        at = at;
        course = over_by p rest x end (subst (IsQuit g p x) bad st.fails) bad m_is;
      }
  course_of (visit.pins p rest x e o q q' u u' cell todo at held is sw named_u free taken is_cell
      in_cell v_is m_is) =
      let st = stage g ok w j a l who p rest todo _ (Visiting step.Pinning x) held at in record {
        p = p;
        rest = rest;
        todo = todo;
        wb = st.begun;
        s = step.Pinning;
        x = x;
        at = at;
        course = on_so p rest step.Pinned x _ m_is refl refl refl refl;
      }
  course_of (visit.unpins p rest x e o q q' u u' todo at held is sw named_u taken free v_is m_is) =
      let st = stage g ok w j a l who p rest todo _ (Visiting step.Unpinning x) held at in record {
        p = p;
        rest = rest;
        todo = todo;
        wb = st.begun;
        s = step.Unpinning;
        x = x;
        at = at;
        course = on_so p rest step.Marking x _ m_is refl refl refl refl;
      }
  course_of (visit.marks p rest x e b todo at held block v_is m_is) =
      let st = stage g ok w j a l who p rest todo _ (Visiting step.Marking x) held at in record {
        p = p;
        rest = rest;
        todo = todo;
        wb = st.begun;
        s = step.Marking;
        x = x;
        at = at;
        course = on_so p rest step.Flying x _ m_is refl refl refl refl;
      }
  course_of (visit.stores p rest x b page d d' todo at held block is write v_is m_is) =
      let st = stage g ok w j a l who p rest todo _ (Visiting step.Storing x) held at in record {
        p = p;
        rest = rest;
        todo = todo;
        wb = st.begun;
        s = step.Storing;
        x = x;
        at = at;
        course = on_so p rest step.Landing x _ m_is refl refl refl refl;
      }
  course_of (visit.spoils p rest x b d d' fault todo at held block failed v_is m_is) =
      let st = stage g ok w j a l who p rest todo _ (Visiting step.Storing x) held at in record {
        p = p;
        rest = rest;
        todo = todo;
        wb = st.begun;
        s = step.Storing;
        x = x;
        at = at;
        course = errs step.Landing x d d' b fault x.wrote x.lost (ap (λ (i : Here). i.done) m_is)
            (ap (λ (i : Here). i.todo) m_is) (ap (λ (i : Here). i.at) m_is) st.fails
            (ap (λ (i : Here). i.fail) m_is) held v_is failed;
      }
  course_of (visit.frees p rest x e o q q' u frames todo at held is gone named_u home v_is m_is) =
      let st = stage g ok w j a l who p rest todo _ (Visiting step.Freeing x) held at in record {
        p = p;
        rest = rest;
        todo = todo;
        wb = st.begun;
        s = step.Freeing;
        x = x;
        at = at;
        course = on_so p rest step.Backing x _ m_is refl refl refl refl;
      }
  course_of (visit.commits p rest x e b y todo at held block v_is m_is) =
      let st = stage g ok w j a l who p rest todo _ (Visiting step.Committing x) held at in record {
        p = p;
        rest = rest;
        todo = todo;
        wb = st.begun;
        s = step.Committing;
        x = x;
        at = at;
        course = on_so p rest step.Owing x _ m_is refl refl refl refl;
      }
  course_of (visit.pays p rest x e c was todo at held is v_is m_is) =
      let st = stage g ok w j a l who p rest todo _ (Visiting step.Paying x) held at in record {
        p = p;
        rest = rest;
        todo = todo;
        wb = st.begun;
        s = step.Paying;
        x = x;
        at = at;
        course = on_so p rest step.Putting x _ m_is refl refl refl refl;
      }
  course_of (visit.puts p rest x e b todo at held block v_is on) =
      let st = stage g ok w j a l who p rest todo _ (Visiting step.Putting x) held at in record {
        p = p;
        rest = rest;
        todo = todo;
        wb = st.begun;
        s = step.Putting;
        x = x;
        at = at;
        course = onward_course p rest _ st.fails on (no_fail l.fail st.fails);
      }
  course_of (visit.loses p rest x e todo at held v_is m_is) =
      let st = stage g ok w j a l who p rest todo _ (Visiting step.Losing x) held at in record {
        p = p;
        rest = rest;
        todo = todo;
        wb = st.begun;
        s = step.Losing;
        x = x;
        at = at;
        course = on_so p rest step.Undoing x _ m_is refl refl refl refl;
      }
  course_of (visit.releases p rest x b y todo at held block well v_is on) =
      let st = stage g ok w j a l who p rest todo _ (Visiting step.Releasing x) held at in record {
        p = p;
        rest = rest;
        todo = todo;
        wb = st.begun;
        s = step.Releasing;
        x = x;
        at = at;
        course = onward_course p rest _ (subst NoneOf (sym well) tt) on well;
      }
  course_of (visit.stops p rest x b y end todo at held block bad v_is m_is) =
      let st = stage g ok w j a l who p rest todo _ (Visiting step.Releasing x) held at in record {
        p = p;
        rest = rest;
        todo = todo;
        wb = st.begun;
        s = step.Releasing;
        x = x;
        at = at;
        course = over_by p rest x end (subst (MayQuit g p x) bad st.fails) bad m_is;
      }

  -- What the values weigh, where the account's weight doesn't hang on forms of pages, and that of
  -- entries on orders alone: as before, where the lock k is given.
  pub record Weighs (k : LockNo) : Type 0 where
    pub account : (h : Counters → ℕ) → ((c : Counters) (owed : ℕ) (was : Weight)
        → h (counted (repaid c owed) (delta.Kept was Back)) ≡ h c)
        → mass (spot g.given.size) (on_account h) none m + on_account h (spot g.given.size k) v
        ≡ mass (spot g.given.size) (on_account h) none l
    pub orders : (f : ℕ → List Tag → ℕ)
        → mass (spot g.given.size) (on_entry (λ i kept order. f i order)) none m
        + on_entry (λ i kept order. f i order) (spot g.given.size k) v
        ≡ mass (spot g.given.size) (on_entry (λ i kept order. f i order)) none l
    pub reads : mass (spot g.given.size) device_reads none m + device_reads (spot g.given.size k) v
        ≡ mass (spot g.given.size) device_reads none l
    pub faults : mass (spot g.given.size) device_faults none l
        ≤ mass (spot g.given.size) device_faults none m + device_faults (spot g.given.size k) v

  module _ (k : LockNo) (what : plan (terms g) l ≡ Give k) where
    -- by the value that was held, the locks that were left, and those that are
    weigh_by : (k₀ : LockNo) (u v₀ : DiskHeld) (hs hs' : List (LockNo × DiskHeld)) → k₀ ≡ k
        → v ≡ v₀ → l.held ≡ (k₀, u) ∷ hs → m.held ≡ hs'
        → ((h : Counters → ℕ) → ((c : Counters) (owed : ℕ) (was : Weight)
        → h (counted (repaid c owed) (delta.Kept was Back)) ≡ h c)
        → held_sum (spot g.given.size) (on_account h) hs' + on_account h (spot g.given.size k₀) v₀
        ≡ on_account h (spot g.given.size k₀) u + held_sum (spot g.given.size) (on_account h) hs)
        → ((f : ℕ → List Tag → ℕ)
        → held_sum (spot g.given.size) (on_entry (λ i kept order. f i order)) hs'
        + on_entry (λ i kept order. f i order) (spot g.given.size k₀) v₀
        ≡ on_entry (λ i kept order. f i order) (spot g.given.size k₀) u
        + held_sum (spot g.given.size) (on_entry (λ i kept order. f i order)) hs)
        → held_sum (spot g.given.size) device_reads hs' + device_reads (spot g.given.size k₀) v₀
        ≡ device_reads (spot g.given.size k₀) u + held_sum (spot g.given.size) device_reads hs
        → device_faults (spot g.given.size k₀) u + held_sum (spot g.given.size) device_faults hs
        ≤ held_sum (spot g.given.size) device_faults hs' + device_faults (spot g.given.size k₀) v₀
        → Weighs k
    weigh_by k₀ u v₀ hs hs' k_is v_is held after account orders reads faults = record {
      account = λ h e. let r = ap (held_sum (spot g.given.size) (on_account h)) held in
          let t = ap (held_sum (spot g.given.size) (on_account h)) after in
          let s = value_is (on_account h) in let z = account h e in omega arith;
      orders = λ f.
          let r = ap (held_sum (spot g.given.size) (on_entry (λ i kept order. f i order))) held in
          let t = ap (held_sum (spot g.given.size) (on_entry (λ i kept order. f i order))) after in
          let s = value_is (on_entry (λ i kept order. f i order)) in let z = orders f in omega arith;
      reads = let r = ap (held_sum (spot g.given.size) device_reads) held in
          let t = ap (held_sum (spot g.given.size) device_reads) after in
          let s = value_is device_reads in omega arith;
      faults = let r = ap (held_sum (spot g.given.size) device_faults) held in
          let t = ap (held_sum (spot g.given.size) device_faults) after in
          let s = value_is device_faults in omega arith;
    } where
      value_is : (f : ℕ → DiskHeld → ℕ)
          → f (spot g.given.size k) v ≡ f (spot g.given.size k₀) v₀
      value_is f = λ i. f (spot g.given.size (sym k_is i)) (v_is i)

    onward_held : (p : Part) (rest : List Part) (y : Trip) → Onward g l p rest y m → m.held ≡ []
    onward_held p rest y (visit.next off m_is) = ap (λ (i : Here). i.held) m_is
    onward_held p rest y (visit.last on m_is) = ap (λ (i : Here). i.held) m_is

    lock_is : (p : Part) (rest : List Part) (s : Step) (x : Trip) (held : List (LockNo × DiskHeld))
        (k₀ : LockNo) → l.todo ≡ p ∷ rest → l.held ≡ held → l.at ≡ Visiting s x
        → visit_plan s x (class_by (entry_in held).kept) ≡ Give k₀ → k₀ ≡ k
    lock_is p rest s x held k₀ todo held_is at is = given_lock g ok w j a l who k v m what k₀
        (sym is ∙ event_is g ok w j a l who k v m what p rest held (Visiting s x) todo held_is at)

    class_lock : (k : Kept) (o : Stored) → k ≡ kept.Obj o
        → Give (lock.Class (class_by k)) ≡ Give (lock.Class o.class)
    class_lock k o is = ap (λ (i : Kept). Give (lock.Class (class_by i))) is

    after_is : (m₀ : Here) → m ≡ m₀ → m.held ≡ m₀.held
    after_is m₀ is = ap (λ (i : Here). i.held) is

    pub weighs_of : VisitEvent g l v m → Weighs k
    weighs_of (visit.passes p rest x e todo at held v_is on) = weigh_by (slot x.page) _ _ [] []
        (lock_is p rest step.Passing x _ _ todo held at refl) v_is held
        (onward_held p rest _ on) (λ h i. omega arith) (λ f. omega arith) (omega arith) (omega arith)
    weighs_of (visit.reserves p rest x e y b todo at held answer v_is m_is) =
        weigh_by lock.Blocks _ _ _ _ (lock_is p rest step.Reserving x _ _ todo held at refl) v_is
        held (after_is _ m_is) (λ h i. omega arith) (λ f. omega arith) (omega arith) (omega arith)
    weighs_of (visit.refrains p rest x e y r end todo at held answer is v_is m_is) =
        weigh_by lock.Blocks _ _ _ _ (lock_is p rest step.Reserving x _ _ todo held at refl) v_is
        held (after_is _ m_is) (λ h i. omega arith) (λ f. omega arith) (omega arith) (omega arith)
    weighs_of (visit.quits p rest x e end todo at held bad v_is m_is) =
        weigh_by (slot x.page) _ _ [] [] (lock_is p rest step.Quitting x _ _ todo held at refl) v_is
        held (after_is _ m_is) (λ h i. omega arith) (λ f. omega arith) (omega arith) (omega arith)
    weighs_of (visit.pins p rest x e o q q' u u' cell todo at held is sw named_u free taken is_cell
        in_cell v_is m_is) =
        weigh_by (lock.Class o.class) _ _ _ _
        (lock_is p rest step.Pinning x _ _ todo held at (class_lock e.kept o is)) v_is
        held (after_is _ m_is) (λ h i. omega arith) (λ f. omega arith) (omega arith) (omega arith)
    weighs_of (visit.unpins p rest x e o q q' u u' todo at held is sw named_u taken free v_is m_is) =
        weigh_by (lock.Class o.class) _ _ _ _
        (lock_is p rest step.Unpinning x _ _ todo held at (class_lock e.kept o is)) v_is
        held (after_is _ m_is) (λ h i. omega arith) (λ f. omega arith) (omega arith) (omega arith)
    weighs_of (visit.marks p rest x e b todo at held block v_is m_is) =
        weigh_by (slot x.page) _ _ [] [] (lock_is p rest step.Marking x _ _ todo held at refl) v_is
        held (after_is _ m_is) (λ h i. omega arith) (λ f. omega arith) (omega arith) (omega arith)
    weighs_of (visit.stores p rest x b page d d' todo at held block is write v_is m_is) =
        weigh_by lock.Device _ _ [] [] (lock_is p rest step.Storing x _ _ todo held at refl) v_is
        held (after_is _ m_is) (λ h i. omega arith) (λ f. omega arith)
        (let r = write.reads in omega arith) (let r = write.faults in omega arith)
    weighs_of (visit.spoils p rest x b d d' fault todo at held block failed v_is m_is) =
        weigh_by lock.Device _ _ [] [] (lock_is p rest step.Storing x _ _ todo held at refl) v_is
        held (after_is _ m_is) (λ h i. omega arith) (λ f. omega arith)
        (let r = failed.reads in omega arith) (let r = failed.rose in omega arith)
    weighs_of (visit.frees p rest x e o q q' u frames todo at held is gone named_u home v_is m_is) =
        weigh_by (lock.Class o.class) _ _ _ _
        (lock_is p rest step.Freeing x _ _ todo held at (class_lock e.kept o is)) v_is
        held (after_is _ m_is) (λ h i. omega arith) (λ f. omega arith) (omega arith) (omega arith)
    weighs_of (visit.commits p rest x e b y todo at held block v_is m_is) =
        weigh_by lock.Blocks _ _ _ _ (lock_is p rest step.Committing x _ _ todo held at refl) v_is
        held (after_is _ m_is) (λ h i. omega arith) (λ f. omega arith) (omega arith) (omega arith)
    weighs_of (visit.pays p rest x e c was todo at held is v_is m_is) =
        weigh_by lock.Account _ _ _ _ (lock_is p rest step.Paying x _ _ todo held at refl) v_is
        held (after_is _ m_is) (λ h i. let z = i c l.owed was in omega arith) (λ f. omega arith)
        (omega arith) (omega arith)
    weighs_of (visit.puts p rest x e b todo at held block v_is on) = weigh_by (slot x.page) _ _ [] []
        (lock_is p rest step.Putting x _ _ todo held at refl) v_is held
        (onward_held p rest _ on) (λ h i. omega arith) (λ f. omega arith) (omega arith) (omega arith)
    weighs_of (visit.loses p rest x e todo at held v_is m_is) =
        weigh_by (slot x.page) _ _ [] [] (lock_is p rest step.Losing x _ _ todo held at refl) v_is
        held (after_is _ m_is) (λ h i. omega arith) (λ f. omega arith) (omega arith) (omega arith)
    weighs_of (visit.releases p rest x b y todo at held block well v_is on) =
        weigh_by lock.Blocks _ _ [] [] (lock_is p rest step.Releasing x _ _ todo held at refl) v_is
        held (onward_held p rest _ on) (λ h i. omega arith) (λ f. omega arith) (omega arith)
        (omega arith)
    weighs_of (visit.stops p rest x b y end todo at held block bad v_is m_is) =
        weigh_by lock.Blocks _ _ [] [] (lock_is p rest step.Releasing x _ _ todo held at refl) v_is
        held (after_is _ m_is) (λ h i. omega arith) (λ f. omega arith) (omega arith) (omega arith)

    -- what all orders in hand have, they have after it
    module _ (P : ℕ → List Tag → ℕ → Type 0) where
      abbrev Carries : Type 0
      Carries = HeldAll g.given.size (OfOrder P) l.held
          → OfOrder P (spot g.given.size k) v × HeldAll g.given.size (OfOrder P) m.held

      -- the slot of an entry goes back, with its order
      slot_carries : (x : Trip) (e f : EntryState) → f.order ≡ e.order → f.room ≡ e.room
          → l.held ≡ (slot x.page, holds.Slot e) ∷ [] → slot x.page ≡ k → v ≡ holds.Slot f
          → m.held ≡ [] → Carries
      slot_carries x e f order room held k_is v_is after h = (
        subst (λ (y : LockNo × DiskHeld). OfOrder P (spot g.given.size y.0) y.1)
            (λ i. (k_is i, sym v_is i))
            (subst (λ (y : List Tag × ℕ). P x.page y.0 y.1) (λ i. (sym order i, sym room i))
            (subst (HeldAll g.given.size (OfOrder P)) held h).0),
        subst (HeldAll g.given.size (OfOrder P)) (sym after) tt,
      )

      -- another value goes back, and the entry in hand stays
      beside_carries : (k₀ : LockNo) (u : DiskHeld) (x : Trip) (e f : EntryState)
          → f.order ≡ e.order → f.room ≡ e.room
          → l.held ≡ (k₀, u) ∷ (slot x.page, holds.Slot e) ∷ []
          → m.held ≡ (slot x.page, holds.Slot f) ∷ [] → OfOrder P (spot g.given.size k) v
          → Carries
      beside_carries k₀ u x e f order room held after here h = (
        here,
        subst (HeldAll g.given.size (OfOrder P)) (sym after) (
          subst (λ (y : List Tag × ℕ). P x.page y.0 y.1) (λ i. (sym order i, sym room i))
              (subst (HeldAll g.given.size (OfOrder P)) held h).1.0,
          tt,
        ),
      )

      plain_value : (v₀ : DiskHeld) → v ≡ v₀ → OfOrder P (spot g.given.size k) v₀
          → OfOrder P (spot g.given.size k) v
      plain_value v₀ is h = subst (OfOrder P (spot g.given.size k)) (sym is) h

      nothing_left : m.held ≡ [] → HeldAll g.given.size (OfOrder P) m.held
      nothing_left after = subst (HeldAll g.given.size (OfOrder P)) (sym after) tt

      pub carries_of : VisitEvent g l v m → Carries
      carries_of (visit.passes p rest x e todo at held v_is on) = slot_carries x e e refl refl held
          (lock_is p rest step.Passing x _ _ todo held at refl) v_is (onward_held p rest _ on)
      carries_of (visit.reserves p rest x e y b todo at held answer v_is m_is) =
          beside_carries lock.Blocks _ x e e refl refl held (after_is _ m_is) (plain_value _ v_is tt)
      carries_of (visit.refrains p rest x e y r end todo at held answer is v_is m_is) =
          beside_carries lock.Blocks _ x e e refl refl held (after_is _ m_is) (plain_value _ v_is tt)
      carries_of (visit.quits p rest x e end todo at held bad v_is m_is) =
          slot_carries x e e refl refl held
          (lock_is p rest step.Quitting x _ _ todo held at refl) v_is (after_is _ m_is)
      carries_of (visit.pins p rest x e o q q' u u' cell todo at held is sw named_u free taken
          is_cell in_cell v_is m_is) =
          beside_carries (lock.Class o.class) _ x e e refl refl held (after_is _ m_is)
          (plain_value _ v_is tt)
      carries_of (visit.unpins p rest x e o q q' u u' todo at held is sw named_u taken free v_is
          m_is) =
          beside_carries (lock.Class o.class) _ x e e refl refl held (after_is _ m_is)
          (plain_value _ v_is tt)
      carries_of (visit.marks p rest x e b todo at held block v_is m_is) =
          slot_carries x e (record e { under = Some b }) refl refl held
          (lock_is p rest step.Marking x _ _ todo held at refl) v_is (after_is _ m_is)
      carries_of (visit.stores p rest x b page d d' todo at held block is write v_is m_is) =
          λ h. (plain_value _ v_is tt, nothing_left (after_is _ m_is))
      carries_of (visit.spoils p rest x b d d' fault todo at held block failed v_is m_is) =
          λ h. (plain_value _ v_is tt, nothing_left (after_is _ m_is))
      carries_of (visit.frees p rest x e o q q' u frames todo at held is gone named_u home v_is
          m_is) =
          beside_carries (lock.Class o.class) _ x e (emptied e) refl refl held (after_is _ m_is)
          (plain_value _ v_is tt)
      carries_of (visit.commits p rest x e b y todo at held block v_is m_is) =
          beside_carries lock.Blocks _ x e e refl refl held (after_is _ m_is) (plain_value _ v_is tt)
      carries_of (visit.pays p rest x e c was todo at held is v_is m_is) =
          beside_carries lock.Account _ x e e refl refl held (after_is _ m_is)
          (plain_value _ v_is tt)
      carries_of (visit.puts p rest x e b todo at held block v_is on) =
          slot_carries x e (put_back b e) refl refl held
          (lock_is p rest step.Putting x _ _ todo held at refl) v_is (onward_held p rest _ on)
      carries_of (visit.loses p rest x e todo at held v_is m_is) =
          slot_carries x e (unmarked x.block e) refl refl held
          (lock_is p rest step.Losing x _ _ todo held at refl) v_is (after_is _ m_is)
      carries_of (visit.releases p rest x b y todo at held block well v_is on) =
          λ h. (plain_value _ v_is tt, nothing_left (onward_held p rest _ on))
      carries_of (visit.stops p rest x b y end todo at held block bad v_is m_is) =
          λ h. (plain_value _ v_is tt, nothing_left (after_is _ m_is))
