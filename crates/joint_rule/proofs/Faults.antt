-- The device's counts of faults: a failure's is above all that were told before, so each is told
-- once.
use Rattle.joint_rule.proofs.Rounds.{quit_ends}
use Rattle.lock_row.specs.declared.names.Plan.TheVariants.{Give}
use Rattle.lock_row.specs.declared.names.Trip.{Trip}
use Rattle.lock_row.specs.declared.names.Step.{Step}
use Rattle.lock_row.specs.declared.names.Step.TheVariants as step
use Rattle.joint_rule.proofs.Courses.{Course, IsCourse, IsRefused, Weighs, course_of, weighs_of}
use Rattle.std.proofs.Common.{◌≡◌, ◌+◌, ◌≤◌, ◌<◌, ◌∷◌, ℕ, zero, suc, Bool, cond, eqb, List, [], Option, Some, None, slice_get, refl, sym, ap, subst, arith, inl, inr, ◌∙◌}
use Rattle.backing_dev.specs.Dev.{DeviceState}
use Rattle.call_history.specs.Parts.{EndsSo, Follows, KeepsTo, done_sum, left_by, piece_gives, program}
use Rattle.call_history.specs.declared.part.Done.{Done}
use Rattle.call_history.specs.declared.part.Part.{Part}
use Rattle.call_history.specs.declared.part.PartEnd.{PartEnd}
use Rattle.call_history.specs.declared.part.PartEnd.TheVariants.{AtLimit, Carried, Eio, NoMemory, Whole}
use Rattle.joint_rule.proofs.Blocks.{under_device}
use Rattle.joint_rule.proofs.Counts.{fails_none}
use Rattle.joint_rule.proofs.Events.{Event}
use Rattle.joint_rule.proofs.Facts.{Known}
use Rattle.joint_rule.proofs.Gifts.{stage}
use Rattle.joint_rule.proofs.Lookups.{lone}
use Rattle.joint_rule.proofs.Pools.{same_self}
use Rattle.joint_rule.proofs.Sums.{gone}
use Rattle.joint_rule.specs.Begins.{Begin, ground_of, terms}
use Rattle.joint_rule.specs.Joint.{Joint}
use Rattle.joint_rule.specs.Rule.{FailKeeps, FaultsDiffer, KeepsLimits, Limits, reach_at}
use Rattle.joint_rule.specs.Stages.{FailAt, FailBy, IsFault, IsRefusal, NoneOf, StageBy, QuitAt}
use Rattle.joint_rule.specs.Weights.{at_place, device_faults, fails_so, faults_told, none, on_device}
use Rattle.lock_row.specs.Totals.{held_sum, locals_sum, mass, total}
use Rattle.lock_row.specs.declared.names.At.{At}
use Rattle.lock_row.specs.declared.names.At.TheVariants.{Both, Counting, Failing, Fetching, Leaving, Made, Missed, Moving, Pinned, Ready, Refusing, Unpinning, Marking, Visiting}
use Rattle.lock_row.specs.declared.names.LockNo.{LockNo}
use Rattle.lock_row.specs.declared.names.State.{State}
use Rattle.page_steps.specs.Steps.{DiskHeld, Here, entry_in, on, piece_over, slot, spot, took, plan}
use Rattle.plain_disk.specs.Ends.{Bounds, Ground, MayBeSingle, tells_fault}
use Rattle.std.proofs.lemmas.Bool.{cases_eq, eq-eqb, ne_eqb}
use Rattle.zr_base.specs.declared.op.Op.{Op}
use Rattle.zr_base.specs.declared.op.Op.TheVariants.{Compact, Discard, Idle, Read, Write, Writeback}
use Rattle.zr_base.specs.declared.op.OpEnd.{OpEnd}
use Rattle.joint_rule.proofs.Events as event
use Rattle.joint_rule.proofs.Courses as course
use Rattle.lock_row.specs.declared.names.LockNo.TheVariants as lock
use Rattle.lock_row.specs.declared.names.Held.TheVariants as holds
use Rattle.zr_base.specs.declared.op.OpEnd.TheVariants as ends

-- ---- the device in hand

module _ (g : Begin) where
  -- who holds the device has all that it weighs
  pub device_here : (w : State DiskHeld) (j : Joint g w) (a : ℕ) (l : Here)
      (who : slice_get w.locals a ≡ Some l) (d : DeviceState) (rest : List (LockNo × DiskHeld))
      → l.held ≡ (lock.Device, holds.Device d) ∷ rest → (f : DeviceState → ℕ)
      → held_sum (spot g.given.size) (on_device f) rest ≡ 0
      → total (spot g.given.size) (on_device f) none w ≡ f d
  device_here w j a l who d rest held f z =
      let r = ap (held_sum (spot g.given.size) (at_place (spot g.given.size lock.Device))) held in
      let k = same_self (g.given.size + 257) in
      let t = lone g w j a l who lock.Device (on_device f) (under_device g f) (omega arith) in
      let s = ap (held_sum (spot g.given.size) (on_device f)) held in omega arith

-- ---- what was told

-- each piece that is over ended in a way that the rule of ends allows
ends_over : (So : Part → PartEnd → Type 0) (ps : List Part) (ds : List Done) (todo : List Part)
    → Follows So ps ds todo → (i : ℕ) (d : Done) → slice_get ds i ≡ Some d → So d.part d.end
ends_over So ps [] todo f i d at = absurd (cc)
ends_over So [] (x ∷ ds) todo f i d at = absurd f
ends_over So (p ∷ ps) (x ∷ ds) todo f zero d at =
    subst (λ (y : Done). So y.part y.end) (let q : x ≡ d = cc in q)
    (subst (λ (q : Part). So q x.end) (sym f.0) f.1)
ends_over So (p ∷ ps) (x ∷ ds) todo f (suc i) d at =
    ends_over So (left_by x.end p.nr ps) ds todo f.2 i d at

module _ (g : Begin) (p : Part) where
  refusal_ends : (x : PartEnd) → IsRefusal g p x → EndsSo (ground_of g) p x
  refusal_ends Carried i = absurd i
  refusal_ends (AtLimit c n l) i = i
  refusal_ends NoMemory i = i
  refusal_ends (Eio fault) i = absurd i
  refusal_ends (Whole end) i = absurd i

  fault_ends : (x : PartEnd) → IsFault g p (Some x) → EndsSo (ground_of g) p x
  fault_ends Carried i = absurd i
  fault_ends (AtLimit c n l) i = absurd i
  fault_ends NoMemory i = absurd i
  fault_ends (Eio fault) i = i
  fault_ends (Whole end) i = absurd i

  write_ends : (op : Op) (x : PartEnd) → FailBy g p op (Some x) → EndsSo (ground_of g) p x
  write_ends (Write start count stuff) x i = refusal_ends x i
  write_ends (Read start count) x i = absurd i
  write_ends (Discard start count) x i = absurd i
  write_ends (Idle age) x i = absurd i
  write_ends (Writeback mode) x i = absurd i
  write_ends Compact x i = absurd i

  step_ends : (s : Step) (y : Trip) (x : PartEnd) → QuitAt g p s y (Some x)
      → EndsSo (ground_of g) p x
  step_ends step.Quitting y x i = quit_ends g p y x i
  step_ends step.Landing y x i = quit_ends g p y x i
  step_ends step.Losing y x i = quit_ends g p y x i
  step_ends step.Undoing y x i = quit_ends g p y x i
  step_ends step.Releasing y x i = quit_ends g p y x i
  step_ends s y x i = absurd i

  -- so did the piece in work, where it is refused
  fail_ends : (at : At) (op : Op) (x : PartEnd) → FailAt g p at op (Some x)
      → EndsSo (ground_of g) p x
  fail_ends Pinned op x i = write_ends op x i
  fail_ends Unpinning op x i = write_ends op x i
  fail_ends Leaving op x i = write_ends op x i
  fail_ends Failing op x i = fault_ends x i
  fail_ends Counting op x i = fault_ends x i
  fail_ends Missed op x i = fault_ends x i
  fail_ends Made op x i = refusal_ends x i
  fail_ends (Visiting s y) op x i = step_ends s y x i
  fail_ends at op x i = absurd i

-- a count above all bounds was told by no end
whole_tells : (t : Ground) (b : Bounds) (op : Op) (end : OpEnd) (n : ℕ) → MayBeSingle t op end
    → KeepsTo t b (Whole end) → b.faults < n → tells_fault n op end ≡ 0
whole_tells t b op (ends.Eio fault done) n i k lt = absurd i
whole_tells t b op (ends.WriteEio fault wrote lost) n i k lt =
    ap (λ (y : Bool). cond {A = ℕ} y 1 0)
    (ne_eqb fault n (λ e. let no : ⊥ = omega arith in no))
whole_tells t b op end n i k lt = refl

end_tells : (t : Ground) (b : Bounds) (p : Part) (x : PartEnd) (n : ℕ) → EndsSo t p x
    → KeepsTo t b x → b.faults < n → piece_gives (tells_fault n) p.op x ≡ 0
end_tells t b p Carried n i k lt = refl
end_tells t b p (AtLimit c m l) n i k lt = refl
end_tells t b p NoMemory n i k lt = refl
end_tells t b p (Eio fault) n i k lt = ap (λ (y : Bool). cond {A = ℕ} y 1 0)
    (ne_eqb fault n (λ e. let no : ⊥ = omega arith in no))
end_tells t b p (Whole end) n i k lt = whole_tells t b p.op end n i.1 k lt

dones_tell : (t : Ground) (b : Bounds) (n : ℕ) (ds : List Done) → b.faults < n
    → ((i : ℕ) (d : Done) → slice_get ds i ≡ Some d → EndsSo t d.part d.end)
    → ((i : ℕ) (d : Done) → slice_get ds i ≡ Some d → KeepsTo t b d.end)
    → done_sum (tells_fault n) ds ≡ 0
dones_tell t b n [] lt so keeps = refl
dones_tell t b n (d ∷ ds) lt so keeps =
    let x = end_tells t b d.part d.end n (so 0 d refl) (keeps 0 d refl) lt in
    let r = dones_tell t b n ds lt (λ i. so (suc i)) (λ i. keeps (suc i)) in omega arith

pub locals_none : (h : Here → ℕ) (ls : List Here)
    → ((a : ℕ) (l : Here) → slice_get ls a ≡ Some l → h l ≡ 0) → locals_sum h ls ≡ 0
locals_none h [] z = refl
locals_none h (l ∷ ls) z = let r = locals_none h ls (λ a. z (suc a)) in let q = z 0 l refl in
    omega arith

module _ (g : Begin) (w : State DiskHeld) (j : Joint g w) (lim : Limits g w) (n : ℕ)
    (lt : total (spot g.given.size) device_faults none w < n) where
  now_tells : (a : ℕ) (l : Here) (ps : List Part) (x : Option PartEnd)
      → StageBy g ps (entry_in l.held) l.at l.fresh l.pin l.owed l.ahead l.behind l.page l.fail
      → KeepsLimits g (reach_at g w a) l → l.fail ≡ x → fails_so (tells_fault n) ps x ≡ 0
  now_tells a l ps None s k e = fails_none (tells_fault n) ps
  now_tells a l [] (Some x) s k e = refl
  now_tells a l (p ∷ ps) (Some x) s k e = end_tells (ground_of g) (reach_at g w a) p x n
      (fail_ends g p l.at p.op x (subst (FailAt g p l.at p.op) e s.fails))
      (subst (FailKeeps g (reach_at g w a)) e k.now) lt

  actor_tells : (a : ℕ) (l : Here) → slice_get w.locals a ≡ Some l → faults_told n l ≡ 0
  actor_tells a l who =
      let f = j.each.in_local a l who in let k = lim a l who in
      let x = dones_tell (ground_of g) (reach_at g w a) n l.done lt
      (ends_over (EndsSo (ground_of g)) (program g.given.size g.given.backed 0 f.ops) l.done l.todo f.follows)
      k.over in
      let y = now_tells a l l.todo l.fail f.stage k refl in omega arith

  -- so nobody has told it
  untold : locals_sum (faults_told n) w.locals ≡ 0
  untold = locals_none (faults_told n) w.locals actor_tells

-- ---- givings

module _ (g : Begin) (ok : Known g) (w : State DiskHeld) (j : Joint g w) (a : ℕ) (l : Here)
    (who : slice_get w.locals a ≡ Some l) (k : LockNo) where
  abbrev size : ℕ
  size = g.given.size

  -- what the device weighs, before and after
  abbrev Falls : DiskHeld → Here → Type 0
  Falls v m = mass (spot size) device_faults none l
      ≤ mass (spot size) device_faults none m + device_faults (spot size k) v

  -- The giving tells no count of faults, or one that is above the device's before.
  pub data Blames (v : DiskHeld) (m : Here) : Type 0 where
    same : ((n : ℕ) → faults_told n m ≡ faults_told n l) → Falls v m → Blames v m
    blames : (fault : ℕ) → ((n : ℕ) → faults_told n m
        ≡ faults_told n l + cond {A = ℕ} (eqb fault n) 1 0)
        → total (spot size) device_faults none w < fault → Falls v m → Blames v m

  same_blames : (v v₀ : DiskHeld) (m m₀ : Here) → v ≡ v₀ → m ≡ m₀ → Blames v₀ m₀ → Blames v m
  same_blames v v₀ m m₀ e f t = subst (λ (x : DiskHeld × Here). Blames x.0 x.1)
      (λ i. (sym e i, sym f i)) t

  -- the piece is over
  over_told : (n : ℕ) (p : Part) (end : PartEnd) (got : List (List ℕ)) (rest : List Part)
      → faults_told n (piece_over l p end got rest)
      ≡ done_sum (tells_fault n) l.done + piece_gives (tells_fault n) p.op end
  over_told n p end got rest =
      let d : Done = record { part = p; end = end; got = got } in
      let r = ok.facts.counted (tells_fault n) l.done (d ∷ []) in
      let z = fails_none (tells_fault n) (left_by end p.nr rest) in omega arith

  none_told : (n : ℕ) (x : Option PartEnd) → l.fail ≡ x → NoneOf x
      → faults_told n l ≡ done_sum (tells_fault n) l.done
  none_told n None e i = let r = ap (fails_so (tells_fault n) l.todo) e in
      let z = fails_none (tells_fault n) l.todo in omega arith
  none_told n (Some x) e i = absurd i

  -- it ends in a way that tells nothing, or as was told
  quiet_over : (p : Part) (end : PartEnd) (got : List (List ℕ)) (rest : List Part) → NoneOf l.fail
      → ((n : ℕ) → piece_gives (tells_fault n) p.op end ≡ 0) → (n : ℕ)
      → faults_told n (piece_over l p end got rest) ≡ faults_told n l
  quiet_over p end got rest well z n =
      let r = over_told n p end got rest in let s = none_told n l.fail refl well in let t = z n in
      omega arith

  failed_over : (p : Part) (rest : List Part) (x : PartEnd) → l.todo ≡ p ∷ rest → l.fail ≡ Some x
      → (n : ℕ) → faults_told n (piece_over l p x [] rest) ≡ faults_told n l
  failed_over p rest x todo bad n =
      let r = over_told n p x [] rest in
      let s : fails_so (tells_fault n) l.todo l.fail ≡ piece_gives (tells_fault n) p.op x =
      (λ i. fails_so (tells_fault n) (todo i) (bad i)) in omega arith

  -- a refusal for memory
  denied : (p : Part) (rest : List Part) (x : PartEnd) (held : List (LockNo × DiskHeld))
      → l.todo ≡ p ∷ rest → NoneOf l.fail → ((n : ℕ) → piece_gives (tells_fault n) p.op x ≡ 0)
      → (n : ℕ)
      → faults_told n (on l Made held l.fresh l.pin l.owed l.ahead l.behind l.page (Some x))
      ≡ faults_told n l
  denied p rest x held todo well z n =
      let s = none_told n l.fail refl well in let t = z n in
      let r : fails_so (tells_fault n) l.todo (Some x) ≡ piece_gives (tells_fault n) p.op x =
      ap (λ (ps : List Part). fails_so (tells_fault n) ps (Some x)) todo in omega arith

  -- an end of a writeback but for one of the device tells none
  refused_tells : (op : Op) (end : OpEnd) → IsRefused end → (n : ℕ) → tells_fault n op end ≡ 0
  refused_tells op (ends.Budget wrote lost) i n = refl
  refused_tells op (ends.NoBlock wrote lost) i n = refl
  refused_tells op end i n = absurd i

  visit_blames : (v : DiskHeld) (m : Here) (c : IsCourse g l v m)
      → Weighs g ok w j a l who v m k → Blames v m
  visit_blames v m c x = by_course c.course where
    now_told : (n : ℕ) (end : OpEnd) → fails_so (tells_fault n) l.todo (Some (Whole end))
        ≡ tells_fault n c.p.op end
    now_told n end = ap (λ (ps : List Part). fails_so (tells_fault n) ps (Some (Whole end))) c.todo

    told_so : (n : ℕ) (fail : Option PartEnd) → m.done ≡ l.done → m.todo ≡ l.todo → m.fail ≡ fail
        → faults_told n m ≡ done_sum (tells_fault n) l.done + fails_so (tells_fault n) l.todo fail
    told_so n fail done todo is =
        λ i. done_sum (tells_fault n) (done i) + fails_so (tells_fault n) (todo i) (is i)

    by_course : Course l v c.p c.rest m → Blames v m
    by_course (course.goes s y done todo at fail) =
        same (λ n. told_so n l.fail done todo fail) x.faults
    by_course (course.halts s y end done todo at well fail i) = same
        (λ n. let t = told_so n (Some (Whole end)) done todo fail in
        let y = none_told n l.fail refl well in let z = refused_tells c.p.op end i n in
        let u = now_told n end in omega arith) x.faults
    by_course (course.errs s y d d' b fault wrote lost done todo at well fail held v_is failed) =
        let now = device_here g w j a l who d _ held (λ y. y.faults) refl in
        let up = failed.rose in let same_count = failed.count in
        blames fault
        (λ n. let t = told_so n (Some (Whole (ends.WriteEio fault wrote lost))) done todo fail in
        let y = none_told n l.fail refl well in
        let u = now_told n (ends.WriteEio fault wrote lost) in omega arith) (omega arith) x.faults
    by_course (course.tells wrote lost well m_is) = same
        (λ n. ap (faults_told n) m_is
        ∙ quiet_over c.p (Whole (ends.Written wrote lost)) [] c.rest well (λ i. refl) n) x.faults
    by_course (course.closes end i fail m_is) = same
        (λ n. ap (faults_told n) m_is ∙ failed_over c.p c.rest (Whole end) c.todo fail n) x.faults

  pub blames_of : (v : DiskHeld) (m : Here) → plan (terms g) l ≡ Give k → Event g l v m
      → Blames v m
  blames_of v m what (event.visits t) = visit_blames v m (course_of g ok w j a l who v m t)
      (weighs_of g ok w j a l who v m k what t)
  blames_of v m what (event.pins p rest e o x x' u u' cell todo at held is sw named_u free outside
      is_cell in_cell lk v_is m_is) =
      same_blames v _ m _ v_is m_is (same (λ n. refl)
      (let r = ap (held_sum (spot size) device_faults) held in omega arith))
  blames_of v m what (event.unpins p rest e o x x' u u' todo at held is sw named_u outside free lk v_is
      m_is) =
      same_blames v _ m _ v_is m_is (same (λ n. refl)
      (let r = ap (held_sum (spot size) device_faults) held in omega arith))
  blames_of v m what (event.charges p rest e c x x' cl h need bytes huge todo at held is_form is_class
      within al v_is m_is) =
      same_blames v _ m _ v_is m_is (same (λ n. refl)
      (let r = ap (held_sum (spot size) device_faults) held in omega arith))
  blames_of v m what (event.stows p rest e x cl todo at held well v_is m_is) =
      same_blames v _ m _ v_is m_is (same (λ n. refl)
      (let r = ap (held_sum (spot size) device_faults) held in omega arith))
  blames_of v m what (event.quits p rest e x cl y todo at held bad v_is m_is) =
      same_blames v _ m _ v_is m_is (same (λ n. refl)
      (let r = ap (held_sum (spot size) device_faults) held in omega arith))
  blames_of v m what (event.frees p rest e o x x' frames todo at held is fp v_is m_is) =
      same_blames v _ m _ v_is m_is (same (λ n. refl)
      (let r = ap (held_sum (spot size) device_faults) held in omega arith))
  blames_of v m what (event.repays p rest e c todo at held v_is m_is) =
      same_blames v _ m _ v_is m_is (same (λ n. refl)
      (let r = ap (held_sum (spot size) device_faults) held in omega arith))
  blames_of v m what (event.fetches p rest e b d d' page todo at held is read is_page v_is m_is) =
      same_blames v _ m _ v_is m_is (same (λ n. refl)
      (let r = ap (held_sum (spot size) device_faults) held in let s = read.faults in omega arith))
  blames_of v m what (event.counts p rest e c todo at held v_is m_is) =
      same_blames v _ m _ v_is m_is (same (λ n. refl)
      (let r = ap (held_sum (spot size) device_faults) held in omega arith))
  blames_of v m what (event.releases p rest e b x todo at held is v_is m_is) =
      same_blames v _ m _ v_is m_is (same (λ n. refl)
      (let r = ap (held_sum (spot size) device_faults) held in omega arith))
  blames_of v m what (event.scans p rest age x e todo op at held other v_is m_is) =
      same_blames v _ m _ v_is m_is (same (λ n. refl)
      (let r = ap (held_sum (spot size) device_faults) held in omega arith))
  blames_of v m what (event.stops p rest age x e todo op at held last v_is m_is) =
      let st = stage g ok w j a l who p rest todo _ (Marking x) held at in
      same_blames v _ m _ v_is m_is (same (quiet_over p (Whole (ends.Marked _)) [] rest st.fails
      (λ n. refl))
      (let r = ap (held_sum (spot size) device_faults) held in omega arith))
  blames_of v m what (event.moves p rest y x x' u u' budget frames todo at held sh some one v_is m_is) =
      same_blames v _ m _ v_is m_is (same (λ n. refl)
      (let r = ap (held_sum (spot size) device_faults) held in omega arith))
  blames_of v m what (event.sweeps p rest y x todo at held stuck other v_is m_is) =
      same_blames v _ m _ v_is m_is (same (λ n. refl)
      (let r = ap (held_sum (spot size) device_faults) held in omega arith))
  blames_of v m what (event.shrinks p rest y c todo at held v_is m_is) =
      same_blames v _ m _ v_is m_is (same (λ n. refl)
      (let r = ap (held_sum (spot size) device_faults) held in omega arith))
  blames_of v m what (event.misses p rest e b d d' fault todo at held is failed v_is m_is) =
      let st = stage g ok w j a l who p rest todo _ Fetching held at in
      let now = device_here g w j a l who d _ held (λ x. x.faults) refl in
      let up = failed.rose in let same_count = failed.count in
      same_blames v _ m _ v_is m_is (blames fault
      (λ n. let s = none_told n l.fail refl st.fails in
      let r : fails_so (tells_fault n) l.todo (Some (Eio fault)) ≡ cond (eqb fault n) 1 0 =
      ap (λ (ps : List Part). fails_so (tells_fault n) ps (Some (Eio fault))) todo in omega arith)
      (omega arith) (let r = ap (held_sum (spot size) device_faults) held in omega arith))
  blames_of v m what (event.limits p rest e c x cl need todo at held is_need past v_is m_is) =
      let st = stage g ok w j a l who p rest todo _ Both held at in
      same_blames v _ m _ v_is m_is (same (denied p rest (AtLimit c.pages need c.limit)
      ((lock.Class cl, holds.Class x) ∷ (slot p.page, holds.Slot e) ∷ []) todo st.fails (λ n. refl))
      (let r = ap (held_sum (spot size) device_faults) held in omega arith))
  blames_of v m what (event.starves p rest e c x cl todo at held v_is m_is) =
      let st = stage g ok w j a l who p rest todo _ Both held at in
      same_blames v _ m _ v_is m_is (same (denied p rest NoMemory
      ((lock.Class cl, holds.Class x) ∷ (slot p.page, holds.Slot e) ∷ []) todo st.fails (λ n. refl))
      (let r = ap (held_sum (spot size) device_faults) held in omega arith))
  blames_of v m what (event.refuses p rest c todo at held v_is m_is) =
      let st = stage g ok w j a l who p rest todo _ Refusing held at in
      same_blames v _ m _ v_is m_is (same (quiet_over p (Whole ends.Range) [] rest st.fails
      (λ n. refl))
      (let r = ap (held_sum (spot size) device_faults) held in omega arith))
  blames_of v m what (event.closes p rest y x todo at held stuck last v_is m_is) =
      let st = stage g ok w j a l who p rest todo _ (Moving y) held at in
      same_blames v _ m _ v_is m_is (same (quiet_over p (Whole (ends.Compacted y.moves y.frames)) []
      rest st.fails (λ n. refl))
      (let r = ap (held_sum (spot size) device_faults) held in omega arith))
  blames_of v m what (event.puts p rest e f todo at held notes v_is m_is) =
      let st = stage g ok w j a l who p rest todo _ Ready held at in
      same_blames v _ m _ v_is m_is (same (quiet_over p Carried [] rest st.fails (λ n. refl))
      (let r = ap (held_sum (spot size) device_faults) held in omega arith))
  blames_of v m what (event.reads p rest e f todo at held well notes v_is m_is) =
      same_blames v _ m _ v_is m_is (same (quiet_over p Carried _ rest (subst NoneOf (sym well) tt)
      (λ n. refl))
      (let r = ap (held_sum (spot size) device_faults) held in omega arith))
  blames_of v m what (event.fails p rest e x todo at held bad v_is m_is) =
      same_blames v _ m _ v_is m_is (same (failed_over p rest x todo bad)
      (let r = ap (held_sum (spot size) device_faults) held in omega arith))
  blames_of v m what (event.errs p rest e f x todo at held bad read notes v_is m_is) =
      same_blames v _ m _ v_is m_is (same (failed_over p rest x todo bad)
      (let r = ap (held_sum (spot size) device_faults) held in omega arith))
  blames_of v m what (event.leaves p rest e x todo at held bad other v_is m_is) =
      same_blames v _ m _ v_is m_is (same (failed_over p rest x todo bad)
      (let r = ap (held_sum (spot size) device_faults) held in omega arith))

  pub faults_give : (v : DiskHeld) (m : Here) → Limits g w → Blames v m → FaultsDiffer w
      → FaultsDiffer (gone size w a l who k (Some v) m)
  faults_give v m lim (same told falls) t n =
      let s = ok.facts.moves (faults_told n) w.locals a l m who in let y = told n in let z = t n in
      omega arith
  faults_give v m lim (blames fault told above falls) t n =
      let s = ok.facts.moves (faults_told n) w.locals a l m who in let y = told n in let z = t n in
      elim (cases_eq fault n) [
        | inl e ↦ let u = untold g w j lim fault above in
            let q : locals_sum (faults_told fault) w.locals ≡ locals_sum (faults_told n) w.locals =
            ap (λ (i : ℕ). locals_sum (faults_told i) w.locals) e in
            let c : cond {A = ℕ} (eqb fault n) 1 0 ≡ 1 =
            ap (λ (b : Bool). cond {A = ℕ} b 1 0) (eq-eqb fault n e) in omega arith
        | inr ne ↦ let c : cond {A = ℕ} (eqb fault n) 1 0 ≡ 0 =
            ap (λ (b : Bool). cond {A = ℕ} b 1 0) (ne_eqb fault n ne) in omega arith
      ]

  -- the device's count of faults doesn't fall
  falls_of : (v : DiskHeld) (m : Here) → Blames v m → Falls v m
  falls_of v m (same told falls) = falls
  falls_of v m (blames fault told above falls) = falls

  pub faults_rise : (v : DiskHeld) (m : Here) → slice_get w.row (spot size k) ≡ Some None
      → Blames v m → total (spot size) device_faults none w
      ≤ total (spot size) device_faults none (gone size w a l who k (Some v) m)
  faults_rise v m there b =
      let r = ok.facts.give (spot size) device_faults none w a l k v m who there in
      let s = falls_of v m b in omega arith

-- a taking tells none
module _ (g : Begin) (ok : Known g) (w : State DiskHeld) (a : ℕ) (l : Here)
    (who : slice_get w.locals a ≡ Some l) (k : LockNo) (v : DiskHeld) where
  pub faults_take : FaultsDiffer w
      → FaultsDiffer (gone g.given.size w a l who k None (took (terms g) l v))
  faults_take t n =
      let s = ok.facts.moves (faults_told n) w.locals a l (took (terms g) l v) who in
      let z = t n in omega arith
