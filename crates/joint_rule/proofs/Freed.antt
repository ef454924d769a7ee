-- The account's counter of the frames that compactions freed: each giving raises it by what its actor
-- tells then.
use Rattle.zr_base.specs.declared.op.OpEnd.{OpEnd}
use Rattle.mem_account.specs.declared.weight.Weight.TheVariants.{Back}
use Rattle.lock_row.specs.declared.names.Trip.{Trip}
use Rattle.lock_row.specs.declared.names.Step.{Step}
use Rattle.joint_rule.proofs.Courses.{Course, IsCourse, IsTripEnd, Weighs, course_of, weighs_of}
use Rattle.slot_entry.specs.Entries.{EntryState, is_eligible}
use Rattle.joint_rule.proofs.Alikes.{arrived_is, visited_is}
use Rattle.std.proofs.Common.{◌≡◌, ◌+◌, ◌∷◌, ◌∙◌, ℕ, zero, suc, Bool, true, false, List, [], Option, Some, None, slice_get, slice_set, refl, sym, ap, subst, arith}
use Rattle.call_history.specs.Parts.{done_sum, left_by, piece_gives}
use Rattle.call_history.specs.declared.part.Part.{Part}
use Rattle.call_history.specs.declared.part.PartEnd.{PartEnd}
use Rattle.call_history.specs.declared.part.PartEnd.TheVariants.{AtLimit, Carried, Eio, NoMemory, Whole}
use Rattle.joint_rule.proofs.Balances.{settled_compacted}
use Rattle.joint_rule.proofs.Calm.{plain_entered, plain_fetched, plain_pinned, plain_quit, plain_settle}
use Rattle.joint_rule.proofs.Counts.{Raises, by, rises_total, still}
use Rattle.joint_rule.proofs.Events.{Event}
use Rattle.joint_rule.proofs.Facts.{Known}
use Rattle.joint_rule.proofs.Gifts.{stage}
use Rattle.joint_rule.proofs.Sums.{gone}
use Rattle.joint_rule.specs.Alone.{compacting_at}
use Rattle.joint_rule.specs.Begins.{Begin, terms}
use Rattle.joint_rule.specs.Joint.{Joint}
use Rattle.joint_rule.specs.Rule.{CountsFreed}
use Rattle.joint_rule.specs.Stages.{FailBy, IsFault}
use Rattle.joint_rule.specs.Weights.{compactions, freed_at, freed_by, none}
use Rattle.lock_row.specs.Totals.{held_sum, locals_sum, mass}
use Rattle.lock_row.specs.declared.names.At.{At}
use Rattle.lock_row.specs.declared.names.At.TheVariants.{Both, Counting, Fetching, Freeing, Giving, Leaving, Made, Missed, Moving, Pinning, Ready, Refusing, Releasing, Shrinking, Shrunk, Start, Sweeping, Unpinning, Marking, Visiting}
use Rattle.lock_row.specs.declared.names.Compaction.{Compaction}
use Rattle.lock_row.specs.declared.names.LockNo.{LockNo}
use Rattle.lock_row.specs.declared.names.Object.{Object}
use Rattle.lock_row.specs.declared.names.Pin.{Pin}
use Rattle.lock_row.specs.declared.names.Plan.TheVariants.{Take, Give}
use Rattle.lock_row.specs.declared.names.State.{State}
use Rattle.mem_account.specs.Counters.{Counters, at_most_end}
use Rattle.mem_account.specs.declared.weight.Weight.{Weight}
use Rattle.page_steps.specs.Compactions.{compaction_at, moved_at, with_frames, with_move}
use Rattle.page_steps.specs.Givings.{fails_by, old_weight}
use Rattle.page_steps.specs.Pages.{next_form}
use Rattle.page_steps.specs.Steps.{DiskHeld, Here, after_take, begun_at, entry_in, entry_or, lock_of, on, piece_over, plan, spot, taken_at, took, first_at, first_trip}
use Rattle.plain_disk.specs.Ends.{compacted}
use Rattle.slot_entry.specs.Forms.{PageForm, form_weight}
use Rattle.zr_base.specs.Plain.{is_beyond, is_maintenance}
use Rattle.zr_base.specs.declared.op.Op.{Op}
use Rattle.zr_base.specs.declared.op.Op.TheVariants.{Compact, Discard, Idle, Read, Write, Writeback}
use Rattle.joint_rule.proofs.Events as event
use Rattle.joint_rule.proofs.Courses as course
use Rattle.zr_base.specs.declared.op.OpEnd.TheVariants as ends

-- ---- stages

-- the frames of a stage
abbrev freed : At → ℕ
freed at = (compaction_at at).frames

-- a stage of no compaction has freed nothing
freed_none : (at : At) → compacting_at at ≡ None → freed at ≡ 0
freed_none (Sweeping x) e = absurd (cc)
freed_none (Moving x) e = absurd (cc)
freed_none (Shrunk x) e = absurd (cc)
freed_none (Shrinking x) e = absurd (cc)
freed_none at e = refl

freed_moved : (m : ℕ) (x : Compaction) → freed (moved_at m x) ≡ x.frames
freed_moved zero x = refl
freed_moved (suc m) x = refl

freed_first : (op : Op) (e : EntryState) → freed (first_at op e) ≡ 0
freed_first (Idle age) e = refl
freed_first (Writeback mode) e = ap freed (arrived_is (is_eligible mode e) first_trip).2
freed_first (Write start count stuff) e = refl
freed_first (Read start count) e = refl
freed_first (Discard start count) e = refl
freed_first Compact e = refl

freed_begun : (a b : Bool) (p : Part) (f : PageForm) (e : EntryState)
    → freed (begun_at a b p f e) ≡ 0
freed_begun true b p f e = freed_first p.op e
freed_begun false true p f e = refl
freed_begun false false p f e = freed_none _ (plain_entered p.op p.page f e.kept).0

-- a taking frees nothing
freed_after : (size : ℕ) (at : At) (p : Part) (f : PageForm) (e : EntryState)
    (fail : Option PartEnd) → freed (after_take size at p f e fail) ≡ freed at
freed_after size Start p f e fail =
    freed_begun (is_maintenance p.op) (is_beyond size p.op) p f e
freed_after size (Visiting s x) p f e fail = ap freed (visited_is s x p.op e fail).2
freed_after size at p f e fail = refl

freed_taken : (size : ℕ) (ps : List Part) (at : At) (page : Option (List ℕ)) (e : EntryState)
    (fail : Option PartEnd) → freed_at ps (taken_at size ps at page e fail) ≡ freed_at ps at
freed_taken size [] at page e fail = refl
freed_taken size (p ∷ ps) at page e fail =
    freed_after size at p (next_form p page e.kept) e fail

freed_same : (ps : List Part) (x y : At) → freed x ≡ freed y → freed_at ps x ≡ freed_at ps y
freed_same [] x y e = refl
freed_same (p ∷ ps) x y e = e

pub freed_start : (ps : List Part) → freed_at ps Start ≡ 0
freed_start [] = refl
freed_start (p ∷ ps) = refl

-- a refused piece freed nothing
refusal_frees : (g : Begin) (p : Part) (op : Op) (x : PartEnd) → FailBy g p op (Some x)
    → piece_gives compacted op x ≡ 0
refusal_frees g p (Write start count stuff) Carried f = absurd f
refusal_frees g p (Write start count stuff) (Whole end) f = absurd f
refusal_frees g p (Write start count stuff) (AtLimit c n l) f = refl
refusal_frees g p (Write start count stuff) NoMemory f = refl
refusal_frees g p (Write start count stuff) (Eio fault) f = absurd f
refusal_frees g p (Read start count) x f = absurd f
refusal_frees g p (Discard start count) x f = absurd f
refusal_frees g p (Idle age) x f = absurd f
refusal_frees g p (Writeback mode) x f = absurd f
refusal_frees g p Compact x f = absurd f

fault_frees : (g : Begin) (p : Part) (op : Op) (x : PartEnd) → IsFault g p (Some x)
    → piece_gives compacted op x ≡ 0
fault_frees g p op Carried f = absurd f
fault_frees g p op (AtLimit c n l) f = absurd f
fault_frees g p op NoMemory f = absurd f
fault_frees g p op (Eio fault) f = refl
fault_frees g p op (Whole end) f = absurd f

fault_compacted : (op : Op) (c : Counters) → (fails_by op c).compacted ≡ c.compacted
fault_compacted (Write start count stuff) c = refl
fault_compacted (Read start count) c = refl
fault_compacted (Discard start count) c = refl
fault_compacted (Idle age) c = refl
fault_compacted (Writeback mode) c = refl
fault_compacted Compact c = refl

-- ---- givings

module _ (g : Begin) (ok : Known g) (w : State DiskHeld) (j : Joint g w) (a : ℕ) (l : Here)
    (who : slice_get w.locals a ≡ Some l) (k : LockNo) (v : DiskHeld) (m : Here) where
  abbrev n : ℕ
  n = g.given.size

  -- What the actor tells rises as the account's counter does.
  pub record Frees (u : DiskHeld) (m' : Here) : Type 0 where
    pub more : ℕ
    pub told : freed_by m' ≡ freed_by l + more
    pub rises : Raises g (λ c. c.compacted) l k u m' more

  same_frees : (v₀ : DiskHeld) (m₀ : Here) → v ≡ v₀ → m ≡ m₀ → Frees v₀ m₀ → Frees v m
  same_frees v₀ m₀ e f t = subst (λ (x : DiskHeld × Here). Frees x.0 x.1)
      (λ i. (sym e i, sym f i)) t

  still_so : (u : DiskHeld) (m' : Here) → freed_by m' ≡ freed_by l
      → mass (spot n) compactions none m' + compactions (spot n k) u
      ≡ mass (spot n) compactions none l
      → Frees u m'
  still_so u m' told same = record { more = 0; told = (omega arith); rises = still same refl }

  -- the piece goes on at a stage with the same frames
  stays_so : {u : DiskHeld} {held : List (LockNo × DiskHeld)} {fresh : Option Object}
      {pin : Option Pin} {owed : ℕ} {more less : Option Weight} {page : Option (List ℕ)}
      {fail : Option PartEnd} (x y : At) → l.at ≡ x → freed y ≡ freed x
      → mass (spot n) compactions none (on l y held fresh pin owed more less page fail)
      + compactions (spot n k) u ≡ mass (spot n) compactions none l
      → Frees u (on l y held fresh pin owed more less page fail)
  stays_so x y at e same = still_so _ _ (ap (λ (i : ℕ). done_sum compacted l.done + i)
      (freed_same l.todo y x e ∙ ap (freed_at l.todo) (sym at))) same

  -- the piece is over
  over_told : (p : Part) (end : PartEnd) (got : List (List ℕ)) (rest : List Part)
      → freed_by (piece_over l p end got rest)
      ≡ done_sum compacted l.done + piece_gives compacted p.op end
  over_told p end got rest =
      let r = ok.facts.counted compacted l.done (record { part = p; end = end; got = got } ∷ []) in
      let z = freed_start (left_by end p.nr rest) in omega arith

  at_work : (p : Part) (rest : List Part) → l.todo ≡ p ∷ rest → (x : At) → l.at ≡ x
      → freed_at l.todo l.at ≡ freed x
  at_work p rest todo x at = λ i. freed_at (todo i) (at i)

  ends_so : {u : DiskHeld} (p : Part) (rest : List Part) (end : PartEnd) (got : List (List ℕ))
      → l.todo ≡ p ∷ rest → (x : At) → l.at ≡ x → freed x ≡ 0 → piece_gives compacted p.op end ≡ 0
      → mass (spot n) compactions none (piece_over l p end got rest) + compactions (spot n k) u
      ≡ mass (spot n) compactions none l
      → Frees u (piece_over l p end got rest)
  ends_so p rest end got todo x at e z same = still_so _ _ (over_told p end got rest
      ∙ ap (λ (i : ℕ). done_sum compacted l.done + i)
      (z ∙ sym (at_work p rest todo x at ∙ e))) same

  -- a giving of a writeback frees nothing for a compaction
  trip_frees : (op : Op) (end : OpEnd) → IsTripEnd end → piece_gives compacted op (Whole end) ≡ 0
  trip_frees op (ends.Written wrote lost) i = refl
  trip_frees op (ends.Budget wrote lost) i = refl
  trip_frees op (ends.NoBlock wrote lost) i = refl
  trip_frees op (ends.WriteEio fault wrote lost) i = refl
  trip_frees op end i = absurd i

  visit_frees : (c : IsCourse g l v m) → Weighs g ok w j a l who v m k → Frees v m
  visit_frees c x = still_so v m (told c.course)
      (x.account (λ y. y.compacted) (λ y owed was. settled_compacted Compact owed was Back y)) where
        was_none : freed_at l.todo l.at ≡ 0
        was_none = at_work c.p c.rest c.todo (Visiting c.s c.x) c.at

        goes_on : (s : Step) (y : Trip) → m.done ≡ l.done → m.todo ≡ l.todo
            → m.at ≡ Visiting s y → freed_by m ≡ freed_by l
        goes_on s y done todo at =
            let d = ap (done_sum compacted) done in
            let r : freed_at m.todo m.at ≡ 0 =
            (λ i. freed_at ((todo ∙ c.todo) i) (at i)) in
            let z = was_none in omega arith

        over_so : (end : OpEnd) → IsTripEnd end → m ≡ piece_over l c.p (Whole end) [] c.rest
            → freed_by m ≡ freed_by l
        over_so end i m_is = ap freed_by m_is ∙ (let s = over_told c.p (Whole end) [] c.rest in
            let z = trip_frees c.p.op end i in let y = was_none in omega arith)

        told : Course l v c.p c.rest m → freed_by m ≡ freed_by l
        told (course.goes s y done todo at fail) = goes_on s y done todo at
        told (course.halts s y end done todo at well fail i) = goes_on s y done todo at
        told (course.errs s y d d' b fault wrote lost done todo at well fail held v_is failed) =
            goes_on s y done todo at
        told (course.tells wrote lost well m_is) = over_so (ends.Written wrote lost) tt m_is
        told (course.closes end i fail m_is) = over_so end i m_is

  pub frees_of : plan (terms g) l ≡ Give k → Event g l v m → Frees v m
  frees_of what (event.visits t) = visit_frees (course_of g ok w j a l who v m t)
      (weighs_of g ok w j a l who v m k what t)
  frees_of what (event.pins p rest e o x x' u u' cell todo at held is sw named_u free outside is_cell
      in_cell lk v_is m_is) =
      same_frees _ _ v_is m_is (stays_so Pinning _ at (freed_none _ (plain_pinned p.op _ e.kept).0)
      (let r = ap (held_sum (spot n) compactions) held in omega arith))
  frees_of what (event.unpins p rest e o x x' u u' todo at held is sw named_u outside free lk v_is m_is) =
      same_frees _ _ v_is m_is (stays_so Unpinning _ at refl
      (let r = ap (held_sum (spot n) compactions) held in omega arith))
  frees_of what (event.charges p rest e c x x' cl h need bytes huge todo at held is_form is_class within al
      v_is m_is) =
      same_frees _ _ v_is m_is (stays_so Both _ at refl
      (let r = ap (held_sum (spot n) compactions) held in omega arith))
  frees_of what (event.limits p rest e c x cl need todo at held is_need past v_is m_is) =
      same_frees _ _ v_is m_is (stays_so Both _ at refl
      (let r = ap (held_sum (spot n) compactions) held in omega arith))
  frees_of what (event.starves p rest e c x cl todo at held v_is m_is) =
      same_frees _ _ v_is m_is (stays_so Both _ at refl
      (let r = ap (held_sum (spot n) compactions) held in omega arith))
  frees_of what (event.stows p rest e x cl todo at held well v_is m_is) =
      same_frees _ _ v_is m_is (stays_so Made _ at (freed_none _ (plain_settle e.kept).0)
      (let r = ap (held_sum (spot n) compactions) held in omega arith))
  frees_of what (event.quits p rest e x cl y todo at held bad v_is m_is) =
      same_frees _ _ v_is m_is (stays_so Made _ at (freed_none _ (plain_quit l.pin).0)
      (let r = ap (held_sum (spot n) compactions) held in omega arith))
  frees_of what (event.frees p rest e o x x' frames todo at held is fp v_is m_is) =
      same_frees _ _ v_is m_is (stays_so Freeing _ at refl
      (let r = ap (held_sum (spot n) compactions) held in omega arith))
  frees_of what (event.repays p rest e c todo at held v_is m_is) =
      same_frees _ _ v_is m_is (stays_so Giving _ at refl
      (let r = ap (held_sum (spot n) compactions) held in
      let s = settled_compacted p.op l.owed (old_weight l.ahead e.kept)
      (form_weight (next_form p l.page e.kept)) c in omega arith))
  frees_of what (event.refuses p rest c todo at held v_is m_is) =
      same_frees _ _ v_is m_is (ends_so p rest (Whole ends.Range) [] todo Refusing at refl refl
      (let r = ap (held_sum (spot n) compactions) held in omega arith))
  frees_of what (event.puts p rest e f todo at held notes v_is m_is) =
      same_frees _ _ v_is m_is (ends_so p rest Carried [] todo Ready at refl refl
      (let r = ap (held_sum (spot n) compactions) held in omega arith))
  frees_of what (event.reads p rest e f todo at held well notes v_is m_is) =
      same_frees _ _ v_is m_is (ends_so p rest Carried _ todo Leaving at refl refl
      (let r = ap (held_sum (spot n) compactions) held in omega arith))
  frees_of what (event.fails p rest e x todo at held bad v_is m_is) =
      let st = stage g ok w j a l who p rest todo _ Leaving held at in
      same_frees _ _ v_is m_is (ends_so p rest x [] todo Leaving at refl
      (refusal_frees g p p.op x (subst (FailBy g p p.op) bad st.fails))
      (let r = ap (held_sum (spot n) compactions) held in omega arith))
  frees_of what (event.fetches p rest e b d d' page todo at held is read is_page v_is m_is) =
      same_frees _ _ v_is m_is (stays_so Fetching _ at
      (freed_none _ (plain_fetched p.op _ e.kept).0)
      (let r = ap (held_sum (spot n) compactions) held in omega arith))
  frees_of what (event.misses p rest e b d d' fault todo at held is failed v_is m_is) =
      same_frees _ _ v_is m_is (stays_so Fetching _ at refl
      (let r = ap (held_sum (spot n) compactions) held in omega arith))
  frees_of what (event.counts p rest e c todo at held v_is m_is) =
      same_frees _ _ v_is m_is (stays_so Counting _ at refl
      (let r = ap (held_sum (spot n) compactions) held in let s = fault_compacted p.op c in
      omega arith))
  frees_of what (event.errs p rest e f x todo at held bad read notes v_is m_is) =
      let st = stage g ok w j a l who p rest todo _ Missed held at in
      same_frees _ _ v_is m_is (ends_so p rest x [] todo Missed at refl
      (fault_frees g p p.op x (subst (IsFault g p) bad st.fails))
      (let r = ap (held_sum (spot n) compactions) held in omega arith))
  frees_of what (event.leaves p rest e x todo at held bad other v_is m_is) =
      let st = stage g ok w j a l who p rest todo _ Missed held at in
      same_frees _ _ v_is m_is (ends_so p rest x [] todo Missed at refl
      (fault_frees g p p.op x (subst (IsFault g p) bad st.fails))
      (let r = ap (held_sum (spot n) compactions) held in omega arith))
  frees_of what (event.releases p rest e b x todo at held is v_is m_is) =
      same_frees _ _ v_is m_is (stays_so Releasing _ at refl
      (let r = ap (held_sum (spot n) compactions) held in omega arith))
  frees_of what (event.scans p rest age x e todo op at held other v_is m_is) =
      same_frees _ _ v_is m_is (stays_so (Marking x) _ at refl
      (let r = ap (held_sum (spot n) compactions) held in omega arith))
  frees_of what (event.stops p rest age x e todo op at held last v_is m_is) =
      same_frees _ _ v_is m_is (ends_so p rest (Whole (ends.Marked _)) [] todo (Marking x) at refl
      refl (let r = ap (held_sum (spot n) compactions) held in omega arith))
  frees_of what (event.moves p rest x y y' u u' budget frames todo at held sh some one v_is m_is) =
      same_frees _ _ v_is m_is (stays_so (Moving x) _ at (freed_moved frames (with_move x budget))
      (let r = ap (held_sum (spot n) compactions) held in omega arith))
  frees_of what (event.sweeps p rest x y todo at held stuck other v_is m_is) =
      same_frees _ _ v_is m_is (stays_so (Moving x) _ at refl
      (let r = ap (held_sum (spot n) compactions) held in omega arith))
  frees_of what (event.closes p rest x y todo at held stuck last v_is m_is) =
      same_frees _ _ v_is m_is (still_so _ _
      (over_told p (Whole (ends.Compacted x.moves x.frames)) [] rest
      ∙ ap (λ (i : ℕ). done_sum compacted l.done + i) (sym (at_work p rest todo (Moving x) at)))
      (let r = ap (held_sum (spot n) compactions) held in omega arith))
  frees_of what (event.shrinks p rest x c todo at held v_is m_is) =
      same_frees _ _ v_is m_is (record {
        more = l.owed;
        told = (let r = at_work p rest todo (Shrinking x) at in
            let s : freed_at l.todo (Sweeping (with_frames x l.owed)) ≡ x.frames + l.owed =
            ap (λ (ps : List Part). freed_at ps (Sweeping (with_frames x l.owed))) todo in
            omega arith);
        rises = by c _ held refl refl refl;
      })

  pub freed_give : slice_get w.row (spot n k) ≡ Some None → Frees v m → CountsFreed g w
      → CountsFreed g (gone n w a l who k (Some v) m)
  freed_give there x t =
      rises_total g ok w j a l who k v m there (λ c. c.compacted)
      (g.was.compacted + locals_sum freed_by w.locals) x.more t x.rises
      ∙ ap at_most_end (
      let s = ok.facts.moves freed_by w.locals a l m who in let y = x.told in
      let z : g.was.compacted + locals_sum freed_by w.locals + x.more
      ≡ g.was.compacted + locals_sum freed_by (slice_set w.locals a m) = omega arith in z)

module _ (g : Begin) (ok : Known g) (w : State DiskHeld) (j : Joint g w) (a : ℕ) (l : Here)
    (who : slice_get w.locals a ≡ Some l) (k : LockNo) (v : DiskHeld) where
  pub freed_take : plan (terms g) l ≡ Take k → slice_get w.row (spot g.given.size k) ≡ Some (Some v)
      → CountsFreed g w → CountsFreed g (gone g.given.size w a l who k None (took (terms g) l v))
  freed_take what there t =
      let m = took (terms g) l v in
      ok.facts.take (spot g.given.size) compactions none w a l k v m who there
      (ap (λ p. (lock_of p, v) ∷ l.held) what) refl ∙ t
      ∙ ap (λ (i : ℕ). at_most_end (g.was.compacted + i)) (
      let r = ok.facts.moves freed_by w.locals a l m who in
      let s = freed_taken g.given.size l.todo l.at l.page (entry_or v (entry_in l.held)) l.fail in
      let z : locals_sum freed_by w.locals ≡ locals_sum freed_by (slice_set w.locals a m) =
      omega arith in z)
