-- The reads of the device: a giving raises their count by one at most, and then for a piece that
-- hasn't read it before; a piece that is over tells that in its page's order or by its end.
use Rattle.lock_row.specs.declared.names.Trip.{Trip}
use Rattle.lock_row.specs.declared.names.Step.{Step}
use Rattle.joint_rule.proofs.Courses.{Course, IsCourse, Weighs, course_of, weighs_of}
use Rattle.std.proofs.Common.{◌≡◌, ◌+◌, ◌≤◌, ◌∷◌, ◌++◌, ℕ, List, [], Option, Some, None, slice_get, refl, sym, ap, subst, arith}
use Rattle.lock_row.specs.declared.names.Scan.{Scan}
use Rattle.call_history.specs.Parts.{done_sum, left_by, piece_gives}
use Rattle.call_history.specs.Shows.{tag_by}
use Rattle.call_history.specs.declared.part.Part.{Part}
use Rattle.call_history.specs.declared.part.PartEnd.{PartEnd}
use Rattle.call_history.specs.declared.part.PartEnd.TheVariants.{AtLimit, Carried, NoMemory, Whole}
use Rattle.joint_rule.proofs.Events.{Event}
use Rattle.joint_rule.proofs.Facts.{Known}
use Rattle.joint_rule.proofs.Gifts.{is_named, stage}
use Rattle.joint_rule.proofs.Givings.{event_is, given_lock}
use Rattle.plain_disk.specs.Phases.{calls_on}
use Rattle.joint_rule.proofs.News.{push_sum}
use Rattle.joint_rule.proofs.Sums.{gone, total_split}
use Rattle.joint_rule.specs.Begins.{Begin, found, terms}
use Rattle.joint_rule.specs.Joint.{Joint}
use Rattle.joint_rule.specs.Rule.{FewFetches}
use Rattle.joint_rule.specs.Stages.{FailBy, Looks}
use Rattle.joint_rule.specs.Weights.{device_reads, fetched_by, fetched_now, fetches_noted, fetches_told, looks, none}
use Rattle.lock_row.specs.Totals.{held_sum, mass}
use Rattle.lock_row.specs.declared.names.At.{At}
use Rattle.lock_row.specs.declared.names.At.TheVariants.{Both, Counting, Fetching, Freeing, Giving, Leaving, Made, Missed, Moving, Pinning, Ready, Refusing, Releasing, Shrinking, Start, Unpinning, Marking, Visiting}
use Rattle.lock_row.specs.declared.names.LockNo.{LockNo}
use Rattle.lock_row.specs.declared.names.Object.{Object}
use Rattle.lock_row.specs.declared.names.Pin.{Pin}
use Rattle.lock_row.specs.declared.names.Plan.TheVariants.{Give, Take}
use Rattle.lock_row.specs.declared.names.State.{State}
use Rattle.mem_account.specs.declared.weight.Weight.{Weight}
use Rattle.page_steps.specs.Pages.{next_form, page_in_cell}
use Rattle.page_steps.specs.Steps.{DiskHeld, Here, after_take, entry_in, entry_or, fetched_at, lock_of, made_at, on, piece_over, pinned_at, plan, quit_at, settle_at, slot, spot, taken_at, took}
use Rattle.plain_disk.specs.Calls.{Found, after, after_all, calls_sum, may_fetch}
use Rattle.plain_disk.specs.Ends.{starved}
use Rattle.slot_entry.specs.Entries.{EntryState}
use Rattle.slot_entry.specs.Forms.{Blank, PageForm, Pooled, Word}
use Rattle.slot_entry.specs.declared.kept.Kept.{Kept}
use Rattle.zr_base.specs.Plain.{named}
use Rattle.zr_base.specs.declared.op.Op.{Op}
use Rattle.zr_base.specs.declared.op.Op.TheVariants.{Compact, Discard, Idle, Read, Write, Writeback}
use Rattle.zr_base.specs.declared.op.Tag.{Tag}
use Rattle.joint_rule.proofs.Events as event
use Rattle.joint_rule.proofs.Courses as course
use Rattle.lock_row.specs.declared.names.Held.TheVariants as holds
use Rattle.slot_entry.specs.declared.kept.Kept.TheVariants as kept
use Rattle.zr_base.specs.declared.op.OpEnd.TheVariants as ends

-- ---- stages

looks_settle : (k : Kept) (op : Op) → fetched_by (settle_at k) op ≡ looks op
looks_settle kept.Empty op = refl
looks_settle (kept.Same w) op = refl
looks_settle (kept.Obj o) op = refl
looks_settle (kept.Wb b) op = refl

looks_made : (f : PageForm) (k : Kept) (op : Op) → fetched_by (made_at f k) op ≡ looks op
looks_made Blank k op = looks_settle k op
looks_made (Word w) k op = looks_settle k op
looks_made (Pooled bytes huge) k op = refl

looks_pinned : (o : Op) (f : PageForm) (k : Kept) (op : Op)
    → fetched_by (pinned_at o f k) op ≡ looks op
looks_pinned (Write start count stuff) f k op = looks_made f k op
looks_pinned (Read start count) f k op = refl
looks_pinned (Discard start count) f k op = refl
looks_pinned (Idle age) f k op = refl
looks_pinned (Writeback mode) f k op = refl
looks_pinned Compact f k op = refl

looks_fetched : (o : Op) (f : PageForm) (k : Kept) (op : Op)
    → fetched_by (fetched_at o f k) op ≡ looks op
looks_fetched (Write start count stuff) f k op = looks_made f k op
looks_fetched (Read start count) f k op = refl
looks_fetched (Discard start count) f k op = refl
looks_fetched (Idle age) f k op = refl
looks_fetched (Writeback mode) f k op = refl
looks_fetched Compact f k op = refl

looks_quit : (x : Option Pin) (op : Op) → fetched_by (quit_at x) op ≡ looks op
looks_quit None op = refl
looks_quit (Some x) op = refl

-- a piece that read the device is one that looks at its page
looks_one : (op : Op) → Looks op → looks op ≡ 1
looks_one (Write start count stuff) i = refl
looks_one (Read start count) i = refl
looks_one (Discard start count) i = absurd i
looks_one (Idle age) i = absurd i
looks_one (Writeback mode) i = absurd i
looks_one Compact i = absurd i

-- a taking loses nothing
fetched_after : (size : ℕ) (at : At) (p : Part) (f : PageForm) (e : EntryState)
    (fail : Option PartEnd) → fetched_by at p.op ≤ fetched_by (after_take size at p f e fail) p.op
fetched_after size Start p f e fail = omega arith
fetched_after size at p f e fail = omega arith

fetched_taken : (size : ℕ) (ps : List Part) (at : At) (page : Option (List ℕ)) (e : EntryState)
    (fail : Option PartEnd) → fetched_now ps at ≤ fetched_now ps (taken_at size ps at page e fail)
fetched_taken size [] at page e fail = omega arith
fetched_taken size (p ∷ ps) at page e fail =
    fetched_after size at p (next_form p page e.kept) e fail

pub fetched_start : (ps : List Part) → fetched_now ps Start ≡ 0
fetched_start [] = refl
fetched_start (p ∷ ps) = refl

-- a write that was refused for memory says so
starved_looks : (g : Begin) (p : Part) (op : Op) (x : PartEnd) → FailBy g p op (Some x)
    → looks op ≤ piece_gives starved op x
starved_looks g p (Write start count stuff) (AtLimit c n l) f = omega arith
starved_looks g p (Write start count stuff) NoMemory f = omega arith
starved_looks g p (Write start count stuff) x f = absurd f
starved_looks g p op x f = absurd f

-- a call that is noted counts
call_looks : (op : Op) (x y : Found) → may_fetch (Some op) x y ≡ looks op
call_looks (Write start count stuff) x y = refl
call_looks (Read start count) x y = refl
call_looks op x y = refl

-- ---- givings

module _ (g : Begin) (ok : Known g) (w : State DiskHeld) (j : Joint g w) (a : ℕ) (l : Here)
    (who : slice_get w.locals a ≡ Some l) (k : LockNo) (v : DiskHeld) (m : Here) where
  abbrev n : ℕ
  n = g.given.size

  -- The count of reads rises by no more than what orders and actors tell.
  pub record Reads (u : DiskHeld) (m' : Here) : Type 0 where
    pub few : mass (spot n) device_reads none m' + device_reads (spot n k) u
        + mass (spot n) (fetches_noted g) fetches_told l
        ≤ mass (spot n) device_reads none l
        + mass (spot n) (fetches_noted g) fetches_told m' + fetches_noted g (spot n k) u

  same_reads : (v₀ : DiskHeld) (m₀ : Here) → v ≡ v₀ → m ≡ m₀ → Reads v₀ m₀ → Reads v m
  same_reads v₀ m₀ e f t = subst (λ (x : DiskHeld × Here). Reads x.0 x.1)
      (λ i. (sym e i, sym f i)) t

  at_work : (p : Part) (rest : List Part) → l.todo ≡ p ∷ rest → (x : At) → l.at ≡ x
      → fetched_now l.todo l.at ≡ fetched_by x p.op
  at_work p rest todo x at = λ i. fetched_now (todo i) (at i)

  at_next : (p : Part) (rest : List Part) → l.todo ≡ p ∷ rest → (y : At)
      → fetched_now l.todo y ≡ fetched_by y p.op
  at_next p rest todo y = ap (λ (ps : List Part). fetched_now ps y) todo

  -- the piece goes on, at a stage that may have read the device where the one before may
  goes_so : {u : DiskHeld} {held : List (LockNo × DiskHeld)} {fresh : Option Object}
      {pin : Option Pin} {owed : ℕ} {more less : Option Weight} {page : Option (List ℕ)}
      {fail : Option PartEnd} (p : Part) (rest : List Part) → l.todo ≡ p ∷ rest → (x y : At)
      → l.at ≡ x
      → held_sum (spot n) device_reads held + device_reads (spot n k) u
      + held_sum (spot n) (fetches_noted g) l.held + fetched_by x p.op
      ≤ held_sum (spot n) device_reads l.held
      + held_sum (spot n) (fetches_noted g) held + fetches_noted g (spot n k) u + fetched_by y p.op
      → Reads u (on l y held fresh pin owed more less page fail)
  goes_so p rest todo x y at le = record {
    few = (let q = at_work p rest todo x at in let r = at_next p rest todo y in omega arith);
  }

  -- the piece is over
  over_told : (p : Part) (end : PartEnd) (got : List (List ℕ)) (rest : List Part)
      → fetches_told (piece_over l p end got rest)
      ≡ done_sum starved l.done + piece_gives starved p.op end
  over_told p end got rest =
      let r = ok.facts.counted starved l.done (record { part = p; end = end; got = got } ∷ []) in
      let z = fetched_start (left_by end p.nr rest) in omega arith

  ends_so : {u : DiskHeld} (p : Part) (rest : List Part) (end : PartEnd) (got : List (List ℕ))
      → l.todo ≡ p ∷ rest → (x : At) → l.at ≡ x
      → device_reads (spot n k) u + held_sum (spot n) (fetches_noted g) l.held + fetched_by x p.op
      ≤ held_sum (spot n) device_reads l.held + piece_gives starved p.op end
      + fetches_noted g (spot n k) u
      → Reads u (piece_over l p end got rest)
  ends_so p rest end got todo x at le = record {
    few = (let q = at_work p rest todo x at in let r = over_told p end got rest in omega arith);
  }

  module _ (what : plan (terms g) l ≡ Give k) where
    -- a piece that is noted counts in its order
    notes_so : (p : Part) (rest : List Part) (e f : EntryState) (end : PartEnd)
        (got : List (List ℕ)) → l.todo ≡ p ∷ rest → (at : At) → l.at ≡ at
        → l.held ≡ (slot p.page, holds.Slot e) ∷ [] → k ≡ slot p.page
        → f.order ≡ e.order ++ tag_by l.actor p ∷ [] → fetched_by at p.op ≤ looks p.op
        → Reads (holds.Slot f) (piece_over l p end got rest)
    notes_so p rest e f end got todo at at_is held k_is order le =
        let r = ap (held_sum (spot n) device_reads) held in
        let s = ap (held_sum (spot n) (fetches_noted g)) held in
        let noted : ℕ → List Tag → ℕ = λ i o.
        calls_sum may_fetch (calls_on g.given i) (found g i) o in
        let z : fetches_noted g (spot n k) (holds.Slot f)
        ≡ noted p.page (e.order ++ tag_by l.actor p ∷ []) =
        (λ i. noted (spot n (k_is i)) (order i)) in
        let x = push_sum may_fetch (calls_on g.given p.page) (found g p.page) e.order
        (tag_by l.actor p) in
        let y = ap (λ (o : Option Op). may_fetch o
        (after_all (calls_on g.given p.page) (found g p.page) e.order)
        (after (named g.given.actors (tag_by l.actor p)) (g.given.finds p.page (tag_by l.actor p))
        (after_all (calls_on g.given p.page) (found g p.page) e.order)))
        (is_named g ok w j a l who p rest todo) in
        let c = call_looks p.op (after_all (calls_on g.given p.page) (found g p.page) e.order)
        (after (named g.given.actors (tag_by l.actor p)) (g.given.finds p.page (tag_by l.actor p))
        (after_all (calls_on g.given p.page) (found g p.page) e.order)) in
        ends_so p rest end got todo at at_is (omega arith)

    slot_is : (p : Part) → Give (slot p.page) ≡ Give k → k ≡ slot p.page
    slot_is p is = sym (given_lock g ok w j a l who k v m what (slot p.page) is)

    -- a page that was scanned has its order as before
    scan_noted : (p : Part) (rest : List Part) (x : Scan) (e : EntryState)
        → l.todo ≡ p ∷ rest → l.at ≡ Marking x → l.held ≡ (slot x.page, holds.Slot e) ∷ []
        → fetches_noted g x.page (holds.Slot e) ≡ fetches_noted g (spot n k) (holds.Slot e)
    scan_noted p rest x e todo at held =
        ap (λ (i : LockNo). fetches_noted g (spot n i) (holds.Slot e)) (given_lock g ok w j a l who k
        v m what (slot x.page) (event_is g ok w j a l who k v m what p rest _ (Marking x) todo held
        at))

    -- the stages of a writeback haven't read the device
    now_none : (s : Step) (x : Trip) (ps : List Part) → fetched_now ps (Visiting s x) ≡ 0
    now_none s x [] = refl
    now_none s x (p ∷ ps) = refl

    -- a giving of a writeback reads nothing, and notes nothing
    visit_reads : IsCourse g l v m → Weighs g ok w j a l who v m k → Reads v m
    visit_reads c x = record {
      few = (let r = x.reads in
          let s = x.orders (λ i o. calls_sum may_fetch (calls_on g.given i) (found g i) o) in
          let t = told_less c.course in omega arith);
    } where
      was : fetches_told l ≡ done_sum starved l.done
      was = let z = ap (fetched_now l.todo) c.at in let y = now_none c.s c.x l.todo in omega arith

      goes_on : (s : Step) (y : Trip) → m.done ≡ l.done → m.at ≡ Visiting s y
          → fetches_told l ≤ fetches_told m
      goes_on s y done at = let d = ap (done_sum starved) done in let z = was in omega arith

      ends_it : (end : PartEnd) → m ≡ piece_over l c.p end [] c.rest
          → fetches_told l ≤ fetches_told m
      ends_it end m_is = let q = ap fetches_told m_is in
          let r = over_told c.p end [] c.rest in let z = was in omega arith

      told_less : Course l v c.p c.rest m → fetches_told l ≤ fetches_told m
      told_less (course.goes s y done todo at fail) = goes_on s y done at
      told_less (course.halts s y end done todo at well fail i) = goes_on s y done at
      told_less (course.errs s y d d' b fault wrote lost done todo at well fail held v_is failed) =
          goes_on s y done at
      told_less (course.tells wrote lost well m_is) = ends_it _ m_is
      told_less (course.closes end i fail m_is) = ends_it _ m_is

    pub reads_of : Event g l v m → Reads v m
    reads_of (event.visits t) = visit_reads (course_of g ok w j a l who v m t)
        (weighs_of g ok w j a l who v m k what t)
    reads_of (event.pins p rest e o x x' u u' cell todo at held is sw named_u free outside is_cell
        in_cell lk v_is m_is) =
        same_reads _ _ v_is m_is (goes_so p rest todo Pinning _ at
        (let r = ap (held_sum (spot n) device_reads) held in
        let s = ap (held_sum (spot n) (fetches_noted g)) held in let t = looks_pinned p.op
        (next_form p (Some (page_in_cell o cell)) e.kept) e.kept p.op in omega arith))
    reads_of (event.unpins p rest e o x x' u u' todo at held is sw named_u outside free lk v_is
        m_is) =
        same_reads _ _ v_is m_is (goes_so p rest todo Unpinning _ at
        (let r = ap (held_sum (spot n) device_reads) held in
        let s = ap (held_sum (spot n) (fetches_noted g)) held in omega arith))
    reads_of (event.charges p rest e c x x' cl h need bytes huge todo at held is_form is_class
        within al v_is m_is) =
        same_reads _ _ v_is m_is (goes_so p rest todo Both _ at
        (let r = ap (held_sum (spot n) device_reads) held in
        let s = ap (held_sum (spot n) (fetches_noted g)) held in omega arith))
    reads_of (event.limits p rest e c x cl need todo at held is_need past v_is m_is) =
        same_reads _ _ v_is m_is (goes_so p rest todo Both _ at
        (let r = ap (held_sum (spot n) device_reads) held in
        let s = ap (held_sum (spot n) (fetches_noted g)) held in omega arith))
    reads_of (event.starves p rest e c x cl todo at held v_is m_is) =
        same_reads _ _ v_is m_is (goes_so p rest todo Both _ at
        (let r = ap (held_sum (spot n) device_reads) held in
        let s = ap (held_sum (spot n) (fetches_noted g)) held in omega arith))
    reads_of (event.stows p rest e x cl todo at held well v_is m_is) =
        same_reads _ _ v_is m_is (goes_so p rest todo Made _ at
        (let r = ap (held_sum (spot n) device_reads) held in
        let s = ap (held_sum (spot n) (fetches_noted g)) held in
        let t = looks_settle e.kept p.op in omega arith))
    reads_of (event.quits p rest e x cl y todo at held bad v_is m_is) =
        same_reads _ _ v_is m_is (goes_so p rest todo Made _ at
        (let r = ap (held_sum (spot n) device_reads) held in
        let s = ap (held_sum (spot n) (fetches_noted g)) held in
        let t = looks_quit l.pin p.op in omega arith))
    reads_of (event.frees p rest e o x x' frames todo at held is fp v_is m_is) =
        same_reads _ _ v_is m_is (goes_so p rest todo Freeing _ at
        (let r = ap (held_sum (spot n) device_reads) held in
        let s = ap (held_sum (spot n) (fetches_noted g)) held in omega arith))
    reads_of (event.repays p rest e c todo at held v_is m_is) =
        same_reads _ _ v_is m_is (goes_so p rest todo Giving _ at
        (let r = ap (held_sum (spot n) device_reads) held in
        let s = ap (held_sum (spot n) (fetches_noted g)) held in omega arith))
    reads_of (event.fetches p rest e b d d' page todo at held is read is_page v_is m_is) =
        let st = stage g ok w j a l who p rest todo _ Fetching held at in
        same_reads _ _ v_is m_is (goes_so p rest todo Fetching _ at
        (let r = ap (held_sum (spot n) device_reads) held in
        let s = ap (held_sum (spot n) (fetches_noted g)) held in let t = looks_fetched p.op
        (next_form p (Some page) e.kept) e.kept p.op in let one = looks_one p.op st.kind.0 in
        let u = read.reads in omega arith))
    reads_of (event.misses p rest e b d d' fault todo at held is failed v_is m_is) =
        same_reads _ _ v_is m_is (goes_so p rest todo Fetching _ at
        (let r = ap (held_sum (spot n) device_reads) held in
        let s = ap (held_sum (spot n) (fetches_noted g)) held in let u = failed.reads in
        omega arith))
    reads_of (event.counts p rest e c todo at held v_is m_is) =
        same_reads _ _ v_is m_is (goes_so p rest todo Counting _ at
        (let r = ap (held_sum (spot n) device_reads) held in
        let s = ap (held_sum (spot n) (fetches_noted g)) held in omega arith))
    reads_of (event.releases p rest e b x todo at held is v_is m_is) =
        same_reads _ _ v_is m_is (goes_so p rest todo Releasing _ at
        (let r = ap (held_sum (spot n) device_reads) held in
        let s = ap (held_sum (spot n) (fetches_noted g)) held in omega arith))
    reads_of (event.scans p rest age x e todo op at held other v_is m_is) =
        same_reads _ _ v_is m_is (goes_so p rest todo (Marking x) _ at
        (let r = ap (held_sum (spot n) device_reads) held in
        let s = ap (held_sum (spot n) (fetches_noted g)) held in
        let z = scan_noted p rest x e todo at held in omega arith))
    reads_of (event.stops p rest age x e todo op at held last v_is m_is) =
        same_reads _ _ v_is m_is (ends_so p rest (Whole (ends.Marked _)) [] todo (Marking x) at
        (let r = ap (held_sum (spot n) device_reads) held in
        let s = ap (held_sum (spot n) (fetches_noted g)) held in
        let z = scan_noted p rest x e todo at held in omega arith))
    reads_of (event.moves p rest x y y' u u' budget frames todo at held sh some one v_is m_is) =
        same_reads _ _ v_is m_is (goes_so p rest todo (Moving x) _ at
        (let r = ap (held_sum (spot n) device_reads) held in
        let s = ap (held_sum (spot n) (fetches_noted g)) held in omega arith))
    reads_of (event.sweeps p rest x y todo at held stuck other v_is m_is) =
        same_reads _ _ v_is m_is (goes_so p rest todo (Moving x) _ at
        (let r = ap (held_sum (spot n) device_reads) held in
        let s = ap (held_sum (spot n) (fetches_noted g)) held in omega arith))
    reads_of (event.shrinks p rest x c todo at held v_is m_is) =
        same_reads _ _ v_is m_is (goes_so p rest todo (Shrinking x) _ at
        (let r = ap (held_sum (spot n) device_reads) held in
        let s = ap (held_sum (spot n) (fetches_noted g)) held in omega arith))
    reads_of (event.refuses p rest c todo at held v_is m_is) =
        same_reads _ _ v_is m_is (ends_so p rest (Whole ends.Range) [] todo Refusing at
        (let r = ap (held_sum (spot n) device_reads) held in
        let s = ap (held_sum (spot n) (fetches_noted g)) held in omega arith))
    reads_of (event.closes p rest x y todo at held stuck last v_is m_is) =
        same_reads _ _ v_is m_is (ends_so p rest (Whole (ends.Compacted x.moves x.frames)) [] todo
        (Moving x) at
        (let r = ap (held_sum (spot n) device_reads) held in
        let s = ap (held_sum (spot n) (fetches_noted g)) held in omega arith))
    reads_of (event.leaves p rest e x todo at held bad other v_is m_is) =
        same_reads _ _ v_is m_is (ends_so p rest x [] todo Missed at
        (let r = ap (held_sum (spot n) device_reads) held in
        let s = ap (held_sum (spot n) (fetches_noted g)) held in
        let z = ap (λ (i : LockNo). fetches_noted g (spot n i) (holds.Slot e)) (slot_is p
        (event_is g ok w j a l who k v m what p rest _ Missed todo held at)) in
        omega arith))
    reads_of (event.fails p rest e x todo at held bad v_is m_is) =
        let st = stage g ok w j a l who p rest todo _ Leaving held at in
        same_reads _ _ v_is m_is (ends_so p rest x [] todo Leaving at
        (let r = ap (held_sum (spot n) device_reads) held in
        let s = ap (held_sum (spot n) (fetches_noted g)) held in let t = starved_looks g p p.op x
        (subst (FailBy g p p.op) bad st.fails) in
        let z = ap (λ (i : LockNo). fetches_noted g (spot n i) (holds.Slot e)) (slot_is p
        (event_is g ok w j a l who k v m what p rest _ Leaving todo held at)) in
        omega arith))
    reads_of (event.puts p rest e f todo at held notes v_is m_is) =
        same_reads _ m v_is refl (subst (Reads (holds.Slot f)) (sym m_is)
        (notes_so p rest e f Carried [] todo Ready at held
        (slot_is p (event_is g ok w j a l who k v m what p rest _ Ready todo held at)) notes.order
        (omega arith)))
    reads_of (event.reads p rest e f todo at held well notes v_is m_is) =
        same_reads _ m v_is refl (subst (Reads (holds.Slot f)) (sym m_is)
        (notes_so p rest e f Carried _ todo Leaving at held
        (slot_is p (event_is g ok w j a l who k v m what p rest _ Leaving todo held at)) notes.order
        (omega arith)))
    reads_of (event.errs p rest e f x todo at held bad read notes v_is m_is) =
        same_reads _ m v_is refl (subst (Reads (holds.Slot f)) (sym m_is)
        (notes_so p rest e f x [] todo Missed at held
        (slot_is p (event_is g ok w j a l who k v m what p rest _ Missed todo held at)) notes.order
        (omega arith)))

  pub fetches_give : slice_get w.row (spot n k) ≡ Some None → Reads v m → FewFetches g w
      → FewFetches g (gone n w a l who k (Some v) m)
  fetches_give there x t =
      let r = ok.facts.give (spot n) device_reads none w a l k v m who there in
      let s = ok.facts.give (spot n) (fetches_noted g) fetches_told w a l k v m who there in
      let y = x.few in omega arith

module _ (g : Begin) (ok : Known g) (w : State DiskHeld) (a : ℕ) (l : Here)
    (who : slice_get w.locals a ≡ Some l) (k : LockNo) (v : DiskHeld) where
  pub fetches_take : plan (terms g) l ≡ Take k
      → slice_get w.row (spot g.given.size k) ≡ Some (Some v) → FewFetches g w
      → FewFetches g (gone g.given.size w a l who k None (took (terms g) l v))
  fetches_take what there t =
      let m = took (terms g) l v in
      let held = ap (λ p. (lock_of p, v) ∷ l.held) what in
      let r = ok.facts.take (spot g.given.size) device_reads none w a l k v m who there held refl in
      let s = ok.facts.take (spot g.given.size) (fetches_noted g) none w a l k v m who there held
      refl in
      let x = total_split g.given.size (fetches_noted g) fetches_told w in
      let y = total_split g.given.size (fetches_noted g) fetches_told
      (gone g.given.size w a l who k None m) in
      let z = ok.facts.moves fetches_told w.locals a l m who in
      let u = fetched_taken g.given.size l.todo l.at l.page (entry_or v (entry_in l.held)) l.fail in
      omega arith
