-- Each event leaves fewer events to an actor.
use Rattle.std.proofs.Common.{◌≡◌, ◌≢◌, ◌⊎◌, ℕ, zero, suc, ◌+◌, ◌-◌, ◌*◌, ◌<◌, ◌≤◌, Bool, true, false, cond, eqb, List, [], ◌∷◌, length, Option, Some, None, slice_get, slice_set, sym, refl, ap, ◌∙◌, subst, arith, inl, inr, length-set}
use Rattle.std.proofs.lemmas.Bool.{cases_Bool, eq-eqb}
use Rattle.std.specs.Prelude.{unwrap_or}
use Rattle.zr_base.specs.declared.op.Op.{Op}
use Rattle.zr_base.specs.declared.op.Op.TheVariants.{Write, Read, Discard, Idle, Writeback, Compact}
use Rattle.zr_base.specs.Plain.{is_beyond, is_maintenance, has_whole}
use Rattle.size_class.specs.Classes.{stands_below, stands_of, shares_next}
use Rattle.class_pool.specs.Pool.{objects}
use Rattle.call_history.specs.declared.part.Part.{Part}
use Rattle.call_history.specs.declared.part.PartEnd.{PartEnd}
use Rattle.call_history.specs.declared.part.PartEnd.TheVariants as over
use Rattle.zr_base.specs.declared.op.OpEnd.TheVariants as ends
use Rattle.call_history.specs.Parts.{without, is_carried, left_by as todo_left}
use Rattle.call_history.specs.Shows.{got_from}
use Rattle.lock_row.specs.declared.names.LockNo.{LockNo}
use Rattle.lock_row.specs.declared.names.At.{At}
use Rattle.lock_row.specs.declared.names.At.TheVariants as at
use Rattle.lock_row.specs.declared.names.Scan.{Scan}
use Rattle.lock_row.specs.declared.names.Step.{Step}
use Rattle.lock_row.specs.declared.names.Step.TheVariants as step
use Rattle.lock_row.specs.declared.names.Trip.{Trip}
use Rattle.lock_row.specs.declared.names.Compaction.{Compaction}
use Rattle.lock_row.specs.declared.names.Pin.{Pin}
use Rattle.lock_row.specs.declared.names.Plan.TheVariants.{Take}
use Rattle.lock_row.specs.declared.names.State.{State}
use Rattle.lock_row.specs.Laws.{SumMoves}
use Rattle.lock_row.specs.Machine.{finished, missed, taken, given}
use Rattle.lock_row.specs.Totals.{locals_sum}
use Rattle.slot_entry.specs.declared.kept.Kept.{Kept}
use Rattle.slot_entry.specs.declared.kept.Kept.TheVariants as kept
use Rattle.slot_entry.specs.Forms.{PageForm, Blank, Word, Pooled}
use Rattle.page_steps.specs.Givings.{Works, refuses, pins, unpins, fetches, misses, counts, charges, limits, starves, stows, quits, frees, releases, repays, puts, reads, fails, errs, leaves, marks, visits, compacts}
use Rattle.slot_entry.specs.Entries.{EntryState, is_new_mark, is_eligible}
use Rattle.page_steps.specs.Scans.{scans, scan_at, with_page, marking_by}
use Rattle.page_steps.specs.Visits.{Visits, passes, reserves, refrains, stores, spoils, commits, pays, loses, trip_at, with_block, passed_page, wrote_page, lost_page, onward_by, onward, ending_with, undoing_by}
use Rattle.page_steps.specs.Visits as visit
use Rattle.page_steps.specs.Compactions.{moves, rests, shrinks, compaction_at, with_move, with_next, with_frames, moved_at, resting_by}
use Rattle.page_steps.specs.Nexts.{ending_by, failing_by, fetch_at, pin_at, own_entry}
use Rattle.page_steps.specs.Pages.{page_in, page_in_cell, next_form}
use Rattle.page_steps.specs.Steps.{Terms, DiskHeld, Here, plan, plan_by, plan_at, took, taken_at, after_take, first_trip, mode_of, is_mark_of, visit_plan, arrived_at, landed_at, visited_at, first_at, begun_at, entered_at, write_at, made_at, seen_at, discard_at, settle_at, pinned_at, fetched_at, quit_at}
use Rattle.zr_core.specs.Machines.{OneTurn}
use Rattle.zr_core.specs.Runs.{class_left, trip_left, op_left, pieces_left, stage_left, left_at, left_by, all_left, page_at, Few, IsOnDisk, AreFew, IsFree}

-- ---- stages

-- on a disk of so many pages; n is the most objects of a class
module _ (size n : ℕ) (p : Part) where
  settle_left : (k : Kept) → stage_left size n p (settle_at k) ≤ 5
  settle_left kept.Empty = omega arith
  settle_left (kept.Same w) = omega arith
  settle_left (kept.Obj o) = omega arith
  settle_left (kept.Wb b) = omega arith

  made_left : (f : PageForm) (k : Kept) → stage_left size n p (made_at f k) ≤ 9
  made_left Blank k = let q = settle_left k in omega arith
  made_left (Word w) k = let q = settle_left k in omega arith
  made_left (Pooled bytes huge) k = omega arith

  write_left : (b : Bool) (f : PageForm) (k : Kept) → stage_left size n p (write_at b f k) ≤ 11
  write_left true f k = let q = made_left f k in omega arith
  write_left false f kept.Empty = let q = made_left f kept.Empty in omega arith
  write_left false f (kept.Same w) = let q = made_left f (kept.Same w) in omega arith
  write_left false f (kept.Obj o) = omega arith
  write_left false f (kept.Wb b) = omega arith

  seen_left : (k : Kept) → stage_left size n p (seen_at k) ≤ 11
  seen_left kept.Empty = omega arith
  seen_left (kept.Same w) = omega arith
  seen_left (kept.Obj o) = omega arith
  seen_left (kept.Wb b) = omega arith

  discard_left : (k : Kept) → stage_left size n p (discard_at k) ≤ 11
  discard_left kept.Empty = omega arith
  discard_left (kept.Same w) = omega arith
  discard_left (kept.Obj o) = omega arith
  discard_left (kept.Wb b) = omega arith

  entered_left : (op : Op) (page : ℕ) (f : PageForm) (k : Kept)
      → stage_left size n p (entered_at op page f k) ≤ 11
  entered_left (Write start count stuff) page f k = write_left (has_whole start count page) f k
  entered_left (Read start count) page f k = seen_left k
  entered_left (Discard start count) page f k = discard_left k
  entered_left (Idle age) page f k = omega arith
  entered_left (Writeback mode) page f k = omega arith
  entered_left Compact page f k = omega arith

  begun_left : (b : Bool) (f : PageForm) (e : EntryState)
      → stage_left size n p (begun_at false b p f e) ≤ 11
  begun_left true f e = omega arith
  begun_left false f e = entered_left p.op p.page f e.kept

  pinned_left : (op : Op) (f : PageForm) (k : Kept) → stage_left size n p (pinned_at op f k) ≤ 9
  pinned_left (Write start count stuff) f k = made_left f k
  pinned_left (Read start count) f k = omega arith
  pinned_left (Discard start count) f k = omega arith
  pinned_left (Idle age) f k = omega arith
  pinned_left (Writeback mode) f k = omega arith
  pinned_left Compact f k = omega arith

  fetched_left : (op : Op) (f : PageForm) (k : Kept) → stage_left size n p (fetched_at op f k) ≤ 9
  fetched_left (Write start count stuff) f k = made_left f k
  fetched_left (Read start count) f k = omega arith
  fetched_left (Discard start count) f k = omega arith
  fetched_left (Idle age) f k = omega arith
  fetched_left (Writeback mode) f k = omega arith
  fetched_left Compact f k = omega arith

  quit_left : (x : Option Pin) → stage_left size n p (quit_at x) ≤ 3
  quit_left None = omega arith
  quit_left (Some x) = omega arith

  -- a writeback has its page's slot
  arrived_left : (b : Bool) (x : Trip) → x.page < size
      → stage_left size n p (arrived_at b x) < trip_left size step.Arriving x
  arrived_left true x low = omega arith
  arrived_left false x low = omega arith

  -- it has it again
  landed_left : (fail : Option PartEnd) (x : Trip) (e : EntryState)
      → stage_left size n p (landed_at fail x e) < trip_left size step.Landing x
  landed_left None x e = by_mark (is_mark_of x.block e.under) where
    by_mark : (b : Bool)
        → stage_left size n p (cond b (at.Visiting step.Won x) (at.Visiting step.Losing x))
        < trip_left size step.Landing x
    by_mark true = omega arith
    by_mark false = omega arith
  landed_left (Some end) x e = omega arith

  -- it has the lock that it takes next
  visited_left : (s : Step) (x : Trip) (e : EntryState) (fail : Option PartEnd) (c : ℕ) (m : LockNo)
      → page_at (at.Visiting s x) < size → visit_plan s x c ≡ Take m
      → stage_left size n p (visited_at s x p.op e fail) < trip_left size s x
  visited_left step.Arriving x e fail c m low is =
      arrived_left (is_eligible (mode_of p.op) e) x low
  visited_left step.Passing x e fail c m low is = absurd (cc)
  visited_left step.Asking x e fail c m low is = omega arith
  visited_left step.Reserving x e fail c m low is = absurd (cc)
  visited_left step.Quitting x e fail c m low is = absurd (cc)
  visited_left step.Seen x e fail c m low is = omega arith
  visited_left step.Pinning x e fail c m low is = absurd (cc)
  visited_left step.Pinned x e fail c m low is = omega arith
  visited_left step.Unpinning x e fail c m low is = absurd (cc)
  visited_left step.Marking x e fail c m low is = absurd (cc)
  visited_left step.Flying x e fail c m low is = omega arith
  visited_left step.Storing x e fail c m low is = absurd (cc)
  visited_left step.Landing x e fail c m low is = landed_left fail x e
  visited_left step.Won x e fail c m low is = omega arith
  visited_left step.Freeing x e fail c m low is = absurd (cc)
  visited_left step.Backing x e fail c m low is = omega arith
  visited_left step.Committing x e fail c m low is = absurd (cc)
  visited_left step.Owing x e fail c m low is = omega arith
  visited_left step.Paying x e fail c m low is = absurd (cc)
  visited_left step.Putting x e fail c m low is = absurd (cc)
  visited_left step.Losing x e fail c m low is = absurd (cc)
  visited_left step.Undoing x e fail c m low is = omega arith
  visited_left step.Releasing x e fail c m low is = absurd (cc)

  -- what is no request has an event less once it has its first lock
  first_left : (op : Op) (e : EntryState) → is_maintenance op ≡ true → 0 < size
      → stage_left size n p (first_at op e) < op_left size n op
  first_left (Write start count stuff) e is some = absurd (cc)
  first_left (Read start count) e is some = absurd (cc)
  first_left (Discard start count) e is some = absurd (cc)
  first_left (Idle age) e is some = omega arith
  first_left (Writeback mode) e is some =
      let q = arrived_left (is_eligible mode e) first_trip some in omega arith
  first_left Compact e is some = omega arith

  request_left : (op : Op) → is_maintenance op ≡ false → op_left size n op ≡ 12
  request_left (Write start count stuff) e = refl
  request_left (Read start count) e = refl
  request_left (Discard start count) e = refl
  request_left (Idle age) e = absurd (cc)
  request_left (Writeback mode) e = absurd (cc)
  request_left Compact e = absurd (cc)

-- ---- takings

start_left : (size n : ℕ) (p : Part) (f : PageForm) (x : EntryState) (b : Bool)
    → is_maintenance p.op ≡ b → 0 < size
    → stage_left size n p (begun_at b (is_beyond size p.op) p f x) < op_left size n p.op
start_left size n p f x true e some = first_left size n p p.op x e some
start_left size n p f x false e some =
    let q = begun_left size n p (is_beyond size p.op) f x in
    let r = request_left size n p p.op e in omega arith

after_left : (size n : ℕ) (at : At) (p : Part) (c d : ℕ) (f : PageForm) (x : EntryState)
    (fail : Option PartEnd) (m : LockNo) → page_at at < size → plan_at size at p c d ≡ Take m
    → stage_left size n p (after_take size at p f x fail) < stage_left size n p at
after_left size n at.Start p c d f x fail m on e =
    start_left size n p f x (is_maintenance p.op) refl on
after_left size n at.Refusing p c d f x fail m on e = absurd (cc)
after_left size n at.Seen p c d f x fail m on e = omega arith
after_left size n at.Pinning p c d f x fail m on e = absurd (cc)
after_left size n at.Pinned p c d f x fail m on e = omega arith
after_left size n at.Unpinning p c d f x fail m on e = absurd (cc)
after_left size n at.Leaving p c d f x fail m on e = absurd (cc)
after_left size n at.Away p c d f x fail m on e = omega arith
after_left size n at.Fetching p c d f x fail m on e = absurd (cc)
after_left size n at.Failing p c d f x fail m on e = omega arith
after_left size n at.Counting p c d f x fail m on e = absurd (cc)
after_left size n at.Missed p c d f x fail m on e = absurd (cc)
after_left size n at.Wanting p c d f x fail m on e = omega arith
after_left size n at.Inside p c d f x fail m on e = omega arith
after_left size n at.Both p c d f x fail m on e = absurd (cc)
after_left size n at.Made p c d f x fail m on e = absurd (cc)
after_left size n at.Old p c d f x fail m on e = omega arith
after_left size n at.Freeing p c d f x fail m on e = absurd (cc)
after_left size n at.Backed p c d f x fail m on e = omega arith
after_left size n at.Releasing p c d f x fail m on e = absurd (cc)
after_left size n at.Owing p c d f x fail m on e = omega arith
after_left size n at.Giving p c d f x fail m on e = absurd (cc)
after_left size n at.Ready p c d f x fail m on e = absurd (cc)
after_left size n (at.Scanning y) p c d f x fail m on e = omega arith
after_left size n (at.Marking y) p c d f x fail m on e = absurd (cc)
after_left size n (at.Visiting s y) p c d f x fail m on e = visited_left size n p s y x fail c m on e
after_left size n (at.Sweeping y) p c d f x fail m on e = omega arith
after_left size n (at.Moving y) p c d f x fail m on e = absurd (cc)
after_left size n (at.Shrunk y) p c d f x fail m on e = omega arith
after_left size n (at.Shrinking y) p c d f x fail m on e = absurd (cc)

take_falls : (size n : ℕ) (ps : List Part) (at : At) (c d : ℕ) (page : Option (List ℕ))
    (x : EntryState) (fail : Option PartEnd) (m : LockNo)
    → ((p : Part) (rest : List Part) → ps ≡ p ∷ rest → page_at at < size)
    → plan_by size ps at c d ≡ Take m
    → left_at size n ps (taken_at size ps at page x fail) < left_at size n ps at
take_falls size n [] at c d page x fail m on e = absurd (cc)
take_falls size n (p ∷ ps) at c d page x fail m on e =
    let q = after_left size n at p c d (next_form p page x.kept) x fail m (on p ps refl) e in
    omega arith

-- ---- givings

fewer : (size n nr : ℕ) (ps : List Part) → pieces_left size n (without nr ps) ≤ pieces_left size n ps
fewer size n nr [] = omega arith
fewer size n nr (p ∷ ps) = elim (cases_Bool (eqb p.nr nr)) [
  | inl on ↦ rw on (let q = fewer size n nr ps in omega arith)
  | inr off ↦ rw off (let q = fewer size n nr ps in omega arith)
]

todo_fewer : (size n : ℕ) (end : PartEnd) (nr : ℕ) (ps : List Part)
    → pieces_left size n (todo_left end nr ps) ≤ pieces_left size n ps
todo_fewer size n end nr ps = elim (cases_Bool (is_carried end)) [
  | inl on ↦ rw on (omega arith)
  | inr off ↦ rw off (fewer size n nr ps)
]

starts_left : (size n : ℕ) (ps : List Part) → left_at size n ps at.Start ≤ pieces_left size n ps
starts_left size n [] = omega arith
starts_left size n (p ∷ ps) = omega arith

module _ (t : Terms) (n : ℕ) where
  abbrev size : ℕ
  size = t.size

  -- the piece goes on, at a later stage
  goes_on : (l : Here) (p : Part) (rest : List Part) (was is : At) → l.todo ≡ p ∷ rest → l.at ≡ was
      → stage_left size n p is < stage_left size n p was → left_at size n l.todo is < left_by size n l
  goes_on l p rest was is todo stage less =
      let a : left_at size n l.todo is ≡ stage_left size n p is + pieces_left size n rest = ap (λ ps. left_at size n ps is) todo in
      let b : left_by size n l ≡ stage_left size n p was + pieces_left size n rest = (λ i. left_at size n (todo i) (stage i)) in
      omega arith

  -- it is over
  ends_left : (l : Here) (p : Part) (rest : List Part) (was : At) (end : PartEnd)
      (got : Part → List (List ℕ)) → l.todo ≡ p ∷ rest → l.at ≡ was
      → 1 ≤ stage_left size n p was
      → left_by size n (ending_by l end got l.todo) < left_by size n l
  ends_left l p rest was end got todo stage some =
      let a : left_by size n (ending_by l end got l.todo)
      ≡ left_at size n (todo_left end p.nr rest) at.Start =
      ap (λ ps. left_by size n (ending_by l end got ps)) todo in
      let b : left_by size n l ≡ stage_left size n p was + pieces_left size n rest =
      (λ i. left_at size n (todo i) (stage i)) in
      let c = starts_left size n (todo_left end p.nr rest) in
      let d = todo_fewer size n end p.nr rest in omega arith

  -- the stage of a page that was read from its cell
  pin_left : (q : Part) (ps : List Part) (page : List ℕ) (k : Kept) (p : Part) (rest : List Part)
      → ps ≡ p ∷ rest → stage_left size n q (pin_at ps page k) ≤ 9
  pin_left q ps page k p rest e =
      subst (λ qs. stage_left size n q (pin_at qs page k) ≤ 9) (sym e)
      (pinned_left size n q p.op (next_form p (Some page) k) k)

  -- that of one that was read from the device
  fetch_left : (q : Part) (ps : List Part) (page : List ℕ) (k : Kept) (p : Part) (rest : List Part)
      → ps ≡ p ∷ rest → stage_left size n q (fetch_at ps page k) ≤ 9
  fetch_left q ps page k p rest e =
      subst (λ qs. stage_left size n q (fetch_at qs page k) ≤ 9) (sym e)
      (fetched_left size n q p.op (next_form p (Some page) k) k)

  abbrev Less : Here → Here → Type 0
  Less l m = left_by size n m < left_by size n l

  -- ---- compactions

  -- a class stands as one that isn't below it, and at most as class 254
  below_last : (m depth : ℕ) → stands_below m depth ≤ 254
  unfolding stands_below
  below_last m zero = omega arith
  below_last m (suc depth) = elim (cases_Bool (shares_next m (253 - depth))) [
    | inl on ↦ rw on (below_last m depth)
    | inr off ↦ rw off (omega arith)
  ]

  above_itself : (m depth : ℕ) → 254 - depth ≤ stands_below m depth
  unfolding stands_below
  above_itself m zero = omega arith
  above_itself m (suc depth) = elim (cases_Bool (shares_next m (253 - depth))) [
    | inl on ↦ rw on (let q = above_itself m depth in omega arith)
    | inr off ↦ rw off (omega arith)
  ]

  -- so many classes later fewer events are left
  classes_fall : (k i j : ℕ) → i < j → i * k + k ≤ j * k
  classes_fall k i j lt = grind arith

  -- what may still move is at most what a class may have
  budget_fits : (b : Option ℕ) (m budget : ℕ) → m ≤ n → unwrap_or b m ≡ suc budget
      → suc budget ≤ unwrap_or b n
  budget_fits None m budget few e = omega arith
  budget_fits (Some b) m budget few e = omega arith

  -- a class that may move so many has at least its two last events
  class_falls : (x : Compaction) (p : Part) → x.class < 255 → eqb x.class 254 ≡ false
      → stage_left size n p (at.Sweeping (with_next t.chain x)) < stage_left size n p (at.Moving x)
  class_falls x p below not_last =
      let other : x.class ≢ 254 = λ e. absurd (let q : true ≡ false = sym (eq-eqb x.class 254 e)
      ∙ not_last in cc) in
      let lt : x.class < 254 = omega arith in
      let low = above_itself t.chain (254 - (x.class + 1)) in
      let high = below_last t.chain (254 - (x.class + 1)) in
      let q = classes_fall (class_left n) (254 - stands_of t.chain (x.class + 1)) (254 - x.class)
      (omega arith) in omega arith

  moved_falls : (x : Compaction) (p : Part) (budget frames : ℕ) → suc budget ≤ unwrap_or x.budget n
      → stage_left size n p (moved_at frames (with_move x budget)) < stage_left size n p (at.Moving x)
  moved_falls x p budget zero few = omega arith
  moved_falls x p budget (suc frames) few = omega arith

  -- a piece that ends with a refusal
  fails_left : (l : Here) (p : Part) (rest : List Part) (was : At) (end : PartEnd)
      → l.todo ≡ p ∷ rest → l.at ≡ was → 1 ≤ stage_left size n p was → l.fail ≡ Some end
      → Less l (failing_by l l.fail)
  fails_left l p rest was end todo stage left some =
      subst (λ (x : Option PartEnd). Less l (failing_by l x)) (sym some)
      (ends_left l p rest was end (λ q. []) todo stage left)

  -- ---- scans

  -- a page of the disk was scanned
  page_falls : (l : Here) (p : Part) (rest : List Part) (x : Scan) (new : Bool) (v : DiskHeld)
      → l.todo ≡ p ∷ rest → l.at ≡ at.Marking x → x.page < size
      → Less l (marking_by (with_page x new) (eqb (x.page + 1) size) l v)
  page_falls l p rest x new v todo stage low = by_last (eqb (x.page + 1) size) where
    by_last : (last : Bool) → Less l (marking_by (with_page x new) last l v)
    by_last true = ends_left l p rest (at.Marking x)
        (over.Whole (ends.Marked (with_page x new).marked)) (λ q. []) todo stage (omega arith)
    by_last false = goes_on l p rest (at.Marking x) (at.Scanning (with_page x new)) todo stage
        (omega arith)

  -- ---- writebacks

  -- a writeback goes on to a page, or is over
  onward_falls : (l : Here) (p : Part) (rest : List Part) (was : At) (x : Trip) (v : DiskHeld)
      → l.todo ≡ p ∷ rest → l.at ≡ was → trip_left size step.Arriving x < stage_left size n p was
      → Less l (onward size x l v)
  onward_falls l p rest was x v todo stage less = by_last (eqb x.page size) where
    by_last : (last : Bool) → Less l (onward_by x last l v)
    by_last true = ends_left l p rest was (over.Whole (ends.Written x.wrote x.lost)) (λ q. []) todo
        stage (omega arith)
    by_last false = goes_on l p rest was (at.Visiting step.Arriving x) todo stage less

  -- its page is over
  passed_falls : (l : Here) (p : Part) (rest : List Part) (s : Step) (x : Trip) (f : Trip → Trip)
      (v : DiskHeld) → l.todo ≡ p ∷ rest → l.at ≡ at.Visiting s x
      → trip_left size step.Arriving (f x) < trip_left size s x
      → Less l (onward size (f (trip_at l.at)) l v)
  passed_falls l p rest s x f v todo stage less =
      subst (λ (y : Trip). Less l (onward size (f y) l v)) (sym (ap trip_at stage))
      (onward_falls l p rest (at.Visiting s x) (f x) v todo stage less)

  -- it goes on at its page
  trip_on : (l : Here) (p : Part) (rest : List Part) (s : Step) (x : Trip) (is : At)
      → l.todo ≡ p ∷ rest → l.at ≡ at.Visiting s x
      → ((trip_at l.at).page ≡ x.page → stage_left size n p is < trip_left size s x)
      → left_at size n l.todo is < left_by size n l
  trip_on l p rest s x is todo stage less = goes_on l p rest (at.Visiting s x) is todo stage
      (less (ap (λ (y : At). (trip_at y).page) stage))

  -- its block is free again
  undone_falls : (l : Here) (p : Part) (rest : List Part) (x : Trip) (v : DiskHeld)
      (fail : Option PartEnd) → l.todo ≡ p ∷ rest → l.at ≡ at.Visiting step.Releasing x
      → Less l (undoing_by size fail l v)
  undone_falls l p rest x v None todo stage =
      passed_falls l p rest step.Releasing x lost_page v todo stage (omega arith)
  undone_falls l p rest x v (Some end) todo stage =
      ends_left l p rest (at.Visiting step.Releasing x) end (λ q. []) todo stage (omega arith)

  visit_falls : (l : Here) (v : DiskHeld) (m : Here) → Visits t l v m → Less l m
  visit_falls l v m (passes p rest x e todo stage held v_is m_is) = subst (Less l) (sym m_is)
      (passed_falls l p rest step.Passing x passed_page v todo stage (omega arith))
  visit_falls l v m (reserves p rest x e y b todo stage held answers v_is m_is) =
      subst (Less l) (sym m_is) (trip_on l p rest step.Reserving x
      (at.Visiting step.Seen (with_block (trip_at l.at) b)) todo stage (λ same. omega arith))
  visit_falls l v m (refrains p rest x e y r end todo stage held answers is v_is m_is) =
      subst (Less l) (sym m_is) (trip_on l p rest step.Reserving x
      (at.Visiting step.Quitting (trip_at l.at)) todo stage (λ same. omega arith))
  visit_falls l v m (visit.quits p rest x e end todo stage held some v_is m_is) =
      subst (Less l) (sym m_is)
      (subst (λ (y : Option PartEnd). Less l (ending_with l y)) (sym some)
      (ends_left l p rest (at.Visiting step.Quitting x) end (λ q. []) todo stage (omega arith)))
  visit_falls l v m (visit.pins p rest x e o q q' cell todo stage held kept lends v_is m_is) =
      subst (Less l) (sym m_is) (trip_on l p rest step.Pinning x
      (at.Visiting step.Pinned (trip_at l.at)) todo stage (λ same. omega arith))
  visit_falls l v m (visit.unpins p rest x e o q q' todo stage held kept returns v_is m_is) =
      subst (Less l) (sym m_is) (trip_on l p rest step.Unpinning x
      (at.Visiting step.Marking (trip_at l.at)) todo stage (λ same. omega arith))
  visit_falls l v m (visit.marks p rest x e b todo stage held block v_is m_is) =
      subst (Less l) (sym m_is) (trip_on l p rest step.Marking x
      (at.Visiting step.Flying (trip_at l.at)) todo stage (λ same. omega arith))
  visit_falls l v m (stores p rest x b page d d' todo stage held block copied writes v_is m_is) =
      subst (Less l) (sym m_is) (trip_on l p rest step.Storing x
      (at.Visiting step.Landing (trip_at l.at)) todo stage (λ same. omega arith))
  visit_falls l v m (spoils p rest x b d d' fault todo stage held block bad v_is m_is) =
      subst (Less l) (sym m_is) (trip_on l p rest step.Storing x
      (at.Visiting step.Landing (trip_at l.at)) todo stage (λ same. omega arith))
  visit_falls l v m (visit.frees p rest x e o q q' frames todo stage held kept drops v_is m_is) =
      subst (Less l) (sym m_is) (trip_on l p rest step.Freeing x
      (at.Visiting step.Backing (trip_at l.at)) todo stage (λ same. omega arith))
  visit_falls l v m (commits p rest x e b y todo stage held block v_is m_is) =
      subst (Less l) (sym m_is) (trip_on l p rest step.Committing x
      (at.Visiting step.Owing (trip_at l.at)) todo stage (λ same. omega arith))
  visit_falls l v m (pays p rest x e c was todo stage held ahead v_is m_is) =
      subst (Less l) (sym m_is) (trip_on l p rest step.Paying x
      (at.Visiting step.Putting (trip_at l.at)) todo stage (λ same. omega arith))
  visit_falls l v m (visit.puts p rest x e b todo stage held block v_is m_is) =
      subst (Less l) (sym m_is)
      (passed_falls l p rest step.Putting x wrote_page v todo stage (omega arith))
  visit_falls l v m (loses p rest x e todo stage held v_is m_is) =
      subst (Less l) (sym m_is) (trip_on l p rest step.Losing x
      (at.Visiting step.Undoing (trip_at l.at)) todo stage (λ same. omega arith))
  visit_falls l v m (visit.releases p rest x b y todo stage held block v_is m_is) =
      subst (Less l) (sym m_is) (undone_falls l p rest x v l.fail todo stage)

  -- ---- all givings

  give_falls : (l : Here) (v : DiskHeld) (m : Here) → Few n l → IsOnDisk t.size l → Works t l v m
      → Less l m
  give_falls l v m few on (refuses p rest c todo stage held v_is m_is) = subst (Less l) (sym m_is)
      (ends_left l p rest at.Refusing (over.Whole ends.Range) (λ q. []) todo stage (omega arith))
  give_falls l v m few on (pins p rest e o q q' cell todo stage held kept lends v_is m_is) =
      subst (Less l) (sym m_is)
      (goes_on l p rest at.Pinning (pin_at l.todo (page_in_cell o cell) (own_entry l).kept) todo stage
      (let most = pin_left p l.todo (page_in_cell o cell) (own_entry l).kept p rest todo in omega arith))
  give_falls l v m few on (unpins p rest e o q q' todo stage held kept back v_is m_is) =
      subst (Less l) (sym m_is) (goes_on l p rest at.Unpinning at.Leaving todo stage (omega arith))
  give_falls l v m few on (fetches p rest e b d d' page todo stage held kept bytes is v_is m_is) =
      subst (Less l) (sym m_is)
      (goes_on l p rest at.Fetching (fetch_at l.todo page (own_entry l).kept) todo stage
      (let most = fetch_left p l.todo page (own_entry l).kept p rest todo in omega arith))
  give_falls l v m few on (misses p rest e b d d' fault todo stage held kept bad v_is m_is) =
      subst (Less l) (sym m_is) (goes_on l p rest at.Fetching at.Failing todo stage (omega arith))
  give_falls l v m few on (counts p rest e c todo stage held v_is m_is) =
      subst (Less l) (sym m_is) (goes_on l p rest at.Counting at.Missed todo stage (omega arith))
  give_falls l v m few on (charges p rest e c q q' class handle need bytes huge todo stage held form is within
      adds v_is m_is) =
      subst (Less l) (sym m_is) (goes_on l p rest at.Both at.Made todo stage (omega arith))
  give_falls l v m few on (limits p rest e c q class need todo stage held is past v_is m_is) =
      subst (Less l) (sym m_is) (goes_on l p rest at.Both at.Made todo stage (omega arith))
  give_falls l v m few on (starves p rest e c q class todo stage held full within v_is m_is) =
      subst (Less l) (sym m_is) (goes_on l p rest at.Both at.Made todo stage (omega arith))
  give_falls l v m few on (stows p rest e q class todo stage held none v_is m_is) = subst (Less l) (sym m_is)
      (goes_on l p rest at.Made (settle_at (own_entry l).kept) todo stage
      (let most = settle_left size n p (own_entry l).kept in omega arith))
  give_falls l v m few on (quits p rest e q class end todo stage held some v_is m_is) =
      subst (Less l) (sym m_is)
      (goes_on l p rest at.Made (quit_at l.pin) todo stage (let most = quit_left size n p l.pin in omega arith))
  give_falls l v m few on (frees p rest e o q q' frames todo stage held kept drops v_is m_is) =
      subst (Less l) (sym m_is) (goes_on l p rest at.Freeing at.Owing todo stage (omega arith))
  give_falls l v m few on (releases p rest e b x todo stage held kept v_is m_is) =
      subst (Less l) (sym m_is) (goes_on l p rest at.Releasing at.Owing todo stage (omega arith))
  give_falls l v m few on (repays p rest e c todo stage held v_is m_is) =
      subst (Less l) (sym m_is) (goes_on l p rest at.Giving at.Ready todo stage (omega arith))
  give_falls l v m few on (puts p rest e f todo stage held notes v_is m_is) = subst (Less l) (sym m_is)
      (ends_left l p rest at.Ready over.Carried (λ q. []) todo stage (omega arith))
  give_falls l v m few on (reads p rest e f todo stage held none notes v_is m_is) = subst (Less l) (sym m_is)
      (ends_left l p rest at.Leaving over.Carried
      (λ q. got_from (page_in l.page (own_entry l).kept) q) todo stage (omega arith))
  give_falls l v m few on (fails p rest e end todo stage held some v_is m_is) =
      subst (Less l) (sym m_is) (fails_left l p rest at.Leaving end todo stage (omega arith) some)
  give_falls l v m few on (errs p rest e f end todo stage held some is_read notes v_is m_is) =
      subst (Less l) (sym m_is) (fails_left l p rest at.Missed end todo stage (omega arith) some)
  give_falls l v m few on (leaves p rest e end todo stage held some writes v_is m_is) =
      subst (Less l) (sym m_is) (fails_left l p rest at.Missed end todo stage (omega arith) some)
  give_falls l v m few on (marks (scans p rest age x e todo op stage held v_is m_is)) =
      subst (Less l) (sym m_is)
      (subst (λ (y : Scan). Less l (marking_by (with_page y (is_new_mark t.clock age e))
      (eqb (y.page + 1) size) l v)) (sym (ap scan_at stage))
      (page_falls l p rest x (is_new_mark t.clock age e) v todo stage
      (subst (λ (y : At). page_at y < t.size) stage (on p rest todo))))
  give_falls l v m few on (visits x) = visit_falls l v m x
  give_falls l v m few on (compacts (moves p rest x q q' budget frames todo stage held is moved v_is m_is)) =
      subst (Less l) (sym m_is)
      (goes_on l p rest (at.Moving x) (moved_at frames (with_move (compaction_at l.at) budget)) todo stage
      (subst (λ (y : Compaction). stage_left size n p (moved_at frames (with_move y budget))
      < stage_left size n p (at.Moving x)) (sym (ap compaction_at stage))
      (moved_falls x p budget frames
      (budget_fits x.budget (length (objects q)) budget (few p rest x q todo stage held).1 is))))
  give_falls l v m few on (compacts (rests p rest x q todo stage held none v_is m_is)) =
      subst (Less l) (sym m_is)
      (subst (λ (y : Compaction). Less l (resting_by t.chain y (eqb y.class 254) l v))
      (sym (ap compaction_at stage)) (by_class (eqb x.class 254) refl)) where
        by_class : (b : Bool) → eqb x.class 254 ≡ b → Less l (resting_by t.chain x b l v)
        by_class true e = ends_left l p rest (at.Moving x)
            (over.Whole (ends.Compacted x.moves x.frames)) (λ q. []) todo stage (omega arith)
        by_class false e = goes_on l p rest (at.Moving x) (at.Sweeping (with_next t.chain x)) todo stage
            (class_falls x p (few p rest x q todo stage held).0 e)
  give_falls l v m few on (compacts (shrinks p rest x c todo stage held v_is m_is)) =
      subst (Less l) (sym m_is)
      (goes_on l p rest (at.Shrinking x) (at.Sweeping (with_frames (compaction_at l.at) l.owed)) todo
      stage
      (subst (λ (y : Compaction). stage_left size n p (at.Sweeping (with_frames y l.owed))
      < stage_left size n p (at.Shrinking x)) (sym (ap compaction_at stage)) (omega arith)))

-- ---- turns

module _ (sums : SumMoves DiskHeld) (t : Terms) where
  -- so many events are left where the actor a is at m
  abbrev left_with : List Here → ℕ → Here → ℕ
  left_with ls a m = locals_sum (left_by t.size (t.size + length (slice_set ls a m))) (slice_set ls a m)

  less_left : (ls : List Here) (a : ℕ) (l m : Here) → slice_get ls a ≡ Some l
      → left_by t.size (t.size + length ls) m < left_by t.size (t.size + length ls) l
      → left_with ls a m < locals_sum (left_by t.size (t.size + length ls)) ls
  less_left ls a l m who lt =
      let n = t.size + length ls in
      let q = sums (left_by t.size n) ls a l m who in
      let e : left_with ls a m ≡ locals_sum (left_by t.size n) (slice_set ls a m) =
      ap (λ (k : ℕ). locals_sum (left_by t.size (t.size + k)) (slice_set ls a m)) (length-set ls a m) in
      omega arith

  took_left : (w : State DiskHeld) (a : ℕ) (l : Here) (k : LockNo) (v : DiskHeld)
      → AreFew t.size w → slice_get w.locals a ≡ Some l → plan t l ≡ Take k
      → left_with w.locals a (took t l v) < all_left t.size w
  took_left w a l k v few who what = less_left w.locals a l (took t l v) who
      (take_falls t.size (t.size + length w.locals) l.todo l.at _ _ l.page _ l.fail k (few a l who).1
      what)

  -- a turn changes nothing, or leaves fewer events; that of a free actor leaves fewer
  pub falls : (a : ℕ) (w n : State DiskHeld) → AreFew t.size w → OneTurn t a w n
      → (n ≡ w) ⊎ (all_left t.size n < all_left t.size w)
  falls a w n few (finished l who what same) = inl same
  falls a w n few (missed l k who what there same) = inl same
  falls a w n few (taken l k v e) =
      inr (subst (λ (u : State DiskHeld). all_left t.size u < all_left t.size w) (sym e.after)
      (took_left w a l k v few e.who e.what))
  falls a w n few (given l k v m e) =
      inr (subst (λ (u : State DiskHeld). all_left t.size u < all_left t.size w) (sym e.after)
      (less_left w.locals a l m e.who (give_falls t (t.size + length w.locals) l v m (few a l e.who).0
      (few a l e.who).1 e.work)))

  pub free_falls : (a : ℕ) (w n : State DiskHeld) → AreFew t.size w → IsFree t w a
      → OneTurn t a w n
      → all_left t.size n < all_left t.size w
  free_falls a w n few f (finished l who what same) =
      absurd (f.2 (ap (plan t) (let q : Some f.0 ≡ Some l = sym f.1
      ∙ who in let r : f.0 ≡ l = cc in r) ∙ what))
  free_falls a w n few f (missed l k who what there same) =
      let r : f.0 ≡ l = (let q : Some f.0 ≡ Some l = sym f.1 ∙ who in cc) in
      let e = f.3 k (ap (plan t) r ∙ what) in
      absurd (let z : Some (Some e.0) ≡ Some None = sym e.1 ∙ there in cc)
  free_falls a w n few f (taken l k v e) =
      subst (λ (u : State DiskHeld). all_left t.size u < all_left t.size w) (sym e.after)
      (took_left w a l k v few e.who e.what)
  free_falls a w n few f (given l k v m e) =
      subst (λ (u : State DiskHeld). all_left t.size u < all_left t.size w) (sym e.after)
      (less_left w.locals a l m e.who (give_falls t (t.size + length w.locals) l v m (few a l e.who).0
      (few a l e.who).1 e.work))
