-- The events of a refused piece give back what they found.
use Rattle.std.proofs.Common.{◌≡◌, ◌⊎◌, ℕ, zero, suc, ◌+◌, ◌==◌, Bool, true, false, List, [], ◌∷◌, ◌++◌, length, map, Option, Some, None, refl, sym, ap, ◌∙◌, subst, inl, inr, arith, length-append}
use Rattle.std.proofs.lemmas.Bool.{false≢true}
use Rattle.std.proofs.lemmas.List.{append_cancel_left, map-append}
use Rattle.std.specs.Prelude.{⊤, slice_set, if◌then◌else◌}
use Rattle.zspage.specs.Cells.{CellState, UsedCell, entry}
use Rattle.class_pool.specs.Zspages.{Cells}
use Rattle.class_pool.specs.Pool.{PoolState, Object, object_of, objects, used_cells, used_cells_in}
use Rattle.call_history.specs.declared.part.Part.{Part}
use Rattle.call_history.specs.declared.part.PartEnd.{PartEnd}
use Rattle.call_history.specs.declared.part.PartEnd.TheVariants as over
use Rattle.call_history.specs.declared.part.Done.{Done}
use Rattle.call_history.specs.Parts.{is_read}
use Rattle.call_history.specs.Shows.{got_from}
use Rattle.lock_row.specs.declared.names.Held.TheVariants as holds
use Rattle.zr_base.specs.declared.op.Op.{Op}
use Rattle.zr_base.specs.declared.op.Op.TheVariants.{Write, Read, Discard, Idle, Writeback, Compact}
use Rattle.zr_base.specs.declared.op.OpEnd.TheVariants as ends
use Rattle.mem_account.specs.Counters.{Counters, counted}
use Rattle.mem_account.specs.declared.weight.Delta.TheVariants as delta
use Rattle.lock_row.specs.declared.names.LockNo.{LockNo}
use Rattle.lock_row.specs.declared.names.At.{At}
use Rattle.lock_row.specs.declared.names.At.TheVariants as at
use Rattle.lock_row.specs.declared.names.Compaction.{Compaction}
use Rattle.lock_row.specs.declared.names.Pin.{Pin}
use Rattle.lock_row.specs.declared.names.Step.{Step as VisitStep}
use Rattle.lock_row.specs.declared.names.Step.TheVariants as step
use Rattle.lock_row.specs.declared.names.Trip.{Trip}
use Rattle.slot_entry.specs.declared.kept.Kept.{Kept}
use Rattle.slot_entry.specs.declared.kept.Kept.TheVariants as kept
use Rattle.page_steps.specs.Pools.{Lends, Returns}
use Rattle.page_steps.specs.Steps.{Terms, DiskHeld, Here, taken_at, arrived_at, landed_at, visited_at, is_mark_of, mode_of, settle_at, quit_at, took, entry_or, entry_in}
use Rattle.page_steps.specs.Givings.{Works, fails_by, refuses, pins, unpins, fetches, misses, counts, charges, limits, starves, stows, quits, frees, releases, repays, puts, reads, fails, errs, leaves, marks, visits, compacts}
use Rattle.page_steps.specs.Scans.{Marks, scans, scan_at, with_page, marking_by}
use Rattle.lock_row.specs.declared.names.Scan.{Scan}
use Rattle.slot_entry.specs.Entries.{EntryState, is_new_mark, is_eligible}
use Rattle.page_steps.specs.Visits.{Visits, trip_at, onward_by, undoing_by, ending_with, passed_page, wrote_page, lost_page}
use Rattle.page_steps.specs.Visits.{passes as visit_passes, reserves as visit_reserves, refrains as visit_refrains, quits as visit_quits, pins as visit_pins, unpins as visit_unpins, marks as visit_marks, stores as visit_stores, spoils as visit_spoils, frees as visit_frees, commits as visit_commits, pays as visit_pays, puts as visit_puts, loses as visit_loses, releases as visit_releases}
use Rattle.page_steps.specs.Compactions.{Compacts, moves, rests, shrinks, moved_at, with_move, compaction_at, resting_by}
use Rattle.page_steps.specs.Nexts.{ending_by, failing_by, tail_of, own_entry, pinning, fetching, missing}
use Rattle.page_steps.specs.Pages.{page_in}
use Rattle.page_steps.specs.Refusals.{Event, Takes, Gives, IsRefusedEnd, AreRefused, GivesLast, GiveBack, RefusalsLeaveAll}

-- ---- the objects of a pool whose cells go out and come back

objects_in : (cells : Cells) (ix : ℕ) (u v : UsedCell) → entry cells ix ≡ Some u
    → object_of v ≡ object_of u
    → map object_of (used_cells_in (slice_set cells ix (Some v))) ≡ map object_of (used_cells_in cells)
objects_in [] ix u v at same = refl
objects_in (None ∷ cells) zero u v at same = absurd (cc)
objects_in (None ∷ cells) (suc ix) u v at same = objects_in cells ix u v at same
objects_in (Some w ∷ cells) zero u v at same =
    let is : w ≡ u = cc in
    ap (λ (o : Object). o ∷ map object_of (used_cells_in cells)) (same ∙ ap object_of (sym is))
objects_in (Some w ∷ cells) (suc ix) u v at same =
    ap (λ (os : List Object). object_of w ∷ os) (objects_in cells ix u v at same)

objects_at : (zspages : List (Option Cells)) (id : ℕ) (cells : Cells) (ix : ℕ) (u v : UsedCell)
    → entry zspages id ≡ Some cells → entry cells ix ≡ Some u → object_of v ≡ object_of u
    → map object_of (used_cells (slice_set zspages id (Some (slice_set cells ix (Some v)))))
    ≡ map object_of (used_cells zspages)
objects_at [] id cells ix u v there at same = refl
objects_at (None ∷ zspages) zero cells ix u v there at same = absurd (cc)
objects_at (None ∷ zspages) (suc id) cells ix u v there at same =
    objects_at zspages id cells ix u v there at same
objects_at (Some first ∷ zspages) zero cells ix u v there at same =
    let is : first ≡ cells = cc in
    map-append object_of (used_cells_in (slice_set cells ix (Some v))) (used_cells zspages)
    ∙ ap (λ (os : List Object). os ++ map object_of (used_cells zspages))
    (objects_in cells ix u v at same ∙ ap (λ (y : Cells). map object_of (used_cells_in y)) (sym is))
    ∙ sym (map-append object_of (used_cells_in first) (used_cells zspages))
objects_at (Some first ∷ zspages) (suc id) cells ix u v there at same =
    map-append object_of (used_cells_in first)
    (used_cells (slice_set zspages id (Some (slice_set cells ix (Some v)))))
    ∙ ap (λ (os : List Object). map object_of (used_cells_in first) ++ os)
    (objects_at zspages id cells ix u v there at same)
    ∙ sym (map-append object_of (used_cells_in first) (used_cells zspages))

objects_lent : (q q' : PoolState) (handle : ℕ) (cell : CellState) → Lends q q' handle cell
    → objects q' ≡ objects q
objects_lent q q' handle cell l =
    ap objects l.after
    ∙ objects_at q.zspages l.id l.cells l.ix l.object (record l.object { out = true }) l.place.zspage
    l.place.cell refl

objects_back : (q q' : PoolState) (handle : ℕ) → Returns q q' handle → objects q' ≡ objects q
objects_back q q' handle r =
    ap objects r.after
    ∙ objects_at q.zspages r.id r.cells r.ix r.object (record r.object { out = false }) r.place.zspage
    r.place.cell refl

-- ---- stages before and after the point of no return

-- there is no refusal
abbrev HasNone : Option PartEnd → Type 0
HasNone None = ⊤
HasNone (Some end) = ⊥

-- there is one
abbrev HasSome : Option PartEnd → Type 0
HasSome None = ⊥
HasSome (Some end) = ⊤

-- whether the piece in work is one of a read
abbrev reads_first : List Part → Bool
reads_first [] = false
reads_first (p ∷ ps) = is_read p.op

-- a device failed
abbrev IsFault : Option PartEnd → Type 0
IsFault (Some (over.Eio fault)) = ⊤
IsFault f = ⊥

-- a device failed a write, which is refused
abbrev IsUnread : List Part → Option PartEnd → Type 0
IsUnread todo f = HasSome f × (reads_first todo ≡ false)

-- a device failed a read, which is noted
abbrev IsNoted : List Part → Option PartEnd → Type 0
IsNoted todo f = HasNone f ⊎ (IsFault f × (reads_first todo ≡ true))

-- the end that is known, if one is, is that of an operation that is over in one piece
abbrev IsWholeEnd : Option PartEnd → Type 0
IsWholeEnd None = ⊤
IsWholeEnd (Some (over.Whole end)) = ⊤
IsWholeEnd f = ⊥

-- the piece may still be refused, and has changed nothing
abbrev IsEarly : At → List Part → Option PartEnd → Type 0
IsEarly at.Start todo f = HasNone f
IsEarly at.Refusing todo f = ⊥
IsEarly at.Seen todo f = HasNone f
IsEarly at.Pinning todo f = HasNone f
IsEarly at.Pinned todo f = ⊤
IsEarly at.Unpinning todo f = ⊤
IsEarly at.Leaving todo f = ⊤
IsEarly at.Away todo f = HasNone f
IsEarly at.Fetching todo f = HasNone f
IsEarly at.Failing todo f = IsUnread todo f
IsEarly at.Counting todo f = IsUnread todo f
IsEarly at.Missed todo f = IsUnread todo f
IsEarly at.Wanting todo f = HasNone f
IsEarly at.Inside todo f = HasNone f
IsEarly at.Both todo f = HasNone f
IsEarly at.Made todo f = HasSome f
IsEarly a todo f = ⊥

-- the piece isn't refused any more; what is no request never is
abbrev IsLate : At → List Part → Option PartEnd → Type 0
IsLate at.Refusing todo f = ⊤
IsLate at.Failing todo f = IsNoted todo f
IsLate at.Counting todo f = IsNoted todo f
IsLate at.Missed todo f = IsNoted todo f
IsLate at.Made todo f = HasNone f
IsLate at.Old todo f = ⊤
IsLate at.Freeing todo f = ⊤
IsLate at.Backed todo f = ⊤
IsLate at.Releasing todo f = ⊤
IsLate at.Owing todo f = ⊤
IsLate at.Giving todo f = ⊤
IsLate at.Ready todo f = ⊤
IsLate (at.Scanning x) todo f = ⊤
IsLate (at.Marking x) todo f = ⊤
IsLate (at.Visiting s x) todo f = IsWholeEnd f
IsLate (at.Sweeping x) todo f = ⊤
IsLate (at.Moving x) todo f = ⊤
IsLate (at.Shrunk x) todo f = ⊤
IsLate (at.Shrinking x) todo f = ⊤
IsLate a todo f = ⊥

-- without a refusal each stage is one or the other
split : (a : At) (todo : List Part) (f : Option PartEnd) → HasNone f
    → IsEarly a todo f ⊎ IsLate a todo f
split at.Start todo f none = inl none
split at.Refusing todo f none = inr tt
split at.Seen todo f none = inl none
split at.Pinning todo f none = inl none
split at.Pinned todo f none = inl tt
split at.Unpinning todo f none = inl tt
split at.Leaving todo f none = inl tt
split at.Away todo f none = inl none
split at.Fetching todo f none = inl none
split at.Failing todo f none = inr (inl none)
split at.Counting todo f none = inr (inl none)
split at.Missed todo f none = inr (inl none)
split at.Wanting todo f none = inl none
split at.Inside todo f none = inl none
split at.Both todo f none = inl none
split at.Made todo f none = inr none
split at.Old todo f none = inr tt
split at.Freeing todo f none = inr tt
split at.Backed todo f none = inr tt
split at.Releasing todo f none = inr tt
split at.Owing todo f none = inr tt
split at.Giving todo f none = inr tt
split at.Ready todo f none = inr tt
split (at.Scanning x) todo f none = inr tt
split (at.Marking x) todo f none = inr tt
split (at.Visiting s x) todo None none = inr tt
split (at.Visiting s x) todo (Some end) none = absurd none
split (at.Sweeping x) todo f none = inr tt
split (at.Moving x) todo f none = inr tt
split (at.Shrunk x) todo f none = inr tt
split (at.Shrinking x) todo f none = inr tt

early_take : (size : ℕ) (todo : List Part) (a : At) (page : Option (List ℕ))
    (e : EntryState) (f : Option PartEnd) → IsEarly a todo f
    → IsEarly (taken_at size todo a page e f) todo f ⊎ IsLate (taken_at size todo a page e f) todo f
early_take size todo a page e None soon = split (taken_at size todo a page e None) todo None tt
early_take size [] a page e (Some end) soon = inl soon
early_take size (p ∷ ps) at.Pinned page e (Some end) soon = inl tt
early_take size (p ∷ ps) at.Unpinning page e (Some end) soon = inl tt
early_take size (p ∷ ps) at.Leaving page e (Some end) soon = inl tt
early_take size (p ∷ ps) at.Failing page e (Some end) soon = inl soon
early_take size (p ∷ ps) at.Counting page e (Some end) soon = inl soon
early_take size (p ∷ ps) at.Missed page e (Some end) soon = inl soon
early_take size (p ∷ ps) at.Made page e (Some end) soon = inl tt
early_take size (p ∷ ps) a page e (Some end) soon = absurd soon

arrived_late : (meant : Bool) (x : Trip) (todo : List Part) (f : Option PartEnd) → IsWholeEnd f
    → IsLate (arrived_at meant x) todo f
arrived_late true x todo f whole = whole
arrived_late false x todo f whole = whole

landed_late : (f : Option PartEnd) (x : Trip) (e : EntryState) (todo : List Part) → IsWholeEnd f
    → IsLate (landed_at f x e) todo f
landed_late None x e todo whole = by (is_mark_of x.block e.under) where
  by : (b : Bool) → IsLate (if b then at.Visiting step.Won x else at.Visiting step.Losing x) todo None
  by true = tt
  by false = tt
landed_late (Some end) x e todo whole = whole

visit_late : (s : VisitStep) (x : Trip) (op : Op) (e : EntryState) (f : Option PartEnd) (todo : List Part)
    → IsWholeEnd f → IsLate (visited_at s x op e f) todo f
visit_late step.Arriving x op e f todo whole =
    arrived_late (is_eligible (mode_of op) e) x todo f whole
visit_late step.Passing x op e f todo whole = whole
visit_late step.Asking x op e f todo whole = whole
visit_late step.Reserving x op e f todo whole = whole
visit_late step.Quitting x op e f todo whole = whole
visit_late step.Seen x op e f todo whole = whole
visit_late step.Pinning x op e f todo whole = whole
visit_late step.Pinned x op e f todo whole = whole
visit_late step.Unpinning x op e f todo whole = whole
visit_late step.Marking x op e f todo whole = whole
visit_late step.Flying x op e f todo whole = whole
visit_late step.Storing x op e f todo whole = whole
visit_late step.Landing x op e f todo whole = landed_late f x e todo whole
visit_late step.Won x op e f todo whole = whole
visit_late step.Freeing x op e f todo whole = whole
visit_late step.Backing x op e f todo whole = whole
visit_late step.Committing x op e f todo whole = whole
visit_late step.Owing x op e f todo whole = whole
visit_late step.Paying x op e f todo whole = whole
visit_late step.Putting x op e f todo whole = whole
visit_late step.Losing x op e f todo whole = whole
visit_late step.Undoing x op e f todo whole = whole
visit_late step.Releasing x op e f todo whole = whole

late_take : (size : ℕ) (todo : List Part) (a : At) (page : Option (List ℕ))
    (e : EntryState) (f : Option PartEnd) → IsLate a todo f → IsLate (taken_at size todo a page e f) todo f
late_take size [] a page e f late = late
late_take size (p ∷ ps) at.Refusing page e f late = tt
late_take size (p ∷ ps) at.Failing page e f late = late
late_take size (p ∷ ps) at.Counting page e f late = late
late_take size (p ∷ ps) at.Missed page e f late = late
late_take size (p ∷ ps) at.Made page e f late = late
late_take size (p ∷ ps) at.Old page e f late = tt
late_take size (p ∷ ps) at.Freeing page e f late = tt
late_take size (p ∷ ps) at.Backed page e f late = tt
late_take size (p ∷ ps) at.Releasing page e f late = tt
late_take size (p ∷ ps) at.Owing page e f late = tt
late_take size (p ∷ ps) at.Giving page e f late = tt
late_take size (p ∷ ps) at.Ready page e f late = tt
late_take size (p ∷ ps) (at.Scanning x) page e f late = tt
late_take size (p ∷ ps) (at.Marking x) page e f late = tt
late_take size (p ∷ ps) (at.Visiting s x) page e f late = visit_late s x p.op e f (p ∷ ps) late
late_take size (p ∷ ps) (at.Sweeping x) page e f late = tt
late_take size (p ∷ ps) (at.Moving x) page e f late = tt
late_take size (p ∷ ps) (at.Shrunk x) page e f late = tt
late_take size (p ∷ ps) (at.Shrinking x) page e f late = tt
late_take size (p ∷ ps) a page e f late = absurd late

-- ---- givings

over_is : (l : Here) (end : PartEnd) (got : Part → List (List ℕ)) (p : Part) (rest todo : List Part)
    → todo ≡ p ∷ rest
    → (ending_by l end got todo).done ≡ l.done ++ record { part = p; end = end; got = got p } ∷ []
over_is l end got p rest todo e = ap (λ (ts : List Part). (ending_by l end got ts).done) e

held_is : (l : Here) (end : PartEnd) (got : Part → List (List ℕ)) (p : Part) (rest todo : List Part)
    → todo ≡ p ∷ rest → (ending_by l end got todo).held ≡ []
held_is l end got p rest todo e = ap (λ (ts : List Part). (ending_by l end got ts).held) e

settle_late : (k : Kept) (todo : List Part) (f : Option PartEnd) → IsLate (settle_at k) todo f
settle_late kept.Empty todo f = tt
settle_late (kept.Same w) todo f = tt
settle_late (kept.Obj o) todo f = tt
settle_late (kept.Wb b) todo f = tt

-- what a giving of a piece leaves that isn't refused any more: it goes on, or it ends without a refusal
abbrev Goes : Here → Here → Type 0
Goes l m = (IsLate m.at m.todo m.fail × (m.done ≡ l.done))
    ⊎ ((d : Done) × (m.done ≡ l.done ++ d ∷ []) × (IsRefusedEnd d.part.op d.end → ⊥))

moved_late : (frames : ℕ) (x : Compaction) (todo : List Part) (f : Option PartEnd)
    → IsLate (moved_at frames x) todo f
moved_late zero x todo f = tt
moved_late (suc n) x todo f = tt

rest_step : (chain : ℕ) (x : Compaction) (last : Bool) (l : Here) (v : DiskHeld) (p : Part)
    (rest : List Part) → l.todo ≡ p ∷ rest → Goes l (resting_by chain x last l v)
rest_step chain x true l v p rest todo =
    let end = over.Whole (ends.Compacted x.moves x.frames) in
    inr (record { part = p; end = end; got = [] }, over_is l end (λ p. []) p rest l.todo todo, λ r. r)
rest_step chain x false l v p rest todo = inl (tt, refl)

compact_step : (t : Terms) (l : Here) (v : DiskHeld) (m : Here) → Compacts t l v m → Goes l m
compact_step t l v m (moves p rest x q q' budget frames todo stage held more one give is) =
    inl (subst (λ (y : Here). IsLate y.at y.todo y.fail × (y.done ≡ l.done)) (sym is)
    (moved_late frames (with_move (compaction_at l.at) budget) l.todo l.fail, refl))
compact_step t l v m (rests p rest x q todo stage held none give is) =
    subst (λ (y : Here). Goes l y) (sym is)
    (rest_step t.chain (compaction_at l.at) ((compaction_at l.at).class == 254) l v p rest todo)
compact_step t l v m (shrinks p rest x c todo stage held give is) =
    inl (subst (λ (y : Here). IsLate y.at y.todo y.fail × (y.done ≡ l.done)) (sym is) (tt, refl))

scan_step : (x : Scan) (last : Bool) (l : Here) (v : DiskHeld) (p : Part) (rest : List Part)
    → l.todo ≡ p ∷ rest → Goes l (marking_by x last l v)
scan_step x true l v p rest todo =
    let end = over.Whole (ends.Marked x.marked) in
    inr (record { part = p; end = end; got = [] }, over_is l end (λ p. []) p rest l.todo todo, λ r. r)
scan_step x false l v p rest todo = inl (tt, refl)

mark_step : (t : Terms) (l : Here) (v : DiskHeld) (m : Here) → Marks t l v m → Goes l m
mark_step t l v m (scans p rest age x e todo op stage held give is) =
    subst (λ (y : Here). Goes l y) (sym is)
    (scan_step (with_page (scan_at l.at) (is_new_mark t.clock age e))
    (((scan_at l.at).page + 1) == t.size) l v p rest todo)

onward_step : (x : Trip) (last : Bool) (l : Here) (v : DiskHeld) (p : Part) (rest : List Part)
    → l.todo ≡ p ∷ rest → Goes l (onward_by x last l v)
onward_step x true l v p rest todo =
    let end = over.Whole (ends.Written x.wrote x.lost) in
    inr (record { part = p; end = end; got = [] }, over_is l end (λ p. []) p rest l.todo todo, λ r. r)
onward_step x false l v p rest todo = inl (tt, refl)

-- an operation that is over in one piece isn't refused
whole_end : (op : Op) (end : PartEnd) → IsWholeEnd (Some end) → IsRefusedEnd op end → ⊥
whole_end op (over.Whole end) whole refused = refused
whole_end op end whole refused = whole

end_step : (end : PartEnd) (l : Here) (p : Part) (rest : List Part) → l.todo ≡ p ∷ rest
    → IsWholeEnd (Some end) → Goes l (ending_by l end (λ p. []) l.todo)
end_step end l p rest todo whole =
    inr (
      record { part = p; end = end; got = [] },
      over_is l end (λ p. []) p rest l.todo todo,
      whole_end p.op end whole,
    )

undo_step : (size : ℕ) (f : Option PartEnd) (l : Here) (v : DiskHeld) (p : Part) (rest : List Part)
    → l.todo ≡ p ∷ rest → IsWholeEnd f → Goes l (undoing_by size f l v)
undo_step size None l v p rest todo whole =
    onward_step (lost_page (trip_at l.at)) ((lost_page (trip_at l.at)).page == size) l v p rest todo
undo_step size (Some end) l v p rest todo whole = end_step end l p rest todo whole

-- it goes on
visit_on : (l m n : Here) → m ≡ n → IsLate n.at n.todo n.fail → n.done ≡ l.done → Goes l m
visit_on l m n is late same =
    inl (subst (λ (y : Here). IsLate y.at y.todo y.fail × (y.done ≡ l.done)) (sym is) (late, same))

visit_step : (t : Terms) (l : Here) (v : DiskHeld) (m : Here) → Visits t l v m
    → IsLate l.at l.todo l.fail → Goes l m
visit_step t l v m (visit_passes p rest x e todo stage held give is) late =
    subst (λ (y : Here). Goes l y) (sym is)
    (onward_step (passed_page (trip_at l.at)) ((passed_page (trip_at l.at)).page == t.size) l v p rest
    todo)
visit_step t l v m (visit_reserves p rest x e y b todo stage held answer give is) late =
    visit_on l m _ is (subst (λ (a : At). IsLate a l.todo l.fail) stage late) refl
visit_step t l v m (visit_refrains p rest x e y r end todo stage held answer none give is) late =
    visit_on l m _ is tt refl
visit_step t l v m (visit_quits p rest x e end todo stage held fail give is) late =
    subst (λ (y : Here). Goes l y) (sym (is ∙ ap (ending_with l) fail))
    (end_step end l p rest todo (subst IsWholeEnd fail
    (subst (λ (a : At). IsLate a l.todo l.fail) stage late)))
visit_step t l v m (visit_pins p rest x e o q q' cell todo stage held kept lends give is) late =
    visit_on l m _ is (subst (λ (a : At). IsLate a l.todo l.fail) stage late) refl
visit_step t l v m (visit_unpins p rest x e o q q' todo stage held kept back give is) late =
    visit_on l m _ is (subst (λ (a : At). IsLate a l.todo l.fail) stage late) refl
visit_step t l v m (visit_marks p rest x e b todo stage held block give is) late =
    visit_on l m _ is (subst (λ (a : At). IsLate a l.todo l.fail) stage late) refl
visit_step t l v m (visit_stores p rest x b page d d' todo stage held block seen written give is) late =
    visit_on l m _ is (subst (λ (a : At). IsLate a l.todo l.fail) stage late) refl
visit_step t l v m (visit_spoils p rest x b d d' fault todo stage held block failed give is) late =
    visit_on l m _ is tt refl
visit_step t l v m (visit_frees p rest x e o q q' frames todo stage held kept drops give is) late =
    visit_on l m _ is (subst (λ (a : At). IsLate a l.todo l.fail) stage late) refl
visit_step t l v m (visit_commits p rest x e b y todo stage held block give is) late =
    visit_on l m _ is (subst (λ (a : At). IsLate a l.todo l.fail) stage late) refl
visit_step t l v m (visit_pays p rest x e c was todo stage held ahead give is) late =
    visit_on l m _ is (subst (λ (a : At). IsLate a l.todo l.fail) stage late) refl
visit_step t l v m (visit_puts p rest x e b todo stage held block give is) late =
    subst (λ (y : Here). Goes l y) (sym is)
    (onward_step (wrote_page (trip_at l.at)) ((wrote_page (trip_at l.at)).page == t.size) l v p rest
    todo)
visit_step t l v m (visit_loses p rest x e todo stage held give is) late =
    visit_on l m _ is (subst (λ (a : At). IsLate a l.todo l.fail) stage late) refl
visit_step t l v m (visit_releases p rest x b y todo stage held block give is) late =
    subst (λ (y : Here). Goes l y) (sym is)
    (undo_step t.size l.fail l v p rest todo (subst (λ (a : At). IsLate a l.todo l.fail) stage late))

-- the piece in work is no read
no_read : (p : Part) (rest todo : List Part) → todo ≡ p ∷ rest → reads_first todo ≡ false
    → is_read p.op ≡ false
no_read p rest todo e other = sym (ap reads_first e) ∙ other

noted_late : (p : Part) (rest todo : List Part) (f : Option PartEnd) (end : PartEnd)
    → todo ≡ p ∷ rest → f ≡ Some end → IsNoted todo f → IsRefusedEnd p.op end → ⊥
noted_late p rest todo f end e is noted refused = by (subst (λ (f : Option PartEnd). IsNoted todo f) is noted) where
  fault : (end : PartEnd) → IsFault (Some end) → is_read p.op ≡ true → IsRefusedEnd p.op end → ⊥
  fault (over.Eio n) there read other = false≢true (sym other ∙ read)
  fault end there read other = absurd there

  by : IsNoted todo (Some end) → ⊥
  by (inl none) = none
  by (inr some) = fault end some.0 (sym (ap reads_first e) ∙ some.1) refused

late_step : (t : Terms) (l : Here) (v : DiskHeld) (m : Here) → Works t l v m
    → IsLate l.at l.todo l.fail → Goes l m
late_step t l v m (refuses p rest c todo stage held give is) late =
    inr (
      record { part = p; end = over.Whole ends.Range; got = [] },
      ap (λ (y : Here). y.done) is ∙ over_is l (over.Whole ends.Range) (λ p. []) p rest l.todo todo,
      λ r. r,
    )
late_step t l v m (pins p rest e o q q' cell todo stage held kept lends give is) late =
    absurd (subst (λ (a : At). IsLate a l.todo l.fail) stage late)
late_step t l v m (unpins p rest e o q q' todo stage held kept back give is) late =
    absurd (subst (λ (a : At). IsLate a l.todo l.fail) stage late)
late_step t l v m (fetches p rest e b d d' page todo stage held kept read page_is give is) late =
    absurd (subst (λ (a : At). IsLate a l.todo l.fail) stage late)
late_step t l v m (misses p rest e b d d' fault todo stage held kept missed give is) late =
    absurd (subst (λ (a : At). IsLate a l.todo l.fail) stage late)
late_step t l v m (counts p rest e c todo stage held give is) late =
    inl (subst (λ (y : Here). IsLate y.at y.todo y.fail × (y.done ≡ l.done)) (sym is)
    (subst (λ (a : At). IsLate a l.todo l.fail) stage late, refl))
late_step t l v m (charges p rest e c q q' class handle need bytes huge todo stage held form c_is within adds give is)
    late = absurd (subst (λ (a : At). IsLate a l.todo l.fail) stage late)
late_step t l v m (limits p rest e c q class need todo stage held n past give is) late =
    absurd (subst (λ (a : At). IsLate a l.todo l.fail) stage late)
late_step t l v m (starves p rest e c q class todo stage held full within give is) late =
    absurd (subst (λ (a : At). IsLate a l.todo l.fail) stage late)
late_step t l v m (stows p rest e q class todo stage held fail give is) late =
    inl (subst (λ (y : Here). IsLate y.at y.todo y.fail × (y.done ≡ l.done)) (sym is)
    (settle_late (own_entry l).kept l.todo l.fail, refl))
late_step t l v m (quits p rest e q class end todo stage held fail give is) late =
    absurd (subst (λ (f : Option PartEnd). IsLate at.Made l.todo f) fail
    (subst (λ (a : At). IsLate a l.todo l.fail) stage late))
late_step t l v m (frees p rest e o q q' frames todo stage held kept drops give is) late =
    inl (subst (λ (y : Here). IsLate y.at y.todo y.fail × (y.done ≡ l.done)) (sym is) (tt, refl))
late_step t l v m (releases p rest e b x todo stage held kept give is) late =
    inl (subst (λ (y : Here). IsLate y.at y.todo y.fail × (y.done ≡ l.done)) (sym is) (tt, refl))
late_step t l v m (repays p rest e c todo stage held give is) late =
    inl (subst (λ (y : Here). IsLate y.at y.todo y.fail × (y.done ≡ l.done)) (sym is) (tt, refl))
late_step t l v m (puts p rest e f todo stage held notes give is) late =
    inr (
      record { part = p; end = over.Carried; got = [] },
      ap (λ (y : Here). y.done) is ∙ over_is l over.Carried (λ p. []) p rest l.todo todo,
      λ r. r,
    )
late_step t l v m (reads p rest e f todo stage held fail notes give is) late =
    absurd (subst (λ (a : At). IsLate a l.todo l.fail) stage late)
late_step t l v m (fails p rest e end todo stage held fail give is) late =
    absurd (subst (λ (a : At). IsLate a l.todo l.fail) stage late)
late_step t l v m (errs p rest e f end todo stage held fail read notes give is) late =
    inr (
      record { part = p; end = end; got = [] },
      ap (λ (y : Here). y.done) (is ∙ ap (failing_by l) fail)
          ∙ over_is l end (λ p. []) p rest l.todo todo,
      noted_late p rest l.todo l.fail end todo fail
          (subst (λ (a : At). IsLate a l.todo l.fail) stage late),
    )
late_step t l v m (leaves p rest e end todo stage held fail other give is) late =
    inr (
      record { part = p; end = end; got = [] },
      ap (λ (y : Here). y.done) (is ∙ ap (failing_by l) fail)
          ∙ over_is l end (λ p. []) p rest l.todo todo,
      noted_late p rest l.todo l.fail end todo fail
          (subst (λ (a : At). IsLate a l.todo l.fail) stage late),
    )
late_step t l v m (marks c) late = mark_step t l v m c
late_step t l v m (visits c) late = visit_step t l v m c late
late_step t l v m (compacts c) late = compact_step t l v m c

-- What a giving of a piece leaves that may still be refused: it goes on with what it took, or it is
-- past a refusal, or it ends.
data Step (l m : Here) (v : DiskHeld) : Type 0 where
  stays : GivesLast l.held v → m.held ≡ tail_of l.held → IsEarly m.at m.todo m.fail → Step l m v
  passes : IsLate m.at m.todo m.fail → m.done ≡ l.done → Step l m v
  ended : (d : Done) → m.done ≡ l.done ++ d ∷ []
      → (IsRefusedEnd d.part.op d.end → GivesLast l.held v × (m.held ≡ tail_of l.held)) → Step l m v

pin_step : (l n : Here) (v : DiskHeld) → HasNone l.fail → n.fail ≡ l.fail → n.done ≡ l.done
    → GivesLast l.held v → n.held ≡ tail_of l.held → Step l n v
pin_step l n v none fail done last held = by (split n.at n.todo n.fail (subst HasNone (sym fail) none)) where
  by : IsEarly n.at n.todo n.fail ⊎ IsLate n.at n.todo n.fail → Step l n v
  by (inl early) = stays last held early
  by (inr late) = passes late done

quit_early : (pin : Option Pin) (todo : List Part) (f : Option PartEnd)
    → IsEarly (quit_at pin) todo f
quit_early None todo f = tt
quit_early (Some x) todo f = tt

fails_write : (op : Op) (c : Counters) → is_read op ≡ false
    → fails_by op c ≡ counted c delta.FailedWrite
fails_write (Write start count stuff) c e = refl
fails_write (Read start count) c e = absurd (false≢true (sym e))
fails_write (Discard start count) c e = refl
fails_write (Idle age) c e = refl
fails_write (Writeback m) c e = refl
fails_write Compact c e = refl

-- the value that was held last
last_is : (l : Here) (v : DiskHeld) (held : List (LockNo × DiskHeld)) → l.held ≡ held
    → GivesLast held v → GivesLast l.held v
last_is l v held is last = subst (λ (h : List (LockNo × DiskHeld)). GivesLast h v) (sym is) last

-- no event of a writeback is at an early stage
visit_early : (t : Terms) (l : Here) (v : DiskHeld) (m : Here) → Visits t l v m
    → IsEarly l.at l.todo l.fail → ⊥
visit_early t l v m (visit_passes p rest x e todo stage held give is) early =
    subst (λ (a : At). IsEarly a l.todo l.fail) stage early
visit_early t l v m (visit_reserves p rest x e y b todo stage held answer give is) early =
    subst (λ (a : At). IsEarly a l.todo l.fail) stage early
visit_early t l v m (visit_refrains p rest x e y r end todo stage held answer none give is) early =
    subst (λ (a : At). IsEarly a l.todo l.fail) stage early
visit_early t l v m (visit_quits p rest x e end todo stage held fail give is) early =
    subst (λ (a : At). IsEarly a l.todo l.fail) stage early
visit_early t l v m (visit_pins p rest x e o q q' cell todo stage held kept lends give is) early =
    subst (λ (a : At). IsEarly a l.todo l.fail) stage early
visit_early t l v m (visit_unpins p rest x e o q q' todo stage held kept back give is) early =
    subst (λ (a : At). IsEarly a l.todo l.fail) stage early
visit_early t l v m (visit_marks p rest x e b todo stage held block give is) early =
    subst (λ (a : At). IsEarly a l.todo l.fail) stage early
visit_early t l v m (visit_stores p rest x b page d d' todo stage held block seen written give is) early =
    subst (λ (a : At). IsEarly a l.todo l.fail) stage early
visit_early t l v m (visit_spoils p rest x b d d' fault todo stage held block failed give is) early =
    subst (λ (a : At). IsEarly a l.todo l.fail) stage early
visit_early t l v m (visit_frees p rest x e o q q' frames todo stage held kept drops give is) early =
    subst (λ (a : At). IsEarly a l.todo l.fail) stage early
visit_early t l v m (visit_commits p rest x e b y todo stage held block give is) early =
    subst (λ (a : At). IsEarly a l.todo l.fail) stage early
visit_early t l v m (visit_pays p rest x e c was todo stage held ahead give is) early =
    subst (λ (a : At). IsEarly a l.todo l.fail) stage early
visit_early t l v m (visit_puts p rest x e b todo stage held block give is) early =
    subst (λ (a : At). IsEarly a l.todo l.fail) stage early
visit_early t l v m (visit_loses p rest x e todo stage held give is) early =
    subst (λ (a : At). IsEarly a l.todo l.fail) stage early
visit_early t l v m (visit_releases p rest x b y todo stage held block give is) early =
    subst (λ (a : At). IsEarly a l.todo l.fail) stage early

early_step : (t : Terms) (l : Here) (v : DiskHeld) (m : Here) → Works t l v m
    → IsEarly l.at l.todo l.fail → Step l m v
early_step t l v m (refuses p rest c todo stage held give is) early =
    absurd (subst (λ (a : At). IsEarly a l.todo l.fail) stage early)
early_step t l v m (pins p rest e o q q' cell todo stage held kept lends give is) early =
    subst (λ (y : Here). Step l y v) (sym is)
    (pin_step l (pinning o cell l v) v (subst (λ (a : At). IsEarly a l.todo l.fail) stage early) refl refl
    (last_is l v _ held (q', give, objects_lent q q' o.handle.0 cell lends)) refl)
early_step t l v m (unpins p rest e o q q' todo stage held kept back give is) early =
    subst (λ (y : Here). Step l y v) (sym is)
    (stays (last_is l v _ held (q', give, objects_back q q' o.handle.0 back)) refl tt)
early_step t l v m (fetches p rest e b d d' page todo stage held kept read page_is give is) early =
    subst (λ (y : Here). Step l y v) (sym is)
    (pin_step l (fetching page l v) v (subst (λ (a : At). IsEarly a l.todo l.fail) stage early) refl
    refl (last_is l v _ held (d', give, read.contents)) refl)
early_step t l v m (misses p rest e b d d' fault todo stage held kept missed give is) early =
    subst (λ (y : Here). Step l y v) (sym is) (by (reads_first l.todo) refl) where
      by : (b : Bool) → reads_first l.todo ≡ b → Step l (missing fault l v) v
      by true e = passes (inr (tt, e)) refl
      by false e = stays (last_is l v _ held (d', give, missed.contents)) refl (tt, e)
early_step t l v m (counts p rest e c todo stage held give is) early =
    let unread = subst (λ (a : At). IsEarly a l.todo l.fail) stage early in
    subst (λ (y : Here). Step l y v) (sym is)
    (stays (last_is l v _ held (give ∙ ap (λ y. holds.Account y)
    (fails_write p.op c (no_read p rest l.todo todo unread.1)))) refl unread)
early_step t l v m (charges p rest e c q q' class handle need bytes huge todo stage held form c_is within adds give is)
    early =
    subst (λ (y : Here). Step l y v) (sym is)
    (passes (subst (λ (a : At). IsEarly a l.todo l.fail) stage early) refl)
early_step t l v m (limits p rest e c q class need todo stage held n past give is) early =
    subst (λ (y : Here). Step l y v) (sym is) (stays (last_is l v _ held give) refl tt)
early_step t l v m (starves p rest e c q class todo stage held full within give is) early =
    subst (λ (y : Here). Step l y v) (sym is) (stays (last_is l v _ held give) refl tt)
early_step t l v m (stows p rest e q class todo stage held fail give is) early =
    absurd (subst (λ (f : Option PartEnd). IsEarly at.Made l.todo f) fail
    (subst (λ (a : At). IsEarly a l.todo l.fail) stage early))
early_step t l v m (quits p rest e q class end todo stage held fail give is) early =
    subst (λ (y : Here). Step l y v) (sym is)
    (stays (last_is l v _ held (q, give, refl)) refl (quit_early l.pin l.todo l.fail))
early_step t l v m (frees p rest e o q q' frames todo stage held kept drops give is) early =
    absurd (subst (λ (a : At). IsEarly a l.todo l.fail) stage early)
early_step t l v m (releases p rest e b x todo stage held kept give is) early =
    absurd (subst (λ (a : At). IsEarly a l.todo l.fail) stage early)
early_step t l v m (repays p rest e c todo stage held give is) early =
    absurd (subst (λ (a : At). IsEarly a l.todo l.fail) stage early)
early_step t l v m (puts p rest e f todo stage held notes give is) early =
    absurd (subst (λ (a : At). IsEarly a l.todo l.fail) stage early)
early_step t l v m (reads p rest e f todo stage held fail notes give is) early =
    ended (record {
      part = p;
      end = over.Carried;
      got = got_from (page_in l.page (own_entry l).kept) p;
    })
    (ap (λ (y : Here). y.done) is
    ∙ over_is l over.Carried (λ p. got_from (page_in l.page (own_entry l).kept) p) p rest l.todo todo)
    (λ r. absurd r)
early_step t l v m (fails p rest e end todo stage held fail give is) early =
    let so = is ∙ ap (failing_by l) fail in
    ended (record { part = p; end = end; got = [] })
    (ap (λ (y : Here). y.done) so ∙ over_is l end (λ p. []) p rest l.todo todo)
    (λ r. (
      last_is l v _ held give,
      ap (λ (y : Here). y.held) so ∙ held_is l end (λ p. []) p rest l.todo todo
          ∙ sym (ap tail_of held),
    ))
early_step t l v m (errs p rest e f end todo stage held fail read notes give is) early =
    let unread = subst (λ (a : At). IsEarly a l.todo l.fail) stage early in
    absurd (false≢true (sym (no_read p rest l.todo todo unread.1) ∙ read))
early_step t l v m (leaves p rest e end todo stage held fail other give is) early =
    let so = is ∙ ap (failing_by l) fail in
    ended (record { part = p; end = end; got = [] })
    (ap (λ (y : Here). y.done) so ∙ over_is l end (λ p. []) p rest l.todo todo)
    (λ r. (
      last_is l v _ held give,
      ap (λ (y : Here). y.held) so ∙ held_is l end (λ p. []) p rest l.todo todo
          ∙ sym (ap tail_of held),
    ))
early_step t l v m (marks c) early = absurd (by c) where
  by : Marks t l v m → ⊥
  by (scans p rest age x e todo op stage held give is) =
      subst (λ (a : At). IsEarly a l.todo l.fail) stage early
early_step t l v m (visits c) early = absurd (visit_early t l v m c early)
early_step t l v m (compacts c) early = absurd (by c) where
  by : Compacts t l v m → ⊥
  by (moves p rest x q q' budget frames todo stage held more one give is) =
      subst (λ (a : At). IsEarly a l.todo l.fail) stage early
  by (rests p rest x q todo stage held none give is) =
      subst (λ (a : At). IsEarly a l.todo l.fail) stage early
  by (shrinks p rest x c todo stage held give is) =
      subst (λ (a : At). IsEarly a l.todo l.fail) stage early

-- ---- a refused piece

-- a piece that is over stands after those before it
one_more : (done done' : List Done) (d : Done) → done' ≡ done → done' ≡ done ++ d ∷ [] → ⊥
one_more done done' d same more =
    let n = ap length (sym same ∙ more) in
    let m = length-append done (d ∷ []) in
    omega arith

last_done : (done done' : List Done) (d d' : Done) → done' ≡ done ++ d ∷ [] → done' ≡ done ++ d' ∷ []
    → d ≡ d'
last_done done done' d d' e e' =
    let same = append_cancel_left done (d ∷ []) (d' ∷ []) (sym e ∙ e') in cc

never_late : (t : Terms) (es : List Event) (l : Here) → IsLate l.at l.todo l.fail → AreRefused t es l → ⊥
never_late t [] l late refused = refused
never_late t (Takes v ∷ es) l late (k, what, refused) =
    never_late t es (took t l v)
    (late_take t.size l.todo l.at l.page (entry_or v (entry_in l.held)) l.fail late) refused
never_late t (Gives v m ∷ []) l late (k, what, works, (d, done, refused)) =
    elim (late_step t l v m works late) [
      | inl goes ↦ one_more l.done m.done d goes.1 done
      | inr other ↦ other.2 (subst (λ (y : Done). IsRefusedEnd y.part.op y.end)
          (last_done l.done m.done d other.0 done other.1) refused)
    ]
never_late t (Gives v m ∷ e ∷ es) l late (k, what, works, same, refused) =
    elim (late_step t l v m works late) [
      | inl goes ↦ never_late t (e ∷ es) m goes.0 refused
      | inr other ↦ one_more l.done m.done other.0 same other.1
    ]

gives_back : (t : Terms) (es : List Event) (l : Here) → IsEarly l.at l.todo l.fail → AreRefused t es l
    → GiveBack t es l
gives_back t [] l early refused = tt
gives_back t (Takes v ∷ es) l early (k, what, refused) =
    elim (early_take t.size l.todo l.at l.page (entry_or v (entry_in l.held)) l.fail early) [
      | inl soon ↦ gives_back t es (took t l v) soon refused
      | inr late ↦ absurd (never_late t es (took t l v) late refused)
    ]
gives_back t (Gives v m ∷ []) l early (k, what, works, (d, done, refused)) =
    elim (early_step t l v m works early) [
      | stays last held soon ↦ (last, held, tt)
      | passes late same ↦ absurd (one_more l.done m.done d same done)
      | ended d' done' so ↦
          let r = so (subst (λ (y : Done). IsRefusedEnd y.part.op y.end)
          (last_done l.done m.done d d' done done') refused) in
          (r.0, r.1, tt)
    ]
gives_back t (Gives v m ∷ e ∷ es) l early (k, what, works, same, refused) =
    elim (early_step t l v m works early) [
      | stays last held soon ↦ (last, held, gives_back t (e ∷ es) m soon refused)
      | passes late more ↦ absurd (never_late t (e ∷ es) m late refused)
      | ended d' done' so ↦ absurd (one_more l.done m.done d' same done')
    ]

pub leaves_all : RefusalsLeaveAll
leaves_all t es l start fail refused =
    gives_back t es l
    (subst (λ (a : At). IsEarly a l.todo l.fail) (sym start)
    (subst (λ (f : Option PartEnd). IsEarly at.Start l.todo f) (sym fail) tt)) refused
