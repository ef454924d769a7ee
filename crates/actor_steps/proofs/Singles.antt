-- The piece of an operation that is over in one piece reads nothing.
use Rattle.std.proofs.Common.{◌≡◌, ℕ, ◌+◌, ◌==◌, Bool, true, false, List, [], ◌∷◌, ◌++◌, Option, Some, None, refl, sym, ap, ◌∙◌, subst}
use Rattle.call_history.specs.declared.part.Part.{Part}
use Rattle.call_history.specs.declared.part.PartEnd.{PartEnd}
use Rattle.call_history.specs.declared.part.PartEnd.TheVariants as over
use Rattle.call_history.specs.declared.part.Done.{Done}
use Rattle.zr_base.specs.declared.op.OpEnd.{OpEnd}
use Rattle.zr_base.specs.declared.op.OpEnd.TheVariants as ends
use Rattle.lock_row.specs.declared.names.LockNo.{LockNo}
use Rattle.lock_row.specs.declared.names.At.{At}
use Rattle.lock_row.specs.declared.names.At.TheVariants as at
use Rattle.lock_row.specs.declared.names.Compaction.{Compaction}
use Rattle.lock_row.specs.declared.names.Scan.{Scan}
use Rattle.lock_row.specs.declared.names.Trip.{Trip}
use Rattle.lock_row.specs.declared.names.Plan.{Plan}
use Rattle.lock_row.specs.declared.names.Plan.TheVariants.{Take}
use Rattle.slot_entry.specs.Entries.{is_new_mark}
use Rattle.page_steps.specs.declared.stage.Head.{Head}
use Rattle.page_steps.specs.declared.stage.Scratch.{Scratch}
use Rattle.page_steps.specs.declared.stage.Stage.{Stage}
use Rattle.page_steps.specs.declared.stage.Stage.TheVariants as stage
use Rattle.page_steps.specs.declared.stage.PieceEnd.{PieceEnd}
use Rattle.page_steps.specs.declared.stage.PieceEnd.TheVariants as piece
use Rattle.page_steps.specs.declared.stage.Progress.{Progress}
use Rattle.page_steps.specs.declared.stage.Progress.TheVariants as progress
use Rattle.page_steps.specs.Steps.{Terms, DiskHeld, Here, start_plan}
use Rattle.page_steps.specs.Nexts.{Next, ending_by}
use Rattle.page_steps.specs.Givings.{Works, refuses, pins, unpins, fetches, misses, counts, charges, limits, starves, stows, quits, frees, releases, repays, puts, reads, fails, errs, leaves, marks, visits, compacts}
use Rattle.page_steps.specs.Visits.{Visits, trip_at, onward_by, undoing_by, ending_with, passed_page, wrote_page, lost_page}
use Rattle.page_steps.specs.Visits.{passes as visit_passes, reserves as visit_reserves, refrains as visit_refrains, quits as visit_quits, pins as visit_pins, unpins as visit_unpins, marks as visit_marks, stores as visit_stores, spoils as visit_spoils, frees as visit_frees, commits as visit_commits, pays as visit_pays, puts as visit_puts, loses as visit_loses, releases as visit_releases}
use Rattle.page_steps.specs.Scans.{scans, scan_at, with_page, marking_by}
use Rattle.page_steps.specs.Compactions.{moves, rests, shrinks, resting_by, compaction_at}
use Rattle.page_steps.specs.Calls.{Frame, here, is_count, IsWork, IsFit, IsGoing, end_of, ends_of, got_of}
use Rattle.page_steps.specs.Turns.{Turned, waited, took_it, gave_it}
use Rattle.post_steps.specs.declared.compact.CompactStage.{CompactStage}
use Rattle.post_steps.specs.declared.compact.CompactStage.TheVariants as compact
use Rattle.post_steps.specs.Compact.{here as compact_here, at_of}
use Rattle.post_steps.specs.declared.idle.IdleStage.{IdleStage}
use Rattle.post_steps.specs.declared.idle.IdleStage.TheVariants as scan
use Rattle.post_steps.specs.Idle.{here as idle_here, at_of as scan_at_of}
use Rattle.post_steps.specs.declared.writeback.WritebackHead.{WritebackHead}
use Rattle.post_steps.specs.declared.writeback.WritebackStage.{WritebackStage}
use Rattle.post_steps.specs.declared.writeback.WritebackStage.TheVariants as visit
use Rattle.post_steps.specs.Writeback.{here as visit_here, at_of as visit_at_of, fail_of as visit_fail_of, IsStop, AreStops, IsFit as IsVisitFit}
use Rattle.actor_steps.specs.declared.call.Call.{Call}
use Rattle.actor_steps.specs.declared.call.Call.TheVariants as call
use Rattle.actor_steps.specs.Calls.{Does, local, got_by, is_alone, IsFit as IsCallFit, IsGoing as IsCallGoing}

-- the piece has read no page
abbrev pub ReadsNothing : PieceEnd → Type 0
ReadsNothing (piece.Read at) = ⊥
ReadsNothing end = Unit {0}

-- an operation that is over in one piece has read no page
abbrev pub EndsAs : Bool → PieceEnd → Type 0
EndsAs alone end = alone ≡ true → ReadsNothing end

abbrev IsRefusing : At → Type 0
IsRefusing at.Refusing = Unit {0}
IsRefusing a = ⊥

abbrev IsDone : Progress → Type 0
IsDone (progress.Done end) = Unit {0}
IsDone p = ⊥

abbrev IsTake : Plan → Type 0
IsTake (Take k) = Unit {0}
IsTake p = ⊥

abbrev IsWhole : Option PartEnd → Type 0
IsWhole (Some (over.Whole end)) = Unit {0}
IsWhole o = ⊥

-- how the first piece of a history ended
abbrev first_end : List Done → Option PartEnd
first_end [] = None
first_end (d ∷ ds) = Some d.end

whole_end : (end : PieceEnd) (whole : OpEnd) → Some (end_of end) ≡ Some (over.Whole whole)
    → ReadsNothing end
whole_end (piece.Read at) whole e = absurd (subst IsWhole (sym e) tt)
whole_end (piece.Wrote at) whole e = tt
whole_end (piece.Discarded at) whole e = tt
whole_end piece.Skipped whole e = tt
whole_end piece.Range whole e = tt
whole_end (piece.AtLimit pages need limit) whole e = tt
whole_end piece.NoMemory whole e = tt
whole_end (piece.Eio fault) whole e = tt
whole_end (piece.Marked pages) whole e = tt
whole_end (piece.Written wrote lost) whole e = tt
whole_end (piece.Budget wrote lost) whole e = tt
whole_end (piece.NoBlock wrote lost) whole e = tt
whole_end (piece.WriteEio fault wrote lost) whole e = tt
whole_end (piece.Compacted n frames) whole e = tt

no : {A : Type 0} (b : Bool) → b ≡ true → b ≡ false → A
no b on off = absurd (let q : true ≡ false = sym on ∙ off in cc)

-- a writeback counts no request
not_refusing : (t : Terms) (l : Here) (v : DiskHeld) (m : Here) → Visits t l v m → IsRefusing l.at → ⊥
not_refusing t l v m (visit_passes p rest x e todo stage held give is) on =
    subst IsRefusing stage on
not_refusing t l v m (visit_reserves p rest x e y b todo stage held answer give is) on =
    subst IsRefusing stage on
not_refusing t l v m (visit_refrains p rest x e y r end todo stage held answer none give is) on =
    subst IsRefusing stage on
not_refusing t l v m (visit_quits p rest x e end todo stage held fail give is) on =
    subst IsRefusing stage on
not_refusing t l v m (visit_pins p rest x e o q q' cell todo stage held kept lends give is) on =
    subst IsRefusing stage on
not_refusing t l v m (visit_unpins p rest x e o q q' todo stage held kept back give is) on =
    subst IsRefusing stage on
not_refusing t l v m (visit_marks p rest x e b todo stage held block give is) on =
    subst IsRefusing stage on
not_refusing t l v m (visit_stores p rest x b page d d' todo stage held block seen written give is) on =
    subst IsRefusing stage on
not_refusing t l v m (visit_spoils p rest x b d d' fault todo stage held block failed give is) on =
    subst IsRefusing stage on
not_refusing t l v m (visit_frees p rest x e o q q' frames todo stage held kept drops give is) on =
    subst IsRefusing stage on
not_refusing t l v m (visit_commits p rest x e b y todo stage held block give is) on =
    subst IsRefusing stage on
not_refusing t l v m (visit_pays p rest x e c was todo stage held ahead give is) on =
    subst IsRefusing stage on
not_refusing t l v m (visit_puts p rest x e b todo stage held block give is) on =
    subst IsRefusing stage on
not_refusing t l v m (visit_loses p rest x e todo stage held give is) on =
    subst IsRefusing stage on
not_refusing t l v m (visit_releases p rest x b y todo stage held block give is) on =
    subst IsRefusing stage on

module _ (c : Head) (r : Scratch) (x : Frame) (first : x.done ≡ []) (end : PieceEnd) (page : List ℕ) where
  -- the giving of the account
  refused : (D : Type 0) (a : _) (v : DiskHeld) (m : Here) → Works x.terms (here {D = D} x r (stage.Refusing a)) v m
      → m ≡ ending_by (here {D = D} x r (stage.Refusing a)) (end_of end) (got_of end page)
      (here {D = D} x r (stage.Refusing a)).todo → ReadsNothing end
  refused D a v m (refuses p rest k e₁ e₂ e₃ e₄ is) same =
      whole_end end ends.Range (ap (λ (ds : List Done). first_end (ds ++ record {
        part = x.part;
        end = end_of end;
        got = got_of end page x.part;
      } ∷ [])) (sym first)
      ∙ ap (λ (l : Here). first_end l.done) (sym same ∙ is)
      ∙ ap (λ (ds : List Done). first_end (ds ++ record {
        part = x.part;
        end = over.Whole ends.Range;
        got = [];
      } ∷ [])) first)
  refused D a v m (pins p rest e o q q' cell e₁ e₂ e₃ e₄ e₅ e₆ is) same = absurd (subst IsRefusing e₂ tt)
  refused D a v m (unpins p rest e o q q' e₁ e₂ e₃ e₄ e₅ e₆ is) same = absurd (subst IsRefusing e₂ tt)
  refused D a v m (fetches p rest e b d d' page e₁ e₂ e₃ e₄ e₅ e₆ e₇ is) same = absurd (subst IsRefusing e₂ tt)
  refused D a v m (misses p rest e b d d' fault e₁ e₂ e₃ e₄ e₅ e₆ is) same = absurd (subst IsRefusing e₂ tt)
  refused D a v m (counts p rest e k e₁ e₂ e₃ e₄ is) same = absurd (subst IsRefusing e₂ tt)
  refused D a v m (charges p rest e k q q' class handle need bytes huge e₁ e₂ e₃ e₄ e₅ e₆ e₇ e₈ is) same = absurd (subst IsRefusing e₂ tt)
  refused D a v m (limits p rest e k q class need e₁ e₂ e₃ e₄ e₅ e₆ is) same = absurd (subst IsRefusing e₂ tt)
  refused D a v m (starves p rest e k q class e₁ e₂ e₃ e₄ e₅ e₆ is) same = absurd (subst IsRefusing e₂ tt)
  refused D a v m (stows p rest e q class e₁ e₂ e₃ e₄ e₅ is) same = absurd (subst IsRefusing e₂ tt)
  refused D a v m (quits p rest e q class last e₁ e₂ e₃ e₄ e₅ is) same = absurd (subst IsRefusing e₂ tt)
  refused D a v m (frees p rest e o q q' frames e₁ e₂ e₃ e₄ e₅ e₆ is) same = absurd (subst IsRefusing e₂ tt)
  refused D a v m (releases p rest e b y e₁ e₂ e₃ e₄ e₅ is) same = absurd (subst IsRefusing e₂ tt)
  refused D a v m (repays p rest e k e₁ e₂ e₃ e₄ is) same = absurd (subst IsRefusing e₂ tt)
  refused D a v m (puts p rest e f e₁ e₂ e₃ e₄ e₅ is) same = absurd (subst IsRefusing e₂ tt)
  refused D a v m (reads p rest e f e₁ e₂ e₃ e₄ e₅ e₆ is) same = absurd (subst IsRefusing e₂ tt)
  refused D a v m (fails p rest e last e₁ e₂ e₃ e₄ e₅ is) same = absurd (subst IsRefusing e₂ tt)
  refused D a v m (errs p rest e f last e₁ e₂ e₃ e₄ e₅ e₆ e₇ is) same = absurd (subst IsRefusing e₂ tt)
  refused D a v m (leaves p rest e last e₁ e₂ e₃ e₄ e₅ e₆ is) same = absurd (subst IsRefusing e₂ tt)
  refused D a v m (marks (scans p rest age y e e₁ e₂ e₃ e₄ e₅ is)) same = absurd (subst IsRefusing e₃ tt)
  refused D a v m (visits w) same =
      absurd (not_refusing x.terms (here {D = D} x r (stage.Refusing a)) v m w tt)
  refused D a v m (compacts (moves p rest y q q' budget frames e₁ e₂ e₃ e₄ e₅ e₆ is)) same = absurd (subst IsRefusing e₂ tt)
  refused D a v m (compacts (rests p rest y q e₁ e₂ e₃ e₄ e₅ is)) same = absurd (subst IsRefusing e₂ tt)
  refused D a v m (compacts (shrinks p rest y k e₁ e₂ e₃ e₄ is)) same = absurd (subst IsRefusing e₂ tt)

  module _ {D : Type 0} (on : is_count c.work ≡ true) (w : IsWork c r x) {X : Type 0}
      (takes : X → LockNo → Next → DiskHeld → X → Type 0) (misses : X → LockNo → X → Type 0)
      (gives : X → LockNo → Next → DiskHeld → X → Type 0) (h g : X) where
    -- the last turn of a call
    abbrev pub Last : Stage D → Type 0
    Last s = Turned takes misses gives x.terms (here x r s) h
        (ending_by (here x r s) (end_of end) (got_of end page) (here x r s).todo) g
        (progress.Done end)

    pub reads_nothing : (s : Stage D) → IsGoing s → IsFit c r s → Last s → ReadsNothing end
    reads_nothing stage.Beyond going fit (waited k e miss same none) = absurd none
    reads_nothing stage.Beyond going fit (took_it k f v e take is same none) = absurd (subst IsDone none tt)
    reads_nothing stage.Beyond going fit (gave_it k f v e give is works moved) =
        absurd (subst IsTake (sym (λ i. start_plan (w.request i) ((w.beyond ∙ on) i) x.part) ∙ e) tt)
    reads_nothing (stage.Refusing a) going fit (waited k e miss same none) = absurd none
    reads_nothing (stage.Refusing a) going fit (took_it k f v e take is same none) = absurd (subst IsDone none tt)
    reads_nothing (stage.Refusing a) going fit (gave_it k f v e give is works moved) =
        refused D a v _ works refl
    reads_nothing stage.Start going fit last = no (is_count c.work) on fit.0
    reads_nothing (stage.Seen e o) going fit last = no (is_count c.work) on fit.piece
    reads_nothing (stage.Pinning e o q) going fit last = no (is_count c.work) on fit.0.piece
    reads_nothing (stage.Pinned e y k) going fit last = no (is_count c.work) on fit.0.piece
    reads_nothing (stage.Unpinning e y k q) going fit last = no (is_count c.work) on fit.0.piece
    reads_nothing (stage.Plain e) going fit last = no (is_count c.work) on fit.0
    reads_nothing (stage.Leaving e) going fit last = no (is_count c.work) on fit.0
    reads_nothing (stage.Refused e read k) going fit last = no (is_count c.work) on fit.0
    reads_nothing (stage.Missed e fault) going fit last = no (is_count c.work) on fit.0
    reads_nothing (stage.Away e b) going fit last = no (is_count c.work) on fit.piece
    reads_nothing (stage.Fetching e b d) going fit last = no (is_count c.work) on fit.0.piece
    reads_nothing (stage.Failing e fault) going fit last = no (is_count c.work) on fit.0
    reads_nothing (stage.Counting e fault a) going fit last = no (is_count c.work) on fit.0
    reads_nothing (stage.Wanting own new) going fit last = no (is_count c.work) on fit.0.piece
    reads_nothing (stage.Inside own new q) going fit last = no (is_count c.work) on fit.0.piece
    reads_nothing (stage.Both own new q a) going fit last = no (is_count c.work) on fit.0.piece
    reads_nothing (stage.Made own class q y) going fit last = no (is_count c.work) on fit.0.piece
    reads_nothing (stage.Old own o next) going fit last = no (is_count c.work) on fit.0.piece
    reads_nothing (stage.Freeing own o next q) going fit last = no (is_count c.work) on fit.0.piece
    reads_nothing (stage.Backed own b next) going fit last = no (is_count c.work) on fit.0.piece
    reads_nothing (stage.Releasing own b next y) going fit last = no (is_count c.work) on fit.0.piece
    reads_nothing (stage.Owing due frames ahead) going fit last = no (is_count c.work) on fit.piece
    reads_nothing (stage.Giving due frames ahead a) going fit last = no (is_count c.work) on fit.0.piece
    reads_nothing (stage.Ready due ahead behind) going fit last = no (is_count c.work) on fit.piece
    reads_nothing stage.Over going fit last = absurd going

-- ---- what is no request

abbrev IsTending : At → Type 0
IsTending at.Start = Unit {0}
IsTending (at.Scanning y) = Unit {0}
IsTending (at.Marking y) = Unit {0}
IsTending (at.Visiting s y) = Unit {0}
IsTending (at.Sweeping y) = Unit {0}
IsTending (at.Moving y) = Unit {0}
IsTending (at.Shrunk y) = Unit {0}
IsTending (at.Shrinking y) = Unit {0}
IsTending a = ⊥

compacting : (s : CompactStage) → IsTending (at_of s)
compacting compact.Start = tt
compacting (compact.Sweeping y) = tt
compacting (compact.Moving y q) = tt
compacting (compact.Shrunk y frames) = tt
compacting (compact.Shrinking y frames a) = tt
compacting compact.Over = tt

scanning : (s : IdleStage) → IsTending (scan_at_of s)
scanning scan.Start = tt
scanning (scan.Scanning y) = tt
scanning (scan.Marking y e) = tt
scanning scan.Over = tt

visiting : {D : Type 0} (s : WritebackStage D) → IsTending (visit_at_of s)
visiting visit.Start = tt
visiting (visit.Arriving x) = tt
visiting (visit.Passing x e) = tt
visiting (visit.Asking x e o) = tt
visiting (visit.Reserving x e o y) = tt
visiting (visit.Quitting x e end) = tt
visiting (visit.Seen x e o) = tt
visiting (visit.Pinning x e o q) = tt
visiting (visit.Pinned x e y) = tt
visiting (visit.Unpinning x e y q) = tt
visiting (visit.Marking x e) = tt
visiting (visit.Flying x) = tt
visiting (visit.Storing x d) = tt
visiting (visit.Landing x end) = tt
visiting (visit.Won x e o) = tt
visiting (visit.Freeing x e o q) = tt
visiting (visit.Backing x e frames was) = tt
visiting (visit.Committing x e frames was y) = tt
visiting (visit.Owing x e frames was) = tt
visiting (visit.Paying x e frames was a) = tt
visiting (visit.Putting x e) = tt
visiting (visit.Losing x e end) = tt
visiting (visit.Undoing x end) = tt
visiting (visit.Releasing x end y) = tt
visiting visit.Over = tt

-- a writeback that ends before its last page ends as a whole
abbrev MayWhole : Option PartEnd → Type 0
MayWhole None = Unit {0}
MayWhole (Some end) = IsWhole (Some end)

stop_whole : (end : PieceEnd) → IsStop end → IsWhole (Some (end_of end))
stop_whole (piece.Budget wrote lost) stop = tt
stop_whole (piece.NoBlock wrote lost) stop = tt
stop_whole (piece.WriteEio fault wrote lost) stop = tt
stop_whole end stop = absurd stop

stops_whole : (o : Option PieceEnd) → AreStops o → MayWhole (ends_of o)
stops_whole None stop = tt
stops_whole (Some end) stop = stop_whole end stop

visit_fails : {D : Type 0} (c : WritebackHead) (s : WritebackStage D) → IsVisitFit c s
    → MayWhole (visit_fail_of s)
visit_fails c (visit.Quitting x e end) fit = stop_whole end fit.1
visit_fails c (visit.Landing x end) fit = stops_whole end fit.1
visit_fails c (visit.Losing x e end) fit = stops_whole end fit.1
visit_fails c (visit.Undoing x end) fit = stops_whole end fit.1
visit_fails c (visit.Releasing x end y) fit = stops_whole end fit.1
visit_fails c s fit = tt

abbrev IsOver : Option PartEnd → Type 0
IsOver None = ⊥
IsOver (Some end) = Unit {0}

-- where a piece ends that is the first to be over
first_is : (l : Here) (end : PartEnd) (got : Part → List (List ℕ)) (p : Part) (rest : List Part)
    → l.todo ≡ p ∷ rest → l.done ≡ [] → first_end (ending_by l end got l.todo).done ≡ Some end
first_is l end got p rest todo none =
    ap (λ (ts : List Part). first_end (ending_by l end got ts).done) todo
    ∙ ap (λ (ds : List Done). first_end (ds ++ record { part = p; end = end; got = got p } ∷ [])) none

module _ (l : Here) (none : l.done ≡ []) (end : PieceEnd) where
  -- nothing is over yet
  not_yet : (m : Here) → m.done ≡ l.done → first_end m.done ≡ Some (end_of end) → ReadsNothing end
  not_yet m same is = absurd (subst IsOver (sym is ∙ ap first_end (same ∙ none)) tt)

  rested : (chain : ℕ) (y : Compaction) (last : Bool) (v : DiskHeld) (p : Part) (rest : List Part)
      → l.todo ≡ p ∷ rest → first_end (resting_by chain y last l v).done ≡ Some (end_of end)
      → ReadsNothing end
  rested chain y true v p rest todo is =
      let whole = ends.Compacted y.moves y.frames in
      whole_end end whole (sym is ∙ first_is l (over.Whole whole) (λ q. []) p rest todo none)
  rested chain y false v p rest todo is =
      not_yet (resting_by chain y false l v) refl is

  scanned : (y : Scan) (last : Bool) (v : DiskHeld) (p : Part) (rest : List Part)
      → l.todo ≡ p ∷ rest → first_end (marking_by y last l v).done ≡ Some (end_of end)
      → ReadsNothing end
  scanned y true v p rest todo is =
      let whole = ends.Marked y.marked in
      whole_end end whole (sym is ∙ first_is l (over.Whole whole) (λ q. []) p rest todo none)
  scanned y false v p rest todo is = not_yet (marking_by y false l v) refl is

  -- a piece that ends as the whole of its operation
  whole_over : (last : PartEnd) (p : Part) (rest : List Part) → l.todo ≡ p ∷ rest
      → IsWhole (Some last)
      → first_end (ending_by l last (λ q. []) l.todo).done ≡ Some (end_of end) → ReadsNothing end
  whole_over (over.Whole whole) p rest todo is so =
      whole_end end whole (sym so ∙ first_is l (over.Whole whole) (λ q. []) p rest todo none)
  whole_over last p rest todo is so = absurd is

  onward_over : (y : Trip) (last : Bool) (v : DiskHeld) (p : Part) (rest : List Part)
      → l.todo ≡ p ∷ rest → first_end (onward_by y last l v).done ≡ Some (end_of end)
      → ReadsNothing end
  onward_over y true v p rest todo so =
      whole_over (over.Whole (ends.Written y.wrote y.lost)) p rest todo tt so
  onward_over y false v p rest todo so = not_yet (onward_by y false l v) refl so

  undone : (size : ℕ) (f : Option PartEnd) (v : DiskHeld) (p : Part) (rest : List Part)
      → l.todo ≡ p ∷ rest → MayWhole f → first_end (undoing_by size f l v).done ≡ Some (end_of end)
      → ReadsNothing end
  undone size None v p rest todo may so =
      onward_over (lost_page (trip_at l.at)) ((lost_page (trip_at l.at)).page == size) v p rest todo so
  undone size (Some last) v p rest todo may so = whole_over last p rest todo may so

  -- the last giving of a writeback
  visited : (t : Terms) (v : DiskHeld) (m : Here) → MayWhole l.fail → Visits t l v m
      → first_end m.done ≡ Some (end_of end) → ReadsNothing end
  visited t v m may (visit_passes p rest x e todo stage held give is) so =
      onward_over (passed_page (trip_at l.at)) ((passed_page (trip_at l.at)).page == t.size) v p rest todo
      (sym (ap (λ (k : Here). first_end k.done) is) ∙ so)
  visited t v m may (visit_reserves p rest x e y b todo stage held answer give is) so =
      not_yet m (ap (λ (k : Here). k.done) is) so
  visited t v m may (visit_refrains p rest x e y r last todo stage held answer none give is) so =
      not_yet m (ap (λ (k : Here). k.done) is) so
  visited t v m may (visit_quits p rest x e last todo stage held fail give is) so =
      whole_over last p rest todo (subst MayWhole fail may)
      (sym (ap (λ (k : Here). first_end k.done) (is ∙ ap (ending_with l) fail)) ∙ so)
  visited t v m may (visit_pins p rest x e o q q' cell todo stage held kept lends give is) so =
      not_yet m (ap (λ (k : Here). k.done) is) so
  visited t v m may (visit_unpins p rest x e o q q' todo stage held kept back give is) so =
      not_yet m (ap (λ (k : Here). k.done) is) so
  visited t v m may (visit_marks p rest x e b todo stage held block give is) so =
      not_yet m (ap (λ (k : Here). k.done) is) so
  visited t v m may (visit_stores p rest x b page d d' todo stage held block seen written give is) so =
      not_yet m (ap (λ (k : Here). k.done) is) so
  visited t v m may (visit_spoils p rest x b d d' fault todo stage held block failed give is) so =
      not_yet m (ap (λ (k : Here). k.done) is) so
  visited t v m may (visit_frees p rest x e o q q' frames todo stage held kept drops give is) so =
      not_yet m (ap (λ (k : Here). k.done) is) so
  visited t v m may (visit_commits p rest x e b y todo stage held block give is) so =
      not_yet m (ap (λ (k : Here). k.done) is) so
  visited t v m may (visit_pays p rest x e c was todo stage held ahead give is) so =
      not_yet m (ap (λ (k : Here). k.done) is) so
  visited t v m may (visit_puts p rest x e b todo stage held block give is) so =
      onward_over (wrote_page (trip_at l.at)) ((wrote_page (trip_at l.at)).page == t.size) v p rest todo
      (sym (ap (λ (k : Here). first_end k.done) is) ∙ so)
  visited t v m may (visit_loses p rest x e todo stage held give is) so =
      not_yet m (ap (λ (k : Here). k.done) is) so
  visited t v m may (visit_releases p rest x b y todo stage held block give is) so =
      undone t.size l.fail v p rest todo may (sym (ap (λ (k : Here). first_end k.done) is) ∙ so)

  -- the last giving
  tended : (t : Terms) (v : DiskHeld) (m : Here) → IsTending l.at → MayWhole l.fail → Works t l v m
      → first_end m.done ≡ Some (end_of end) → ReadsNothing end
  tended t v m on may (marks (scans p rest age y e e₁ e₂ e₃ e₄ e₅ is)) so =
      scanned (with_page (scan_at l.at) (is_new_mark t.clock age e))
      (((scan_at l.at).page + 1) == t.size) v p rest e₁
      (sym (ap (λ (k : Here). first_end k.done) is) ∙ so)
  tended t v m on may (visits w) so = visited t v m may w so
  tended t v m on may (compacts (moves p rest y q q' budget frames e₁ e₂ e₃ e₄ e₅ e₆ is)) so =
      not_yet m (ap (λ (k : Here). k.done) is) so
  tended t v m on may (compacts (rests p rest y q e₁ e₂ e₃ e₄ e₅ is)) so =
      rested t.chain (compaction_at l.at) ((compaction_at l.at).class == 254) v p rest e₁
      (sym (ap (λ (k : Here). first_end k.done) is) ∙ so)
  tended t v m on may (compacts (shrinks p rest y k e₁ e₂ e₃ e₄ is)) so =
      not_yet m (ap (λ (k : Here). k.done) is) so
  tended t v m on may (refuses p rest k e₁ e₂ e₃ e₄ is) so = absurd (subst IsTending e₂ on)
  tended t v m on may (pins p rest e o q q' cell e₁ e₂ e₃ e₄ e₅ e₆ is) so = absurd (subst IsTending e₂ on)
  tended t v m on may (unpins p rest e o q q' e₁ e₂ e₃ e₄ e₅ e₆ is) so = absurd (subst IsTending e₂ on)
  tended t v m on may (fetches p rest e b d d' page e₁ e₂ e₃ e₄ e₅ e₆ e₇ is) so = absurd (subst IsTending e₂ on)
  tended t v m on may (misses p rest e b d d' fault e₁ e₂ e₃ e₄ e₅ e₆ is) so = absurd (subst IsTending e₂ on)
  tended t v m on may (counts p rest e k e₁ e₂ e₃ e₄ is) so = absurd (subst IsTending e₂ on)
  tended t v m on may (charges p rest e k q q' class handle need bytes huge e₁ e₂ e₃ e₄ e₅ e₆ e₇ e₈ is) so =
      absurd (subst IsTending e₂ on)
  tended t v m on may (limits p rest e k q class need e₁ e₂ e₃ e₄ e₅ e₆ is) so = absurd (subst IsTending e₂ on)
  tended t v m on may (starves p rest e k q class e₁ e₂ e₃ e₄ e₅ e₆ is) so = absurd (subst IsTending e₂ on)
  tended t v m on may (stows p rest e q class e₁ e₂ e₃ e₄ e₅ is) so = absurd (subst IsTending e₂ on)
  tended t v m on may (quits p rest e q class last e₁ e₂ e₃ e₄ e₅ is) so = absurd (subst IsTending e₂ on)
  tended t v m on may (frees p rest e o q q' frames e₁ e₂ e₃ e₄ e₅ e₆ is) so = absurd (subst IsTending e₂ on)
  tended t v m on may (releases p rest e b y e₁ e₂ e₃ e₄ e₅ is) so = absurd (subst IsTending e₂ on)
  tended t v m on may (repays p rest e k e₁ e₂ e₃ e₄ is) so = absurd (subst IsTending e₂ on)
  tended t v m on may (puts p rest e f e₁ e₂ e₃ e₄ e₅ is) so = absurd (subst IsTending e₂ on)
  tended t v m on may (reads p rest e f e₁ e₂ e₃ e₄ e₅ e₆ is) so = absurd (subst IsTending e₂ on)
  tended t v m on may (fails p rest e last e₁ e₂ e₃ e₄ e₅ is) so = absurd (subst IsTending e₂ on)
  tended t v m on may (errs p rest e f last e₁ e₂ e₃ e₄ e₅ e₆ e₇ is) so = absurd (subst IsTending e₂ on)
  tended t v m on may (leaves p rest e last e₁ e₂ e₃ e₄ e₅ e₆ is) so = absurd (subst IsTending e₂ on)

module _ {X : Type 0} (takes : X → LockNo → Next → DiskHeld → X → Type 0)
    (misses : X → LockNo → X → Type 0) (gives : X → LockNo → Next → DiskHeld → X → Type 0) (h g : X)
    (x : Frame) (first : x.done ≡ []) (end : PieceEnd) where
  tending_reads_nothing : (l : Here) (got : Part → List (List ℕ)) → IsTending l.at → MayWhole l.fail
      → l.todo ≡ x.part ∷ x.rest → l.done ≡ []
      → Turned takes misses gives x.terms l h (ending_by l (end_of end) got l.todo) g (progress.Done end)
      → ReadsNothing end
  tending_reads_nothing l got on may todo none (waited k e miss same never) = absurd never
  tending_reads_nothing l got on may todo none (took_it k f v e take is same never) =
      absurd (subst IsDone never tt)
  tending_reads_nothing l got on may todo none (gave_it k f v e give is works moved) =
      tended l none end x.terms v _ on may works (first_is l (end_of end) got x.part x.rest todo none)

  -- the last turn of a call that does an operation in one piece
  pub ends_alone : {D : Type 0} (c : Call D) (r s : Scratch) → Does c r x → IsCallFit c r → IsCallGoing c
      → Turned takes misses gives x.terms (local c r x) h
      (ending_by (local c r x) (end_of end) (got_by c s end) (local c r x).todo) g (progress.Done end)
      → EndsAs (is_alone c) end
  ends_alone (call.Page c) r s does fit going last on =
      reads_nothing c.head r x first end s.page on does takes misses gives h g c.stage going fit last
  ends_alone (call.Idle c) r s does fit going last on =
      tending_reads_nothing (idle_here x c.stage) (λ p. []) (scanning c.stage) tt refl first last
  ends_alone (call.Writeback c) r s does fit going last on =
      tending_reads_nothing (visit_here x r c.stage) (λ p. []) (visiting c.stage)
      (visit_fails c.head c.stage fit) refl first last
  ends_alone (call.Compact c) r s does fit going last on =
      tending_reads_nothing (compact_here x c.stage) (λ p. []) (compacting c.stage) tt refl first last
