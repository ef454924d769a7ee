-- The account's counters of refusals: each giving raises them by what its actor tells then.
use Rattle.mem_account.specs.declared.weight.Weight.TheVariants.{Back}
use Rattle.lock_row.specs.declared.names.Trip.{Trip}
use Rattle.lock_row.specs.declared.names.Step.{Step}
use Rattle.joint_rule.proofs.Rounds.{no_one}
use Rattle.joint_rule.proofs.Courses.{Course, IsCourse, IsTripEnd, Weighs, course_of, refused_trip, weighs_of}
use Rattle.joint_rule.proofs.Alikes.{visited_is}
use Rattle.std.proofs.Common.{◌≡◌, ◌+◌, ◌≤◌, ◌∷◌, ◌∙◌, ℕ, zero, suc, List, [], Option, Some, None, slice_get, slice_set, refl, sym, ap, subst, arith, true}
use Rattle.slot_entry.specs.Entries.{is_new_mark, EntryState}
use Rattle.page_steps.specs.Scans.{with_page}
use Rattle.call_history.specs.Parts.{done_sum, left_by, piece_gives}
use Rattle.call_history.specs.declared.part.Part.{Part}
use Rattle.call_history.specs.declared.part.PartEnd.{PartEnd}
use Rattle.call_history.specs.declared.part.PartEnd.TheVariants.{AtLimit, Carried, Eio, NoMemory, Whole}
use Rattle.joint_rule.proofs.Balances.{settled_refusals, shrunk}
use Rattle.joint_rule.proofs.Events.{Event}
use Rattle.joint_rule.proofs.Facts.{Known}
use Rattle.joint_rule.proofs.Gifts.{stage}
use Rattle.joint_rule.proofs.Lookups.{lone, mine_account, under_account}
use Rattle.joint_rule.proofs.Sums.{gone}
use Rattle.joint_rule.specs.Begins.{Begin, terms}
use Rattle.joint_rule.specs.Joint.{Joint}
use Rattle.joint_rule.specs.Rule.{CountsRefusals}
use Rattle.joint_rule.specs.Stages.{FailAt, IsFault, IsWrite, Looks, NoneOf, StageBy}
use Rattle.joint_rule.specs.Weights.{FailedReads, FailedWrites, OutOfRange, Refusal, fails_so, none, on_account, refusal_count, refusal_counter, refusal_of, refusals, refused_by}
use Rattle.lock_row.specs.Totals.{by_option, held_sum, locals_sum, mass, total}
use Rattle.lock_row.specs.declared.names.At.{At}
use Rattle.lock_row.specs.declared.names.At.TheVariants.{Both, Counting, Failing, Fetching, Freeing, Giving, Leaving, Made, Missed, Moving, Pinning, Ready, Refusing, Releasing, Shrinking, Start, Unpinning, Marking, Visiting}
use Rattle.lock_row.specs.declared.names.Compaction.{Compaction}
use Rattle.lock_row.specs.declared.names.LockNo.{LockNo}
use Rattle.lock_row.specs.declared.names.Object.{Object}
use Rattle.lock_row.specs.declared.names.Pin.{Pin}
use Rattle.lock_row.specs.declared.names.Plan.TheVariants.{Take, Give}
use Rattle.lock_row.specs.declared.names.State.{State}
use Rattle.mem_account.specs.Counters.{Counters, at_most_end, charged, counted}
use Rattle.mem_account.specs.declared.weight.Weight.{Weight}
use Rattle.page_steps.specs.Compactions.{moved_at, with_move, repaid}
use Rattle.page_steps.specs.Givings.{fails_by, old_weight}
use Rattle.page_steps.specs.Pages.{next_form}
use Rattle.page_steps.specs.Steps.{DiskHeld, Here, after_take, begun_at, entry_in, entry_or, fetched_at, lock_of, made_at, on, piece_over, pinned_at, plan, quit_at, settle_at, slot, spot, taken_at, took}
use Rattle.slot_entry.specs.Forms.{Blank, PageForm, Pooled, Word, form_weight}
use Rattle.slot_entry.specs.declared.kept.Kept.{Kept}
use Rattle.std.specs.Prelude.{⊤}
use Rattle.zr_base.specs.Plain.{is_beyond, is_maintenance, is_writeback}
use Rattle.zr_base.specs.declared.op.Op.{Op}
use Rattle.zr_base.specs.declared.op.Op.TheVariants.{Compact, Discard, Idle, Read, Write, Writeback}
use Rattle.zr_base.specs.declared.op.OpEnd.{OpEnd}
use Rattle.joint_rule.proofs.Events as event
use Rattle.joint_rule.proofs.Courses as course
use Rattle.lock_row.specs.declared.names.LockNo.TheVariants as lock
use Rattle.lock_row.specs.declared.names.Held.TheVariants as holds
use Rattle.mem_account.specs.declared.weight.Delta.TheVariants as delta
use Rattle.slot_entry.specs.declared.kept.Kept.TheVariants as kept
use Rattle.zr_base.specs.declared.op.OpEnd.TheVariants as ends

-- ---- counters that rise

-- a counter once more
abbrev pub raised : ℕ → ℕ → ℕ
raised zero a = a
raised (suc n) a = at_most_end (a + 1)

module _ (g : Begin) (f : Counters → ℕ) where
  -- The account is as before, or its counter rises up to its end.
  pub data Raises (l : Here) (k : LockNo) (v : DiskHeld) (m : Here) (n : ℕ) : Type 0 where
    still : mass (spot g.given.size) (on_account f) none m + on_account f (spot g.given.size k) v
        ≡ mass (spot g.given.size) (on_account f) none l → n ≡ 0 → Raises l k v m n
    by : (c : Counters) (rest : List (LockNo × DiskHeld))
        → l.held ≡ (lock.Account, holds.Account c) ∷ rest
        → held_sum (spot g.given.size) (on_account f) rest ≡ 0
        → mass (spot g.given.size) (on_account f) none m ≡ 0
        → on_account f (spot g.given.size k) v ≡ at_most_end (f c + n) → Raises l k v m n

  -- one that is raised so many times, none or one
  pub raises : (l : Here) (k : LockNo) (v : DiskHeld) (m : Here) (n : ℕ) (c : Counters)
      (rest : List (LockNo × DiskHeld)) → l.held ≡ (lock.Account, holds.Account c) ∷ rest
      → held_sum (spot g.given.size) (on_account f) rest ≡ 0
      → mass (spot g.given.size) (on_account f) none m ≡ 0 → n ≤ 1
      → on_account f (spot g.given.size k) v ≡ raised n (f c)
      → Raises l k v m n
  raises l k v m zero c rest held none_there after le now =
      still (let r = ap (held_sum (spot g.given.size) (on_account f)) held in omega arith) refl
  raises l k v m (suc zero) c rest held none_there after le now = by c rest held none_there after now
  raises l k v m (suc (suc n)) c rest held none_there after le now = absurd (omega arith)

end_more : (a b n : ℕ) → a ≡ at_most_end b → at_most_end (a + n) ≡ at_most_end (b + n)
end_more a b n e = omega arith

module _ (g : Begin) (ok : Known g) (w : State DiskHeld) (j : Joint g w) (a : ℕ) (l : Here)
    (who : slice_get w.locals a ≡ Some l) (k : LockNo) (v : DiskHeld) (m : Here)
    (there : slice_get w.row (spot g.given.size k) ≡ Some None) (f : Counters → ℕ) where
  pub rises_total : (x y : ℕ) → total (spot g.given.size) (on_account f) none w ≡ at_most_end x
      → Raises g f l k v m y
      → total (spot g.given.size) (on_account f) none (gone g.given.size w a l who k (Some v) m)
      ≡ at_most_end (x + y)
  rises_total x y e (still same z) =
      let r = ok.facts.give (spot g.given.size) (on_account f) none w a l k v m who there in
      (let q : total (spot g.given.size) (on_account f) none
      (gone g.given.size w a l who k (Some v) m)
      ≡ total (spot g.given.size) (on_account f) none w = omega arith in q) ∙ e
      ∙ ap at_most_end (let q : x ≡ x + y = omega arith in q)
  rises_total x y e (by c rest was none_there after now) =
      let r = ok.facts.give (spot g.given.size) (on_account f) none w a l k v m who there in
      let mine = mine_account g w j a l who c rest was in
      let z0 = lone g w j a l who lock.Account (on_account f) (under_account g f) mine in
      let z1 = ap (held_sum (spot g.given.size) (on_account f)) was in
      (let q : total (spot g.given.size) (on_account f) none
      (gone g.given.size w a l who k (Some v) m)
      ≡ on_account f (spot g.given.size k) v = omega arith in q) ∙ now
      ∙ end_more (f c) x y ((let q : f c ≡ total (spot g.given.size) (on_account f) none w =
      omega arith in q) ∙ e)

-- ---- refusals

-- a stage tells of a refusal, but of one that the device brought not before it is counted
abbrev Speaks : At → Type 0
Speaks Failing = ⊥
Speaks Counting = ⊥
Speaks at = ⊤

pub fails_none : (f : Op → OpEnd → ℕ) (ps : List Part) → fails_so f ps None ≡ 0
fails_none f [] = refl
fails_none f (p ∷ ps) = refl

pub refused_none : (q : Refusal) (at : At) (ps : List Part) → refused_by q at ps None ≡ 0
refused_none q Failing ps = refl
refused_none q Counting ps = refl
refused_none q at ps = fails_none (refusal_of q) ps

refused_no : (q : Refusal) (at : At) (ps : List Part) (x : Option PartEnd) → NoneOf x
    → refused_by q at ps x ≡ 0
refused_no q at ps None i = refused_none q at ps
refused_no q at ps (Some x) i = absurd i

refused_is : (q : Refusal) (at : At) (ps : List Part) (x : Option PartEnd) → Speaks at
    → refused_by q at ps x ≡ fails_so (refusal_of q) ps x
refused_is q Failing ps x s = absurd s
refused_is q Counting ps x s = absurd s
refused_is q at ps x s = refl

speaks_settle : (k : Kept) → Speaks (settle_at k)
speaks_settle kept.Empty = tt
speaks_settle (kept.Same w) = tt
speaks_settle (kept.Obj o) = tt
speaks_settle (kept.Wb b) = tt

speaks_made : (f : PageForm) (k : Kept) → Speaks (made_at f k)
speaks_made Blank k = speaks_settle k
speaks_made (Word w) k = speaks_settle k
speaks_made (Pooled bytes huge) k = tt

speaks_pinned : (op : Op) (f : PageForm) (k : Kept) → Speaks (pinned_at op f k)
speaks_pinned (Write start count stuff) f k = speaks_made f k
speaks_pinned (Read start count) f k = tt
speaks_pinned (Discard start count) f k = tt
speaks_pinned (Idle age) f k = tt
speaks_pinned (Writeback mode) f k = tt
speaks_pinned Compact f k = tt

speaks_fetched : (op : Op) (f : PageForm) (k : Kept) → Speaks (fetched_at op f k)
speaks_fetched (Write start count stuff) f k = speaks_made f k
speaks_fetched (Read start count) f k = tt
speaks_fetched (Discard start count) f k = tt
speaks_fetched (Idle age) f k = tt
speaks_fetched (Writeback mode) f k = tt
speaks_fetched Compact f k = tt

speaks_quit : (x : Option Pin) → Speaks (quit_at x)
speaks_quit None = tt
speaks_quit (Some x) = tt

speaks_moved : (n : ℕ) (x : Compaction) → Speaks (moved_at n x)
speaks_moved zero x = tt
speaks_moved (suc n) x = tt

-- a taking tells nothing
refused_after : (g : Begin) (q : Refusal) (at : At) (p : Part) (ps : List Part) (f : PageForm)
    (k : EntryState) (x : Option PartEnd) → FailAt g p at p.op x
    → refused_by q (after_take g.given.size at p f k x) (p ∷ ps) x ≡ refused_by q at (p ∷ ps) x
refused_after g q Start p ps f k x i =
    refused_no q (begun_at (is_maintenance p.op) (is_beyond g.given.size p.op) p f k) (p ∷ ps) x i
    ∙ sym (refused_no q Start (p ∷ ps) x i)
refused_after g q (Visiting s y) p ps f k x i =
    ap (λ (at : At). refused_by q at (p ∷ ps) x) (visited_is s y p.op k x).2
refused_after g q at p ps f k x i = refl

refused_taken : (g : Begin) (q : Refusal) (l : Here) (v : DiskHeld) (ps : List Part)
    → StageBy g ps (entry_in l.held) l.at l.fresh l.pin l.owed l.ahead l.behind l.page l.fail
    → refused_by q (taken_at g.given.size ps l.at l.page (entry_or v (entry_in l.held)) l.fail) ps
    l.fail ≡ refused_by q l.at ps l.fail
refused_taken g q l v [] s = refl
refused_taken g q l v (p ∷ ps) s = refused_after g q l.at p ps _ _ l.fail s.fails

-- a write that is refused is counted
abbrev IsDenial : PartEnd → Type 0
IsDenial (AtLimit c n l) = ⊤
IsDenial NoMemory = ⊤
IsDenial x = ⊥

-- What an end gives is 0 or 1, and the counter rises by that.
abbrev Rises : Refusal → Op → PartEnd → Counters → Counters → Type 0
Rises q op x c d = (piece_gives (refusal_of q) op x ≤ 1)
    × (refusal_count q d ≡ raised (piece_gives (refusal_of q) op x) (refusal_count q c))

denial_rises : (q : Refusal) (op : Op) (x : PartEnd) (c : Counters) → IsWrite op → IsDenial x
    → Rises q op x c (counted c delta.FailedWrite)
denial_rises FailedReads (Write start count stuff) (AtLimit y n l) c i d = (omega arith, refl)
denial_rises FailedWrites (Write start count stuff) (AtLimit y n l) c i d = (omega arith, refl)
denial_rises OutOfRange (Write start count stuff) (AtLimit y n l) c i d = (omega arith, refl)
denial_rises FailedReads (Write start count stuff) NoMemory c i d = (omega arith, refl)
denial_rises FailedWrites (Write start count stuff) NoMemory c i d = (omega arith, refl)
denial_rises OutOfRange (Write start count stuff) NoMemory c i d = (omega arith, refl)
denial_rises q (Write start count stuff) x c i d = absurd d
denial_rises q op x c i d = absurd i

fault_rises : (q : Refusal) (op : Op) (fault : ℕ) (c : Counters) → Looks op
    → Rises q op (Eio fault) c (fails_by op c)
fault_rises FailedReads (Write start count stuff) fault c i = (omega arith, refl)
fault_rises FailedWrites (Write start count stuff) fault c i = (omega arith, refl)
fault_rises OutOfRange (Write start count stuff) fault c i = (omega arith, refl)
fault_rises FailedReads (Read start count) fault c i = (omega arith, refl)
fault_rises FailedWrites (Read start count) fault c i = (omega arith, refl)
fault_rises OutOfRange (Read start count) fault c i = (omega arith, refl)
fault_rises q op fault c i = absurd i

range_rises : (q : Refusal) (op : Op) (c : Counters)
    → Rises q op (Whole ends.Range) c (counted c delta.InvalidIo)
range_rises FailedReads (Read start count) c = (omega arith, refl)
range_rises FailedReads op c = (omega arith, refl)
range_rises FailedWrites (Write start count stuff) c = (omega arith, refl)
range_rises FailedWrites op c = (omega arith, refl)
range_rises OutOfRange op c = (omega arith, refl)

-- a compaction is no refusal
compacted_gives : (q : Refusal) (op : Op) (moves frames : ℕ)
    → piece_gives (refusal_of q) op (Whole (ends.Compacted moves frames)) ≡ 0
compacted_gives FailedReads (Read start count) moves frames = refl
compacted_gives FailedReads op moves frames = refl
compacted_gives FailedWrites (Write start count stuff) moves frames = refl
compacted_gives FailedWrites op moves frames = refl
compacted_gives OutOfRange op moves frames = refl

-- nor is a scan
marked_gives : (q : Refusal) (op : Op) (pages : ℕ)
    → piece_gives (refusal_of q) op (Whole (ends.Marked pages)) ≡ 0
marked_gives FailedReads (Read start count) pages = refl
marked_gives FailedReads op pages = refl
marked_gives FailedWrites (Write start count stuff) pages = refl
marked_gives FailedWrites op pages = refl
marked_gives OutOfRange op pages = refl

shrunk_refusals : (q : Refusal) (c : Counters) (n : ℕ)
    → refusal_count q (shrunk n c) ≡ refusal_count q c
shrunk_refusals FailedReads c n = refl
shrunk_refusals FailedWrites c n = refl
shrunk_refusals OutOfRange c n = refl

charged_refusals : (q : Refusal) (c : Counters) (need : ℕ)
    → refusal_count q (charged c need) ≡ refusal_count q c
charged_refusals FailedReads c need = refl
charged_refusals FailedWrites c need = refl
charged_refusals OutOfRange c need = refl

-- which count of faults a failure of the device tells
pub fault_of : (g : Begin) (p : Part) (x : Option PartEnd) → IsFault g p x
    → (fault : ℕ) × (x ≡ Some (Eio fault))
fault_of g p None i = absurd i
fault_of g p (Some Carried) i = absurd i
fault_of g p (Some (AtLimit c n l)) i = absurd i
fault_of g p (Some NoMemory) i = absurd i
fault_of g p (Some (Eio fault)) i = (fault, refl)
fault_of g p (Some (Whole end)) i = absurd i

module _ (g : Begin) (ok : Known g) (w : State DiskHeld) (j : Joint g w) (a : ℕ) (l : Here)
    (who : slice_get w.locals a ≡ Some l) (k : LockNo) (v : DiskHeld) (m : Here) where
  abbrev n : ℕ
  n = g.given.size

  -- What the actor tells rises as the account's counter does.
  pub record Refuses (q : Refusal) (u : DiskHeld) (m' : Here) : Type 0 where
    pub more : ℕ
    pub told : refusals q m' ≡ refusals q l + more
    pub rises : Raises g (refusal_count q) l k u m' more

  same_refuses : (q : Refusal) (v₀ : DiskHeld) (m₀ : Here) → v ≡ v₀ → m ≡ m₀ → Refuses q v₀ m₀
      → Refuses q v m
  same_refuses q v₀ m₀ e f t =
      subst (λ (x : DiskHeld × Here). Refuses q x.0 x.1) (λ i. (sym e i, sym f i)) t

  still_so : (q : Refusal) (u : DiskHeld) (m' : Here) → refusals q m' ≡ refusals q l
      → mass (spot n) (refusal_counter q) none m' + refusal_counter q (spot n k) u
      ≡ mass (spot n) (refusal_counter q) none l
      → Refuses q u m'
  still_so q u m' told same = record { more = 0; told = (omega arith); rises = still same refl }

  -- the piece goes on
  stays_so : (q : Refusal) {u : DiskHeld} {held : List (LockNo × DiskHeld)} {fresh : Option Object}
      {pin : Option Pin} {owed : ℕ} {more less : Option Weight} {page : Option (List ℕ)} (x y : At)
      → l.at ≡ x → Speaks x → Speaks y
      → mass (spot n) (refusal_counter q) none (on l y held fresh pin owed more less page l.fail)
      + refusal_counter q (spot n k) u ≡ mass (spot n) (refusal_counter q) none l
      → Refuses q u (on l y held fresh pin owed more less page l.fail)
  stays_so q x y at sx sy same = still_so q _ _ (ap (λ (i : ℕ). done_sum (refusal_of q) l.done + i)
      (refused_is q y l.todo l.fail sy ∙ sym (refused_is q x l.todo l.fail sx)
      ∙ sym (ap (λ (s : At). refused_by q s l.todo l.fail) at))) same

  -- the account's counter rises by what an end gives
  rises_so : (q : Refusal) (u : DiskHeld) (m' : Here) (op : Op) (x : PartEnd) (c : Counters)
      (rest : List (LockNo × DiskHeld)) (d : Counters) → Rises q op x c d
      → l.held ≡ (lock.Account, holds.Account c) ∷ rest
      → held_sum (spot n) (refusal_counter q) rest ≡ 0
      → mass (spot n) (refusal_counter q) none m' ≡ 0 → u ≡ holds.Account d
      → refusals q m' ≡ refusals q l + piece_gives (refusal_of q) op x → Refuses q u m'
  rises_so q u m' op x c rest d up held none_there after is told = record {
    more = piece_gives (refusal_of q) op x;
    told = told;
    rises = raises g (refusal_count q) l k u m' (piece_gives (refusal_of q) op x) c rest held
        none_there after up.0 (ap (refusal_counter q (spot n k)) is ∙ up.1);
  }

  -- the piece is over
  over_told : (q : Refusal) (p : Part) (end : PartEnd) (got : List (List ℕ)) (rest : List Part)
      → refusals q (piece_over l p end got rest)
      ≡ done_sum (refusal_of q) l.done + piece_gives (refusal_of q) p.op end
  over_told q p end got rest =
      let r = ok.facts.counted (refusal_of q) l.done (record {
        part = p;
        end = end;
        got = got;
      } ∷ []) in
      let z = refused_none q Start (left_by end p.nr rest) in omega arith

  -- what it tells of its piece now
  now_told : (q : Refusal) (p : Part) (rest : List Part) (x : Option PartEnd) (at : At)
      → l.todo ≡ p ∷ rest → l.at ≡ at → Speaks at → l.fail ≡ x
      → refusals q l ≡ done_sum (refusal_of q) l.done + by_option
      (piece_gives (refusal_of q) p.op) x
  now_told q p rest x at todo at_is speaks fail =
      (λ i. done_sum (refusal_of q) l.done + refused_by q (at_is i) (todo i) (fail i))
      ∙ ap (λ (i : ℕ). done_sum (refusal_of q) l.done + i) (refused_is q at (p ∷ rest) x speaks)

  none_told : (q : Refusal) → NoneOf l.fail → refusals q l ≡ done_sum (refusal_of q) l.done
  none_told q well = let r = refused_no q l.at l.todo l.fail well in omega arith

  -- a piece that was carried out, and one whose refusal was told before
  quiet_over : (q : Refusal) (p : Part) (rest : List Part) (got : List (List ℕ)) → NoneOf l.fail
      → refusals q (piece_over l p Carried got rest) ≡ refusals q l
  quiet_over q p rest got well =
      let r = over_told q p Carried got rest in let s = none_told q well in omega arith

  failed_over : (q : Refusal) (p : Part) (rest : List Part) (x : PartEnd) (at : At)
      → l.todo ≡ p ∷ rest → l.at ≡ at → Speaks at → l.fail ≡ Some x
      → refusals q (piece_over l p x [] rest) ≡ refusals q l
  failed_over q p rest x at todo at_is speaks bad = over_told q p x [] rest
      ∙ sym (now_told q p rest (Some x) at todo at_is speaks bad)

  -- a refusal that is counted
  denied : (q : Refusal) (p : Part) (rest : List Part) (x : PartEnd)
      (held : List (LockNo × DiskHeld))
      → l.todo ≡ p ∷ rest → NoneOf l.fail
      → refusals q (on l Made held l.fresh l.pin l.owed l.ahead l.behind l.page (Some x))
      ≡ refusals q l + piece_gives (refusal_of q) p.op x
  denied q p rest x held todo well =
      let r = none_told q well in
      let s : fails_so (refusal_of q) l.todo (Some x) ≡ piece_gives (refusal_of q) p.op x =
      ap (λ (ps : List Part). fails_so (refusal_of q) ps (Some x)) todo in omega arith

  -- and one of the device
  counted_now : (q : Refusal) (p : Part) (rest : List Part) (fault : ℕ)
      (held : List (LockNo × DiskHeld)) → l.todo ≡ p ∷ rest → l.at ≡ Counting
      → l.fail ≡ Some (Eio fault)
      → refusals q (on l Missed held l.fresh l.pin l.owed l.ahead l.behind l.page l.fail)
      ≡ refusals q l + piece_gives (refusal_of q) p.op (Eio fault)
  counted_now q p rest fault held todo at fail =
      let r : refused_by q l.at l.todo l.fail ≡ 0 =
      ap (λ (s : At). refused_by q s l.todo l.fail) at in
      let s : fails_so (refusal_of q) l.todo l.fail ≡ piece_gives (refusal_of q) p.op (Eio fault) =
      (λ i. fails_so (refusal_of q) (todo i) (fail i)) in omega arith

  -- an end of a writeback is no refusal
  trip_gives : (q : Refusal) (op : Op) → is_writeback op ≡ true → (end : OpEnd) → IsTripEnd end
      → piece_gives (refusal_of q) op (Whole end) ≡ 0
  trip_gives q (Write start count stuff) wb end i = absurd (cc)
  trip_gives q (Read start count) wb end i = absurd (cc)
  trip_gives q (Discard start count) wb end i = absurd (cc)
  trip_gives q (Idle age) wb end i = absurd (cc)
  trip_gives q Compact wb end i = absurd (cc)
  trip_gives FailedReads (Writeback mode) wb end i = refl
  trip_gives FailedWrites (Writeback mode) wb end i = refl
  trip_gives OutOfRange (Writeback mode) wb (ends.Written wrote lost) i = refl
  trip_gives OutOfRange (Writeback mode) wb (ends.Budget wrote lost) i = refl
  trip_gives OutOfRange (Writeback mode) wb (ends.NoBlock wrote lost) i = refl
  trip_gives OutOfRange (Writeback mode) wb (ends.WriteEio fault wrote lost) i = refl
  trip_gives OutOfRange (Writeback mode) wb end i = absurd i

  -- a giving of a writeback tells no refusal
  visit_refuses : (q : Refusal) (c : IsCourse g l v m) → Weighs g ok w j a l who v m k
      → Refuses q v m
  visit_refuses q c x = still_so q v m (told c.course)
      (x.account (refusal_count q) (kept_refusals q)) where
        kept_refusals : (r : Refusal) (y : Counters) (owed : ℕ) (was : Weight)
            → refusal_count r (counted (repaid y owed) (delta.Kept was Back)) ≡ refusal_count r y
        kept_refusals r y owed was = settled_refusals Compact owed was Back y r

        goes_on : (s : Step) (y : Trip) (fail : Option PartEnd) → m.done ≡ l.done
            → m.todo ≡ l.todo → m.at ≡ Visiting s y → m.fail ≡ fail
            → fails_so (refusal_of q) l.todo fail ≡ fails_so (refusal_of q) l.todo l.fail
            → refusals q m ≡ refusals q l
        goes_on s y fail done todo at is same =
            let d = ap (done_sum (refusal_of q)) done in
            let r : refused_by q m.at m.todo m.fail ≡ fails_so (refusal_of q) l.todo fail =
            (λ i. refused_by q (at i) (todo i) (is i)) in
            let t : refused_by q l.at l.todo l.fail ≡ fails_so (refusal_of q) l.todo l.fail =
            ap (λ (i : At). refused_by q i l.todo l.fail) c.at in omega arith

        no_more : (end : OpEnd) → IsTripEnd end → NoneOf l.fail
            → fails_so (refusal_of q) l.todo (Some (Whole end))
            ≡ fails_so (refusal_of q) l.todo l.fail
        no_more end i well =
            let r : fails_so (refusal_of q) l.todo (Some (Whole end))
            ≡ piece_gives (refusal_of q) c.p.op (Whole end) =
            ap (λ (ps : List Part). fails_so (refusal_of q) ps (Some (Whole end))) c.todo in
            let z = trip_gives q c.p.op c.wb end i in
            let y = ap (fails_so (refusal_of q) l.todo) (no_one l.fail well) in
            let u = fails_none (refusal_of q) l.todo in omega arith

        told : Course l v c.p c.rest m → refusals q m ≡ refusals q l
        told (course.goes s y done todo at fail) = goes_on s y l.fail done todo at fail refl
        told (course.halts s y end done todo at well fail i) =
            goes_on s y (Some (Whole end)) done todo at fail (no_more end (refused_trip end i) well)
        told (course.errs s y d d' b fault wrote lost done todo at well fail held v_is failed) =
            goes_on s y (Some (Whole (ends.WriteEio fault wrote lost))) done todo at fail
            (no_more (ends.WriteEio fault wrote lost) tt well)
        told (course.tells wrote lost well m_is) =
            ap (refusals q) m_is ∙ (let s = over_told q c.p (Whole (ends.Written wrote lost)) [] c.rest in
            let z = trip_gives q c.p.op c.wb (ends.Written wrote lost) tt in
            let t = none_told q well in omega arith)
        told (course.closes end i fail m_is) = ap (refusals q) m_is
            ∙ failed_over q c.p c.rest (Whole end) (Visiting c.s c.x) c.todo c.at tt fail

  pub refuses_of : (q : Refusal) → plan (terms g) l ≡ Give k → Event g l v m → Refuses q v m
  refuses_of q what (event.visits t) = visit_refuses q (course_of g ok w j a l who v m t)
      (weighs_of g ok w j a l who v m k what t)
  refuses_of q what (event.pins p rest e o x x' u u' cell todo at held is sw named_u free outside is_cell
      in_cell lk v_is m_is) = same_refuses q _ _ v_is m_is
      (stays_so q Pinning _ at tt (speaks_pinned p.op _ e.kept)
      (let r = ap (held_sum (spot n) (refusal_counter q)) held in omega arith))
  refuses_of q what (event.unpins p rest e o x x' u u' todo at held is sw named_u outside free lk v_is
      m_is) = same_refuses q _ _ v_is m_is (stays_so q Unpinning _ at tt tt
      (let r = ap (held_sum (spot n) (refusal_counter q)) held in omega arith))
  refuses_of q what (event.charges p rest e c x x' cl h need bytes huge todo at held is_form is_class
      within al v_is m_is) = same_refuses q _ _ v_is m_is
      (stays_so q Both _ at tt tt (let r = ap (held_sum (spot n) (refusal_counter q)) held in
      let s = charged_refusals q c need in omega arith))
  refuses_of q what (event.stows p rest e x cl todo at held well v_is m_is) =
      same_refuses q _ _ v_is m_is (stays_so q Made _ at tt (speaks_settle e.kept)
      (let r = ap (held_sum (spot n) (refusal_counter q)) held in omega arith))
  refuses_of q what (event.quits p rest e x cl y todo at held bad v_is m_is) =
      same_refuses q _ _ v_is m_is (stays_so q Made _ at tt (speaks_quit l.pin)
      (let r = ap (held_sum (spot n) (refusal_counter q)) held in omega arith))
  refuses_of q what (event.frees p rest e o x x' frames todo at held is fp v_is m_is) =
      same_refuses q _ _ v_is m_is (stays_so q Freeing _ at tt tt
      (let r = ap (held_sum (spot n) (refusal_counter q)) held in omega arith))
  refuses_of q what (event.repays p rest e c todo at held v_is m_is) =
      same_refuses q _ _ v_is m_is (stays_so q Giving _ at tt tt
      (let r = ap (held_sum (spot n) (refusal_counter q)) held in
      let s = settled_refusals p.op l.owed (old_weight l.ahead e.kept)
      (form_weight (next_form p l.page e.kept)) c q in omega arith))
  refuses_of q what (event.puts p rest e f todo at held notes v_is m_is) =
      let st = stage g ok w j a l who p rest todo _ Ready held at in
      same_refuses q _ _ v_is m_is (still_so q _ _ (quiet_over q p rest [] st.fails)
      (let r = ap (held_sum (spot n) (refusal_counter q)) held in omega arith))
  refuses_of q what (event.reads p rest e f todo at held well notes v_is m_is) =
      same_refuses q _ _ v_is m_is (still_so q _ _
      (quiet_over q p rest _ (subst NoneOf (sym well) tt))
      (let r = ap (held_sum (spot n) (refusal_counter q)) held in omega arith))
  refuses_of q what (event.fails p rest e x todo at held bad v_is m_is) =
      same_refuses q _ _ v_is m_is (still_so q _ _ (failed_over q p rest x Leaving todo at tt bad)
      (let r = ap (held_sum (spot n) (refusal_counter q)) held in omega arith))
  refuses_of q what (event.fetches p rest e b d d' page todo at held is read is_page v_is m_is) =
      same_refuses q _ _ v_is m_is (stays_so q Fetching _ at tt (speaks_fetched p.op _ e.kept)
      (let r = ap (held_sum (spot n) (refusal_counter q)) held in omega arith))
  refuses_of q what (event.misses p rest e b d d' fault todo at held is failed v_is m_is) =
      let st = stage g ok w j a l who p rest todo _ Fetching held at in
      same_refuses q _ _ v_is m_is (still_so q _ _
      (let r = none_told q st.fails in omega arith)
      (let r = ap (held_sum (spot n) (refusal_counter q)) held in omega arith))
  refuses_of q what (event.counts p rest e c todo at held v_is m_is) =
      let st = stage g ok w j a l who p rest todo _ Counting held at in
      let x = fault_of g p l.fail st.fails in
      same_refuses q _ _ v_is m_is (rises_so q _ _ p.op (Eio x.0) c _ _
      (fault_rises q p.op x.0 c st.kind.0) held refl refl refl
      (counted_now q p rest x.0 ((slot p.page, holds.Slot e) ∷ []) todo at x.1))
  refuses_of q what (event.errs p rest e f x todo at held bad read notes v_is m_is) =
      same_refuses q _ _ v_is m_is (still_so q _ _ (failed_over q p rest x Missed todo at tt bad)
      (let r = ap (held_sum (spot n) (refusal_counter q)) held in omega arith))
  refuses_of q what (event.leaves p rest e x todo at held bad other v_is m_is) =
      same_refuses q _ _ v_is m_is (still_so q _ _ (failed_over q p rest x Missed todo at tt bad)
      (let r = ap (held_sum (spot n) (refusal_counter q)) held in omega arith))
  refuses_of q what (event.releases p rest e b x todo at held is v_is m_is) =
      same_refuses q _ _ v_is m_is (stays_so q Releasing _ at tt tt
      (let r = ap (held_sum (spot n) (refusal_counter q)) held in omega arith))
  refuses_of q what (event.scans p rest age x e todo op at held other v_is m_is) =
      same_refuses q _ _ v_is m_is (stays_so q (Marking x) _ at tt tt
      (let r = ap (held_sum (spot n) (refusal_counter q)) held in omega arith))
  refuses_of q what (event.stops p rest age x e todo op at held last v_is m_is) =
      let st = stage g ok w j a l who p rest todo _ (Marking x) held at in
      let pages = (with_page x (is_new_mark g.clock age e)).marked in
      same_refuses q _ _ v_is m_is (still_so q _ _
      (let s = over_told q p (Whole (ends.Marked pages)) [] rest in
      let z = marked_gives q p.op pages in let t = none_told q st.fails in omega arith)
      (let r = ap (held_sum (spot n) (refusal_counter q)) held in omega arith))
  refuses_of q what (event.moves p rest y x x' u u' budget frames todo at held sh some one v_is m_is) =
      same_refuses q _ _ v_is m_is (stays_so q (Moving y) _ at tt
      (speaks_moved frames (with_move y budget))
      (let r = ap (held_sum (spot n) (refusal_counter q)) held in omega arith))
  refuses_of q what (event.sweeps p rest y x todo at held stuck other v_is m_is) =
      same_refuses q _ _ v_is m_is (stays_so q (Moving y) _ at tt tt
      (let r = ap (held_sum (spot n) (refusal_counter q)) held in omega arith))
  refuses_of q what (event.closes p rest y x todo at held stuck last v_is m_is) =
      let st = stage g ok w j a l who p rest todo _ (Moving y) held at in
      same_refuses q _ _ v_is m_is (still_so q _ _
      (let s = over_told q p (Whole (ends.Compacted y.moves y.frames)) [] rest in
      let z = compacted_gives q p.op y.moves y.frames in let t = none_told q st.fails in omega arith)
      (let r = ap (held_sum (spot n) (refusal_counter q)) held in omega arith))
  refuses_of q what (event.shrinks p rest y c todo at held v_is m_is) =
      same_refuses q _ _ v_is m_is (stays_so q (Shrinking y) _ at tt tt
      (let r = ap (held_sum (spot n) (refusal_counter q)) held in
      let s = shrunk_refusals q c l.owed in omega arith))
  refuses_of q what (event.refuses p rest c todo at held v_is m_is) =
      let st = stage g ok w j a l who p rest todo _ Refusing held at in
      same_refuses q _ _ v_is m_is (rises_so q _ _ p.op (Whole ends.Range) c _ _
      (range_rises q p.op c) held refl refl refl
      (let x = over_told q p (Whole ends.Range) [] rest in
      let y = none_told q st.fails in omega arith))
  refuses_of q what (event.limits p rest e c x cl need todo at held is_need past v_is m_is) =
      let st = stage g ok w j a l who p rest todo _ Both held at in
      same_refuses q _ _ v_is m_is (rises_so q _ _ p.op (AtLimit c.pages need c.limit) c _ _
      (denial_rises q p.op (AtLimit c.pages need c.limit) c st.kind.0 tt) held refl refl refl
      (denied q p rest (AtLimit c.pages need c.limit)
      ((lock.Class cl, holds.Class x) ∷ (slot p.page, holds.Slot e) ∷ []) todo st.fails))
  refuses_of q what (event.starves p rest e c x cl todo at held v_is m_is) =
      let st = stage g ok w j a l who p rest todo _ Both held at in
      same_refuses q _ _ v_is m_is (rises_so q _ _ p.op NoMemory c _ _
      (denial_rises q p.op NoMemory c st.kind.0 tt) held refl refl refl
      (denied q p rest NoMemory ((lock.Class cl, holds.Class x) ∷ (slot p.page, holds.Slot e) ∷ [])
      todo st.fails))

  pub refusals_give : (q : Refusal) → slice_get w.row (spot n k) ≡ Some None → Refuses q v m
      → CountsRefusals g q w → CountsRefusals g q (gone n w a l who k (Some v) m)
  refusals_give q there x t =
      rises_total g ok w j a l who k v m there (refusal_count q)
      (refusal_count q g.was + locals_sum (refusals q) w.locals) x.more t x.rises
      ∙ ap at_most_end (
      let s = ok.facts.moves (refusals q) w.locals a l m who in let y = x.told in
      let z : refusal_count q g.was + locals_sum (refusals q) w.locals + x.more
      ≡ refusal_count q g.was + locals_sum (refusals q) (slice_set w.locals a m) =
      omega arith in z)

  pub refusals_take : (q : Refusal) → plan (terms g) l ≡ Take k
      → slice_get w.row (spot n k) ≡ Some (Some v)
      → CountsRefusals g q w → CountsRefusals g q (gone n w a l who k None (took (terms g) l v))
  refusals_take q what there t =
      ok.facts.take (spot n) (refusal_counter q) none w a l k v (took (terms g) l v) who there
      (ap (λ p. (lock_of p, v) ∷ l.held) what) refl ∙ t
      ∙ ap (λ (i : ℕ). at_most_end (refusal_count q g.was + i)) (
      let r = ok.facts.moves (refusals q) w.locals a l (took (terms g) l v) who in
      let s = refused_taken g q l v l.todo (j.each.in_local a l who).stage in
      let z : locals_sum (refusals q) w.locals ≡ locals_sum (refusals q)
      (slice_set w.locals a (took (terms g) l v)) = omega arith in z)
