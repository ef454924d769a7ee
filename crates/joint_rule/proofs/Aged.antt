-- What a phase's only actor makes of its pages and their marks.
use Rattle.joint_rule.proofs.Alikes.{arrived_is, visited_is}
use Rattle.std.proofs.Common.{◌≡◌, ◌≢◌, ◌+◌, ◌<◌, ◌≤◌, ◌∷◌, ◌++◌, ◌∙◌, ◌&&◌, ◌||◌, ◌⊎◌, ℕ, zero, suc, Bool, true, false, not, cond, eqb, ltb, List, [], sum_by, is_none, Option, Some, None, slice_get, slice_set, refl, sym, ap, subst, arith, inl, inr, ⊎_elim}
use Rattle.call_history.specs.Alone.{AreMarkedOver, aged_over, pages_over, each_over}
use Rattle.call_history.specs.Parts.{left_by, op_end, stands_so}
use Rattle.call_history.specs.declared.part.Done.{Done}
use Rattle.call_history.specs.declared.part.Part.{Part}
use Rattle.call_history.specs.declared.part.PartEnd.{PartEnd}
use Rattle.call_history.specs.declared.part.PartEnd.TheVariants.{Whole}
use Rattle.joint_rule.proofs.Gifts.{all}
use Rattle.joint_rule.proofs.Pages.{after_push, kept_is}
use Rattle.joint_rule.proofs.Sums.{get_set, gone}
use Rattle.joint_rule.specs.Alone.{Ages, CountsSo, IsAged, aged_at, aged_done, aged_in, aged_now, scanned_by}
use Rattle.joint_rule.specs.Begins.{Begin, back_at, form_at, found, found_after, terms}
use Rattle.joint_rule.specs.Joint.{Joint}
use Rattle.joint_rule.specs.Stages.{IsForm, Scans}
use Rattle.joint_rule.specs.Weights.{HeldAll}
use Rattle.lock_row.specs.declared.names.At.{At}
use Rattle.lock_row.specs.declared.names.At.TheVariants.{Away, Backed, Both, Counting, Failing, Fetching, Freeing, Giving, Inside, Leaving, Made, Marking, Missed, Moving, Old, Owing, Pinned, Pinning, Ready, Refusing, Releasing, Scanning, Seen, Shrinking, Shrunk, Start, Sweeping, Unpinning, Wanting, Visiting}
use Rattle.lock_row.specs.declared.names.LockNo.{LockNo}
use Rattle.lock_row.specs.declared.names.Pin.{Pin}
use Rattle.lock_row.specs.declared.names.Plan.TheVariants.{Take}
use Rattle.lock_row.specs.declared.names.Scan.{Scan}
use Rattle.lock_row.specs.declared.names.State.{State}
use Rattle.mem_account.specs.declared.weight.Weight.{Weight}
use Rattle.page_steps.specs.Givings.{Notes}
use Rattle.page_steps.specs.Pages.{next_form}
use Rattle.page_steps.specs.Scans.{scan_at, with_page}
use Rattle.page_steps.specs.Steps.{DiskHeld, Here, after_take, begun_at, discard_at, entered_at, entry_in, entry_or, fetched_at, first_at, first_scan, lock_of, made_at, on, part_at, piece_over, pinned_at, plan, quit_at, seen_at, settle_at, slot, spot, taken_at, took, write_at, first_trip}
use Rattle.plain_disk.specs.Calls.{after, leave_page, leaves_page}
use Rattle.plain_disk.specs.Forms.{is_pooled}
use Rattle.plain_disk.specs.Idles.{Aged, IsMarked, accessed, may_mark as may_mark_page, new_mark, passed, only_tag}
use Rattle.slot_entry.specs.Entries.{EntryState, is_new_mark, is_obj, marked, may_mark, is_wb, is_eligible}
use Rattle.slot_entry.specs.Forms.{Blank, PageForm, Pooled, Word, form_weight, page_weight}
use Rattle.slot_entry.specs.declared.kept.Kept.{Kept}
use Rattle.std.proofs.lemmas.Bool.{and_right, cases_lt, eq-eqb, le-ltb, lt-ltb, ne_eqb}
use Rattle.std.proofs.lemmas.List.Sums.{sum_by-cons}
use Rattle.std.specs.List.{range_with_len}
use Rattle.zr_base.specs.Plain.{has_whole, is_beyond, is_maintenance, is_marking, is_older, named, Look, Finds}
use Rattle.zr_base.specs.declared.op.Op.{Op}
use Rattle.zr_base.specs.declared.op.Op.TheVariants.{Compact, Discard, Idle, Read, Write, Writeback}
use Rattle.zr_base.specs.declared.op.OpEnd.{OpEnd}
use Rattle.zr_base.specs.declared.op.Tag.{Tag}
use Rattle.lock_row.specs.declared.names.Held.TheVariants as holds
use Rattle.slot_entry.specs.declared.kept.Kept.TheVariants as kept
use Rattle.zr_base.specs.declared.op.OpEnd.TheVariants as ends

-- ---- pieces that are over

module _ (form : List ℕ → Weight) (clock : ℕ) (finds : ℕ → Finds) where
  pages_push : (pages : ℕ → Aged) (ds : List Done) (d : Done) (p : ℕ)
      → pages_over form clock finds pages (ds ++ d ∷ []) p
      ≡ each_over form clock finds d (λ q. pages_over form clock finds pages ds q) p
  pages_push pages [] d p = refl
  pages_push pages (x ∷ ds) d p = pages_push (each_over form clock finds x pages) ds d p

  marked_push : (size : ℕ) (pages : ℕ → Aged) (ds : List Done) (d : Done)
      → AreMarkedOver form clock finds size pages ds
      → IsMarked form clock size (λ q. pages_over form clock finds pages ds q) d.part.op
      (op_end d.end 0)
      → AreMarkedOver form clock finds size pages (ds ++ d ∷ [])
  marked_push size pages [] d all this = (this, tt)
  marked_push size pages (x ∷ ds) d all this =
      (all.0, marked_push size (each_over form clock finds x pages) ds d all.1 this)

module _ (form : List ℕ → Weight) (clock : ℕ) where
  -- what doesn't mark leaves a page that it isn't on, and tells no marks
  other_passes : (op : Op) → is_marking op ≡ false → (p : ℕ) (s : Aged) → passed form clock p op s ≡ s
  other_passes (Write start count stuff) e p s = refl
  other_passes (Read start count) e p s = refl
  other_passes (Discard start count) e p s = refl
  other_passes (Idle age) e p s = absurd (cc)
  other_passes (Writeback mode) e p s = refl
  other_passes Compact e p s = refl

  other_marks : (size : ℕ) (pages : ℕ → Aged) (op : Op) (end : OpEnd) → is_marking op ≡ false
      → IsMarked form clock size pages op end
  other_marks size pages (Write start count stuff) end e = tt
  other_marks size pages (Read start count) end e = tt
  other_marks size pages (Discard start count) end e = tt
  other_marks size pages (Idle age) end e = absurd (cc)
  other_marks size pages (Writeback mode) end e = tt
  other_marks size pages Compact end e = tt

  -- a piece that is on no page, and doesn't mark, leaves each page
  off_leaves : (d : Done) → is_marking d.part.op ≡ false → stands_so d.part.op d.end ≡ false
      → (look : Look) (p : ℕ) (s : Aged) → aged_over form clock d look p s ≡ s
  off_leaves d other off look p s =
      ap (λ (x : Bool). cond x (accessed clock d.part.op look s) (passed form clock p d.part.op s))
      (and_right (eqb d.part.page p) (stands_so d.part.op d.end) off)
      ∙ other_passes d.part.op other p s

  -- one that is on a page leaves the other pages
  else_leaves : (d : Done) → is_marking d.part.op ≡ false → (p : ℕ) → p ≢ d.part.page → (look : Look)
      (s : Aged) → aged_over form clock d look p s ≡ s
  else_leaves d other p ne look s =
      ap (λ (x : Bool). cond (x && stands_so d.part.op d.end) (accessed clock d.part.op look s)
      (passed form clock p d.part.op s)) (ne_eqb d.part.page p (λ e. ne (sym e)))
      ∙ other_passes d.part.op other p s

  -- and its own as after an access
  here_accessed : (d : Done) → stands_so d.part.op d.end ≡ true → (look : Look) (s : Aged)
      → aged_over form clock d look d.part.page s ≡ accessed clock d.part.op look s
  here_accessed d on look s = λ i. cond (eq-eqb d.part.page d.part.page refl i && on i)
      (accessed clock d.part.op look s) (passed form clock d.part.page d.part.op s)

pub request_other : (op : Op) → is_maintenance op ≡ false → is_marking op ≡ false
request_other (Write start count stuff) e = refl
request_other (Read start count) e = refl
request_other (Discard start count) e = refl
request_other (Idle age) e = absurd (cc)
request_other (Writeback mode) e = absurd (cc)
request_other Compact e = refl

-- ---- stages

-- the stage is of no scan that has passed a page
abbrev pub IsStill : At → Type 0
IsStill at = scan_at at ≡ first_scan

pub still_settle : (k : Kept) → IsStill (settle_at k)
still_settle kept.Empty = refl
still_settle (kept.Same w) = refl
still_settle (kept.Obj o) = refl
still_settle (kept.Wb b) = refl

still_made : (f : PageForm) (k : Kept) → IsStill (made_at f k)
still_made Blank k = still_settle k
still_made (Word w) k = still_settle k
still_made (Pooled b h) k = refl

still_seen : (k : Kept) → IsStill (seen_at k)
still_seen kept.Empty = refl
still_seen (kept.Same w) = refl
still_seen (kept.Obj o) = refl
still_seen (kept.Wb b) = refl

still_part : (f : PageForm) (k : Kept) → IsStill (part_at f k)
still_part f kept.Empty = still_made f kept.Empty
still_part f (kept.Same w) = still_made f (kept.Same w)
still_part f (kept.Obj o) = refl
still_part f (kept.Wb b) = refl

still_write : (b : Bool) (f : PageForm) (k : Kept) → IsStill (write_at b f k)
still_write true f k = still_made f k
still_write false f k = still_part f k

still_discard : (k : Kept) → IsStill (discard_at k)
still_discard kept.Empty = refl
still_discard (kept.Same w) = refl
still_discard (kept.Obj o) = refl
still_discard (kept.Wb b) = refl

still_entered : (op : Op) (page : ℕ) (f : PageForm) (k : Kept) → IsStill (entered_at op page f k)
still_entered (Write start count stuff) page f k = still_write (has_whole start count page) f k
still_entered (Read start count) page f k = still_seen k
still_entered (Discard start count) page f k = still_discard k
still_entered (Idle age) page f k = refl
still_entered (Writeback mode) page f k = refl
still_entered Compact page f k = refl

pub still_pinned : (op : Op) (f : PageForm) (k : Kept) → IsStill (pinned_at op f k)
still_pinned (Write start count stuff) f k = still_made f k
still_pinned (Read start count) f k = refl
still_pinned (Discard start count) f k = refl
still_pinned (Idle age) f k = refl
still_pinned (Writeback mode) f k = refl
still_pinned Compact f k = refl

pub still_fetched : (op : Op) (f : PageForm) (k : Kept) → IsStill (fetched_at op f k)
still_fetched (Write start count stuff) f k = still_made f k
still_fetched (Read start count) f k = refl
still_fetched (Discard start count) f k = refl
still_fetched (Idle age) f k = refl
still_fetched (Writeback mode) f k = refl
still_fetched Compact f k = refl

pub still_quit : (x : Option Pin) → IsStill (quit_at x)
still_quit None = refl
still_quit (Some x) = refl

still_first : (op : Op) (e : EntryState) → IsStill (first_at op e)
still_first (Write start count stuff) e = refl
still_first (Read start count) e = refl
still_first (Discard start count) e = refl
still_first (Idle age) e = refl
still_first (Writeback mode) e =
    ap scan_at (arrived_is (is_eligible mode e) first_trip).2
still_first Compact e = refl

still_begun : (a b : Bool) (p : Part) (f : PageForm) (e : EntryState)
    → IsStill (begun_at a b p f e)
still_begun true b p f e = still_first p.op e
still_begun false true p f e = refl
still_begun false false p f e = still_entered p.op p.page f e.kept

-- a taking leaves the scan where it is
scan_after : (size : ℕ) (at : At) (p : Part) (f : PageForm) (k : EntryState)
    (fail : Option PartEnd) → scan_at (after_take size at p f k fail) ≡ scan_at at
scan_after size Start p f k fail = still_begun (is_maintenance p.op) (is_beyond size p.op) p f k
scan_after size Refusing p f k fail = refl
scan_after size Seen p f k fail = refl
scan_after size Pinning p f k fail = refl
scan_after size Pinned p f k fail = refl
scan_after size Unpinning p f k fail = refl
scan_after size Leaving p f k fail = refl
scan_after size Away p f k fail = refl
scan_after size Fetching p f k fail = refl
scan_after size Failing p f k fail = refl
scan_after size Counting p f k fail = refl
scan_after size Missed p f k fail = refl
scan_after size Wanting p f k fail = refl
scan_after size Inside p f k fail = refl
scan_after size Both p f k fail = refl
scan_after size Made p f k fail = refl
scan_after size Old p f k fail = refl
scan_after size Freeing p f k fail = refl
scan_after size Backed p f k fail = refl
scan_after size Releasing p f k fail = refl
scan_after size Owing p f k fail = refl
scan_after size Giving p f k fail = refl
scan_after size Ready p f k fail = refl
scan_after size (Scanning x) p f k fail = refl
scan_after size (Marking x) p f k fail = refl
scan_after size (Visiting s x) p f k fail = ap scan_at (visited_is s x p.op k fail).2
scan_after size (Sweeping x) p f k fail = refl
scan_after size (Moving x) p f k fail = refl
scan_after size (Shrunk x) p f k fail = refl
scan_after size (Shrinking x) p f k fail = refl

scan_taken : (size : ℕ) (ps : List Part) (at : At) (page : Option (List ℕ)) (k : EntryState)
    (fail : Option PartEnd) → scan_at (taken_at size ps at page k fail) ≡ scan_at at
scan_taken size [] at page k fail = refl
scan_taken size (p ∷ ps) at page k fail =
    scan_after size at p (next_form p page k.kept) k fail

module _ (g : Begin) where
  -- pages and marks by the scan alone
  same_scanned : (ps : List Part) (x y : At) → scan_at y ≡ scan_at x → (p : ℕ) (s : Aged)
      → scanned_by g ps y p s ≡ scanned_by g ps x p s
  same_scanned [] x y e p s = refl
  same_scanned (q ∷ qs) x y e p s =
      ap (λ (z : Scan). cond (ltb p z.page) (passed page_weight g.clock p q.op s) s) e

  same_counts : (ps : List Part) (x y : At) (done : List Done) → scan_at y ≡ scan_at x
      → CountsSo g ps x done → CountsSo g ps y done
  same_counts [] x y done e c = tt
  same_counts (q ∷ qs) x y done e c =
      subst (λ (z : Scan). IsMarked page_weight g.clock z.page (aged_done g done) q.op
      (ends.Marked z.marked)) (sym e) c

  -- no page is passed before the first
  pub first_scanned : (ps : List Part) (x : At) → IsStill x → (p : ℕ) (s : Aged)
      → scanned_by g ps x p s ≡ s
  first_scanned [] x e p s = refl
  first_scanned (q ∷ qs) x e p s =
      ap (λ (z : Scan). cond (ltb p z.page) (passed page_weight g.clock p q.op s) s) e
      ∙ ap (λ (b : Bool). cond b (passed page_weight g.clock p q.op s) s)
      (le-ltb p 0 (omega arith))

  pub first_counts : (ps : List Part) (x : At) (done : List Done) → IsStill x → CountsSo g ps x done
  first_counts [] x done e = tt
  first_counts (q ∷ qs) x done e =
      subst (λ (z : Scan). IsMarked page_weight g.clock z.page (aged_done g done) q.op
      (ends.Marked z.marked)) (sym e) (none q.op) where
        none : (op : Op) → IsMarked page_weight g.clock 0 (aged_done g done) op (ends.Marked 0)
        none (Write start count stuff) = tt
        none (Read start count) = tt
        none (Discard start count) = tt
        none (Idle age) = refl
        none (Writeback mode) = tt
        none Compact = tt

-- ---- pages that a scan has passed

below : (q i : ℕ) → q ≢ i → q < i + 1 → q < i
below q i ne lt = elim (cases_lt q i) [
  | inl low ↦ low
  | inr high ↦ absurd (ne (omega arith))
]

ltb_step : (q i : ℕ) → q ≢ i → ltb q (i + 1) ≡ ltb q i
ltb_step q i ne = elim (cases_lt q i) [
  | inl low ↦ lt-ltb q (i + 1) (omega arith) ∙ sym (lt-ltb q i low)
  | inr high ↦ le-ltb q (i + 1) (more high (cases_lt i q)) ∙ sym (le-ltb q i high)
] where
  more : i ≤ q → (i < q) ⊎ (q ≤ i) → i + 1 ≤ q
  more high (inl low) = omega arith
  more high (inr not_more) = absurd (ne (omega arith))

range_push : (f : ℕ → ℕ) (a i : ℕ) → sum_by f (range_with_len a (suc i))
    ≡ sum_by f (range_with_len a i) + f (a + i)
range_push f a zero = sum_by-cons f a []
    ∙ (let q = ap f (let z : a ≡ a + 0 = omega arith in z) in omega arith)
range_push f a (suc i) =
    let first = sum_by-cons f a (range_with_len (a + 1) (suc i)) in
    let was = sum_by-cons f a (range_with_len (a + 1) i) in
    let more = range_push f (a + 1) i in
    let last = ap f (let z : a + 1 + i ≡ a + suc i = omega arith in z) in omega arith

-- ---- orders and forms

and_assoc : (a b c : Bool) → (a && (b && c)) ≡ ((a && b) && c)
and_assoc true b c = refl
and_assoc false b c = refl

pub and_one : (a : Bool) → (a && true) ≡ a
and_one true = refl
and_one false = refl

leave_push : (actors : List (List Op)) (order : List Tag) (t : Tag)
    → leave_page actors (order ++ t ∷ []) ≡ (leave_page actors order && leaves_page (named actors t))
leave_push actors [] t = and_one (leaves_page (named actors t))
leave_push actors (x ∷ xs) t =
    ap (λ (b : Bool). leaves_page (named actors x) && b) (leave_push actors xs t)
    ∙ and_assoc (leaves_page (named actors x)) (leave_page actors xs) (leaves_page (named actors t))

module _ (g : Begin) (p : ℕ) (e f : EntryState) (k : Kept) (t : Tag) (op : Op)
    (is : named g.given.actors t ≡ Some op) (n : Notes g.clock e f k t) where
  found_noted : found_after g p f.order
      ≡ after (Some op) (g.given.finds p t) (found_after g p e.order)
  found_noted = ap (found_after g p) n.order ∙ after_push g p (found g p) e.order t
      ∙ ap (λ (o : Option Op). after o (g.given.finds p t) (found_after g p e.order)) is

  back_noted : back_at g p f.order ≡ (back_at g p e.order && leaves_page (Some op))
  back_noted = ap (back_at g p) n.order
      ∙ ap (λ (b : Bool). g.back p && b) (leave_push g.given.actors e.order t)
      ∙ and_assoc (g.back p) (leave_page g.given.actors e.order) (leaves_page (named g.given.actors t))
      ∙ ap (λ (o : Option Op). back_at g p e.order && leaves_page o) is

  -- an entry with one call more is as after an access
  pub noted_aged : aged_in g p f ≡ accessed g.clock op (g.given.finds p t) (aged_in g p e)
  noted_aged = λ i. record {
    found = found_noted i;
    back = back_noted i;
    touched = n.touched i;
    idle = n.idle i;
  }

pooled_weight : (bytes : List ℕ) (huge : Bool) → is_pooled (form_weight (Pooled bytes huge)) ≡ true
pooled_weight bytes true = refl
pooled_weight bytes false = refl

-- a page is kept in the pool where it has a form of the pool and isn't on the device
obj_pooled : (chain : ℕ) (f : PageForm) (k : Kept) (back old : Bool) → IsForm chain f k
    → is_wb k ≡ back → (is_obj k && old) ≡ (is_pooled (form_weight f) && (not back && old))
obj_pooled chain Blank kept.Empty back old i e = refl
obj_pooled chain Blank (kept.Same w) back old i e = absurd i
obj_pooled chain Blank (kept.Obj o) back old i e = absurd i
obj_pooled chain Blank (kept.Wb b) back old i e = absurd i
obj_pooled chain (Word v) kept.Empty back old i e = absurd i
obj_pooled chain (Word v) (kept.Same w) back old i e = refl
obj_pooled chain (Word v) (kept.Obj o) back old i e = absurd i
obj_pooled chain (Word v) (kept.Wb b) back old i e = absurd i
obj_pooled chain (Pooled bytes huge) kept.Empty back old i e = absurd i
obj_pooled chain (Pooled bytes huge) (kept.Same w) back old i e = absurd i
obj_pooled chain (Pooled bytes huge) (kept.Obj o) back old i e =
    λ j. sym (pooled_weight bytes huge) j && (not (e j) && old)
obj_pooled chain (Pooled bytes huge) (kept.Wb b) back old i e =
    λ j. sym (pooled_weight bytes huge) j && (not (e j) && old)

module _ (g : Begin) (p : ℕ) (e : EntryState) (age : Option ℕ) (under : e.under ≡ None)
    (stands : IsForm g.chain (form_at g p e.order) e.kept)
    (backs : is_wb e.kept ≡ back_at g p e.order) where
  -- an entry may be marked where its page may
  may_same : may_mark g.clock age e ≡ may_mark_page page_weight g.clock p age (aged_in g p e)
  may_same =
      let old = is_older g.clock age e.touched in
      ap (λ (o : Option ℕ). is_obj e.kept && (is_none o && old)) under
      ∙ obj_pooled g.chain (form_at g p e.order) e.kept (back_at g p e.order) old stands backs
      ∙ ap (λ (x : Weight). is_pooled x && (not (back_at g p e.order) && old))
      (sym (kept_is g p e.order))

  marked_aged : aged_in g p (marked g.clock age e)
      ≡ passed page_weight g.clock p (Idle age) (aged_in g p e)
  marked_aged = λ i. record {
    found = found_after g p e.order;
    back = back_at g p e.order;
    touched = e.touched;
    idle = e.idle || may_same i;
  }

  new_same : cond {A = ℕ} (is_new_mark g.clock age e) 1 0
      ≡ new_mark page_weight g.clock p age (aged_in g p e)
  new_same = ap (λ (b : Bool). cond {A = ℕ} (b && not e.idle) 1 0) may_same

-- ---- locals

module _ (g : Begin) where
  aged_same : (l m : Here) (p : ℕ) (v : DiskHeld) → aged_now g m p ≡ aged_now g l p
      → IsAged g l p v → IsAged g m p v
  aged_same l m p (holds.Slot e) same is = is ∙ sym same
  aged_same l m p (holds.Class x) same is = tt
  aged_same l m p (holds.Account x) same is = tt
  aged_same l m p (holds.Blocks x) same is = tt
  aged_same l m p (holds.Device x) same is = tt

  hand_same : (l m : Here) → ((p : ℕ) → aged_now g m p ≡ aged_now g l p)
      → (xs : List (LockNo × DiskHeld)) → HeldAll g.given.size (IsAged g l) xs
      → HeldAll g.given.size (IsAged g m) xs
  hand_same l m same [] all = tt
  hand_same l m same (x ∷ xs) all = (
    aged_same l m (spot g.given.size x.0) x.1 (same (spot g.given.size x.0)) all.0,
    hand_same l m same xs all.1,
  )

  -- the scan is where it was
  now_same : (l m : Here) → m.todo ≡ l.todo → m.done ≡ l.done → scan_at m.at ≡ scan_at l.at
      → (p : ℕ) → aged_now g m p ≡ aged_now g l p
  now_same l m todo done scan p =
      (λ i. scanned_by g (todo i) m.at p (aged_done g (done i) p))
      ∙ same_scanned g l.todo l.at m.at scan p (aged_done g l.done p)

  -- a piece is over
  module _ (l : Here) (p : Part) (end : PartEnd) (got : List (List ℕ)) (rest : List Part) where
    abbrev this : Done
    this = record { part = p; end = end; got = got }

    -- what it finds on a page
    abbrev look : ℕ → Look
    look q = g.given.finds q (only_tag p.nr)

    now_push : (q : ℕ) → aged_now g (piece_over l p end got rest) q
        ≡ aged_over page_weight g.clock this (look q) q (aged_done g l.done q)
    now_push q = first_scanned g (left_by end p.nr rest) Start refl q
        (aged_done g (l.done ++ this ∷ []) q)
        ∙ pages_push page_weight g.clock g.given.finds (aged_at g) l.done this q

    now_over : IsStill l.at → (q : ℕ) → aged_now g (piece_over l p end got rest) q
        ≡ aged_over page_weight g.clock this (look q) q (aged_now g l q)
    now_over still q = now_push q ∙ ap (aged_over page_weight g.clock this (look q) q)
        (sym (first_scanned g l.todo l.at still q (aged_done g l.done q)))

-- ---- takings

module _ (g : Begin) (w : State DiskHeld) (a : ℕ) (l : Here)
    (who : slice_get w.locals a ≡ Some l) (k : LockNo) (v : DiskHeld) where
  abbrev place : ℕ
  place = spot g.given.size k

  abbrev taker : Here
  taker = took (terms g) l v

  was_home : slice_get w.row place ≡ Some (Some v) → (i : ℕ) (u : DiskHeld)
      → slice_get (slice_set w.row place None) i ≡ Some (Some u) → slice_get w.row i ≡ Some (Some u)
  was_home there i u at = ⊎_elim (λ s. absurd (let z = s.1 in cc)) (λ o. o.1)
      (get_set w.row place i None (Some u) (Some v) there at)

  pub ages_take : plan (terms g) l ≡ Take k → slice_get w.row place ≡ Some (Some v)
      → Ages g w l → Ages g (gone g.given.size w a l who k None taker) taker
  ages_take what there r =
      let scan = scan_taken g.given.size l.todo l.at l.page (entry_or v (entry_in l.held)) l.fail in
      let same = now_same g l taker refl refl scan in
      record {
        marks = r.marks;
        counts = same_counts g l.todo l.at taker.at l.done scan r.counts;
        home = λ p u at. aged_same g l taker p u (same p) (r.home p u (was_home there p u at));
        hand = (
          subst (λ (x : LockNo). IsAged g taker (spot g.given.size x) v) (sym (ap lock_of what))
              (aged_same g l taker place v (same place) (r.home place v there)),
          hand_same g l taker same l.held r.hand,
        );
      }

-- ---- givings

module _ (g : Begin) (w : State DiskHeld) (a : ℕ) (l : Here)
    (who : slice_get w.locals a ≡ Some l) (k : LockNo) (v : DiskHeld)
    (there : slice_get w.row (spot g.given.size k) ≡ Some None) (r : Ages g w l) where
  abbrev n : ℕ
  n = g.given.size

  -- the ages after the giving, where the local is m
  abbrev Given : Here → Type 0
  Given m = Ages g (gone n w a l who k (Some v) m) m

  home_given : (m : Here) → IsAged g m (spot n k) v
      → ((q : ℕ) (u : DiskHeld) → q ≢ spot n k → slice_get w.row q ≡ Some (Some u)
      → IsAged g m q u)
      → (q : ℕ) (u : DiskHeld) → slice_get (slice_set w.row (spot n k) (Some v)) q ≡ Some (Some u)
      → IsAged g m q u
  home_given m this others q u at = ⊎_elim
      (λ s. let z : v ≡ u = (let y = s.1 in cc) in
      subst (λ (x : ℕ × DiskHeld). IsAged g m x.0 x.1) (λ i. (sym s.0 i, z i)) this)
      (λ o. others q u o.0 o.1)
      (get_set w.row (spot n k) q (Some v) (Some u) None there at)

  -- the piece goes on, and no entry is given
  pub keeps_on : (m : Here) (xs : List (LockNo × DiskHeld)) (u : DiskHeld) → l.held ≡ xs → v ≡ u
      → m.done ≡ l.done → m.todo ≡ l.todo → IsStill l.at → IsStill m.at
      → (HeldAll n (IsAged g l) xs → IsAged g l (spot n k) u × HeldAll n (IsAged g l) m.held)
      → Given m
  keeps_on m xs u held value done todo was now f =
      let same = now_same g l m todo done (now ∙ sym was) in
      let both = f (subst (HeldAll n (IsAged g l)) held r.hand) in
      record {
        marks = subst (AreMarkedOver page_weight g.clock g.given.finds n (aged_at g)) (sym done)
            r.marks;
        counts = first_counts g m.todo m.at m.done now;
        home = home_given m
            (aged_same g l m (spot n k) v (same (spot n k))
            (subst (IsAged g l (spot n k)) (sym value) both.0))
            (λ q x ne at. aged_same g l m q x (same q) (r.home q x at));
        hand = hand_same g l m same m.held both.1;
      }

  -- a piece is over that doesn't mark
  module _ (p : Part) (end : PartEnd) (got : List (List ℕ)) (rest : List Part)
      (still : IsStill l.at) (other : is_marking p.op ≡ false) where
    abbrev d : Done
    d = record { part = p; end = end; got = got }

    abbrev looks : ℕ → Look
    looks q = g.given.finds q (only_tag p.nr)

    abbrev over : Here
    over = piece_over l p end got rest

    over_marks : AreMarkedOver page_weight g.clock g.given.finds n (aged_at g) over.done
    over_marks = marked_push page_weight g.clock g.given.finds n (aged_at g) l.done d r.marks
        (other_marks page_weight g.clock n (λ q. aged_done g l.done q) p.op (op_end end 0) other)

    -- it is on no page
    pub keeps_off : stands_so p.op end ≡ false → IsAged g l (spot n k) v → Given over
    keeps_off off this =
        let same : (q : ℕ) → aged_now g over q ≡ aged_now g l q = λ q.
        now_over g l p end got rest still q
        ∙ off_leaves page_weight g.clock d other off (looks q) q (aged_now g l q) in
        record {
          marks = over_marks;
          counts = first_counts g over.todo over.at over.done refl;
          home = home_given over (aged_same g l over (spot n k) v (same (spot n k)) this)
              (λ q x ne at. aged_same g l over q x (same q) (r.home q x at));
          hand = tt;
        }

    -- it is on the page that is given
    pub keeps_here : stands_so p.op end ≡ true → spot n k ≡ p.page → (e f : EntryState)
        → v ≡ holds.Slot f → IsAged g l p.page (holds.Slot e)
        → aged_in g p.page f ≡ accessed g.clock p.op (looks p.page) (aged_in g p.page e) → Given over
    keeps_here on place e f value was is =
        let here : aged_now g over p.page ≡ accessed g.clock p.op (looks p.page)
        (aged_now g l p.page) =
        now_over g l p end got rest still p.page
        ∙ here_accessed page_weight g.clock d on (looks p.page) (aged_now g l p.page) in
        let this : IsAged g over p.page (holds.Slot f) =
        is ∙ ap (accessed g.clock p.op (looks p.page)) was ∙ sym here in
        record {
          marks = over_marks;
          counts = first_counts g over.todo over.at over.done refl;
          home = home_given over
              (subst (λ (x : ℕ × DiskHeld). IsAged g over x.0 x.1) (λ i. (sym place i, sym value i))
              this)
              (λ q x ne at. aged_same g l over q x (now_over g l p end got rest still q
              ∙ else_leaves page_weight g.clock d other q (λ h. ne (h ∙ sym place)) (looks q)
              (aged_now g l q)) (r.home q x at));
          hand = tt;
        }

  -- ---- a scan

  module _ (j : Joint g w) (p : Part) (rest : List Part) (age : Option ℕ) (x : Scan)
      (e : EntryState) (todo : l.todo ≡ p ∷ rest) (op : p.op ≡ Idle age) (at : l.at ≡ Marking x)
      (held : l.held ≡ (slot x.page, holds.Slot e) ∷ [])
      (value : v ≡ holds.Slot (marked g.clock age e)) (here : spot n k ≡ x.page)
      (st : Scans g x e) (under : e.under ≡ None)
      (back : is_wb e.kept ≡ back_at g x.page e.order) where
    abbrev next : Scan
    next = with_page x (is_new_mark g.clock age e)

    -- a page before the scan
    abbrev old : ℕ → Aged
    old q = aged_done g l.done q

    -- and after it
    abbrev new : ℕ → Aged
    new q = passed page_weight g.clock q (Idle age) (old q)

    was_now : (q : ℕ) → aged_now g l q ≡ cond (ltb q x.page) (new q) (old q)
    was_now q = (λ i. scanned_by g (todo i) (at i) q (old q))
        ∙ ap (λ (o : Op). cond (ltb q x.page) (passed page_weight g.clock q o (old q)) (old q)) op

    -- the page in hand is as it was
    in_hand : aged_in g x.page e ≡ old x.page
    in_hand = (subst (HeldAll n (IsAged g l)) held r.hand).0 ∙ was_now x.page
        ∙ ap (λ (b : Bool). cond b (new x.page) (old x.page)) (le-ltb x.page x.page (omega arith))

    -- and is given as the scan leaves it
    in_home : aged_in g x.page (marked g.clock age e) ≡ new x.page
    in_home = marked_aged g x.page e age under st.stands back
        ∙ ap (passed page_weight g.clock x.page (Idle age)) in_hand

    -- ---- new marks

    abbrev mark : ℕ → ℕ
    mark q = new_mark page_weight g.clock q age (old q)

    was_marked : x.marked ≡ sum_by mark (range_with_len 0 x.page)
    was_marked = subst (λ (o : Op). IsMarked page_weight g.clock x.page (λ q. old q) o
        (ends.Marked x.marked)) op
        (subst (λ (y : List Part × At). CountsSo g y.0 y.1 l.done) (λ i. (todo i, at i)) r.counts)

    now_marked : next.marked ≡ sum_by mark (range_with_len 0 (x.page + 1))
    now_marked =
        let one = new_same g x.page e age under st.stands back
        ∙ ap (new_mark page_weight g.clock x.page age) in_hand in
        let more = range_push mark 0 x.page in
        let size : x.page + 1 ≡ suc x.page = omega arith in
        let sum = ap (λ (i : ℕ). sum_by mark (range_with_len 0 i)) size in
        let last = ap mark (let q : 0 + x.page ≡ x.page = omega arith in q) in
        let was = was_marked in omega arith

    op_marked : (size : ℕ) → x.page + 1 ≡ size → IsMarked page_weight g.clock size
        (λ q. old q) p.op (ends.Marked next.marked)
    op_marked size is = subst (λ (y : Op × ℕ). IsMarked page_weight g.clock y.1 (λ q. old q) y.0
        (ends.Marked next.marked)) (λ i. (sym op i, is i)) now_marked

    -- ---- another page is left

    abbrev on_next : Here
    on_next = on l (Scanning next) [] l.fresh l.pin l.owed l.ahead l.behind l.page l.fail

    next_now : (q : ℕ) → aged_now g on_next q ≡ cond (ltb q (x.page + 1)) (new q) (old q)
    next_now q = (λ i. scanned_by g (todo i) (Scanning next) q (old q))
        ∙ ap (λ (o : Op). cond (ltb q (x.page + 1)) (passed page_weight g.clock q o (old q))
        (old q)) op

    next_same : (q : ℕ) → q ≢ x.page → aged_now g on_next q ≡ aged_now g l q
    next_same q ne = next_now q
        ∙ ap (λ (b : Bool). cond b (new q) (old q)) (ltb_step q x.page ne) ∙ sym (was_now q)

    pub keeps_scans : Given on_next
    keeps_scans =
        let this : IsAged g on_next x.page (holds.Slot (marked g.clock age e)) =
        in_home ∙ sym (next_now x.page
        ∙ ap (λ (b : Bool). cond b (new x.page) (old x.page))
        (lt-ltb x.page (x.page + 1) (omega arith))) in
        record {
          marks = r.marks;
          counts = subst (λ (ps : List Part). CountsSo g ps (Scanning next) l.done) (sym todo)
              (op_marked (x.page + 1) refl);
          home = home_given on_next
              (subst (λ (y : ℕ × DiskHeld). IsAged g on_next y.0 y.1)
              (λ i. (sym here i, sym value i)) this)
              (λ q u ne there. aged_same g l on_next q u (next_same q (λ s. ne (s ∙ sym here)))
              (r.home q u there));
          hand = tt;
        }

    -- ---- or none

    module _ (last : x.page + 1 ≡ n) where
      abbrev stop : PartEnd
      stop = Whole (ends.Marked next.marked)

      abbrev stopped : Here
      stopped = piece_over l p stop [] rest

      stop_now : (q : ℕ) → aged_now g stopped q ≡ new q
      stop_now q = now_push g l p stop [] rest q
          ∙ ap (λ (b : Bool).
          cond b (accessed g.clock p.op (g.given.finds q (only_tag p.nr)) (old q))
          (passed page_weight g.clock q p.op (old q))) (and_right (eqb p.page q) false refl)
          ∙ ap (λ (o : Op). passed page_weight g.clock q o (old q)) op

      stop_others : (q : ℕ) (u : DiskHeld) → q ≢ x.page → slice_get w.row q ≡ Some (Some u)
          → IsAged g l q u → IsAged g stopped q u
      stop_others q (holds.Slot f) ne there is =
          let low : q < n = (j.each.in_row q (holds.Slot f) there).sound.page in
          is ∙ was_now q ∙ ap (λ (b : Bool). cond b (new q) (old q))
          (lt-ltb q x.page (below q x.page ne (omega arith))) ∙ sym (stop_now q)
      stop_others q (holds.Class y) ne there is = tt
      stop_others q (holds.Account y) ne there is = tt
      stop_others q (holds.Blocks y) ne there is = tt
      stop_others q (holds.Device y) ne there is = tt

      pub keeps_stops : Given stopped
      keeps_stops =
          let this : IsAged g stopped x.page (holds.Slot (marked g.clock age e)) =
          in_home ∙ sym (stop_now x.page) in
          record {
            marks = marked_push page_weight g.clock g.given.finds n (aged_at g) l.done
                (record { part = p; end = stop; got = [] }) r.marks (op_marked n last);
            counts = first_counts g (left_by stop p.nr rest) Start stopped.done refl;
            home = home_given stopped
                (subst (λ (y : ℕ × DiskHeld). IsAged g stopped y.0 y.1)
                (λ i. (sym here i, sym value i)) this)
                (λ q u ne there. stop_others q u (λ s. ne (s ∙ sym here)) there (r.home q u there));
            hand = tt;
          }
