-- The stages of a call that has its page's slot, and of one whose new page was found.
use Rattle.std.proofs.Common.{◌≡◌, ℕ, ◌≤◌, Bool, true, false, List, length, Option, Some, None, refl, sym, ap, ◌∙◌, subst, inl, inr}
use Rattle.zr_base.specs.declared.op.Op.{Op}
use Rattle.zr_base.specs.declared.op.Op.TheVariants.{Write, Read, Discard}
use Rattle.zr_base.specs.declared.op.Piece.{Piece}
use Rattle.zr_base.specs.Plain.{has_whole}
use Rattle.zr_base.specs.Sectors.{page_sector}
use Rattle.std.proofs.lemmas.Bool.{false≢true}
use Rattle.zspage.specs.Cells.{CellState}
use Rattle.class_pool.specs.Pool.{PoolState}
use Rattle.backing_dev.specs.Dev.{DeviceState}
use Rattle.lock_row.specs.declared.names.Held.TheVariants as holds
use Rattle.lock_row.specs.declared.names.At.{At}
use Rattle.lock_row.specs.declared.names.At.TheVariants as at
use Rattle.slot_entry.specs.declared.kept.Stored.{Stored}
use Rattle.slot_entry.specs.declared.kept.Kept.{Kept}
use Rattle.slot_entry.specs.declared.kept.Kept.TheVariants as kept
use Rattle.slot_entry.specs.Entries.{EntryState, IsPlain}
use Rattle.slot_entry.specs.Forms.{PageForm, Word, Pooled, form_of, form_weight, object_class}
use Rattle.page_steps.specs.Pages.{next_form, page_in_cell}
use Rattle.page_steps.specs.Steps.{DiskHeld, on, took, made_at, seen_at, discard_at, write_at, entered_at, pinned_at, fetched_at}
use Rattle.page_steps.specs.Givings.{kept_by}
use Rattle.page_steps.specs.Nexts.{entering, pinning, pin_at, pin_of, fetching, fetch_at, tail_of}
use Rattle.page_steps.specs.Fits.{HasPlace}
use Rattle.page_steps.specs.Calls.{Frame, here, IsWork, IsOwn, IsNext, IsFit, IsGoing, IsWithin, IsFresh, IsDue, IsLentOf, IsReadBy, IsAway, Asks, HasObject, KeepsRest, is_count, is_write, is_whole, form_by, bytes_by, page_if, settled_by, read_by, discard_by}
use Rattle.page_steps.specs.Turns.{IsFormed, HasEntered, HasRead, HasFetched, HasOld, Keeps, owning}
use Rattle.page_steps.specs.declared.stage.Work.{Work}
use Rattle.page_steps.specs.declared.stage.Work.TheVariants as work
use Rattle.page_steps.specs.declared.stage.Head.{Head}
use Rattle.page_steps.specs.declared.stage.Scratch.{Scratch}
use Rattle.page_steps.specs.declared.stage.Lent.{Lent}
use Rattle.page_steps.specs.declared.stage.Own.{Own}
use Rattle.page_steps.specs.declared.stage.New.{New}
use Rattle.page_steps.specs.declared.stage.Stage.{Stage}
use Rattle.page_steps.specs.declared.stage.Stage.TheVariants as stage
use Rattle.page_steps.proofs.Merges.{KeepsPiece, work_merged, merged_fresh, whole_is}
use Rattle.page_steps.proofs.Plans.{next_is}
use Rattle.page_steps.proofs.Taken.{enters}
use Rattle.page_steps.proofs.Given.{settled_here, settled_going, settled_fit}

-- ---- a new page's form

pub own_kept : (c : Head) (r r' : Scratch) (own : Own) → Keeps r r' → IsOwn c r own → IsOwn c r' own
own_kept c r r' own keeps o = record {
  piece = o.piece;
  within = o.within;
  place = o.place;
  lent = o.lent;
  seen = o.seen;
  due =
      subst (λ (y : List ℕ). IsDue c.work c.piece y (page_if r' own.read) own.entry.kept)
      (sym keeps.fresh)
      (subst (λ (y : Option (List ℕ)). IsDue c.work c.piece r.fresh y own.entry.kept)
      (page_kept own.read) o.due);
} where
  page_kept : (b : Bool) → page_if r b ≡ page_if r' b
  page_kept true = ap (λ (y : List ℕ). Some y) (sym keeps.page)
  page_kept false = refl

-- a write leaves the form of the new page
write_form : (w : Work) (fresh : List ℕ) → is_write w ≡ true → form_by w fresh ≡ form_of fresh
write_form work.Writes fresh e = refl
write_form work.Reads fresh e = absurd (false≢true e)
write_form work.Discards fresh e = absurd (false≢true e)
write_form work.Counts fresh e = absurd (false≢true e)

-- the same where the stage is told otherwise
pub formed_as : {D : Type 0} {c : Head} {own : Own} {r : Scratch} {s s' : Stage D} → s' ≡ s
    → IsFormed c own r s → IsFormed c own r s'
formed_as {D} {c} {own} {r} is formed = subst (λ (y : Stage D). IsFormed c own r y) (sym is) formed

pub formed_same : {D : Type 0} (c : Head) (r : Scratch) (own : Own) (w : ℕ) → IsOwn c r own
    → is_write c.work ≡ true → form_of r.fresh ≡ Word w
    → IsFormed {D = D} c own r (settled_by own (kept.Same w) own.entry.kept)
formed_same {D} c r own w o write is = record {
  fit = settled_fit D c r own (kept.Same w) own.entry.kept refl o (record {
    kept = ap (λ f. kept_by f None) (sym (write_form c.work r.fresh write ∙ is));
    weight = ap form_weight (sym (write_form c.work r.fresh write ∙ is));
  });
  stage = λ x. settled_here D x r own (kept.Same w) own.entry.kept o.lent
      ∙ ap (λ (f : PageForm). owning x r (made_at f own.entry.kept) own None) (sym is);
  going = settled_going D own (kept.Same w) own.entry.kept;
}

pub formed_new : {D : Type 0} (c : Head) (r : Scratch) (own : Own) (new : New) → IsOwn c r own
    → is_write c.work ≡ true → form_of r.fresh ≡ Pooled (bytes_by r new.huge) new.huge
    → new.class ≡ object_class r.table (bytes_by r new.huge) new.huge
    → length (bytes_by r new.huge) ≤ 4096 → IsFormed {D = D} c own r (stage.Wanting own new)
formed_new c r own new o write is class few = record {
  fit = (o, record { form = write_form c.work r.fresh write ∙ is; class = class; few = few });
  stage = λ x. ap (λ (f : PageForm). owning x r (made_at f own.entry.kept) own None) (sym is);
  going = tt;
}

-- ---- the slot is taken

-- a page that wasn't read
abbrev pub unread : EntryState → Own
unread e = record { entry = e; lent = None; read = false }

-- the stage of a piece with its slot, by the kind of the call
enter_by : Work → Piece → PageForm → Kept → At
enter_by work.Reads q f k = seen_at k
enter_by work.Writes q f k = write_at (is_whole q) f k
enter_by work.Discards q f k = discard_at k
enter_by work.Counts q f k = at.Start

entered_by : (w : Work) (q : Piece) (fresh : List ℕ) (op : Op) (page : ℕ) → q.page.0 ≡ page
    → Asks w q fresh op → (f : PageForm) (k : Kept) → entered_at op page f k ≡ enter_by w q f k
unfolding enter_by
entered_by work.Reads q fresh (Read start count) page at a f k = refl
entered_by work.Writes q fresh (Write start count stuff) page at a f k =
    ap (λ (n : ℕ). write_at (has_whole start count n) f k) (sym at)
    ∙ ap (λ (b : Bool). write_at b f k) (whole_is q start count a.cut)
entered_by work.Discards q fresh (Discard start count) page at a f k = refl
entered_by w q fresh op page at a f k = absurd a

enter_is : (c : Head) (r : Scratch) (x : Frame) (w : Work) → c.work ≡ w → is_count c.work ≡ false
    → IsWork c r x → (f : PageForm) (k : Kept)
    → entered_at x.part.op x.part.page f k ≡ enter_by w c.piece f k
enter_is c r x w is piece it f k =
    let of = it.call piece in
    entered_by w c.piece r.fresh x.part.op x.part.page of.page
    (subst (λ (y : Work). Asks y c.piece r.fresh x.part.op) is of.asks) f k

-- the same where the stage is told otherwise
pub entered_as : {D : Type 0} {c : Head} {r r' : Scratch} {e : EntryState} {s s' : Stage D} → s' ≡ s
    → HasEntered c r e r' s → HasEntered c r e r' s'
entered_as {D} {c} {r} {r'} {e} is entered =
    subst (λ (y : Stage D). HasEntered c r e r' y) (sym is) entered

pub entered_reads : {D : Type 0} (c : Head) (r : Scratch) (e : EntryState) → c.work ≡ work.Reads
    → is_count c.work ≡ false → IsWithin c.piece → HasPlace e
    → HasEntered {D = D} c r e r (read_by e e.kept)
unfolding enter_by
entered_reads {D} c r e is piece within place = record {
  fit = fit e.kept refl;
  stage = λ x w. stage_is x e.kept
      ∙ ap (λ a. owning x r a (unread e) None)
      (sym (enter_is c r x work.Reads is piece w (next_form x.part None e.kept) e.kept));
  going = going e.kept;
  work = λ x w. w;
  table = refl;
} where
  fit : (k : Kept) → e.kept ≡ k → IsFit {D = D} c r (read_by e k)
  fit kept.Empty k_is = (piece, place, subst IsPlain (sym k_is) tt)
  fit (kept.Same w) k_is = (piece, place, subst IsPlain (sym k_is) tt)
  fit (kept.Obj o) k_is = record { piece = piece; within = within; place = place; kept = k_is }
  fit (kept.Wb b) k_is = record { piece = piece; within = within; place = place; kept = k_is }

  stage_is : (x : Frame) (k : Kept)
      → here {D = D} x r (read_by e k) ≡ owning x r (seen_at k) (unread e) None
  stage_is x kept.Empty = refl
  stage_is x (kept.Same w) = refl
  stage_is x (kept.Obj o) = refl
  stage_is x (kept.Wb b) = refl

  going : (k : Kept) → IsGoing {D = D} (read_by e k)
  going kept.Empty = tt
  going (kept.Same w) = tt
  going (kept.Obj o) = tt
  going (kept.Wb b) = tt

discard_due : (w : Work) (q : Piece) (fresh : List ℕ) (k : Kept) → w ≡ work.Discards
    → IsDue w q fresh None k
discard_due w q fresh k is = subst (λ (y : Work). IsDue y q fresh None k) (sym is) tt

pub entered_discards : {D : Type 0} (c : Head) (r : Scratch) (e : EntryState)
    → c.work ≡ work.Discards → is_count c.work ≡ false → IsWithin c.piece → HasPlace e
    → HasEntered {D = D} c r e r (discard_by e e.kept)
unfolding enter_by
entered_discards {D} c r e is piece within place = record {
  fit = fit e.kept refl;
  stage = λ x w. stage_is x e.kept
      ∙ ap (λ a. owning x r a (unread e) None)
      (sym (enter_is c r x work.Discards is piece w (next_form x.part None e.kept) e.kept));
  going = going e.kept;
  work = λ x w. w;
  table = refl;
} where
  next : IsNext c r kept.Empty
  next = record {
    kept = ap (λ (w : Work). kept_by (form_by w r.fresh) None) (sym is);
    weight = ap (λ (w : Work). form_weight (form_by w r.fresh)) (sym is);
  }

  own : IsOwn c r (unread e)
  own = record {
    piece = piece;
    within = within;
    place = place;
    lent = tt;
    seen = tt;
    due = discard_due c.work c.piece r.fresh e.kept is;
  }

  fit : (k : Kept) → e.kept ≡ k → IsFit {D = D} c r (discard_by e k)
  fit kept.Empty k_is = record {
    piece = piece;
    place = place;
    due = discard_due c.work c.piece r.fresh e.kept is;
    next = next;
  }
  fit (kept.Same w) k_is = record {
    piece = piece;
    place = place;
    due = discard_due c.work c.piece r.fresh e.kept is;
    next = next;
  }
  fit (kept.Obj o) k_is = (own, k_is, next)
  fit (kept.Wb b) k_is = (own, k_is, next)

  stage_is : (x : Frame) (k : Kept)
      → here {D = D} x r (discard_by e k) ≡ owning x r (discard_at k) (unread e) None
  stage_is x kept.Empty = refl
  stage_is x (kept.Same w) = refl
  stage_is x (kept.Obj o) = refl
  stage_is x (kept.Wb b) = refl

  going : (k : Kept) → IsGoing {D = D} (discard_by e k)
  going kept.Empty = tt
  going (kept.Same w) = tt
  going (kept.Obj o) = tt
  going (kept.Wb b) = tt

writes_is : (w : Work) → is_write w ≡ true → w ≡ work.Writes
writes_is work.Writes e = refl
writes_is work.Reads e = absurd (false≢true e)
writes_is work.Discards e = absurd (false≢true e)
writes_is work.Counts e = absurd (false≢true e)

pub not_count : (w : Work) → is_write w ≡ true → is_count w ≡ false
not_count w e = ap is_count (writes_is w e)

-- a page of which a part is written is read first where it has an object
pub entered_seen : {D : Type 0} (c : Head) (r : Scratch) (e : EntryState) (o : Stored) → is_write c.work ≡ true
    → is_whole c.piece ≡ false → IsWithin c.piece → HasPlace e → e.kept ≡ kept.Obj o
    → HasEntered {D = D} c r e r (stage.Seen e o)
unfolding enter_by
entered_seen c r e o write part within place is =
    let piece = not_count c.work write in record {
      fit = record { piece = piece; within = within; place = place; kept = is };
      stage = λ x w. ap (λ a. owning x r a (unread e) None)
          (sym (enter_is c r x work.Writes (writes_is c.work write) piece w
          (next_form x.part None e.kept) e.kept
          ∙ ap (λ (b : Bool). write_at b (next_form x.part None e.kept) e.kept) part
          ∙ ap (λ (k : Kept). write_at false (next_form x.part None e.kept) k) is));
      going = tt;
      work = λ x w. w;
      table = refl;
    }

-- or where it is on the device
pub entered_away : {D : Type 0} (c : Head) (r : Scratch) (e : EntryState) (b : ℕ)
    → is_write c.work ≡ true → is_whole c.piece ≡ false → IsWithin c.piece → HasPlace e
    → e.kept ≡ kept.Wb b → HasEntered {D = D} c r e r (stage.Away e b)
unfolding enter_by
entered_away c r e b write part within place is =
    let piece = not_count c.work write in record {
      fit = record { piece = piece; within = within; place = place; kept = is };
      stage = λ x w. ap (λ a. owning x r a (unread e) None)
          (sym (enter_is c r x work.Writes (writes_is c.work write) piece w
          (next_form x.part None e.kept) e.kept
          ∙ ap (λ (b : Bool). write_at b (next_form x.part None e.kept) e.kept) part
          ∙ ap (λ (k : Kept). write_at false (next_form x.part None e.kept) k) is));
      going = tt;
      work = λ x w. w;
      table = refl;
    }

pub plain_is : (k : Kept) → ((o : Stored) → k ≡ kept.Obj o → ⊥) → ((b : ℕ) → k ≡ kept.Wb b → ⊥)
    → IsPlain k
plain_is kept.Empty none away = tt
plain_is (kept.Same w) none away = tt
plain_is (kept.Obj o) none away = none o refl
plain_is (kept.Wb b) none away = away b refl

-- a write's work stays where its new page is made
work_formed : (c : Head) (r m r' : Scratch) → KeepsPiece c.piece r.fresh m.fresh → m.table ≡ r.table
    → Keeps m r' → (x : Frame) → IsWork c r x → IsWork c r' x
work_formed c r m r' kept table keeps x w =
    work_merged c r r' x
    (λ k few low high. ap (λ (y : List ℕ). page_sector y k) keeps.fresh ∙ kept k few low high)
    (keeps.table ∙ table) w

-- what a write is due has its new page
write_due : (w : Work) (q : Piece) (fresh : List ℕ) (page : Option (List ℕ)) (k : Kept)
    → is_write w ≡ true → IsFresh q fresh page k → IsDue w q fresh page k
write_due w q fresh page k e f = subst (λ (y : Work). IsDue y q fresh page k) (sym (writes_is w e)) f

pub own_merged : (c : Head) (r r' : Scratch) (e : EntryState) → is_write c.work ≡ true
    → IsWithin c.piece → HasPlace e → HasOld c.piece r.page e.kept → KeepsRest c.piece r.page r'.fresh
    → length r'.fresh ≡ 4096 → IsOwn c r' (unread e)
own_merged c r r' e write within place old rest long = record {
  piece = not_count c.work write;
  within = within;
  place = place;
  lent = tt;
  seen = tt;
  due = write_due c.work c.piece r'.fresh None e.kept write
      (merged_fresh c.piece r'.fresh r.page e.kept within old rest long);
}

-- a write that has all it needs makes its new form at once
written_at : (q : Piece) (page : List ℕ) (k : Kept) → HasOld q page k → (f : PageForm)
    → write_at (is_whole q) f k ≡ made_at f k
written_at q page k (inl whole) f = ap (λ (b : Bool). write_at b f k) whole
written_at q page k (inr (is, plain)) f = by (is_whole q) k plain where
  by : (b : Bool) (k : Kept) → IsPlain k → write_at b f k ≡ made_at f k
  by true k plain = refl
  by false kept.Empty plain = refl
  by false (kept.Same w) plain = refl
  by false (kept.Obj o) plain = absurd plain
  by false (kept.Wb b) plain = absurd plain

pub entered_written : {D : Type 0} (c : Head) (r m r' : Scratch) (e : EntryState) (s : Stage D)
    → is_write c.work ≡ true → IsWithin c.piece → HasPlace e → HasOld c.piece r.page e.kept
    → KeepsPiece c.piece r.fresh m.fresh → m.table ≡ r.table
    → IsOwn c m (unread e) → Keeps m r'
    → IsFormed c (unread e) r' s → HasEntered c r e r' s
unfolding enter_by
entered_written c r m r' e s write within place old kept table own keeps formed =
    let piece = not_count c.work write in
    let own' = own_kept c m r' (unread e) keeps own in record {
      fit = formed.fit;
      stage = λ x w. formed.stage x
          ∙ ap (λ a. owning x r' a (unread e) None)
          (ap (λ f. made_at f e.kept) (sym (next_is c r' x (work_formed c r m r' kept table keeps x w) piece None
          e.kept own'.due
          ∙ write_form c.work r'.fresh write))
          ∙ sym (enter_is c r x work.Writes (writes_is c.work write) piece w
          (next_form x.part None e.kept) e.kept
          ∙ written_at c.piece r.page e.kept old (next_form x.part None e.kept)));
      going = formed.going;
      work = work_formed c r m r' kept table keeps;
      table = keeps.table ∙ table;
    }

-- the local of a piece that has taken its slot
pub started_here : {D : Type 0} (c : Head) (r r' : Scratch) (e : EntryState) (s : Stage D)
    (v : DiskHeld) → is_count c.work ≡ false → v ≡ holds.Slot e → HasEntered c r e r' s → (x : Frame) → IsWork c r x
    → here x r' s ≡ took x.terms (here {D = D} x r stage.Start) v
started_here {D} c r r' e s v piece is entered x w =
    entered.stage x w
    ∙ ap (entering (here {D = D} x r stage.Start)) (sym is)
    ∙ enters c r piece x v w

-- ---- the page was read

-- a page that was read, from a cell that is lent or from the device
abbrev seen_own : EntryState → Option Lent → Own
seen_own e lent = record { entry = e; lent = lent; read = true }

read_at : (w : Work) (q : Piece) (fresh : List ℕ) (op : Op) → is_write w ≡ false → Asks w q fresh op
    → (f : PageForm) (k : Kept) → (pinned_at op f k ≡ at.Pinned) × (fetched_at op f k ≡ at.Leaving)
read_at work.Reads q fresh (Read start count) e a f k = (refl, refl)
read_at work.Writes q fresh (Write start count stuff) e a f k = absurd (false≢true (sym e))
read_at work.Discards q fresh (Discard start count) e a f k = (refl, refl)
read_at w q fresh op e a f k = absurd a

write_made : (w : Work) (q : Piece) (fresh : List ℕ) (op : Op) → is_write w ≡ true → Asks w q fresh op
    → (f : PageForm) (k : Kept) → (pinned_at op f k ≡ made_at f k) × (fetched_at op f k ≡ made_at f k)
write_made work.Writes q fresh (Write start count stuff) e a f k = (refl, refl)
write_made work.Reads q fresh (Read start count) e a f k = absurd (false≢true e)
write_made work.Discards q fresh (Discard start count) e a f k = absurd (false≢true e)
write_made w q fresh op e a f k = absurd a

-- a read unpins the object next
pub read_pinned : {D : Type 0} (c : Head) (r : Scratch) (e : EntryState) (y : Lent)
    → is_write c.work ≡ false → HasObject c e y.object
    → HasRead {D = D} c r e y r (stage.Pinned e y None)
read_pinned c r e y write has = record {
  fit = (has, tt);
  stage = λ x w. ap (λ a. owning x r a (seen_own e (Some y)) None)
      (sym (read_at c.work c.piece r.fresh x.part.op write (w.call has.piece).asks
      (next_form x.part (Some r.page) e.kept) e.kept).0);
  going = tt;
  work = λ x w. w;
  table = refl;
  page = refl;
}

-- a read of the device gives its slot next
pub read_fetched : {D : Type 0} (c : Head) (r : Scratch) (e : EntryState) (b : ℕ)
    → is_write c.work ≡ false → IsAway c e b → HasFetched {D = D} c r e r (stage.Leaving e)
read_fetched c r e b write has = record {
  fit = (has.piece, has.place);
  stage = λ x w. ap (λ a. owning x r a (seen_own e None) None)
      (sym (read_at c.work c.piece r.fresh x.part.op write (w.call has.piece).asks
      (next_form x.part (Some r.page) e.kept) e.kept).1);
  going = tt;
  work = λ x w. w;
  table = refl;
  page = refl;
}

pub own_seen : (c : Head) (r m : Scratch) (e : EntryState) (lent : Option Lent)
    → is_write c.work ≡ true → IsWithin c.piece → HasPlace e → IsLentOf lent e.kept
    → m.page ≡ r.page → KeepsRest c.piece r.page m.fresh → length m.fresh ≡ 4096
    → IsOwn c m (seen_own e lent)
own_seen c r m e lent write within place of page rest long = record {
  piece = not_count c.work write;
  within = within;
  place = place;
  lent = of;
  seen = seen lent;
  due = write_due c.work c.piece m.fresh (Some m.page) e.kept write
      (record {
        long = long;
        merged = subst (λ (p : List ℕ). KeepsRest c.piece p m.fresh) (sym page) rest;
      });
} where
  seen : (lent : Option Lent) → IsReadBy true lent
  seen None = tt
  seen (Some y) = refl

-- a write that has read its page makes its new form
seen_formed : {D : Type 0} (c : Head) (r m r' : Scratch) (e : EntryState) (lent : Option Lent)
    (s : Stage D) → is_write c.work ≡ true → m.page ≡ r.page → IsOwn c m (seen_own e lent)
    → Keeps m r' → IsFormed c (seen_own e lent) r' s → (x : Frame) → IsWork c r' x
    → here x r' s
    ≡ owning x r' (made_at (next_form x.part (Some r.page) e.kept) e.kept) (seen_own e lent) None
seen_formed c r m r' e lent s write page own keeps formed x w =
    let own' = own_kept c m r' (seen_own e lent) keeps own in
    formed.stage x
    ∙ ap (λ a. owning x r' a (seen_own e lent) None)
    (ap (λ f. made_at f e.kept) (sym (next_is c r' x w (not_count c.work write) (Some r'.page) e.kept
    own'.due ∙ write_form c.work r'.fresh write))
    ∙ ap (λ (p : List ℕ). made_at (next_form x.part (Some p) e.kept) e.kept) (keeps.page ∙ page))

pub read_written : {D : Type 0} (c : Head) (r m r' : Scratch) (e : EntryState) (y : Lent)
    (s : Stage D) → is_write c.work ≡ true → KeepsPiece c.piece r.fresh m.fresh
    → m.table ≡ r.table → m.page ≡ r.page → IsOwn c m (seen_own e (Some y)) → Keeps m r'
    → IsFormed c (seen_own e (Some y)) r' s → HasRead c r e y r' s
read_written c r m r' e y s write kept table page own keeps formed = record {
  fit = formed.fit;
  stage = λ x w.
      seen_formed c r m r' e (Some y) s write page own keeps formed x
      (work_formed c r m r' kept table keeps x w)
      ∙ ap (λ a. owning x r' a (seen_own e (Some y)) None)
      (sym (write_made c.work c.piece r.fresh x.part.op write (w.call own.piece).asks
      (next_form x.part (Some r.page) e.kept) e.kept).0);
  going = formed.going;
  work = work_formed c r m r' kept table keeps;
  table = keeps.table ∙ table;
  page = keeps.page ∙ page;
}

pub fetched_written : {D : Type 0} (c : Head) (r m r' : Scratch) (e : EntryState) (s : Stage D)
    → is_write c.work ≡ true → KeepsPiece c.piece r.fresh m.fresh → m.table ≡ r.table
    → m.page ≡ r.page → IsOwn c m (seen_own e None) → Keeps m r'
    → IsFormed c (seen_own e None) r' s → HasFetched c r e r' s
fetched_written c r m r' e s write kept table page own keeps formed = record {
  fit = formed.fit;
  stage = λ x w.
      seen_formed c r m r' e None s write page own keeps formed x
      (work_formed c r m r' kept table keeps x w)
      ∙ ap (λ a. owning x r' a (seen_own e None) None)
      (sym (write_made c.work c.piece r.fresh x.part.op write (w.call own.piece).asks
      (next_form x.part (Some r.page) e.kept) e.kept).1);
  going = formed.going;
  work = work_formed c r m r' kept table keeps;
  table = keeps.table ∙ table;
  page = keeps.page ∙ page;
}

-- the local of a piece that has read its page from a cell
pub pinned_here : {D : Type 0} (c : Head) (r m r' : Scratch) (e : EntryState) (o : Stored)
    (cell : CellState) (q : PoolState) (s : Stage D) (v : DiskHeld) → m.page ≡ page_in_cell o cell
    → HasRead c m e (record { object = o; cell = cell }) r' s → (x : Frame) → IsWork c m x
    → pinning o cell (here {D = D} x r (stage.Pinning e o q)) v ≡ here x r' s
pinned_here {D} c r m r' e o cell q s v is read x w =
    (let near = sym is in
    let far = sym (read.page ∙ is) in
    let l = here {D = D} x r (stage.Pinning e o q) in
    λ i. on l (pin_at l.todo (near i) e.kept) (tail_of l.held) None (Some (pin_of o cell)) 0 None None
    (Some (far i)) None)
    ∙ sym (read.stage x w)

-- the local of a piece that has read its page from the device
pub fetched_here : {D : Type 0} (c : Head) (r m r' : Scratch) (e : EntryState) (b : ℕ)
    (d : DeviceState) (s : Stage D) (v : DiskHeld) → HasFetched c m e r' s → (x : Frame)
    → IsWork c m x → fetching m.page (here {D = D} x r (stage.Fetching e b d)) v ≡ here x r' s
fetched_here {D} c r m r' e b d s v read x w =
    (let far = sym read.page in
    let l = here {D = D} x r (stage.Fetching e b d) in
    λ i. on l (fetch_at l.todo m.page e.kept) (tail_of l.held) None None 0 None None (Some (far i)) None)
    ∙ sym (read.stage x w)
