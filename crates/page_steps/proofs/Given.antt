-- Which local a giving may name, and that it is the one of the stage that follows.
use Rattle.std.proofs.Common.{◌≡◌, ℕ, Bool, false, List, length, Option, Some, None, refl, sym, ap, ◌∙◌, subst, inr}
use Rattle.zspage.specs.Cells.{CellState}
use Rattle.class_pool.specs.Pool.{PoolState, PoolHasRoom}
use Rattle.mem_account.specs.Counters.{AnswersCharge, Counters, charged, counted, IsWithinLimit}
use Rattle.mem_account.specs.declared.account.Charge.TheVariants as charge
use Rattle.mem_account.specs.declared.weight.Weight.{Weight}
use Rattle.mem_account.specs.declared.weight.Delta.TheVariants as delta
use Rattle.call_history.specs.declared.part.PartEnd.TheVariants as over
use Rattle.call_history.specs.Shows.{got_from, tag_by}
use Rattle.lock_row.specs.declared.names.Held.TheVariants as holds
use Rattle.lock_row.specs.declared.names.At.TheVariants as at
use Rattle.slot_entry.specs.declared.kept.Stored.{Stored}
use Rattle.slot_entry.specs.declared.kept.Kept.{Kept}
use Rattle.slot_entry.specs.declared.kept.Kept.TheVariants as kept
use Rattle.slot_entry.specs.Entries.{EntryState, IsPlain, plain_page, weight_of}
use Rattle.slot_entry.specs.Forms.{PageForm, form_weight, object_class, class_in}
use Rattle.page_steps.specs.Pages.{next_form}
use Rattle.page_steps.specs.Pools.{IsNeed, Adds, Lends, Returns, DropsPinned}
use Rattle.page_steps.specs.Steps.{DiskHeld, piece_over, settle_at}
use Rattle.page_steps.specs.Givings.{Notes, kept_by, old_weight, settled, refuses, pins, unpins, charges, limits, starves, stows, quits, frees, repays, puts, reads, fails}
use Rattle.page_steps.specs.Compactions.{repaid}
use Rattle.page_steps.specs.Nexts.{refusing, pinning, unpinning, charging, denying, stowing, quitting, freeing, repaying, putting, reading, failing, emptied}
use Rattle.page_steps.specs.Calls.{Frame, here, IsWithin, IsPlaced, IsCallOf, IsOwn, IsNew, IsNext, IsToPut, IsFit, IsGoing, IsDue, IsLentOf, IsReadBy, IsRefusal, AreRefusals, HasObject, is_count, form_by, bytes_by, object_of, page_if, pin_by, end_of, tells_by, settled_by, quit_by, unpinned_by}
use Rattle.page_steps.specs.Turns.{GivesAs, after, owning}
use Rattle.zr_base.specs.declared.op.Piece.{Piece}
use Rattle.page_steps.specs.declared.stage.Work.{Work}
use Rattle.page_steps.specs.declared.stage.Work.TheVariants as work
use Rattle.page_steps.specs.declared.stage.Head.{Head}
use Rattle.page_steps.specs.declared.stage.Scratch.{Scratch}
use Rattle.page_steps.specs.declared.stage.Lent.{Lent}
use Rattle.page_steps.specs.declared.stage.Own.{Own}
use Rattle.page_steps.specs.declared.stage.New.{New}
use Rattle.page_steps.specs.declared.stage.Due.{Due}
use Rattle.page_steps.specs.declared.stage.Outcome.TheVariants as outcome
use Rattle.page_steps.specs.declared.stage.PieceEnd.{PieceEnd}
use Rattle.page_steps.specs.declared.stage.PieceEnd.TheVariants as piece
use Rattle.page_steps.specs.declared.stage.Stage.TheVariants as stage
use Rattle.page_steps.specs.declared.stage.Progress.TheVariants as progress
use Rattle.page_steps.proofs.Merges.{fresh_emptied}
use Rattle.page_steps.proofs.Plans.{AnyDevice, next_is, told_is}
use Rattle.page_steps.proofs.Pooled.{need_is}

-- ---- pieces that leave their page

pub can_refuse : (c : Head) (r : Scratch) (a b : Counters) → b ≡ counted a delta.InvalidIo
    → GivesAs {D = AnyDevice} c r (stage.Refusing a) refusing (holds.Account b)
can_refuse c r a b is x w =
    refuses x.part x.rest a refl refl refl (ap (λ y. holds.Account y) is) refl

pub notes_as : (c : Head) (r : Scratch) (x : Frame) (e f : EntryState) (k : Kept) → IsCallOf c r x
    → Notes c.now e f k c.tag → Notes x.terms.clock e f k (tag_by x.actor x.part)
notes_as c r x e f k of notes =
    subst (λ (now : ℕ). Notes now e f k (tag_by x.actor x.part)) of.clock
    (subst (λ t. Notes c.now e f k t) of.tag notes)

pub can_leave : (c : Head) (r : Scratch) (e f : EntryState) → is_count c.work ≡ false
    → Notes c.now e f e.kept c.tag → GivesAs {D = AnyDevice} c r (stage.Leaving e) reading (holds.Slot f)
can_leave c r e f piece notes x w =
    reads x.part x.rest e f refl refl refl refl (notes_as c r x e f e.kept (w.call piece) notes) refl refl

pub can_leave_plain : (c : Head) (r : Scratch) (e f : EntryState) → is_count c.work ≡ false
    → Notes c.now e f e.kept c.tag → GivesAs {D = AnyDevice} c r (stage.Plain e) reading (holds.Slot f)
can_leave_plain c r e f piece notes x w =
    reads x.part x.rest e f refl refl refl refl (notes_as c r x e f e.kept (w.call piece) notes) refl refl

pub left_plain : (x : Frame) (r r' : Scratch) (e : EntryState) (v : DiskHeld) (at : ℕ)
    → r'.page ≡ plain_page e.kept
    → reading (here {D = AnyDevice} x r (stage.Plain e)) v
    ≡ after {D = AnyDevice} x (here {D = AnyDevice} x r (stage.Plain e)) r' stage.Over (progress.Done (piece.Read at))
left_plain x r r' e v at is =
    ap (λ (page : List ℕ). piece_over (here {D = AnyDevice} x r (stage.Plain e)) x.part over.Carried
    (got_from page x.part) x.rest) (sym is)

pub can_fail : (c : Head) (r : Scratch) (e : EntryState) (read : Bool) (end : PieceEnd)
    → GivesAs {D = AnyDevice} c r (stage.Refused e read end) failing (holds.Slot e)
can_fail c r e read end x w =
    fails x.part x.rest e (end_of end) refl refl refl refl refl refl

pub failed : (x : Frame) (r : Scratch) (e : EntryState) (read : Bool) (end : PieceEnd) (v : DiskHeld)
    → IsRefusal end
    → failing (here {D = AnyDevice} x r (stage.Refused e read end)) v
    ≡ after {D = AnyDevice} x (here {D = AnyDevice} x r (stage.Refused e read end)) r stage.Over (progress.Done end)
failed x r e read (piece.AtLimit pages need limit) v is = refl
failed x r e read piece.NoMemory v is = refl
failed x r e read end v is = absurd is

-- ---- pins

pub can_pin : (c : Head) (r : Scratch) (e : EntryState) (o : Stored) (q q' : PoolState)
    (cell : CellState) → e.kept ≡ kept.Obj o → Lends q q' o.handle.0 cell
    → GivesAs {D = AnyDevice} c r (stage.Pinning e o q) (pinning o cell) (holds.Class q')
can_pin c r e o q q' cell is lends x w =
    pins x.part x.rest e o q q' cell refl refl refl is lends refl refl

pub can_unpin : (c : Head) (r : Scratch) (e : EntryState) (y : Lent) (end : Option PieceEnd)
    (q q' : PoolState) → e.kept ≡ kept.Obj y.object → Returns q q' y.object.handle.0
    → GivesAs {D = AnyDevice} c r (stage.Unpinning e y end q) unpinning (holds.Class q')
can_unpin c r e y end q q' is returns x w =
    unpins x.part x.rest e y.object q q' refl refl refl is returns refl refl

pub unpinned_here : (D : Type 0) (x : Frame) (r : Scratch) (e : EntryState) (y : Lent) (end : Option PieceEnd)
    (q : PoolState) (v : DiskHeld)
    → unpinning (here {D = D} x r (stage.Unpinning e y end q)) v ≡ here {D = D} x r (unpinned_by e end)
unpinned_here D x r e y None q v = refl
unpinned_here D x r e y (Some end) q v = refl

pub unpinned_fit : (D : Type 0) (c : Head) (r : Scratch) (e : EntryState) (y : Lent)
    (end : Option PieceEnd) → HasObject c e y.object → AreRefusals end
    → IsFit {D = D} c r (unpinned_by e end)
unpinned_fit D c r e y None has ends = (has.piece, has.place)
unpinned_fit D c r e y (Some end) has ends = (has.piece, ends)

pub unpinned_going : (D : Type 0) (e : EntryState) (end : Option PieceEnd)
    → IsGoing {D = D} (unpinned_by e end)
unpinned_going D e None = tt
unpinned_going D e (Some end) = tt

-- ---- new objects

pub can_limit : (c : Head) (r : Scratch) (own : Own) (new : New) (q : PoolState) (a : Counters)
    (m pages need limit : ℕ) → IsNeed q m → AnswersCharge a m (charge.AtLimit pages need limit)
    → GivesAs {D = AnyDevice} c r (stage.Both own new q a) (denying (end_of (piece.AtLimit pages need limit)))
    (holds.Account (counted a delta.FailedWrite))
can_limit c r own new q a m pages need limit is (past, pages_is, need_is, limit_is) x w =
    limits x.part x.rest own.entry a q new.class m refl refl refl is past refl
    (λ i. denying (over.AtLimit (pages_is i) (need_is i) (limit_is i))
    (here {D = AnyDevice} x r (stage.Both own new q a)) (holds.Account (counted a delta.FailedWrite)))

pub can_starve : (c : Head) (r : Scratch) (own : Own) (new : New) (q : PoolState) (a : Counters)
    (m : ℕ) → (PoolHasRoom q → ⊥) → IsNeed q m → IsWithinLimit a m
    → GivesAs {D = AnyDevice} c r (stage.Both own new q a) (denying (end_of piece.NoMemory))
    (holds.Account (counted a delta.FailedWrite))
can_starve c r own new q a m full is within x w =
    starves x.part x.rest own.entry a q new.class refl refl refl full
    (subst (IsWithinLimit a) (need_is q m q.chain is (inr (full, refl))) within) refl refl

pub can_charge : (c : Head) (r : Scratch) (own : Own) (new : New) (q q' : PoolState)
    (a b : Counters) (handle m n : ℕ) (bytes : List ℕ) → IsOwn c r own → IsNew c r new
    → bytes ≡ bytes_by r new.huge → IsNeed q m → IsWithinLimit a m → b ≡ charged a m
    → IsNeed q n → Adds q q' handle bytes n
    → GivesAs {D = AnyDevice} c r (stage.Both own new q a)
    (charging new.class handle (bytes_by r new.huge) q') (holds.Account b)
can_charge c r own new q q' a b handle m n bytes o new_is same is within paid is' adds x w =
    let k = need_is q n m is' is in
    charges x.part x.rest own.entry a q q' new.class handle m (bytes_by r new.huge) new.huge
    refl refl refl
    (next_is c r x w o.piece (page_if r own.read) own.entry.kept o.due ∙ new_is.form)
    (new_is.class ∙ ap (λ chain. object_class chain (bytes_by r new.huge) new.huge) w.chain)
    within
    (subst (λ (y : List ℕ). Adds q q' handle y m) same
    (subst (λ (y : ℕ). Adds q q' handle bytes y) k adds))
    (ap (λ y. holds.Account y) paid) refl

-- the form to put has the new object
pub made_next : (c : Head) (r : Scratch) (new : New) (handle : ℕ) (bytes : List ℕ) → IsNew c r new
    → bytes ≡ bytes_by r new.huge
    → IsNext c r (kept.Obj (record {
      class = new.class;
      handle = record { 0 = handle };
      len = length bytes;
      huge = new.huge;
    }))
made_next c r new handle bytes is same = record {
  kept =
      ap (λ (y : List ℕ). kept.Obj (record {
        class = new.class;
        handle = record { 0 = handle };
        len = length y;
        huge = new.huge;
      })) same
      ∙ ap (λ (f : PageForm). kept_by f (object_of r (kept.Obj (record {
        class = new.class;
        handle = record { 0 = handle };
        len = length bytes;
        huge = new.huge;
      })))) (sym is.form);
  weight =
      ap (λ (y : List ℕ). weight_of (kept.Obj (record {
        class = new.class;
        handle = record { 0 = handle };
        len = length y;
        huge = new.huge;
      }))) same
      ∙ ap form_weight (sym is.form);
}

pub can_stow : (c : Head) (r : Scratch) (own : Own) (class : ℕ) (q : PoolState) (o : Stored)
    → GivesAs {D = AnyDevice} c r (stage.Made own class q (outcome.Object o)) stowing (holds.Class q)
can_stow c r own class q o x w =
    stows x.part x.rest own.entry q class refl refl refl refl refl refl

pub can_quit : (c : Head) (r : Scratch) (own : Own) (class : ℕ) (q : PoolState) (end : PieceEnd)
    → GivesAs {D = AnyDevice} c r (stage.Made own class q (outcome.Refused end)) quitting (holds.Class q)
can_quit c r own class q end x w =
    quits x.part x.rest own.entry q class (end_of end) refl refl refl refl refl refl

-- a page whose cell is lent was read
pub quitted_here : (D : Type 0) (x : Frame) (r : Scratch) (e : EntryState) (read : Bool)
    (lent : Option Lent) (class : ℕ) (q : PoolState) (end : PieceEnd) (v : DiskHeld)
    → IsReadBy read lent
    → quitting (here {D = D} x r (stage.Made (record { entry = e; lent = lent; read = read }) class q
    (outcome.Refused end))) v
    ≡ here {D = D} x r (quit_by e read end lent)
quitted_here D x r e read None class q end v seen = refl
quitted_here D x r e read (Some y) class q end v seen =
    ap (λ (b : Bool). quitting (here {D = D} x r (stage.Made
    (record { entry = e; lent = Some y; read = b }) class q (outcome.Refused end))) v) seen

pub quitted_fit : (D : Type 0) (c : Head) (r : Scratch) (e : EntryState) (read : Bool)
    (lent : Option Lent) (end : PieceEnd) → IsOwn c r (record { entry = e; lent = lent; read = read })
    → IsRefusal end → IsFit {D = D} c r (quit_by e read end lent)
quitted_fit D c r e read None end own is = (own.piece, is)
quitted_fit D c r e read (Some y) end own is =
    (record { piece = own.piece; within = own.within; place = own.place; kept = own.lent }, is)

pub quitted_going : (D : Type 0) (e : EntryState) (read : Bool) (lent : Option Lent) (end : PieceEnd)
    → IsGoing {D = D} (quit_by e read end lent)
quitted_going D e read None end = tt
quitted_going D e read (Some y) end = tt

-- ---- what stands is given up

-- a cell is lent of a page that has an object alone
no_cell : (lent : Option Lent) (k : Kept) → ((o : Stored) → k ≡ kept.Obj o → ⊥) → IsLentOf lent k
    → lent ≡ None
no_cell None k none is = refl
no_cell (Some y) k none is = absurd (none y.object is)

pub settled_here : (D : Type 0) (x : Frame) (r : Scratch) (own : Own) (next k : Kept)
    → IsLentOf own.lent k
    → here {D = D} x r (settled_by own next k) ≡ owning x r (settle_at k) own (object_of r next)
settled_here D x r own next (kept.Obj o) is = refl
settled_here D x r own next (kept.Wb b) is = refl
settled_here D x r own next kept.Empty is =
    ap (λ y. owning x r at.Owing (record { entry = own.entry; lent = y; read = own.read })
    (object_of r next)) (sym (no_cell own.lent kept.Empty (λ o e. cc) is))
settled_here D x r own next (kept.Same u) is =
    ap (λ y. owning x r at.Owing (record { entry = own.entry; lent = y; read = own.read })
    (object_of r next)) (sym (no_cell own.lent (kept.Same u) (λ o e. cc) is))

pub settled_going : (D : Type 0) (own : Own) (next k : Kept) → IsGoing {D = D} (settled_by own next k)
settled_going D own next kept.Empty = tt
settled_going D own next (kept.Same u) = tt
settled_going D own next (kept.Obj o) = tt
settled_going D own next (kept.Wb b) = tt

-- what is to be put of a page
put_fit : (c : Head) (r : Scratch) (own : Own) (next : Kept) → IsOwn c r own → IsNext c r next
    → IsToPut c r (record { entry = own.entry; read = own.read; next = next })
put_fit c r own next fit n =
    record { piece = fit.piece; place = fit.place; due = fit.due; next = n }

pub settled_fit : (D : Type 0) (c : Head) (r : Scratch) (own : Own) (next k : Kept)
    → own.entry.kept ≡ k → IsOwn c r own → IsNext c r next → IsFit {D = D} c r (settled_by own next k)
settled_fit D c r own next (kept.Obj o) is fit n = (fit, is, n)
settled_fit D c r own next (kept.Wb b) is fit n = (fit, is, n)
settled_fit D c r own next kept.Empty is fit n = put_fit c r own next fit n
settled_fit D c r own next (kept.Same u) is fit n = put_fit c r own next fit n

-- ---- what stands is given up, and the account told

pub can_free : (c : Head) (r : Scratch) (own : Own) (o : Stored) (next : Kept) (q q' : PoolState)
    (frames : ℕ) → own.entry.kept ≡ kept.Obj o
    → DropsPinned (pin_by own.lent) q q' o.handle.0 frames
    → GivesAs {D = AnyDevice} c r (stage.Freeing own o next q) (freeing frames) (holds.Class q')
can_free c r own o next q q' frames is drops x w =
    frees x.part x.rest own.entry o q q' frames refl refl refl is drops refl refl

pub freed_here : (x : Frame) (r : Scratch) (own : Own) (o : Stored) (next : Kept)
    (q : PoolState) (frames : ℕ) (f : EntryState) (before : Weight) (v : DiskHeld)
    → f ≡ emptied own.entry → before ≡ weight_of own.entry.kept
    → freeing frames (here {D = AnyDevice} x r (stage.Freeing own o next q)) v
    ≡ here {D = AnyDevice} x r (stage.Owing (record { entry = f; read = own.read; next = next }) frames
    (Some before))
freed_here x r own o next q frames f before v is weighs =
    λ i. here {D = AnyDevice} x r (stage.Owing (record { entry = sym is i; read = own.read; next = next })
    frames (Some (sym weighs i)))

due_emptied : (w : Work) (p : Piece) (fresh : List ℕ) (page : Option (List ℕ)) (k : Kept)
    → IsWithin p → (IsPlain k → ⊥) → IsDue w p fresh page k → IsDue w p fresh page kept.Empty
due_emptied work.Writes p fresh page k few other due = fresh_emptied p fresh page k few other due
due_emptied w p fresh page k few other due = tt

-- what is to be put of a page whose object or block is given up
pub freed_fit : (c : Head) (r : Scratch) (own : Own) (next : Kept) (f : EntryState)
    → (IsPlain own.entry.kept → ⊥) → IsOwn c r own → IsNext c r next → f ≡ emptied own.entry
    → IsToPut c r (record { entry = f; read = own.read; next = next })
freed_fit c r own next f other fit n is =
    subst (λ (e : EntryState). IsToPut c r (record { entry = e; read = own.read; next = next })) (sym is)
    (record {
      piece = fit.piece;
      place = record { room = fit.place.room; few = fit.place.few };
      due = due_emptied c.work c.piece r.fresh (page_if r own.read) own.entry.kept fit.within other
          fit.due;
      next = n;
    })

pub can_repay : (c : Head) (r : Scratch) (due : Due) (frames : ℕ) (ahead : Option Weight)
    (a b : Counters) (weight : Weight) → IsToPut c r due
    → b ≡ tells_by c.work (counted (repaid a frames)
    (delta.Kept (old_weight ahead due.entry.kept) (weight_of due.next)))
    → weight ≡ weight_of due.next
    → GivesAs {D = AnyDevice} c r (stage.Giving due frames ahead a) (repaying weight) (holds.Account b)
can_repay c r due frames ahead a b weight put is weight_is x w =
    let n : weight_of due.next ≡ form_weight (next_form x.part (page_if r due.read) due.entry.kept)
    = put.next.weight
    ∙ ap form_weight
    (sym (next_is c r x w put.piece (page_if r due.read) due.entry.kept put.due)) in
    repays x.part x.rest due.entry a refl refl refl
    (ap (λ y. holds.Account y) (is
    ∙ told_is c r x (w.call put.piece) (counted (repaid a frames)
    (delta.Kept (old_weight ahead due.entry.kept) (weight_of due.next))))
    ∙ ap (λ y. holds.Account (settled x.part.op frames (old_weight ahead due.entry.kept) y a)) n)
    (ap (λ y. repaying y (here {D = AnyDevice} x r (stage.Giving due frames ahead a)) (holds.Account b))
    (weight_is ∙ n))

-- the account once frames are given back and the page is counted
pub repaid_is : (a b : Counters) (frames : ℕ) (old new was is : Weight) → b ≡ repaid a frames
    → was ≡ old → is ≡ new
    → counted b (delta.Kept was is) ≡ counted (repaid a frames) (delta.Kept old new)
repaid_is a b frames old new was is e f g = λ i. counted (e i) (delta.Kept (f i) (g i))

pub repaid_here : (x : Frame) (r : Scratch) (due : Due) (frames : ℕ) (ahead : Option Weight)
    (a : Counters) (is shown : Weight) (v : DiskHeld) → shown ≡ weight_of due.entry.kept
    → repaying is (here {D = AnyDevice} x r (stage.Giving due frames ahead a)) v
    ≡ here {D = AnyDevice} x r (stage.Ready due (Some is) (Some shown))
repaid_here x r due frames ahead a is shown v e =
    ap (λ y. here {D = AnyDevice} x r (stage.Ready due (Some is) (Some y))) (sym e)

pub can_put : (c : Head) (r : Scratch) (due : Due) (ahead behind : Option Weight) (f : EntryState)
    → IsToPut c r due → Notes c.now due.entry f due.next c.tag
    → GivesAs {D = AnyDevice} c r (stage.Ready due ahead behind) putting (holds.Slot f)
can_put c r due ahead behind f put notes x w =
    puts x.part x.rest due.entry f refl refl refl
    (subst (λ k. Notes x.terms.clock due.entry f k (tag_by x.actor x.part))
    (put.next.kept
    ∙ ap (λ y. kept_by y (object_of r due.next))
    (sym (next_is c r x w put.piece (page_if r due.read) due.entry.kept put.due)))
    (notes_as c r x due.entry f due.next (w.call put.piece) notes)) refl refl

-- ---- what a call goes on with

-- a refusal ends a piece without a tag
pub refusal_moves : (end : PieceEnd) (n : ℕ) → IsRefusal end → IsPlaced end n
refusal_moves (piece.AtLimit pages need limit) n is = tt
refusal_moves piece.NoMemory n is = tt
refusal_moves end n is = absurd is

-- the class of the new object is that of its form
pub new_class_is : (c : Head) (r : Scratch) (new : New) → IsNew c r new
    → class_in r.table (form_by c.work r.fresh) ≡ new.class
new_class_is c r new is = ap (class_in r.table) is.form ∙ sym is.class
