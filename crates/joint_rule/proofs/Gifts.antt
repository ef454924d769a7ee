-- What each giving does, whatever else there is.
use Rattle.joint_rule.proofs.Trips.{NoTrip, Storage, noted_marks, quiet_storage, same_marks, still_storage}
use Rattle.std.proofs.Common.{◌≡◌, ◌+◌, ◌≤◌, ◌<◌, ◌∷◌, ◌++◌, ◌∙◌, ◌⊎◌, ℕ, zero, suc, true, false, List, [], map, Option, Some, None, option_and_then, slice_get, refl, sym, ap, subst, arith, inl, inr, Bool, length, length-append, is_some}
use Rattle.call_history.specs.Parts.{EndsSo, Follows, left_by, program}
use Rattle.call_history.specs.Shows.{got_from, tag_by}
use Rattle.call_history.specs.declared.part.Part.{Part}
use Rattle.call_history.specs.declared.part.PartEnd.{PartEnd}
use Rattle.call_history.specs.declared.part.PartEnd.TheVariants.{AtLimit, Carried, Eio, NoMemory, Whole}
use Rattle.joint_rule.proofs.Balances.{invalid_count, invalid_fixed, none_fresh, put_claim, put_form, put_plain, put_weight}
use Rattle.joint_rule.proofs.Blocks.{Balanced, apart, entry_back, no_block, no_lies, MarksLess}
use Rattle.joint_rule.proofs.Facts.{Known}
use Rattle.joint_rule.proofs.Lookups.{none_weight, nothing_shown, sound}
use Rattle.joint_rule.proofs.Pages.{back_change, back_read, content_read, ever_up, form_next, form_read, next_light, content_page, LeavesSo}
use Rattle.joint_rule.proofs.Stages.{on_disk}
use Rattle.joint_rule.specs.Begins.{AreCarried, Begin, HasEvent, back_at, content, ever, form_at, ground_of, image}
use Rattle.joint_rule.specs.Joint.{AtHome, EntryFits, IsActor, Joint, Sound}
use Rattle.joint_rule.specs.Rule.{owed}
use Rattle.joint_rule.specs.Stages.{Changes, FailBy, GoneBy, IsForm, IsRight, IsSmall, Looks, NoObj, NoneOf, Stage, StageBy, locks_at, locks_by, MaySeeOther, IsBack, HasMarks}
use Rattle.joint_rule.specs.Weights.{Count, Fixed, HeldAll, Limit, PackedBytes, PinWeigh, Weigh, ahead, at_place, behind, block_by, chains, claim_by, claims, counters, each_one, ever_at, fixed, fresh_claim, lies_by, measure, mosts, none, nothing, object_weight, one, outs, owing, pages, pinned, shown, some_of, stored}
use Rattle.lock_row.specs.Totals.{by_option, held_sum, mass}
use Rattle.lock_row.specs.declared.names.At.{At}
use Rattle.lock_row.specs.declared.names.At.TheVariants.{Leaving, Ready, Refusing, Start}
use Rattle.lock_row.specs.declared.names.LockNo.{LockNo}
use Rattle.lock_row.specs.declared.names.Object.{Object}
use Rattle.lock_row.specs.declared.names.Pin.{Pin}
use Rattle.lock_row.specs.declared.names.State.{State}
use Rattle.mem_account.specs.Counters.{Counters, IsWithinLimit, charged, counted}
use Rattle.mem_account.specs.declared.weight.Weight.{Weight}
use Rattle.page_steps.specs.Givings.{Notes, kept_by, old_weight}
use Rattle.page_steps.specs.Pages.{new_class, next_form, page_in}
use Rattle.page_steps.specs.Steps.{DiskHeld, Here, class_by, entry_in, on, piece_over, slot, spot}
use Rattle.plain_disk.specs.Ends.{is_single}
use Rattle.plain_disk.specs.Phases.{begun, touched_by}
use Rattle.slot_entry.specs.Entries.{EntryState, weight_of, is_wb}
use Rattle.slot_entry.specs.Forms.{PageForm, bytes_in, class_in, form_weight}
use Rattle.slot_entry.specs.declared.kept.Kept.{Kept}
use Rattle.std.proofs.lemmas.Bool.{cases_Bool}
use Rattle.zr_base.specs.Plain.{has_event, is_beyond, is_maintenance, named}
use Rattle.zr_base.specs.declared.op.Op.{Op}
use Rattle.zr_base.specs.declared.op.Op.TheVariants.{Compact, Discard, Idle, Read, Write, Writeback}
use Rattle.zr_base.specs.declared.op.Tag.{Tag}
use Rattle.lock_row.specs.declared.names.LockNo.TheVariants as lock
use Rattle.lock_row.specs.declared.names.Held.TheVariants as holds
use Rattle.slot_entry.specs.declared.kept.Kept.TheVariants as kept
use Rattle.mem_account.specs.declared.weight.Delta.TheVariants as delta
use Rattle.zr_base.specs.declared.op.OpEnd.TheVariants as ends

module _ (g : Begin) where
  -- the account is charged
  pub record IsCharge (l : Here) (v : DiskHeld) (m : Here) : Type 0 where
    pub c : Counters
    pub need : ℕ
    pub held : List (LockNo × DiskHeld)
    pub was : l.held ≡ (lock.Account, holds.Account c) ∷ held
    pub value : v ≡ holds.Account (charged c need)
    pub within : IsWithinLimit c need
    pub no_most : held_sum (spot g.given.size) mosts held ≡ 0
    pub no_pages : held_sum (spot g.given.size) pages held ≡ 0
    pub no_limit : held_sum (spot g.given.size) (fixed Limit) held ≡ 0
    pub after_most : mass (spot g.given.size) mosts none m ≡ 0
    pub after_pages : mass (spot g.given.size) pages none m ≡ 0

  pub record Gift (w : State DiskHeld) (a : ℕ) (l : Here) (k : LockNo) (v : DiskHeld) (m : Here)
      : Type 0 where
    pub home : AtHome g (spot g.given.size k) v
    pub fits : IsActor g a m
    pub alone : (i : ℕ) → mass (spot g.given.size) (at_place i) none m + at_place i
        (spot g.given.size k) v ≡ mass (spot g.given.size) (at_place i) none l
    pub owners : (f : Weigh) → Balanced g l k v m (claims g f) (fresh_claim f) (stored f) none
    pub storage : Storage g w a l k v m
    pub pins : (f : PinWeigh) → Balanced g l k v m (outs f) none nothing (pinned f)
    pub frames : Balanced g l k v m pages none chains owing
    pub counts : (q : Count) → Balanced g l k v m (counters q) (behind q) (shown q) (ahead q)
    pub stays : (q : Fixed) → mass (spot g.given.size) (fixed q) none m + fixed q
        (spot g.given.size k) v ≡ mass (spot g.given.size) (fixed q) none l
    pub rises : mass (spot g.given.size) (ever_at g) one l
        ≤ mass (spot g.given.size) (ever_at g) one m + ever_at g (spot g.given.size k) v
    -- the maximum is as before and the account's frames are no more, or it is charged
    pub most : ((mass (spot g.given.size) mosts none m + mosts (spot g.given.size k) v
        ≡ mass (spot g.given.size) mosts none l)
        × (mass (spot g.given.size) pages none m + pages (spot g.given.size k) v
        ≤ mass (spot g.given.size) pages none l)) ⊎ IsCharge l v m

-- ---- small facts

pub none_pin : (f : PinWeigh) (x : Option Pin) → NoneOf x → by_option f x ≡ 0
none_pin f None e = refl
none_pin f (Some x) e = absurd e

-- a request beyond the disk is over in one piece
beyond_single : (size : ℕ) (op : Op) → is_beyond size op ≡ true → is_single size op ≡ true
beyond_single size op e = elim (cases_Bool (is_maintenance op)) [
  | inl on ↦ rw on refl
  | inr off ↦ rw off e
]

pub unmarked : (b : Bool) → b ≡ false → b ≡ true → ⊥
unmarked b off on = let q : false ≡ true = sym off ∙ on in cc

pub some_one : (n : ℕ) → some_of n ≤ 1
some_one zero = omega arith
some_one (suc n) = omega arith

ends_badly : (g : Begin) (p : Part) (op : Op) (x : PartEnd) → FailBy g p op (Some x)
    → EndsSo (ground_of g) p x
ends_badly g p (Write start count stuff) Carried f = absurd f
ends_badly g p (Write start count stuff) (Whole end) f = absurd f
ends_badly g p (Write start count stuff) (Eio fault) f = absurd f
ends_badly g p (Write start count stuff) (AtLimit c n l) f = f
ends_badly g p (Write start count stuff) NoMemory f = f
ends_badly g p (Read start count) x f = absurd f
ends_badly g p (Discard start count) x f = absurd f
ends_badly g p (Idle age) x f = absurd f
ends_badly g p (Writeback mode) x f = absurd f
ends_badly g p Compact x f = absurd f

-- what was counted of the page is what the entry and the actor tell
pub old_is : (k : Kept) (x : Option Weight) → GoneBy x k → (i : Count)
    → measure i (old_weight x k) ≡ measure i (weight_of k) + by_option (measure i) x
old_is k None b i = omega arith
old_is kept.Empty (Some x) b i = let z = nothing_shown i in omega arith
old_is (kept.Same v) (Some x) b i = absurd b.0
old_is (kept.Obj o) (Some x) b i = absurd b.0
old_is (kept.Wb y) (Some x) b i = absurd b.0

pub start_locks : (ps : List Part) (c d : ℕ) → (let ks : List LockNo = [] in ks)
    ≡ locks_by ps Start c d
start_locks [] c d = refl
start_locks (p ∷ ps) c d = refl

pub start_stage : (g : Begin) (ps : List Part) (e : EntryState)
    → StageBy g ps e Start None None 0 None None None None
start_stage g [] e = record {
  begun = refl;
  made = tt;
  pins = tt;
  owes = refl;
  more = tt;
  less = tt;
  seen = tt;
  fails = tt;
}
start_stage g (p ∷ ps) e = record {
  kind = tt;
  made = tt;
  pins = tt;
  owes = refl;
  stands = tt;
  backs = tt;
  marks = tt;
  partly = tt;
  right = tt;
  counts = (tt, tt);
  blank = tt;
  fails = tt;
  begun = tt;
  scans = tt;
  visits = tt;
  compacts = tt;
}

module _ (g : Begin) (ok : Known g) (w : State DiskHeld) (j : Joint g w) (a : ℕ) (l : Here)
    (who : slice_get w.locals a ≡ Some l) (p : Part) (rest : List Part)
    (todo : l.todo ≡ p ∷ rest) where
  abbrev n : ℕ
  n = g.given.size

  pub fit : IsActor g a l
  fit = j.each.in_local a l who

  -- what the stage says, where the local's parts are known
  module _ (held : List (LockNo × DiskHeld)) (at : At) (held_is : l.held ≡ held)
      (at_is : l.at ≡ at) where
    seen : (R : List Part → List (LockNo × DiskHeld) → At → Type 0) → R l.todo l.held l.at
        → R (p ∷ rest) held at
    seen R r = subst (λ (x : List Part × List (LockNo × DiskHeld) × At). R x.0 x.1 x.2)
        (λ i. (todo i, held_is i, at_is i)) r

    pub stage : Stage g p (entry_in held) at l.fresh l.pin l.owed l.ahead l.behind l.page l.fail
    stage = seen (λ t h s. StageBy g t (entry_in h) s l.fresh l.pin l.owed l.ahead l.behind l.page
        l.fail) fit.stage

    pub locks : map (λ (x : LockNo × DiskHeld). x.0) held
        ≡ locks_at at p (class_by (entry_in held).kept)
        (class_in g.chain (next_form p l.page (entry_in held).kept))
    locks = seen (λ t h s. map (λ (x : LockNo × DiskHeld). x.0) h
        ≡ locks_by t s (class_by (entry_in h).kept) (new_class g.chain t l.page (entry_in h).kept))
        fit.locks

    pub all : HeldAll n (Sound g) held
    all = subst (HeldAll n (Sound g)) held_is fit.sound

  -- the piece goes on
  pub goes_on : (at : At) (held : List (LockNo × DiskHeld)) (fresh : Option Object)
      (pin : Option Pin) (owed : ℕ) (more less : Option Weight) (page : Option (List ℕ))
      (fail : Option PartEnd)
      → map (λ (x : LockNo × DiskHeld). x.0) held ≡ locks_at at p (class_by (entry_in held).kept)
      (class_in g.chain (next_form p page (entry_in held).kept))
      → HeldAll n (Sound g) held → Stage g p (entry_in held) at fresh pin owed more less page fail
      → held_sum (spot n) (claims g each_one) held + (by_option (object_weight each_one) fresh
      + some_of owed) ≤ held_sum (spot n) (ever_at g) held + 1
      → IsActor g a (on l at held fresh pin owed more less page fail)
  goes_on at held fresh pin owed more less page fail ks sound s lean = record {
    who = fit.who;
    ops = fit.ops;
    named = fit.named;
    follows = fit.follows;
    locks = ks ∙ ap (λ (t : List Part). locks_by t at (class_by (entry_in held).kept)
        (new_class g.chain t page (entry_in held).kept)) (sym todo);
    sound = sound;
    stage = subst (λ (t : List Part). StageBy g t (entry_in held) at fresh pin owed more less page
        fail) (sym todo) s;
    lean = lean;
  }

  pub next : Follows (EndsSo (ground_of g)) (program n g.given.backed 0 fit.ops) l.done (p ∷ rest)
  next = subst (Follows (EndsSo (ground_of g)) (program n g.given.backed 0 fit.ops) l.done) todo fit.follows

  -- the piece is over
  pub is_over : (end : PartEnd) (got : List (List ℕ)) → EndsSo (ground_of g) p end
      → IsActor g a (piece_over l p end got rest)
  is_over end got so = record {
    who = fit.who;
    ops = fit.ops;
    named = fit.named;
    follows = ok.facts.follows (ground_of g) (program n g.given.backed 0 fit.ops) l.done p rest
        (record { part = p; end = end; got = got }) next refl so;
    locks = start_locks (left_by end p.nr rest) _ _;
    sound = tt;
    stage = start_stage g (left_by end p.nr rest) _;
    lean = omega arith;
  }

  abbrev named_in : Option (List Op) → Option Op
  named_in os = option_and_then (λ (ops : List Op). slice_get ops p.nr) os

  pub is_named : named g.given.actors (tag_by l.actor p) ≡ Some p.op
  is_named = ap (λ (b : ℕ). named g.given.actors (tag_by b p)) fit.who ∙ ap named_in fit.named
      ∙ ok.facts.named (ground_of g) n g.given.backed fit.ops l.done p rest next

  -- what the piece leaves weighs little
  pub next_small : (e : EntryState) → Changes p.op
      → IsRight (MaySeeOther g p.page e.order) p.op p.page (page_in l.page e.kept)
      (content g p.page e.order) → IsSmall (form_weight (next_form p l.page e.kept))
  next_small e c right = next_light g ok p (tag_by l.actor p) is_named
      (MaySeeOther g p.page e.order) (page_in l.page e.kept) (content g p.page e.order)
      (content_page g ok p.page e.order) c right

  -- ---- beyond the disk

  pub give_refuses : (c : Counters) → l.at ≡ Refusing → l.held
      ≡ (lock.Account, holds.Account c) ∷ []
      → Gift g w a l lock.Account (holds.Account (counted c delta.InvalidIo))
      (piece_over l p (Whole ends.Range) [] rest)
  give_refuses c at held =
      let q = stage _ Refusing held at in record {
        home = record { sound = refl; stands = tt; backs = tt; marks = tt };
        fits = is_over (Whole ends.Range) [] (beyond_single n p.op q.begun, q.begun);
        alone = λ i. let r = ap (held_sum (spot n) (at_place i)) held in omega arith;
        owners = λ f. let r = ap (held_sum (spot n) (claims g f)) held in
            let x = ap (held_sum (spot n) (stored f)) held in let y = none_fresh f l.fresh q.made in
            omega arith;
        storage = quiet_storage g w a l _ _ _ j who Refusing at tt tt (apart g a l _ _ _ (λ f z y.
            let r = ap (held_sum (spot n) f) held in
            let s = y (n + 255) c in let t = y (n + 255) (counted c delta.InvalidIo) in
            omega arith));
        pins = λ f. let r = ap (held_sum (spot n) (outs f)) held in
            let x = ap (held_sum (spot n) nothing) held in let y = none_pin f l.pin q.pins in
            omega arith;
        frames = let r = ap (held_sum (spot n) pages) held in
            let x = ap (held_sum (spot n) chains) held in let y = q.owes in omega arith;
        counts = λ c'. let r = ap (held_sum (spot n) (counters c')) held in
            let x = ap (held_sum (spot n) (shown c')) held in
            let y = none_weight c' l.ahead q.counts.0 in
            let z = none_weight c' l.behind q.counts.1 in let t = invalid_count c' c in omega arith;
        stays = λ y. let r = ap (held_sum (spot n) (fixed y)) held in let z = invalid_fixed y c in
            omega arith;
        rises = let r = ap (held_sum (spot n) (ever_at g)) held in omega arith;
        most = inl (
          (let r = ap (held_sum (spot n) mosts) held in omega arith),
          (let r = ap (held_sum (spot n) pages) held in omega arith),
        );
      }

  -- ---- the slot

  module _ (e f : EntryState) (held : l.held ≡ (slot p.page, holds.Slot e) ∷ []) where
    place : is_single n p.op ≡ false → (p.page < n) × (has_event p.op p.page ≡ true)
    place b = on_disk (EndsSo (ground_of g)) n g.given.backed fit.ops l.done p rest next b

    calls_on : (order : List Tag) (t : Tag) → AreCarried g p.page order
        → HasEvent p.page (named g.given.actors t) → AreCarried g p.page (order ++ t ∷ [])
    calls_on [] t all_on here = (here, tt)
    calls_on (x ∷ xs) t all_on here = (all_on.0, calls_on xs t all_on.1 here)

    touched_now : (order : List Tag) (t : Tag) (was : ℕ)
        → touched_by (order ++ t ∷ []) g.clock was ≡ g.clock
    touched_now [] t was = refl
    touched_now (x ∷ xs) t was = refl

    -- an entry with one more tag fits its place
    noted_fits : (x y : EntryState) (k : Kept) → is_single n p.op ≡ false → EntryFits g p.page x
        → Notes g.clock x y k (tag_by l.actor p) → IsSmall (weight_of k) → EntryFits g p.page y
    noted_fits x y k begun fits notes small = record {
      small = subst (λ (i : Kept). IsSmall (weight_of i)) (sym notes.kept) small;
      page = fits.page;
      calls = subst (AreCarried g p.page) (sym notes.order)
          (calls_on x.order (tag_by l.actor p) fits.calls
          (subst (HasEvent p.page) (sym is_named) (place begun).1));
      touched = notes.touched ∙ sym (ap (λ (ts : List Tag).
          touched_by ts g.clock (g.touched p.page)) notes.order
          ∙ touched_now x.order (tag_by l.actor p) (g.touched p.page));
      mark = λ none idle. absurd (unmarked y.idle notes.idle idle);
    }

    -- an access leaves no mark
    noted_free : (x y : EntryState) (k : Kept) → Notes g.clock x y k (tag_by l.actor p)
        → HasMarks g p.page y
    noted_free x y k notes = record {
      idle_one = λ idle. absurd (unmarked y.idle notes.idle idle);
      under_one = λ some. absurd (let q : is_some y.under ≡ false = ap is_some notes.under in
          unmarked (is_some y.under) q some);
      stays = λ none. absurd (let e = ap length (sym notes.order ∙ none) in
          let s = length-append x.order (tag_by l.actor p ∷ []) in let no : ⊥ = omega arith in no);
    }

    -- the tag is this actor's
    tag_mine : (tag_by l.actor p).actor ≡ a
    tag_mine = fit.who

    module _ (at : l.at ≡ Ready) (notes : Notes g.clock e f
        (kept_by (next_form p l.page e.kept) l.fresh) (tag_by l.actor p))
        (same : LeavesSo g p (e.order ++ tag_by l.actor p ∷ []) p.op (page_in l.page e.kept)) where
      sr : Stage g p e Ready l.fresh l.pin l.owed l.ahead l.behind l.page l.fail
      sr = stage _ Ready held at

      abbrev form : PageForm
      form = next_form p l.page e.kept

      form_now : form_at g p.page f.order ≡ form
      form_now = ap (form_at g p.page) notes.order ∙ form_next g ok p e.order
          (tag_by l.actor p) is_named (page_in l.page e.kept) sr.kind.0 same

      put_stands : IsForm g.chain (form_at g p.page f.order) f.kept
      put_stands = subst (λ (x : PageForm × Kept). IsForm g.chain x.0 x.1)
          (λ i. (sym form_now i, sym notes.kept i)) (put_form g.chain form l.fresh sr.made)

      gone_claim : (h : Weigh) (k : Kept) (b : List ℕ) → NoObj k → claim_by h k b ≡ 0
      gone_claim h kept.Empty b d = refl
      gone_claim h (kept.Same v) b d = refl
      gone_claim h (kept.Obj o) b d = absurd d
      gone_claim h (kept.Wb x) b d = absurd d

      gone_plain : (k : Kept) → NoObj k → is_wb k ≡ false
      gone_plain kept.Empty d = refl
      gone_plain (kept.Same v) d = refl
      gone_plain (kept.Obj o) d = absurd d
      gone_plain (kept.Wb x) d = absurd d

      now_plain : is_wb f.kept ≡ false
      now_plain = ap is_wb notes.kept ∙ put_plain form l.fresh

      now_off : back_at g p.page f.order ≡ false
      now_off = ap (back_at g p.page) notes.order
          ∙ back_change g p e.order (tag_by l.actor p) is_named sr.kind.0

      put_backs : IsBack g f.kept (back_at g p.page f.order)
      put_backs = record {
        there = λ on. absurd (unmarked (back_at g p.page f.order) now_off on);
        only = λ none. now_plain ∙ sym now_off;
      }

      now_claim : (h : Weigh) → claim_by h f.kept (image g p.page f.order) ≡ fresh_claim h l
      now_claim h = (λ i. claim_by h (notes.kept i) (bytes_in (form_now i)))
          ∙ put_claim g.chain h form l.fresh sr.made

      put_small : IsSmall (weight_of (kept_by form l.fresh))
      put_small = let x = put_weight g.chain PackedBytes form l.fresh sr.made in
          let y = sr.counts.small in omega arith

      put_rises : ever g p.page e.order ≤ ever g p.page f.order
      put_rises = let r = ever_up g p.page e.order (tag_by l.actor p) in
          let q = ap (ever g p.page) notes.order in omega arith

      pub give_puts : Gift g w a l (slot p.page) (holds.Slot f) (piece_over l p Carried [] rest)
      give_puts = record {
        home = record {
          sound = noted_fits e f (kept_by form l.fresh) sr.begun
              (all _ Ready held at).0 notes put_small;
          stands = put_stands;
          backs = put_backs;
          marks = noted_free e f (kept_by form l.fresh) notes;
        };
        fits = is_over Carried [] sr.begun;
        alone = λ i. let r = ap (held_sum (spot n) (at_place i)) held in omega arith;
        owners = λ h. let r = ap (held_sum (spot n) (claims g h)) held in
            let x = ap (held_sum (spot n) (stored h)) held in let y = now_claim h in
            let z = gone_claim h e.kept (image g p.page e.order) sr.kind.1 in omega arith;
        storage = quiet_storage g w a l _ _ _ j who Ready at tt tt (entry_back g a l _ p.page e f
            held refl
            (λ h. no_block h f.kept now_plain ∙ sym (no_block h e.kept (gone_plain e.kept sr.kind.1)))
            (λ b bytes. let y = no_lies b bytes f.kept (content g p.page f.order) now_plain in
            omega arith)
            (noted_marks g a p.page e f (tag_by l.actor p) tag_mine notes.under notes.order));
        pins = λ h. let r = ap (held_sum (spot n) (outs h)) held in
            let x = ap (held_sum (spot n) nothing) held in let y = none_pin h l.pin sr.pins in
            omega arith;
        frames = let r = ap (held_sum (spot n) pages) held in
            let x = ap (held_sum (spot n) chains) held in let y = sr.owes in omega arith;
        counts = λ i. let r = ap (held_sum (spot n) (counters i)) held in
            let x = ap (held_sum (spot n) (shown i)) held in let y = sr.counts.ahead i in
            let z = sr.counts.behind i in let u = ap (λ (k : Kept).
            measure i (weight_of k)) notes.kept in let v =
            put_weight g.chain i form l.fresh sr.made in omega arith;
        stays = λ y. let r = ap (held_sum (spot n) (fixed y)) held in omega arith;
        rises = let r = ap (held_sum (spot n) (ever_at g)) held in let z = put_rises in omega arith;
        most = inl (
          (let r = ap (held_sum (spot n) mosts) held in omega arith),
          (let r = ap (held_sum (spot n) pages) held in omega arith),
        );
      }

    -- nothing but the slot is in work, whose page is kept as it has to be
    pub record IsBare : Type 0 where
      pub made : NoneOf l.fresh
      pub pins : NoneOf l.pin
      pub owes : l.owed ≡ 0
      pub stands : IsForm g.chain (form_at g p.page e.order) e.kept
      pub backs : IsBack g e.kept (back_at g p.page e.order)
      pub marks : HasMarks g p.page e
      pub more : NoneOf l.ahead
      pub less : NoneOf l.behind
      pub fits : EntryFits g p.page e
      pub begun : is_single n p.op ≡ false
      pub plain : NoTrip l.at

    -- the entry goes back, has the page as before, and is marked as it has to be
    pub record IsSame (v : EntryState) : Type 0 where
      pub kept : v.kept ≡ e.kept
      pub form : form_at g p.page v.order ≡ form_at g p.page e.order
      pub content : content g p.page v.order ≡ content g p.page e.order
      pub back : back_at g p.page v.order ≡ back_at g p.page e.order
      pub marks : HasMarks g p.page v
      pub less : MarksLess g a p.page e v
      pub up : ever g p.page e.order ≤ ever g p.page v.order

    module _ (bare : IsBare) where
      give_back : (end : PartEnd) (got : List (List ℕ)) → EndsSo (ground_of g) p end
          → (v : EntryState) → EntryFits g p.page v → IsSame v
          → Gift g w a l (slot p.page) (holds.Slot v) (piece_over l p end got rest)
      give_back end got so v fits_v same = record {
        home = record {
          sound = fits_v;
          stands = subst (λ (x : PageForm × Kept).
              IsForm g.chain x.0 x.1) (λ i. (sym same.form i, sym same.kept i)) bare.stands;
          backs = subst (λ (x : Kept × Bool). IsBack g x.0 x.1)
              (λ i. (sym same.kept i, sym same.back i)) bare.backs;
          marks = same.marks;
        };
        fits = is_over end got so;
        alone = λ i. let r = ap (held_sum (spot n) (at_place i)) held in omega arith;
        owners = λ h. let r = ap (held_sum (spot n) (claims g h)) held in
            let x = ap (held_sum (spot n) (stored h)) held in
            let y = none_fresh h l.fresh bare.made in let z : claim_by h v.kept
            (image g p.page v.order) ≡ claim_by h e.kept (image g p.page e.order) =
            (λ i. claim_by h (same.kept i) (bytes_in (same.form i))) in omega arith;
        storage = still_storage g w a l _ _ _ j who (entry_back g a l _ p.page e v held refl
            (λ h. ap (block_by h) same.kept)
            (λ b bytes. let y : lies_by b bytes v.kept (content g p.page v.order)
            ≡ lies_by b bytes e.kept (content g p.page e.order) =
            (λ i. lies_by b bytes (same.kept i) (same.content i)) in omega arith) same.less)
            bare.plain tt;
        pins = λ h. let r = ap (held_sum (spot n) (outs h)) held in
            let x = ap (held_sum (spot n) nothing) held in let y = none_pin h l.pin bare.pins in
            omega arith;
        frames = let r = ap (held_sum (spot n) pages) held in
            let x = ap (held_sum (spot n) chains) held in let y = bare.owes in omega arith;
        counts = λ i. let r = ap (held_sum (spot n) (counters i)) held in
            let x = ap (held_sum (spot n) (shown i)) held in
            let y = none_weight i l.ahead bare.more in
            let z = none_weight i l.behind bare.less in
            let u = ap (λ (k : Kept). measure i (weight_of k)) same.kept in omega arith;
        stays = λ y. let r = ap (held_sum (spot n) (fixed y)) held in omega arith;
        rises = let r = ap (held_sum (spot n) (ever_at g)) held in let z = same.up in omega arith;
        most = inl (
          (let r = ap (held_sum (spot n) mosts) held in omega arith),
          (let r = ap (held_sum (spot n) pages) held in omega arith),
        );
      }

      -- the piece leaves its entry
      pub give_left : (end : PartEnd) → EndsSo (ground_of g) p end
          → Gift g w a l (slot p.page) (holds.Slot e) (piece_over l p end [] rest)
      give_left end so = give_back end [] so e bare.fits (record {
        kept = refl;
        form = refl;
        content = refl;
        back = refl;
        marks = bare.marks;
        less = same_marks g a p.page e e refl refl;
        up = omega arith;
      })

      -- a read is noted
      pub give_noted : (end : PartEnd) (got : List (List ℕ)) → EndsSo (ground_of g) p end
          → (start count : ℕ) → p.op ≡ Read start count
          → Notes g.clock e f e.kept (tag_by l.actor p)
          → Gift g w a l (slot p.page) (holds.Slot f) (piece_over l p end got rest)
      give_noted end got so start count is notes =
          give_back end got so f (noted_fits e f e.kept bare.begun bare.fits notes bare.fits.small)
          (record {
            kept = notes.kept;
            form = ap (form_at g p.page) notes.order
                ∙ form_read g ok p e.order (tag_by l.actor p) is_named start count is;
            content = ap (content g p.page) notes.order
                ∙ content_read g ok p e.order (tag_by l.actor p) is_named start count is;
            back = ap (back_at g p.page) notes.order
                ∙ back_read g p e.order (tag_by l.actor p) is_named start count is;
            marks = noted_free e f e.kept notes;
            less = noted_marks g a p.page e f (tag_by l.actor p) tag_mine notes.under notes.order;
            up = let r = ever_up g p.page e.order (tag_by l.actor p) in
                let q = ap (ever g p.page) notes.order in omega arith;
          })

    module _ (at : l.at ≡ Leaving) where
      sl : Stage g p e Leaving l.fresh l.pin l.owed l.ahead l.behind l.page l.fail
      sl = stage _ Leaving held at

      bare_leaving : IsBare
      bare_leaving = record {
        made = sl.made;
        pins = sl.pins;
        owes = sl.owes;
        stands = sl.stands;
        backs = sl.backs;
        marks = sl.marks;
        more = sl.counts.0;
        less = sl.counts.1;
        fits = (all _ Leaving held at).0;
        begun = sl.begun;
        plain = subst NoTrip (sym at) tt;
      }

      pub give_reads : l.fail ≡ None → Notes g.clock e f e.kept (tag_by l.actor p)
          → Gift g w a l (slot p.page) (holds.Slot f) (piece_over l p Carried
          (got_from (page_in l.page e.kept) p) rest)
      give_reads well notes = by_op p.op refl sl.kind (subst (FailBy g p p.op) well sl.fails) where
        by_op : (op : Op) → p.op ≡ op → Looks op → FailBy g p op None
            → Gift g w a l (slot p.page) (holds.Slot f) (piece_over l p Carried
            (got_from (page_in l.page e.kept) p) rest)
        by_op (Write start count stuff) is k b = absurd b
        by_op (Read start count) is k b = give_noted bare_leaving Carried
            (got_from (page_in l.page e.kept) p) sl.begun start count is notes
        by_op (Discard start count) is k b = absurd b
        by_op (Idle age) is k b = absurd b
        by_op (Writeback mode) is k b = absurd b
        by_op Compact is k b = absurd b

      pub give_fails : (x : PartEnd) → l.fail ≡ Some x → Gift g w a l (slot p.page) (holds.Slot e)
          (piece_over l p x [] rest)
      give_fails x bad = give_left bare_leaving x
          (ends_badly g p p.op x (subst (FailBy g p p.op) bad sl.fails))
