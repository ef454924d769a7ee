-- What each giving of a scan that marks pages does.
use Rattle.joint_rule.proofs.Trips.{quiet_storage, same_marks}
use Rattle.std.proofs.Common.{◌≡◌, ◌+◌, ◌≤◌, ◌<◌, ◌∷◌, ◌∙◌, ◌==◌, ◌&&◌, ◌||◌, ℕ, zero, suc, Bool, true, false, cond, List, [], Option, Some, slice_get, refl, sym, ap, arith, inl, inr}
use Rattle.call_history.specs.Parts.{EndsSo}
use Rattle.call_history.specs.declared.part.Part.{Part}
use Rattle.call_history.specs.declared.part.PartEnd.TheVariants.{Whole}
use Rattle.joint_rule.proofs.Balances.{none_fresh}
use Rattle.joint_rule.proofs.Blocks.{entry_back}
use Rattle.joint_rule.proofs.Facts.{Known}
use Rattle.joint_rule.proofs.Gifts.{Gift, all, fit, goes_on, is_over, next, none_pin, some_one, stage}
use Rattle.joint_rule.proofs.Lookups.{none_weight}
use Rattle.joint_rule.specs.Begins.{Begin, ground_of}
use Rattle.joint_rule.specs.Joint.{AtHome, EntryFits, Joint}
use Rattle.joint_rule.specs.Stages.{MayIdle, Stage}
use Rattle.joint_rule.specs.Weights.{at_place, chains, claims, counters, each_one, ever_at, fixed, mosts, nothing, outs, pages, shown, stored}
use Rattle.lock_row.specs.Totals.{held_sum}
use Rattle.lock_row.specs.declared.names.At.TheVariants.{Marking, Scanning}
use Rattle.lock_row.specs.declared.names.Scan.{Scan}
use Rattle.lock_row.specs.declared.names.State.{State}
use Rattle.page_steps.specs.Scans.{with_page}
use Rattle.page_steps.specs.Steps.{DiskHeld, Here, on, piece_over, slot, spot}
use Rattle.plain_disk.specs.Ends.{MayBeSingle, is_single}
use Rattle.plain_disk.specs.Idles.{is_marked_in, marks_some}
use Rattle.slot_entry.specs.Entries.{EntryState, is_new_mark, is_obj, marked, may_mark}
use Rattle.slot_entry.specs.declared.kept.Kept.{Kept}
use Rattle.std.proofs.lemmas.Bool.{and_parts, cases_eq, eqb-false}
use Rattle.zr_base.specs.Plain.{is_marking}
use Rattle.zr_base.specs.declared.op.Op.{Op}
use Rattle.zr_base.specs.declared.op.Op.TheVariants.{Idle}
use Rattle.lock_row.specs.declared.names.Held.TheVariants as holds
use Rattle.zr_base.specs.declared.op.OpEnd.TheVariants as ends

-- ---- operations that mark pages

marking_single : (size : ℕ) (op : Op) (age : Option ℕ) → op ≡ Idle age → is_single size op ≡ true
marking_single size op age e = ap (is_single size) e

or_true : (b : Bool) → (b || true) ≡ true
or_true true = refl
or_true false = refl

marks_here : (ops : List Op) (i : ℕ) (age : Option ℕ) → slice_get ops i ≡ Some (Idle age)
    → marks_some ops ≡ true
marks_here [] i age e = absurd (cc)
marks_here (op ∷ ops) zero age e =
    let q : op ≡ Idle age = cc in ap (λ (x : Op). is_marking x || marks_some ops) q
marks_here (op ∷ ops) (suc i) age e =
    ap (λ (b : Bool). is_marking op || b) (marks_here ops i age e) ∙ or_true (is_marking op)

marked_here : (actors : List (List Op)) (a : ℕ) (ops : List Op) → slice_get actors a ≡ Some ops
    → marks_some ops ≡ true → is_marked_in actors ≡ true
marked_here [] a ops e on = absurd (cc)
marked_here (x ∷ xs) zero ops e on =
    let q : x ≡ ops = cc in
    ap (λ (b : Bool). b || is_marked_in xs) (ap marks_some q ∙ on)
marked_here (x ∷ xs) (suc a) ops e on =
    ap (λ (b : Bool). marks_some x || b) (marked_here xs a ops e on) ∙ or_true (marks_some x)

-- ---- the mark

more_idle : (b c : Bool) → b ≡ true → (b || c) ≡ true
more_idle true c e = refl
more_idle false c e = absurd (cc)

-- a page that is marked is in the pool
idle_pooled : (k : Kept) (was may : Bool) → MayIdle k was → MayIdle k (was || (is_obj k && may))
idle_pooled k true may h e = h refl
idle_pooled k false may h e = (and_parts (is_obj k) may e).0

one_more : (b : Bool) → cond {A = ℕ} b 1 0 ≤ 1
one_more true = omega arith
one_more false = omega arith

module _ (g : Begin) (ok : Known g) (w : State DiskHeld) (j : Joint g w) (a : ℕ) (l : Here)
    (who : slice_get w.locals a ≡ Some l) (p : Part) (rest : List Part)
    (todo : l.todo ≡ p ∷ rest) (age : Option ℕ) (op : p.op ≡ Idle age) (x : Scan) (e : EntryState)
    (at : l.at ≡ Marking x) (held : l.held ≡ (slot x.page, holds.Slot e) ∷ []) where
  abbrev n : ℕ
  n = g.given.size

  abbrev f : EntryState
  f = marked g.clock age e

  abbrev y : Scan
  y = with_page x (is_new_mark g.clock age e)

  st : Stage g p e (Marking x) l.fresh l.pin l.owed l.ahead l.behind l.page l.fail
  st = stage g ok w j a l who p rest todo _ (Marking x) held at

  fits : EntryFits g x.page e
  fits = (all g ok w j a l who p rest todo _ (Marking x) held at).0

  -- some operation of the phase marks pages
  some_marks : is_marked_in g.given.actors ≡ true
  some_marks =
      let i = fit g ok w j a l who p rest todo in
      let there : slice_get i.ops p.nr ≡ Some (Idle age) =
      ok.facts.named (ground_of g) n g.given.backed i.ops l.done p rest (next g ok w j a l who p rest todo)
      ∙ ap (λ (o : Op). Some o) op in
      marked_here g.given.actors a i.ops i.named (marks_here i.ops p.nr age there)

  marked_fits : EntryFits g x.page f
  marked_fits = record {
    page = fits.page;
    calls = fits.calls;
    touched = fits.touched;
    mark = λ none idle. absurd (let q : true ≡ false = sym some_marks ∙ none in cc);
    small = fits.small;
  }

  marked_home : AtHome g x.page (holds.Slot f)
  marked_home = record {
    sound = marked_fits;
    stands = st.scans.stands;
    backs = st.scans.backs;
    marks = record {
      idle_one = idle_pooled e.kept e.idle _ st.scans.marks.idle_one;
      under_one = st.scans.marks.under_one;
      stays = λ none was off. more_idle e.idle (may_mark g.clock age e)
          (st.scans.marks.stays none was off);
    };
  }

  few : y.marked ≤ x.page + 1
  few = let s = st.scans.scan.marked in let o = one_more (is_new_mark g.clock age e) in omega arith

  -- another page is left
  module _ (other : ((x.page + 1) == n) ≡ false) where
    next_page : y.page < n
    next_page = let z = eqb-false (x.page + 1) n other in let lt = st.scans.scan.page in
        elim (cases_eq (x.page + 1) n) [ inl q ↦ absurd (z q) | inr q ↦ omega arith ]

    pub give_scans : Gift g w a l (slot x.page) (holds.Slot f)
        (on l (Scanning y) [] l.fresh l.pin l.owed l.ahead l.behind l.page l.fail)
    give_scans = record {
      home = marked_home;
      fits = goes_on g ok w j a l who p rest todo (Scanning y) [] l.fresh l.pin l.owed l.ahead
          l.behind l.page l.fail refl tt
          (record {
            kind = tt;
            made = st.made;
            pins = st.pins;
            owes = st.owes;
            stands = tt;
            backs = tt;
            marks = tt;
            partly = tt;
            right = st.right;
            counts = st.counts;
            blank = tt;
            fails = st.fails;
            begun = st.begun;
            scans = record { page = next_page; marked = few };
            visits = tt;
            compacts = tt;
          })
          (let z = none_fresh each_one l.fresh st.made in let o = some_one l.owed in omega arith);
      alone = λ i. let r = ap (held_sum (spot n) (at_place i)) held in omega arith;
      owners = λ h. let r = ap (held_sum (spot n) (claims g h)) held in
          let t = ap (held_sum (spot n) (stored h)) held in omega arith;
      storage = quiet_storage g w a l _ _ _ j who (Marking x) at tt tt (entry_back g a l _ x.page e f
          held refl (λ h. refl) (λ b bytes. omega arith) (same_marks g a x.page e f refl refl));
      pins = λ h. let r = ap (held_sum (spot n) (outs h)) held in
          let t = ap (held_sum (spot n) nothing) held in omega arith;
      frames = let r = ap (held_sum (spot n) pages) held in
          let t = ap (held_sum (spot n) chains) held in omega arith;
      counts = λ i. let r = ap (held_sum (spot n) (counters i)) held in
          let t = ap (held_sum (spot n) (shown i)) held in omega arith;
      stays = λ i. let r = ap (held_sum (spot n) (fixed i)) held in omega arith;
      rises = let r = ap (held_sum (spot n) (ever_at g)) held in omega arith;
      most = inl (
        (let r = ap (held_sum (spot n) mosts) held in omega arith),
        (let r = ap (held_sum (spot n) pages) held in omega arith),
      );
    }

  -- what it tells of its marks
  may_end : MayBeSingle (ground_of g) p.op (ends.Marked y.marked)
  may_end = (st.begun, (let s = few in let t = st.scans.scan.page in omega arith))

  ends_so : EndsSo (ground_of g) p (Whole (ends.Marked y.marked))
  ends_so = (marking_single n p.op age op, may_end)

  pub give_stops : Gift g w a l (slot x.page) (holds.Slot f)
      (piece_over l p (Whole (ends.Marked y.marked)) [] rest)
  give_stops = record {
    home = marked_home;
    fits = is_over g ok w j a l who p rest todo (Whole (ends.Marked y.marked)) [] ends_so;
    alone = λ i. let r = ap (held_sum (spot n) (at_place i)) held in omega arith;
    owners = λ h. let r = ap (held_sum (spot n) (claims g h)) held in
        let t = ap (held_sum (spot n) (stored h)) held in
        let z = none_fresh h l.fresh st.made in omega arith;
    storage = quiet_storage g w a l _ _ _ j who (Marking x) at tt tt (entry_back g a l _ x.page e f
        held refl (λ h. refl) (λ b bytes. omega arith) (same_marks g a x.page e f refl refl));
    pins = λ h. let r = ap (held_sum (spot n) (outs h)) held in
        let t = ap (held_sum (spot n) nothing) held in let z = none_pin h l.pin st.pins in
        omega arith;
    frames = let r = ap (held_sum (spot n) pages) held in
        let t = ap (held_sum (spot n) chains) held in let z = st.owes in omega arith;
    counts = λ i. let r = ap (held_sum (spot n) (counters i)) held in
        let t = ap (held_sum (spot n) (shown i)) held in
        let z = none_weight i l.ahead st.counts.0 in
        let u = none_weight i l.behind st.counts.1 in omega arith;
    stays = λ i. let r = ap (held_sum (spot n) (fixed i)) held in omega arith;
    rises = let r = ap (held_sum (spot n) (ever_at g)) held in omega arith;
    most = inl (
      (let r = ap (held_sum (spot n) mosts) held in omega arith),
      (let r = ap (held_sum (spot n) pages) held in omega arith),
    );
  }
