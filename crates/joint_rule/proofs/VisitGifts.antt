-- What each giving of a slot by a writeback does.
use Rattle.joint_rule.proofs.Rounds.{lean_none, quit_ends}
use Rattle.std.proofs.Common.{◌≡◌, ◌≢◌, ◌+◌, ◌≤◌, ◌∷◌, ◌∙◌, ◌==◌, ℕ, Bool, true, false, cond, is_none, is_some, List, [], Option, Some, None, slice_get, refl, sym, ap, subst, arith, inl, inr, ⊎_elim, if◌then◌else◌}
use Rattle.bdi_page.specs.Packing.{IsPage}
use Rattle.call_history.specs.declared.part.Part.{Part}
use Rattle.call_history.specs.declared.part.PartEnd.{PartEnd}
use Rattle.joint_rule.proofs.Arrivals.{visit_stage}
use Rattle.joint_rule.proofs.Backings.{writes_on}
use Rattle.joint_rule.proofs.Blockings.{has_block_in, mark_is, no_other, no_pair, other_block, other_mark, other_pair, unmark, won_page}
use Rattle.joint_rule.proofs.Blocks.{Still, entry_back}
use Rattle.joint_rule.proofs.Facts.{Known}
use Rattle.joint_rule.proofs.Gifts.{Gift, all, goes_on, stage}
use Rattle.joint_rule.proofs.Lookups.{lone, none_weight}
use Rattle.joint_rule.proofs.Pages.{content_page}
use Rattle.joint_rule.proofs.Pools.{same_is, same_self, list_self}
use Rattle.joint_rule.proofs.Rounds.{IsFree, ends_over, free_hands, give_slot, no_one, went}
use Rattle.joint_rule.proofs.Sums.{Under, locals_le}
use Rattle.joint_rule.proofs.Trips.{SaysNone, Storage, bare_says, carrier_of, idle_carried, idle_carries, idle_written, no_mark, none_storage, same_marks, using}
use Rattle.joint_rule.proofs.Visits.{Onward}
use Rattle.joint_rule.specs.Begins.{Begin, content, form_at, image}
use Rattle.joint_rule.specs.Joint.{AtHome, EntryFits, Joint, Sound}
use Rattle.joint_rule.specs.Stages.{IsCarried, IsCopied, IsForm, IsNothing, IsObj, IsPooled, IsQuit, NoneOf, Stage, VisitsObject, VisitsPage, HasSome}
use Rattle.plain_disk.specs.Phases.{foreign}
use Rattle.joint_rule.specs.Weights.{Count, at_place, block_claims, block_uses, carried_at, carried_by, device_size, lies_at, lies_by, map_size, mark_at, mark_by, marks_of, measure, none, nothing, pair, same, shows_at, stored_at, use_in, used_blocks, written_at, written_by, block_by, claim_by}
use Rattle.lock_row.specs.Totals.{by_option, held_sum, mass, total}
use Rattle.lock_row.specs.declared.names.At.{At}
use Rattle.lock_row.specs.declared.names.At.TheVariants.{Visiting}
use Rattle.lock_row.specs.declared.names.State.{State}
use Rattle.lock_row.specs.declared.names.Step.TheVariants as step
use Rattle.lock_row.specs.declared.names.Trip.{Trip}
use Rattle.page_steps.specs.Steps.{DiskHeld, Here, is_mark_of, on, piece_over, slot, spot}
use Rattle.page_steps.specs.Visits.{passed_page, put_back, unmarked, wrote_page}
use Rattle.slot_entry.specs.Entries.{EntryState, is_obj, weight_of}
use Rattle.slot_entry.specs.Forms.{PageForm, Pooled}
use Rattle.slot_entry.specs.declared.kept.Kept.{Kept}
use Rattle.std.proofs.lemmas.Bool.{eq-eqb, ne_eqb, cases_eq}
use Rattle.lock_row.specs.declared.names.Held.TheVariants as holds
use Rattle.slot_entry.specs.declared.kept.Kept.TheVariants as kept

pub some_block : (o : Option ℕ) → HasSome o → (b : ℕ) × (o ≡ Some b)
some_block None i = absurd i
some_block (Some b) i = (b, refl)

obj_of : (k : Kept) → IsObj k → is_obj k ≡ true
obj_of kept.Empty i = absurd i
obj_of (kept.Same w) i = absurd i
obj_of (kept.Obj o) i = refl
obj_of (kept.Wb b) i = absurd i

-- nothing is kept
nothing_is : (k : Kept) → IsNothing k → k ≡ kept.Empty
nothing_is kept.Empty i = refl
nothing_is (kept.Same w) i = absurd i
nothing_is (kept.Obj o) i = absurd i
nothing_is (kept.Wb b) i = absurd i

copied_is : (o : Option (List ℕ)) (was : List ℕ) → IsPage was → IsCopied o was
    → (page : List ℕ) × (o ≡ Some page) × (page ≡ was)
copied_is None was is c = absurd c
copied_is (Some page) was is c = (page, refl, c)

carried_is : (o : Option (List ℕ)) (was : List ℕ) → IsPage was → IsCopied o was → IsCarried o
carried_is None was is c = absurd c
carried_is (Some page) was is c = subst IsPage (sym c) is

some_page : (o : Option (List ℕ)) → IsCarried o → (page : List ℕ) × (o ≡ Some page)
some_page None i = absurd i
some_page (Some page) i = (page, refl)

module _ (g : Begin) (ok : Known g) (w : State DiskHeld) (j : Joint g w) (a : ℕ) (l : Here)
    (who : slice_get w.locals a ≡ Some l) (p : Part) (rest : List Part)
    (todo : l.todo ≡ p ∷ rest) (x : Trip) where
  abbrev n : ℕ
  n = g.given.size

  -- ---- the slot

  module _ (e : EntryState) (held : l.held ≡ (slot x.page, holds.Slot e) ∷ []) where
    fits : EntryFits g x.page e
    fits = (all g ok w j a l who p rest todo _ l.at held refl).0

    home_of : VisitsPage g x e → AtHome g x.page (holds.Slot e)
    home_of v =
        record { sound = fits; stands = v.stands; backs = v.backs; marks = v.marks }

    same_count : (m : Here) → NoneOf l.ahead → NoneOf l.behind → m.ahead ≡ None → m.behind ≡ None
        → (q : Count) → by_option (measure q) l.ahead + measure q (weight_of e.kept)
        + by_option (measure q) m.behind
        ≡ by_option (measure q) m.ahead + measure q (weight_of e.kept)
        + by_option (measure q) l.behind
    same_count m more less ahead behind q =
        let y = none_weight q l.ahead more in let z = none_weight q l.behind less in
        let u = ap (by_option (measure q)) ahead in let t = ap (by_option (measure q)) behind in
        omega arith

    back_still : (m : Here) → m.held ≡ [] → Still g a l (slot x.page) (holds.Slot e) m
    back_still m after = entry_back g a l m x.page e e held after (λ h. refl) (λ b bytes. omega arith)
        (same_marks g a x.page e e refl refl)

    -- the page isn't written back
    module _ (at : l.at ≡ Visiting step.Passing x) where
      sp : Stage g p e (Visiting step.Passing x) l.fresh l.pin l.owed l.ahead l.behind l.page l.fail
      sp = stage g ok w j a l who p rest todo _ (Visiting step.Passing x) held at

      pub give_passes : (m : Here) → Onward g l p rest (passed_page x) m
          → Gift g w a l (slot x.page) (holds.Slot e) m
      give_passes m on =
          let t = went g ok w j a l who p rest todo sp.begun (passed_page x)
          (let z = sp.visits.trip.page in omega arith) (let z = sp.visits.trip.few in omega arith) tt
          m on in
          give_slot g w a l m t.fits (free_hands l m sp.made sp.pins sp.owes t.free) x.page e e held
          t.free.held (home_of sp.visits.step.0) (λ h. refl) refl
          (same_count m sp.counts.0 sp.counts.1 t.free.ahead t.free.behind)
          (none_storage g w a l (slot x.page) (holds.Slot e) m j who (back_still m t.free.held)
          (bare_says l step.Passing x at tt) t.says)

    -- none was reserved
    module _ (at : l.at ≡ Visiting step.Quitting x) where
      sq : Stage g p e (Visiting step.Quitting x) l.fresh l.pin l.owed l.ahead l.behind l.page l.fail
      sq = stage g ok w j a l who p rest todo _ (Visiting step.Quitting x) held at

      pub give_quits : (m : Here) (end : PartEnd) → l.fail ≡ Some end
          → m ≡ piece_over l p end [] rest → Gift g w a l (slot x.page) (holds.Slot e) m
      give_quits m end bad m_is =
          let t = ends_over g ok w j a l who p rest todo sq.begun m end m_is
          (quit_ends g p x end (subst (IsQuit g p x) bad sq.fails)) in
          give_slot g w a l m t.fits (free_hands l m sq.made sq.pins sq.owes t.free) x.page e e held
          t.free.held (home_of sq.visits.step.0.page) (λ h. refl) refl
          (same_count m sq.counts.0 sq.counts.1 t.free.ahead t.free.behind)
          (none_storage g w a l (slot x.page) (holds.Slot e) m j who (back_still m t.free.held)
          (bare_says l step.Quitting x at tt) t.says)

    -- the slot is marked
    module _ (at : l.at ≡ Visiting step.Marking x) (b : ℕ) (block : x.block ≡ Some b) where
      sm : Stage g p e (Visiting step.Marking x) l.fresh l.pin l.owed l.ahead l.behind l.page l.fail
      sm = stage g ok w j a l who p rest todo _ (Visiting step.Marking x) held at

      abbrev f : EntryState
      f = record e { under = Some b }

      abbrev flown : Here
      flown = on l (Visiting step.Flying x) [] l.fresh l.pin l.owed l.ahead l.behind l.page l.fail

      obj : VisitsObject g x e
      obj = sm.visits.step.0

      free : e.under ≡ None
      free = no_one e.under obj.clear

      page_now : (page : List ℕ) × (l.page ≡ Some page) × (page ≡ content g x.page e.order)
      page_now = copied_is l.page (content g x.page e.order) (content_page g ok x.page e.order)
          sm.visits.step.2

      mark_home : AtHome g x.page (holds.Slot f)
      mark_home = record {
        sound = record {
          page = fits.page;
          calls = fits.calls;
          touched = fits.touched;
          mark = fits.mark;
          small = fits.small;
        };
        stands = obj.page.stands;
        backs = obj.page.backs;
        marks = record {
          idle_one = obj.page.marks.idle_one;
          under_one = λ some. obj_of e.kept obj.object;
          stays = obj.page.marks.stays;
        };
      }

      -- what is marked is what is carried
      carried_now : (i c : ℕ) (bytes : List ℕ)
          → carried_at i c bytes flown ≡ mark_at g i c bytes x.page (holds.Slot f)
      carried_now i c bytes = λ t. cond (i == x.page) (pair c bytes (block t)
          ((page_now.1 ∙ ap Some page_now.2) t)) 0

      no_mark_yet : (i c : ℕ) (bytes : List ℕ) → mark_at g i c bytes x.page (holds.Slot e) ≡ 0
      no_mark_yet i c bytes = no_mark i c bytes x.page e.under (content g x.page e.order) free

      shown_more : (d i c : ℕ) → shows_at d i c x.page (holds.Slot e)
          ≤ shows_at d i c x.page (holds.Slot f)
      shown_more d i c = let z = ap (marks_of c) free in by_page (i == x.page) where
        by_page : (k : Bool) → cond k (marks_of c e.under + foreign d e.order) 0
            ≤ cond k (marks_of c (Some b) + foreign d e.order) 0
        by_page true = let z = ap (marks_of c) free in omega arith
        by_page false = omega arith

      mark_storage : Storage g w a l (slot x.page) (holds.Slot f) flown
      mark_storage = record {
        blocks = λ h. let r = ap (held_sum (spot n) (block_claims h)) held in
            let t = ap (held_sum (spot n) (used_blocks h)) held in
            let u = ap (use_in h) at in omega arith;
        maps = let r = ap (held_sum (spot n) map_size) held in omega arith;
        devices = let r = ap (held_sum (spot n) device_size) held in omega arith;
        disk = λ c bytes lt.
            let r = ap (held_sum (spot n) (lies_at g c bytes)) held in
            let t = ap (held_sum (spot n) (stored_at c bytes)) held in
            let y = idle_written l step.Marking x at refl c bytes in
            let z = idle_flown c bytes in
            let d = j.disk c bytes (omega arith) in omega arith;
        marks = λ i c bytes. let r = ap (held_sum (spot n) (mark_at g i c bytes)) held in
            let t = ap (held_sum (spot n) nothing) held in
            let y = idle_carried l step.Marking x at refl i c bytes in
            let z = carried_now i c bytes in let u = no_mark_yet i c bytes in
            let q = j.marks i c bytes in omega arith;
        theirs = λ i y s c there ne is. let r = ap (held_sum (spot n) (shows_at i s c)) held in
            let z = shown_more i s c in omega arith;
        mine = λ s c is.
            let r = ap (held_sum (spot n) (shows_at a s c)) held in
            let k = carrier_of flown s c is in
            let q : Visiting step.Flying x ≡ Visiting k.step k.trip = k.is in
            let same : x ≡ k.trip = cc in
            let page_is : x.page ≡ s = ap (λ (i : Trip). i.page) same ∙ k.page in
            let block_is : Some b ≡ Some c =
            sym block ∙ ap (λ (i : Trip). i.block) same ∙ k.block in
            let one : b ≡ c = cc in
            let z = shown_self s c page_is one in
            let y = locals_le n (mass (spot n) (shows_at a s c) none) w.locals a l who in omega arith;
      } where
        idle_flown : (c : ℕ) (bytes : List ℕ) → written_at c bytes flown ≡ 0
        idle_flown c bytes = none_of (is_none l.fail) where
          none_of : (k : Bool) → cond {A = ℕ} k 0 0 ≡ 0
          none_of true = refl
          none_of false = refl

        shown_self : (s c : ℕ) → x.page ≡ s → b ≡ c → 1 ≤ shows_at a s c x.page (holds.Slot f)
        shown_self s c page_is one =
            let z : shows_at a s c x.page (holds.Slot f) ≡ same c b + foreign a e.order =
            ap (λ (k : Bool). cond k (same c b + foreign a e.order) 0)
            (eq-eqb s x.page (sym page_is)) in
            let y : same c b ≡ 1 = ap (same c) one ∙ same_self c in omega arith

      pub give_marks : Gift g w a l (slot x.page) (holds.Slot f) flown
      give_marks = give_slot g w a l flown
          (goes_on g ok w j a l who p rest todo (Visiting step.Flying x) [] l.fresh l.pin l.owed
          l.ahead l.behind l.page l.fail refl tt
          (visit_stage g p l.fresh l.pin l.owed l.ahead l.behind l.page l.fail _ step.Flying x sm.made
          sm.pins sm.owes sm.counts sm.fails sm.begun (record {
            trip = sm.visits.trip;
            step = (
              sm.visits.step.1,
              carried_is l.page (content g x.page e.order) (content_page g ok x.page e.order)
                  sm.visits.step.2,
            );
          }))
          (let z = lean_none l sm.made sm.owes in omega arith))
          (record { fresh = refl; pin = refl; owed = refl }) x.page e f held refl mark_home
          (λ h. refl) refl
          (λ q. let y = none_weight q l.ahead sm.counts.0 in
          let z = none_weight q l.behind sm.counts.1 in omega arith)
          mark_storage

    -- the page is kept in the block
    module _ (at : l.at ≡ Visiting step.Putting x) (b : ℕ) (block : x.block ≡ Some b) where
      su : Stage g p e (Visiting step.Putting x) l.fresh l.pin l.owed l.ahead l.behind l.page l.fail
      su = stage g ok w j a l who p rest todo _ (Visiting step.Putting x) held at

      abbrev kept_there : EntryState
      kept_there = put_back b e

      is_nothing : e.kept ≡ kept.Empty
      is_nothing = nothing_is e.kept su.visits.step.0.gone

      mark_there : e.under ≡ Some b
      mark_there = mark_is x.block e.under b block su.visits.step.0.mark

      put_page : (page : List ℕ) × (l.page ≡ Some page)
      put_page = some_page l.page su.visits.step.2

      -- what was written is what the page holds
      put_right : put_page.0 ≡ content g x.page e.order
      put_right = won_page g w j a l who step.Putting x at b block refl (content g x.page e.order)
          put_page.0 put_page.1
          (let r = ap (held_sum (spot n) (mark_at g x.page b (content g x.page e.order))) held in
          let z : mark_by x.page b (content g x.page e.order) x.page e.under
          (content g x.page e.order) ≡ 1 =
          ap (λ (u : Option ℕ). mark_by x.page b (content g x.page e.order) x.page u
          (content g x.page e.order)) mark_there
          ∙ rw (eq-eqb x.page x.page refl, eq-eqb b b refl, list_self (content g x.page e.order))
          refl in omega arith)

      page_there : l.page ≡ Some (content g x.page e.order)
      page_there = put_page.1 ∙ ap Some put_right

      put_home : AtHome g x.page (holds.Slot kept_there)
      put_home = record {
        sound = record {
          page = fits.page;
          calls = fits.calls;
          touched = fits.touched;
          mark = λ none idle. absurd (cc);
          small = omega arith;
        };
        stands = in_pool (form_at g x.page e.order) su.visits.step.0.pooled;
        backs = record {
          there = λ back. refl;
          only = λ none. absurd (let q : true ≡ false =
              sym (writes_on g ok w j a l who p rest todo su.begun) ∙ none in cc);
        };
        marks = record {
          idle_one = λ idle. absurd (cc);
          under_one = λ some. absurd (cc);
          stays = λ none was off. absurd (cc);
        };
      } where
        in_pool : (h : PageForm) → IsPooled h → IsForm g.chain h (kept.Wb b)
        in_pool (Pooled bytes huge) i = tt
        in_pool h i = absurd i

      -- what lies there was written there
      lies_there : (c : ℕ) (bytes : List ℕ)
          → lies_at g c bytes x.page (holds.Slot kept_there) ≡ written_at c bytes l
      lies_there c bytes = sym (ap (λ (i : At). cond (is_none l.fail) (written_by c bytes i l.page) 0) at
          ∙ (λ i. cond (is_none (no_one l.fail su.fails i)) (pair c bytes (block i) (page_there i)) 0))

      lies_none : (c : ℕ) (bytes : List ℕ) → lies_at g c bytes x.page (holds.Slot e) ≡ 0
      lies_none c bytes =
          ap (λ (k : Kept). lies_by c bytes k (content g x.page e.order)) is_nothing

      -- its mark is what it carried
      mark_carried_here : (i c : ℕ) (bytes : List ℕ)
          → carried_at i c bytes l ≡ mark_at g i c bytes x.page (holds.Slot e)
      mark_carried_here i c bytes = ap (λ (k : At). carried_by i c bytes k l.page) at
          ∙ (λ t. cond (i == x.page) (pair c bytes ((block ∙ sym mark_there) t) (page_there t)) 0)

      has_it : block_uses (using b) l ≡ 1
      has_it = has_block_in g w j a l who step.Putting x at b block refl

      others_show : (i s c : ℕ) → c ≢ b → shows_at i s c x.page (holds.Slot e)
          ≤ shows_at i s c x.page (holds.Slot kept_there)
      others_show i s c ne = by_page (s == x.page) where
        by_page : (k : Bool) → cond k (marks_of c e.under + foreign i e.order) 0
            ≤ cond k (0 + foreign i e.order) 0
        by_page true = let z = ap (marks_of c) mark_there in
            let y : same c b ≡ 0 = ⊎_elim (λ z. z) (λ o. absurd (ne o.1)) (same_is c b) in omega arith
        by_page false = omega arith

      pub give_puts : (m : Here) → Onward g l p rest (wrote_page x) m
          → Gift g w a l (slot x.page) (holds.Slot kept_there) m
      give_puts m on =
          let t = went g ok w j a l who p rest todo su.begun (wrote_page x)
          (let z = su.visits.trip.page in omega arith) (let z = su.visits.trip.few in omega arith) tt
          m on in
          give_slot g w a l m t.fits (free_hands l m su.made su.pins su.owes t.free) x.page e
          kept_there held t.free.held put_home
          (λ h. sym (ap (λ (k : Kept). claim_by h k (image g x.page e.order)) is_nothing)) refl
          (λ q. let y = ap (by_option (measure q)) su.counts.ahead in let z = su.counts.behind q in
          let u = ap (by_option (measure q)) t.free.ahead in
          let v = ap (by_option (measure q)) t.free.behind in omega arith)
          (put_storage m t.free t.says) where
            put_storage : (m : Here) → IsFree m → SaysNone m
                → Storage g w a l (slot x.page) (holds.Slot kept_there) m
            put_storage m free says = record {
              blocks = λ h. let r = ap (held_sum (spot n) (block_claims h)) held in
                  let r' = ap (held_sum (spot n) (block_claims h)) free.held in
                  let t = ap (held_sum (spot n) (used_blocks h)) held in
                  let t' = ap (held_sum (spot n) (used_blocks h)) free.held in
                  let u : block_uses h l ≡ h 1 b = ap (use_in h) at ∙ ap (by_option (h 1)) block in
                  let z = ap (block_by h) is_nothing in let y = says.uses h in omega arith;
              maps = let r = ap (held_sum (spot n) map_size) held in
                  let t = ap (held_sum (spot n) map_size) free.held in omega arith;
              devices = let r = ap (held_sum (spot n) device_size) held in
                  let t = ap (held_sum (spot n) device_size) free.held in omega arith;
              disk = λ c bytes lt.
                  let r = ap (held_sum (spot n) (lies_at g c bytes)) held in
                  let r' = ap (held_sum (spot n) (lies_at g c bytes)) free.held in
                  let t = ap (held_sum (spot n) (stored_at c bytes)) held in
                  let t' = ap (held_sum (spot n) (stored_at c bytes)) free.held in
                  let y = lies_there c bytes in let z = lies_none c bytes in
                  let u = says.written c bytes in
                  let d = j.disk c bytes (omega arith) in omega arith;
              marks = λ i c bytes. let r = ap (held_sum (spot n) (mark_at g i c bytes)) held in
                  let r' = ap (held_sum (spot n) (mark_at g i c bytes)) free.held in
                  let t = ap (held_sum (spot n) nothing) held in
                  let t' = ap (held_sum (spot n) nothing) free.held in
                  let y = mark_carried_here i c bytes in let u = says.carried i c bytes in
                  let z = no_mark i c bytes x.page None (content g x.page e.order) refl in
                  let q = j.marks i c bytes in omega arith;
              theirs = λ i y s c there ne is.
                  let r = ap (held_sum (spot n) (shows_at i s c)) held in
                  let t = ap (held_sum (spot n) (shows_at i s c)) free.held in
                  let z = others_show i s c (no_other g w j a l who step.Putting x at b block
                  (let q = has_it in omega arith) i y s c there ne is) in omega arith;
              mine = λ s c is. absurd (let q : None ≡ Some (s, c) = sym says.carries ∙ is in cc);
            }

    -- the mark is gone, or the write failed
    module _ (at : l.at ≡ Visiting step.Losing x) (b : ℕ) (block : x.block ≡ Some b) where
      sl : Stage g p e (Visiting step.Losing x) l.fresh l.pin l.owed l.ahead l.behind l.page l.fail
      sl = stage g ok w j a l who p rest todo _ (Visiting step.Losing x) held at

      abbrev cleared : EntryState
      cleared = unmarked x.block e

      abbrev undone : Here
      undone = on l (Visiting step.Undoing x) [] l.fresh l.pin l.owed l.ahead l.behind None l.fail

      here : VisitsPage g x e
      here = sl.visits.step.0.page

      still_some : is_some (unmark x.block e.under) ≡ true → is_some e.under ≡ true
      still_some = by_mark (is_mark_of x.block e.under) refl where
        by_mark : (k : Bool) → is_mark_of x.block e.under ≡ k
            → is_some (if k then None else e.under) ≡ true → is_some e.under ≡ true
        by_mark true on some = absurd (cc)
        by_mark false off some = some

      lose_home : AtHome g x.page (holds.Slot cleared)
      lose_home = record {
        sound = record {
          page = fits.page;
          calls = fits.calls;
          touched = fits.touched;
          mark = fits.mark;
          small = fits.small;
        };
        stands = here.stands;
        backs = here.backs;
        marks = record {
          idle_one = here.marks.idle_one;
          under_one = λ some. here.marks.under_one (still_some some);
          stays = here.marks.stays;
        };
      }

      lost_has : block_uses (using b) l ≡ 1
      lost_has = has_block_in g w j a l who step.Losing x at b block refl

      others_stay : (i s c : ℕ) → c ≢ b → shows_at i s c x.page (holds.Slot e)
          ≤ shows_at i s c x.page (holds.Slot cleared)
      others_stay i s c ne = let z = other_mark x.block e.under b block c ne in
          by_page (s == x.page) where
            by_page : (k : Bool) → cond k (marks_of c e.under + foreign i e.order) 0
                ≤ cond k (marks_of c (unmark x.block e.under) + foreign i e.order) 0
            by_page true = let z = other_mark x.block e.under b block c ne in omega arith
            by_page false = omega arith

      -- the marks of a page are with who holds its slot
      under_mark : (c : ℕ) (bytes : List ℕ) → Under n (Sound g)
          (at_place (spot n (slot x.page))) (mark_at g x.page c bytes)
      under_mark c bytes i (holds.Slot d) so z =
          ap (λ (k : Bool). cond k (pair c bytes d.under (Some (content g i d.order))) 0)
          (ne_eqb x.page i (λ q. let r : same x.page i ≡ 1 = ap (same x.page) (sym q)
          ∙ same_self x.page in let no : ⊥ = omega arith in no))
      under_mark c bytes i (holds.Class d) so z = refl
      under_mark c bytes i (holds.Account d) so z = refl
      under_mark c bytes i (holds.Blocks d) so z = refl
      under_mark c bytes i (holds.Device d) so z = refl

      lone_mark : (c : ℕ) (bytes : List ℕ)
          → total (spot n) (mark_at g x.page c bytes) none w
          ≡ held_sum (spot n) (mark_at g x.page c bytes) l.held
      lone_mark c bytes = lone g w j a l who (slot x.page) (mark_at g x.page c bytes)
          (under_mark c bytes)
          (let r = ap (held_sum (spot n) (at_place x.page)) held in let q = same_self x.page in
          omega arith)

      carried_here : (i c : ℕ) (bytes : List ℕ)
          → carried_at i c bytes l ≡ cond (i == x.page) (pair c bytes x.block l.page) 0
      carried_here i c bytes = ap (λ (k : At). carried_by i c bytes k l.page) at

      lose_marks : (i c : ℕ) (bytes : List ℕ)
          → total (spot n) (mark_at g i c bytes) none w + mark_at g i c bytes x.page (holds.Slot cleared)
          + carried_at i c bytes l
          ≤ total (spot n) nothing (carried_at i c bytes) w
          + mark_at g i c bytes x.page (holds.Slot e)
      lose_marks i c bytes = elim (cases_eq i x.page) [
        | inl same_page ↦ elim (cases_eq c b) [
          | inl same_block ↦ (
              let r = ap (held_sum (spot n) (mark_at g x.page c bytes)) held in
              let q = lone_mark c bytes in
              let z : mark_at g x.page c bytes x.page (holds.Slot cleared) ≡ 0 =
              ap (λ (k : ℕ). cond (x.page == x.page) k 0)
              (no_pair x.block e.under b block c bytes (content g x.page e.order) same_block)
              ∙ none_of (x.page == x.page) in
              let y = locals_le n (mass (spot n) nothing (carried_at x.page c bytes)) w.locals a l
              who in
              subst (λ (k : ℕ). total (spot n) (mark_at g k c bytes) none w
              + mark_at g k c bytes x.page (holds.Slot cleared) + carried_at k c bytes l
              ≤ total (spot n) nothing (carried_at k c bytes) w
              + mark_at g k c bytes x.page (holds.Slot e)) (sym same_page) (omega arith))
          | inr other ↦ (
              let q = j.marks i c bytes in
              let z : mark_at g i c bytes x.page (holds.Slot cleared)
              ≡ mark_at g i c bytes x.page (holds.Slot e) =
              ap (λ (k : ℕ). cond (i == x.page) k 0)
              (other_pair x.block e.under b block c bytes (Some (content g x.page e.order)) other) in
              let y : carried_at i c bytes l ≡ 0 = carried_here i c bytes
              ∙ ap (λ (k : ℕ). cond (i == x.page) k 0)
              (ap (λ (k : Option ℕ). pair c bytes k l.page) block ∙ other_block b c bytes l.page other)
              ∙ none_of (i == x.page) in omega arith)
        ]
        | inr other ↦ (
            let q = j.marks i c bytes in let off = ne_eqb i x.page other in
            let z : mark_at g i c bytes x.page (holds.Slot cleared) ≡ 0 =
            ap (λ (k : Bool). cond k (pair c bytes cleared.under
            (Some (content g x.page e.order))) 0) off in
            let y : carried_at i c bytes l ≡ 0 = carried_here i c bytes
            ∙ ap (λ (k : Bool). cond k (pair c bytes x.block l.page) 0) off in omega arith)
      ] where
        none_of : (k : Bool) → cond {A = ℕ} k 0 0 ≡ 0
        none_of true = refl
        none_of false = refl

      lose_storage : Storage g w a l (slot x.page) (holds.Slot cleared) undone
      lose_storage = record {
        blocks = λ h. let r = ap (held_sum (spot n) (block_claims h)) held in
            let t = ap (held_sum (spot n) (used_blocks h)) held in
            let u = ap (use_in h) at in omega arith;
        maps = let r = ap (held_sum (spot n) map_size) held in omega arith;
        devices = let r = ap (held_sum (spot n) device_size) held in omega arith;
        disk = λ c bytes lt.
            let r = ap (held_sum (spot n) (lies_at g c bytes)) held in
            let t = ap (held_sum (spot n) (stored_at c bytes)) held in
            let z = idle_written undone step.Undoing x refl refl c bytes in
            let d = j.disk c bytes (omega arith) in omega arith;
        marks = λ i c bytes. let r = ap (held_sum (spot n) (mark_at g i c bytes)) held in
            let t = ap (held_sum (spot n) nothing) held in
            let z = idle_carried undone step.Undoing x refl refl i c bytes in
            let q = lose_marks i c bytes in omega arith;
        theirs = λ i y s c there ne is. let r = ap (held_sum (spot n) (shows_at i s c)) held in
            let z = others_stay i s c (no_other g w j a l who step.Losing x at b block
            (let q = lost_has in omega arith) i y s c there ne is) in omega arith;
        mine = λ s c is. absurd (let q : None ≡ Some (s, c) =
            sym (idle_carries undone step.Undoing x refl refl) ∙ is in cc);
      }

      pub give_loses : Gift g w a l (slot x.page) (holds.Slot cleared) undone
      give_loses = give_slot g w a l undone
          (goes_on g ok w j a l who p rest todo (Visiting step.Undoing x) [] l.fresh l.pin l.owed
          l.ahead l.behind None l.fail refl tt
          (visit_stage g p l.fresh l.pin l.owed l.ahead l.behind None l.fail _ step.Undoing x sl.made
          sl.pins sl.owes sl.counts sl.fails sl.begun (record {
            trip = sl.visits.trip;
            step = (sl.visits.step.1, tt);
          }))
          (let z = lean_none l sl.made sl.owes in omega arith))
          (record { fresh = refl; pin = refl; owed = refl }) x.page e cleared held refl lose_home
          (λ h. refl) refl
          (λ q. let y = none_weight q l.ahead sl.counts.0 in
          let z = none_weight q l.behind sl.counts.1 in omega arith)
          lose_storage
