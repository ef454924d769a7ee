-- A writeback has met no more pages whose mark was gone than pages whose orders have tags of others:
-- each turn keeps that.
use Rattle.std.proofs.Common.{◌≡◌, ◌+◌, ◌≤◌, ◌∷◌, ◌∙◌, ◌++◌, ℕ, zero, suc, Bool, true, false, cond, List, [], Option, Some, None, slice_get, refl, sym, ap, subst, arith, inl, inr, ⊎_elim, ltb}
use Rattle.call_history.specs.declared.part.Part.{Part}
use Rattle.call_history.specs.declared.part.PartEnd.{PartEnd}
use Rattle.joint_rule.proofs.Facts.{Known}
use Rattle.joint_rule.proofs.Marked.{has_other}
use Rattle.joint_rule.proofs.Rises.{Grows, Keeps, Turned, orders_rise, plain, visits}
use Rattle.joint_rule.proofs.Sums.{get_set, gone, total_mono, total_up_over}
use Rattle.joint_rule.proofs.Trips.{NoTrip, plain_entered}
use Rattle.joint_rule.proofs.Visits.{Onward, VisitEvent}
use Rattle.joint_rule.specs.Begins.{Begin, terms}
use Rattle.joint_rule.specs.Joint.{AtHome, Joint, Sound}
use Rattle.joint_rule.specs.Rule.{FewLost}
use Rattle.joint_rule.specs.Weights.{foreign_at, lost_in, met_at, none, passed_in, some_of}
use Rattle.lock_row.specs.Totals.{held_sum, mass, total}
use Rattle.lock_row.specs.declared.names.At.{At}
use Rattle.lock_row.specs.declared.names.At.TheVariants.{Start, Visiting}
use Rattle.lock_row.specs.declared.names.LockNo.{LockNo}
use Rattle.lock_row.specs.declared.names.Plan.TheVariants.{Take}
use Rattle.lock_row.specs.declared.names.State.{State}
use Rattle.lock_row.specs.declared.names.Step.{Step}
use Rattle.lock_row.specs.declared.names.Trip.{Trip}
use Rattle.page_steps.specs.Pages.{next_form}
use Rattle.page_steps.specs.Steps.{DiskHeld, Here, after_take, arrived_at, begun_at, entry_in, entry_or, first_at, first_trip, is_mark_of, landed_at, lock_of, piece_over, plan, slot, spot, taken_at, took, visited_at}
use Rattle.page_steps.specs.Visits.{lost_page, passed_page, with_block, wrote_page}
use Rattle.plain_disk.specs.Phases.{foreign}
use Rattle.slot_entry.specs.Entries.{EntryState, is_eligible}
use Rattle.slot_entry.specs.Forms.{PageForm}
use Rattle.std.proofs.lemmas.Bool.{cases_Bool, le-ltb, lt-ltb, ltb-true}
use Rattle.zr_base.specs.Plain.{is_beyond, is_maintenance}
use Rattle.zr_base.specs.declared.op.Op.{Op}
use Rattle.zr_base.specs.declared.op.Op.TheVariants.{Compact, Discard, Idle, Read, Write, Writeback}
use Rattle.zr_base.specs.declared.op.Tag.{Tag}
use Rattle.joint_rule.proofs.Visits as visit
use Rattle.lock_row.specs.declared.names.Held.TheVariants as holds
use Rattle.lock_row.specs.declared.names.Step.TheVariants as step

-- ---- tags of others

-- an order that has one tag more has no fewer of others
pub foreign_grows : (a : ℕ) → Grows (λ i order. foreign a order)
foreign_grows a i order t = by_order_of order where
  by_order_of : (ts : List Tag) → foreign a ts ≤ foreign a (ts ++ t ∷ [])
  by_order_of [] = omega arith
  by_order_of (x ∷ xs) = let r = by_order_of xs in omega arith

some_up : (x y : ℕ) → x ≤ y → some_of x ≤ some_of y
some_up zero y le = omega arith
some_up (suc x) zero le = absurd (omega arith)
some_up (suc x) (suc y) le = omega arith

some_low : (x : ℕ) → some_of x ≤ x
some_low zero = omega arith
some_low (suc x) = omega arith

some_one : (x : ℕ) → 1 ≤ x → some_of x ≡ 1
some_one zero le = absurd (omega arith)
some_one (suc x) le = refl

cond_up : (b : Bool) (x y : ℕ) → x ≤ y → cond b x 0 ≤ cond b y 0
cond_up true x y le = le
cond_up false x y le = omega arith

pub met_grows : (a n : ℕ) → Grows (λ i order. cond (ltb i n) (some_of (foreign a order)) 0)
met_grows a n i order t =
    cond_up (ltb i n) _ _ (some_up _ _ (foreign_grows a i order t))

cond_low : (b : Bool) (x : ℕ) → cond b (some_of x) 0 ≤ x
cond_low true x = some_low x
cond_low false x = omega arith

-- a page that was met is one with such tags
met_foreign : (a n j : ℕ) (v : DiskHeld) → met_at a n j v ≤ foreign_at a j v
met_foreign a n j (holds.Slot e) = cond_low (ltb j n) (foreign a e.order)
met_foreign a n j (holds.Class p) = omega arith
met_foreign a n j (holds.Account p) = omega arith
met_foreign a n j (holds.Blocks p) = omega arith
met_foreign a n j (holds.Device p) = omega arith

-- where more pages were passed, no fewer were met
below_up : (j n : ℕ) (x : ℕ) → cond (ltb j n) x 0 ≤ cond (ltb j (n + 1)) x 0
below_up j n x = elim (cases_Bool (ltb j n)) [
  | inl on ↦ let lt = ltb-true j n on in rw (on, lt-ltb j (n + 1) (omega arith)) (omega arith)
  | inr off ↦ rw off (omega arith)
]

met_up : (a n j : ℕ) (v : DiskHeld) → met_at a n j v ≤ met_at a (n + 1) j v
met_up a n j (holds.Slot e) = below_up j n (some_of (foreign a e.order))
met_up a n j (holds.Class p) = omega arith
met_up a n j (holds.Account p) = omega arith
met_up a n j (holds.Blocks p) = omega arith
met_up a n j (holds.Device p) = omega arith

held_up : (size a n : ℕ) (xs : List (LockNo × DiskHeld))
    → held_sum (spot size) (met_at a n) xs ≤ held_sum (spot size) (met_at a (n + 1)) xs
held_up size a n [] = omega arith
held_up size a n (x ∷ xs) = let r = held_up size a n xs in
    let s = met_up a n (spot size x.0) x.1 in omega arith

module _ (g : Begin) (w : State DiskHeld) (j : Joint g w) where
  -- a writeback has met no more pages than there are tags of others
  pub met_few : (a n : ℕ) → total (spot g.given.size) (met_at a n) none w
      ≤ total (spot g.given.size) (foreign_at a) none w
  met_few a n = total_mono g.given.size (Sound g) (met_at a n) (foreign_at a)
      (λ i v so. met_foreign a n i v) w (λ i v e. (j.each.in_row i v e).sound)
      (λ b m e. (j.each.in_local b m e).sound)

  -- with the next page there are no fewer, and one more where it has such a tag
  more_met : (a n b : ℕ) (m : Here) → slice_get w.locals b ≡ Some m
      → total (spot g.given.size) (met_at a n) none w
      + mass (spot g.given.size) (met_at a (n + 1)) none m
      ≤ total (spot g.given.size) (met_at a (n + 1)) none w
      + mass (spot g.given.size) (met_at a n) none m
  more_met a n b m who = total_up_over g.given.size (AtHome g) (met_at a n) (met_at a (n + 1)) none
      none (λ i v h. met_up a n i v) w j.each.in_row
      (λ c y e. let r = held_up g.given.size a n y.held in omega arith) b m who

-- ---- takings

-- A writeback has lost as much at a second stage as at a first, and passed as many pages.
record LostAlike (was now : At) : Type 0 where
  lost : (fail : Option PartEnd) → lost_in now fail ≡ lost_in was fail
  passed : (fail : Option PartEnd) → passed_in now fail ≡ passed_in was fail

lost_same : (at : At) → LostAlike at at
lost_same at = record { lost = λ fail. refl; passed = λ fail. refl }

pub plain_lost : (at : At) (fail : Option PartEnd) → NoTrip at → lost_in at fail ≡ 0
plain_lost (Visiting s x) fail i = absurd i
plain_lost at fail i = refl

plain_passed : (at : At) (fail : Option PartEnd) → NoTrip at → passed_in at fail ≡ 0
plain_passed (Visiting s x) fail i = absurd i
plain_passed at fail i = refl

plain_alike : (was now : At) → NoTrip was → NoTrip now → LostAlike was now
plain_alike was now i k = record {
  lost = λ fail. plain_lost now fail k ∙ sym (plain_lost was fail i);
  passed = λ fail. plain_passed now fail k ∙ sym (plain_passed was fail i);
}

arrived_lost : (b : Bool) (x : Trip) → LostAlike (Visiting step.Arriving x) (arrived_at b x)
arrived_lost true x = record { lost = λ fail. refl; passed = λ fail. refl }
arrived_lost false x = record { lost = λ fail. refl; passed = λ fail. refl }

landed_lost : (fail : Option PartEnd) (x : Trip) (e : EntryState)
    → LostAlike (Visiting step.Landing x) (landed_at fail x e)
landed_lost None x e = elim (cases_Bool (is_mark_of x.block e.under)) [
  | inl on ↦ rw on (record { lost = λ fail. refl; passed = λ fail. refl })
  | inr off ↦ rw off (record { lost = λ fail. refl; passed = λ fail. refl })
]
landed_lost (Some end) x e = record { lost = λ fail. refl; passed = λ fail. refl }

undone_lost : (x : Trip) → LostAlike (Visiting step.Undoing x) (Visiting step.Releasing x)
undone_lost x = record { lost = lost_so; passed = passed_so } where
  lost_so : (fail : Option PartEnd)
      → lost_in (Visiting step.Releasing x) fail ≡ lost_in (Visiting step.Undoing x) fail
  lost_so None = refl
  lost_so (Some end) = refl

  passed_so : (fail : Option PartEnd)
      → passed_in (Visiting step.Releasing x) fail ≡ passed_in (Visiting step.Undoing x) fail
  passed_so None = refl
  passed_so (Some end) = refl

visited_lost : (s : Step) (x : Trip) (op : Op) (e : EntryState) (fail : Option PartEnd)
    → LostAlike (Visiting s x) (visited_at s x op e fail)
visited_lost step.Arriving x op e fail = arrived_lost _ x
visited_lost step.Landing x op e fail = landed_lost fail x e
visited_lost step.Undoing x op e fail = undone_lost x
visited_lost step.Releasing x op e fail = lost_same (Visiting step.Releasing x)
visited_lost s x op e fail = record { lost = λ fail. refl; passed = λ fail. refl }

first_trip_lost : (b : Bool) → LostAlike Start (arrived_at b first_trip)
first_trip_lost true = record { lost = λ fail. refl; passed = λ fail. refl }
first_trip_lost false = record { lost = λ fail. refl; passed = λ fail. refl }

first_lost : (op : Op) (e : EntryState) → LostAlike Start (first_at op e)
first_lost (Writeback mode) e = first_trip_lost (is_eligible mode e)
first_lost (Write start count stuff) e = plain_alike Start _ tt tt
first_lost (Read start count) e = plain_alike Start _ tt tt
first_lost (Discard start count) e = plain_alike Start _ tt tt
first_lost (Idle age) e = plain_alike Start _ tt tt
first_lost Compact e = plain_alike Start _ tt tt

begun_lost : (a b : Bool) (p : Part) (f : PageForm) (e : EntryState)
    → LostAlike Start (begun_at a b p f e)
begun_lost true b p f e = first_lost p.op e
begun_lost false true p f e = plain_alike Start _ tt tt
begun_lost false false p f e = plain_alike Start _ tt (plain_entered p.op p.page f e.kept)

after_lost : (size : ℕ) (at : At) (p : Part) (f : PageForm) (e : EntryState)
    (fail : Option PartEnd) → LostAlike at (after_take size at p f e fail)
after_lost size Start p f e fail = begun_lost (is_maintenance p.op) (is_beyond size p.op) p f e
after_lost size (Visiting s x) p f e fail = visited_lost s x p.op e fail
after_lost size at p f e fail = plain_alike at _ tt tt

taken_lost : (size : ℕ) (todo : List Part) (at : At) (page : Option (List ℕ)) (e : EntryState)
    (fail : Option PartEnd) → LostAlike at (taken_at size todo at page e fail)
taken_lost size [] at page e fail = lost_same at
taken_lost size (p ∷ ps) at page e fail = after_lost size at p (next_form p page e.kept) e fail

-- ---- the rule

module _ (g : Begin) (ok : Known g) (w : State DiskHeld) (a : ℕ) (l : Here)
    (who : slice_get w.locals a ≡ Some l) (k : LockNo) (v : DiskHeld) where
  abbrev n : ℕ
  n = g.given.size

  pub lost_take : plan (terms g) l ≡ Take k → slice_get w.row (spot n k) ≡ Some (Some v)
      → FewLost g w → FewLost g (gone n w a l who k None (took (terms g) l v))
  lost_take what there few b y e =
      let m = took (terms g) l v in
      let held = ap (λ p. (lock_of p, v) ∷ l.held) what in
      let same = λ (c : ℕ) (i : ℕ).
      ok.facts.take (spot n) (met_at c i) none w a l k v m who there held refl in
      ⊎_elim
      (λ s. let x = taken_lost n l.todo l.at l.page (entry_or v (entry_in l.held)) l.fail in
      subst (λ (z : ℕ × Here). lost_in z.1.at z.1.fail
      ≤ total (spot n) (met_at z.0 (passed_in z.1.at z.1.fail)) none
      (gone n w a l who k None m)) (λ i. (sym s.0 i, s.1 i))
      (let r = few a l who in let t = same a (passed_in l.at l.fail) in
      let u = x.lost l.fail in
      let p = ap (λ (i : ℕ). total (spot n) (met_at a i) none (gone n w a l who k None m))
      (x.passed l.fail) in omega arith))
      (λ o. let r = few b y o.1 in let t = same b (passed_in y.at y.fail) in omega arith)
      (get_set w.locals a b m y l who e)

-- ---- givings

module _ (g : Begin) (ok : Known g) (w : State DiskHeld) (j : Joint g w) (a : ℕ) (l : Here)
    (who : slice_get w.locals a ≡ Some l) (k : LockNo) (v : DiskHeld) (m : Here) where
  abbrev size : ℕ
  size = g.given.size

  -- what the actor has lost by now is within what it has met
  abbrev Met : Type 0
  Met = lost_in m.at m.fail ≤ total (spot size) (met_at a (passed_in m.at m.fail)) none w

  module _ (few : FewLost g w) where
    now_is : (t : At) (fail : Option PartEnd) → m.at ≡ t → m.fail ≡ fail
        → lost_in t fail ≤ total (spot size) (met_at a (passed_in t fail)) none w → Met
    now_is t fail at is le = subst (λ (z : At × Option PartEnd).
        lost_in z.0 z.1 ≤ total (spot size) (met_at a (passed_in z.0 z.1)) none w)
        (λ i. (sym at i, sym is i)) le

    was : (t : At) (fail : Option PartEnd) → l.at ≡ t → l.fail ≡ fail
        → lost_in t fail ≤ total (spot size) (met_at a (passed_in t fail)) none w
    was t fail at is = subst (λ (z : At × Option PartEnd).
        lost_in z.0 z.1 ≤ total (spot size) (met_at a (passed_in z.0 z.1)) none w)
        (λ i. (at i, is i)) (few a l who)

    -- it is at no writeback
    at_none : NoTrip m.at → Met
    at_none i = let r = plain_lost m.at m.fail i in omega arith

    over_none : (p : Part) (rest : List Part) (x : PartEnd) → m ≡ piece_over l p x [] rest → Met
    over_none p rest x is = at_none (subst NoTrip (sym (ap (λ (i : Here). i.at) is)) tt)

    -- the visit of a page is over
    onward_met : (p : Part) (rest : List Part) (y : Trip)
        → y.lost ≤ total (spot size) (met_at a y.page) none w → Onward g l p rest y m → Met
    onward_met p rest y le (visit.next off m_is) =
        now_is (Visiting step.Arriving y) None (ap (λ (i : Here). i.at) m_is)
        (ap (λ (i : Here). i.fail) m_is) le
    onward_met p rest y le (visit.last on m_is) = over_none p rest _ m_is

    next_met : (x : Trip) → x.lost ≤ total (spot size) (met_at a x.page) none w
        → x.lost ≤ total (spot size) (met_at a (x.page + 1)) none w
    next_met x le = let r = more_met g w j a x.page a l who in
        let s = held_up size a x.page l.held in omega arith

    -- a mark that is gone tells of another actor
    loses_met : (p : Part) (rest : List Part) (x : Trip) (e : EntryState)
        → l.at ≡ Visiting step.Losing x → l.held ≡ (slot x.page, holds.Slot e) ∷ []
        → l.fail ≡ None → x.lost + 1 ≤ total (spot size) (met_at a (x.page + 1)) none w
    loses_met p rest x e at held well =
        let le = was (Visiting step.Losing x) None at well in
        let r = more_met g w j a x.page a l who in
        let other = has_other g w j a l who x at well in
        let q = ap (λ (y : List (LockNo × DiskHeld)). foreign a (entry_in y).order) held in
        let one = some_one (foreign a e.order) (omega arith) in
        let before = ap (held_sum (spot size) (met_at a x.page)) held in
        let after = ap (held_sum (spot size) (met_at a (x.page + 1))) held in
        let off = ap (λ (b : Bool). cond b (some_of (foreign a e.order)) 0)
        (le-ltb x.page x.page (omega arith)) in
        let on = ap (λ (b : Bool). cond b (some_of (foreign a e.order)) 0)
        (lt-ltb x.page (x.page + 1) (omega arith)) in omega arith

    same_met : (s t : Step) (x y : Trip) (m₀ : Here) → l.at ≡ Visiting s x → m ≡ m₀
        → m₀.at ≡ Visiting t y
        → ((b : Option PartEnd) → lost_in (Visiting s x) b ≡ x.lost)
        → ((b : Option PartEnd) → passed_in (Visiting s x) b ≡ x.page)
        → ((b : Option PartEnd) → lost_in (Visiting t y) b ≡ x.lost)
        → ((b : Option PartEnd) → passed_in (Visiting t y) b ≡ x.page)
        → Met
    same_met s t x y m₀ at is now lost passed lost' passed' =
        now_is (Visiting t y) m.fail (ap (λ (i : Here). i.at) is ∙ now) refl
        (let r = was (Visiting s x) l.fail at refl in let a0 = lost l.fail in
        let b0 = lost' m.fail in
        let z = ap (λ (i : ℕ). total (spot size) (met_at a i) none w)
        (passed l.fail ∙ sym (passed' m.fail)) in omega arith)

    visit_met : VisitEvent g l v m → Met
    visit_met (visit.passes p rest x e todo at held v_is on) =
        onward_met p rest (passed_page x) (next_met x (was (Visiting step.Passing x) l.fail at refl))
        on
    visit_met (visit.reserves p rest x e y b todo at held answer v_is m_is) =
        same_met step.Reserving step.Seen x (with_block x b) _ at m_is refl (λ i. refl) (λ i. refl)
        (λ i. refl) (λ i. refl)
    visit_met (visit.refrains p rest x e y r end todo at held answer is v_is m_is) =
        same_met step.Reserving step.Quitting x x _ at m_is refl (λ i. refl) (λ i. refl)
        (λ i. refl) (λ i. refl)
    visit_met (visit.quits p rest x e end todo at held bad v_is m_is) = over_none p rest end m_is
    visit_met (visit.pins p rest x e o q q' u u' cell todo at held is sw named_u free taken is_cell
        in_cell v_is m_is) =
        same_met step.Pinning step.Pinned x x _ at m_is refl (λ i. refl) (λ i. refl) (λ i. refl)
        (λ i. refl)
    visit_met (visit.unpins p rest x e o q q' u u' todo at held is sw named_u taken free v_is m_is) =
        same_met step.Unpinning step.Marking x x _ at m_is refl (λ i. refl) (λ i. refl) (λ i. refl)
        (λ i. refl)
    visit_met (visit.marks p rest x e b todo at held block v_is m_is) =
        same_met step.Marking step.Flying x x _ at m_is refl (λ i. refl) (λ i. refl) (λ i. refl)
        (λ i. refl)
    visit_met (visit.stores p rest x b page d d' todo at held block is write v_is m_is) =
        same_met step.Storing step.Landing x x _ at m_is refl (λ i. refl) (λ i. refl) (λ i. refl)
        (λ i. refl)
    visit_met (visit.spoils p rest x b d d' fault todo at held block failed v_is m_is) =
        same_met step.Storing step.Landing x x _ at m_is refl (λ i. refl) (λ i. refl) (λ i. refl)
        (λ i. refl)
    visit_met (visit.frees p rest x e o q q' u frames todo at held is up named_u home v_is m_is) =
        same_met step.Freeing step.Backing x x _ at m_is refl (λ i. refl) (λ i. refl) (λ i. refl)
        (λ i. refl)
    visit_met (visit.commits p rest x e b y todo at held block v_is m_is) =
        same_met step.Committing step.Owing x x _ at m_is refl (λ i. refl) (λ i. refl) (λ i. refl)
        (λ i. refl)
    visit_met (visit.pays p rest x e c before todo at held is v_is m_is) =
        same_met step.Paying step.Putting x x _ at m_is refl (λ i. refl) (λ i. refl) (λ i. refl)
        (λ i. refl)
    visit_met (visit.puts p rest x e b todo at held block v_is on) =
        onward_met p rest (wrote_page x) (next_met x (was (Visiting step.Putting x) l.fail at refl))
        on
    visit_met (visit.loses p rest x e todo at held v_is m_is) = by_fail l.fail refl where
      by_fail : (fail : Option PartEnd) → l.fail ≡ fail → Met
      by_fail None well = now_is (Visiting step.Undoing x) None (ap (λ (i : Here). i.at) m_is)
          (ap (λ (i : Here). i.fail) m_is ∙ well) (loses_met p rest x e at held well)
      by_fail (Some end) bad = now_is (Visiting step.Undoing x) (Some end)
          (ap (λ (i : Here). i.at) m_is) (ap (λ (i : Here). i.fail) m_is ∙ bad)
          (was (Visiting step.Losing x) (Some end) at bad)
    visit_met (visit.releases p rest x b y todo at held block well v_is on) =
        onward_met p rest (lost_page x) (was (Visiting step.Releasing x) None at well) on
    visit_met (visit.stops p rest x b y end todo at held block bad v_is m_is) =
        over_none p rest end m_is

    met_of : Turned g ok w j a l who k v m → Met
    met_of (plain keeps wrote now) = at_none now
    met_of (visits t) = visit_met t

    pub lost_give : slice_get w.row (spot size k) ≡ Some None → Turned g ok w j a l who k v m
        → Keeps g ok w j a l who k v m → FewLost g (gone size w a l who k (Some v) m)
    lost_give there t keeps b y e =
        let up = λ (c i : ℕ). orders_rise g ok w j a l who k v m there keeps none refl _
        (met_grows c i) in
        ⊎_elim
        (λ s. subst (λ (z : ℕ × Here). lost_in z.1.at z.1.fail
        ≤ total (spot size) (met_at z.0 (passed_in z.1.at z.1.fail)) none
        (gone size w a l who k (Some v) m)) (λ i. (sym s.0 i, s.1 i))
        (let r = met_of t in let u = up a (passed_in m.at m.fail) in omega arith))
        (λ o. let r = few b y o.1 in let u = up b (passed_in y.at y.fail) in omega arith)
        (get_set w.locals a b m y l who e)
