-- A phase that is set up: its entries, and the state before its first turn.
use Rattle.std.proofs.Common.{◌≡◌, ◌⊎◌, ℕ, zero, suc, ◌+◌, ◌<◌, ◌≤◌, ◌≢◌, Bool, true, false, ◌||◌, List, [], ◌∷◌, ◌++◌, inl, inr, length, get_or, Option, Some, None, slice_get, refl, sym, ap, ◌∙◌, subst, arith}
use Rattle.std.specs.BTreeMap.{BTreeMap}
use Rattle.std.specs.List.{AllByRecursion}
use mathlib.Core.Logic.{dite}
use native.Mathlib.Decide.{ℕ_discrete}
use Rattle.std.proofs.lemmas.List.{length-map}
use Rattle.std.proofs.lemmas.Bool.{cases_Bool, cases_lt}
use Rattle.zr_base.specs.declared.op.Op.{Op}
use Rattle.call_history.specs.declared.part.Done.{Done}
use Rattle.call_history.specs.Parts.{program}
use Rattle.lock_row.specs.declared.names.Held.TheVariants as holds
use Rattle.lock_row.specs.declared.names.State.{State}
use Rattle.slot_entry.specs.Entries.{EntryState}
use Rattle.page_steps.specs.Steps.{Terms, DiskHeld, Here}
use Rattle.actor_steps.specs.declared.worker.Worker.{Worker}
use Rattle.actor_steps.specs.Counts.{count_at, pieces_each as counted_each}
use Rattle.actor_steps.specs.Preparing.{AreNewWorkers}
use Rattle.actor_steps.specs.Places.{IsWork, todo_at}
use Rattle.actor_steps.specs.Workers.{here, stage_of, at_by, held_by, pin_by, owed_by, ahead_by, behind_by, page_by, fail_by, Keeps}
use Rattle.page_steps.specs.Calls.{fresh_of}
use Rattle.joint_rule.specs.Begins.{Begin, pieces_on, pieces_each}
use Rattle.joint_rule.specs.Laws.{StartHasRule, RestGoesOn, RequestsAreProper}
use Rattle.joint_rule.specs.Rule.{owed}
use Rattle.joint_rule.specs.Starts.{IsStart}
use Rattle.zr_core.specs.declared.limits.TheConstants.{MOST_CHAIN}
use Rattle.zr_core.specs.declared.spare.Spare.{Spare}
use Rattle.zr_core.specs.Machines.{order_at, without_calls, IsKept, KeepsValues, Begins, IsSetUp}
use Rattle.zr_core.specs.Noted.{is_in, AreCounted, HasAllOrders}
use Rattle.zr_core.specs.Preparing.{IsReserved, KeepsPage, AreReserved}
use Rattle.zr_core.specs.Rests.{HasEntries, IsTime, RestsAs, IsAtRest, IsBare, begun}
use Rattle.zr_core.specs.Runs.{nothing_over}
use Rattle.zr_core.specs.States.{heres, Playing, state_of, AreKept, IsOf, IsPrepared, IsSetUpOn, IsEmpty, HasRule, CanGoOn}
use Rattle.zr_core.proofs.Blanks.{begins_proper}
use Rattle.zr_core.proofs.Counts.{pieces_few}
use Rattle.zr_core.proofs.Ended.{each_same}
use Rattle.zr_core.proofs.Matches.{Row, emptied_at, order_is}
use Rattle.zr_core.proofs.Noted.{was_in, wasn_t_in, or_false}
use Rattle.zr_core.proofs.Rests.{rests_on, entry_known, begins}

-- ---- the row

same_entry : (e f : EntryState) (c : Option (Option DiskHeld)) → c ≡ Some (Some (holds.Slot e))
    → c ≡ Some (Some (holds.Slot f)) → e ≡ f
same_entry e f c p q = let r : c ≡ Some (Some (holds.Slot f)) = q in cc

-- an entry is as one before it, but for its order, where each step keeps it so
kept_on : (a b c d : EntryState) → b ≡ record a { order = b.order; room = b.room } → c ≡ b
    → d ≡ record c { order = d.order; room = d.room }
    → d ≡ record a { order = d.order; room = d.room }
kept_on a b c d first same then = then
    ∙ ap (λ (e : EntryState). record e { order = d.order; room = d.room }) (same ∙ first)

pub reserved_none : (size : ℕ) (counts : BTreeMap ℕ ℕ) (cells : List (Option DiskHeld))
    → HasEntries size cells → AreReserved (is_in []) counts size cells cells
reserved_none size counts cells rest = record {
  size = refl;
  others = λ k ge. refl;
  each = λ p lt. let e = rest.each p lt in record {
    was = e.0;
    is = e.0;
    before = e.1;
    after = e.1;
    kept = refl;
    order = λ none. absurd (cc);
    room = λ none. absurd (cc);
    same = λ off. refl;
  };
}

pub reserved_more : (counts : BTreeMap ℕ ℕ) (xs : List ℕ) (size page n : ℕ) → page < size
    → (old mid new : List (Option DiskHeld))
    → n ≡ count_at counts page → AreReserved (is_in xs) counts size old mid → IsReserved page n mid new
    → AreReserved (is_in (xs ++ page ∷ [])) counts size old new
reserved_more counts xs size page n low old mid new count r x = record {
  size = x.size ∙ r.size;
  others = λ k ge. x.others k (λ e. let none : ⊥ = omega arith in none) ∙ r.others k ge;
  each = λ p lt. let k = r.each p lt in dite (ℕ_discrete p page)
      (λ s.
      let mine = same_entry x.was k.is (slice_get mid page) x.before
      (ap (slice_get mid) (sym s) ∙ k.after) in
      record {
        was = k.was;
        is = x.is;
        before = k.before;
        after = ap (slice_get new) s ∙ x.after;
        kept = kept_on k.was k.is x.was x.is k.kept mine x.kept;
        order = λ done. x.order;
        room = λ done. let q = x.room in let t = ap (count_at counts) s in omega arith;
        same = λ off. absurd ((wasn_t_in xs page p off).1 s);
      })
      (λ ne. record {
        was = k.was;
        is = k.is;
        before = k.before;
        after = x.others p ne ∙ k.after;
        kept = k.kept;
        order = λ done. k.order (before_it p ne done);
        room = λ done. k.room (before_it p ne done);
        same = λ off. k.same (wasn_t_in xs page p off).0;
      });
} where
  before_it : (p : ℕ) → p ≢ page → is_in (xs ++ page ∷ []) p ≡ true → is_in xs p ≡ true
  before_it p ne done = elim (was_in xs page p done) [ inl old ↦ old | inr same ↦ absurd (ne same) ]

-- one after the other
pub reserved_both : (d e : ℕ → Bool) (counts : BTreeMap ℕ ℕ) (size : ℕ) (old mid new : List (Option DiskHeld))
    → AreReserved d counts size old mid → AreReserved e counts size mid new
    → AreReserved (λ p. e p || d p) counts size old new
reserved_both d e counts size old mid new r s = record {
  size = s.size ∙ r.size;
  others = λ k ge. s.others k ge ∙ r.others k ge;
  each = λ p lt. both p lt (e p) refl;
} where
  both : (p : ℕ) → p < size → (b : Bool) → e p ≡ b
      → KeepsPage (λ q. e q || d q) counts p old new
  both p lt b is =
      let k = r.each p lt in
      let l = s.each p lt in
      let mine = same_entry l.was k.is (slice_get mid p) l.before k.after in record {
        was = k.was;
        is = l.is;
        before = k.before;
        after = l.after;
        kept = kept_on k.was k.is l.was l.is k.kept mine l.kept;
        order = λ done. elim (cases_Bool (e p)) [
          | inl on ↦ l.order on
          | inr off ↦ ap (λ (x : EntryState). x.order) (l.same off ∙ mine)
              ∙ k.order (sym (ap (λ (c : Bool). c || d p) off) ∙ done)
        ];
        room = λ done. elim (cases_Bool (e p)) [
          | inl on ↦ l.room on
          | inr off ↦ (let q = k.room (sym (ap (λ (c : Bool). c || d p) off) ∙ done) in
              let t = ap (λ (x : EntryState). x.room) (l.same off ∙ mine) in omega arith)
        ];
        same = λ off. let o = or_false (e p) (d p) off in l.same o.0 ∙ mine ∙ k.same o.1;
      }

-- each page of a list is one of the disk
pub page_low : (size : ℕ) (pages : List ℕ) (i d : ℕ) → AllByRecursion (λ p. p < size) pages
    → i < length pages → get_or pages i d < size
page_low size [] i d all lt = absurd (omega arith)
page_low size (p ∷ ps) zero d all lt = all.0
page_low size (p ∷ ps) (suc i) d all lt = page_low size ps i d all.1 (omega arith)

pub reserved_entries : (size : ℕ) (d : ℕ → Bool) (counts : BTreeMap ℕ ℕ) (old new : Row)
    → HasEntries size old → AreReserved d counts size old new → HasEntries size new
reserved_entries size d counts old new rest r = record {
  size = (let a = rest.size in let b = r.size in omega arith);
  each = λ p lt. let k = r.each p lt in (k.is, k.after);
}

-- a page without an order has none after it
pub reserved_orders : (size : ℕ) (d : ℕ → Bool) (counts : BTreeMap ℕ ℕ) (noted : List ℕ)
    (old new : Row) → HasAllOrders size noted old → AreReserved d counts size old new → HasAllOrders size noted new
reserved_orders size d counts noted old new orders r = record {
  listed = orders.listed;
  others = none;
} where
  none : (p : ℕ) → p < size → is_in noted p ≡ false → order_at new p ≡ []
  none p lt off =
      let k = r.each p lt in
      order_is new p k.is k.after ∙ elim (cases_Bool (d p)) [
        | inl on ↦ k.order on
        | inr not ↦ ap (λ (x : EntryState). x.order) (k.same not)
            ∙ sym (order_is old p k.was k.before) ∙ orders.others p lt off
      ]

-- all pages have no order and their room, where those with an order and those with pieces are done
pub all_reserved : (size : ℕ) (counts : BTreeMap ℕ ℕ) (noted pages : List ℕ) (old mid new : Row)
    → HasAllOrders size noted old → AreCounted size counts pages
    → AreReserved (is_in noted) counts size old mid
    → AreReserved (is_in pages) counts size mid new → AreReserved (λ p. true) counts size old new
all_reserved size counts noted pages old mid new orders c r s = record {
  size = both.size;
  others = both.others;
  each = λ p lt. let k = both.each p lt in record {
    was = k.was;
    is = k.is;
    before = k.before;
    after = k.after;
    kept = k.kept;
    order = λ on. elim (cases_Bool (is_in pages p || is_in noted p)) [
      | inl done ↦ k.order done
      | inr off ↦ ap (λ (x : EntryState). x.order) (k.same off)
          ∙ sym (order_is old p k.was k.before)
          ∙ orders.others p lt (or_false (is_in pages p) (is_in noted p) off).1
    ];
    room = λ on. elim (cases_Bool (is_in pages p || is_in noted p)) [
      | inl done ↦ k.room done
      | inr off ↦ (let z = c.others p lt (or_false (is_in pages p) (is_in noted p) off).0 in
          omega arith)
    ];
    same = λ off. absurd (cc);
  };
} where
  both : AreReserved (λ p. is_in pages p || is_in noted p) counts size old new
  both = reserved_both (is_in noted) (is_in pages) counts size old mid new r s

-- each value is as before, but for the orders
kept_refl : (v : DiskHeld) → IsKept v v
kept_refl (holds.Slot e) = (e, refl, refl)
kept_refl (holds.Class q) = refl
kept_refl (holds.Account c) = refl
kept_refl (holds.Blocks x) = refl
kept_refl (holds.Device x) = refl

pub keeps_same : (row : Row) → KeepsValues row row
keeps_same row = record { size = refl; each = λ k v at. (v, at, kept_refl v) }

-- after the pages no value is an entry
pub no_entry : (pages : ℕ) (noted : List ℕ) (cells : Row) → IsAtRest pages noted cells
    → (k : ℕ) (e : EntryState) → pages ≤ k → slice_get cells k ≡ Some (Some (holds.Slot e)) → ⊥
no_entry pages noted cells rest k e ge at = by rest.rests where
  by : IsBare pages cells ⊎ ((g : Begin) × RestsAs g pages cells) → ⊥
  by (inl bare) = let q : None ≡ Some (Some (holds.Slot e)) =
      sym (ap (λ (row : Row). slice_get row k) bare.1) ∙ at in cc
  by (inr (g, rests)) =
      let lt = (rests.row.home k (without_calls (holds.Slot e))
      (emptied_at cells k (Some (holds.Slot e)) at)).sound.page in
      let s = rests.size in let none : ⊥ = omega arith in none

pub keeps_values : (size : ℕ) (d : ℕ → Bool) (counts : BTreeMap ℕ ℕ) (old new : Row)
    → AreReserved d counts size old new → KeepsValues old new
keeps_values size d counts old new r = record { size = r.size; each = each } where
  each : (k : ℕ) (v : DiskHeld) → slice_get old k ≡ Some (Some v)
      → (u : DiskHeld) × (slice_get new k ≡ Some (Some u)) × IsKept v u
  each k v at = elim (cases_lt k size) [
    | inl lt ↦ (let p = r.each k lt in (
      holds.Slot p.is,
      p.after,
      subst (λ (x : DiskHeld). IsKept x (holds.Slot p.is))
          (let q : Some (Some (holds.Slot p.was)) ≡ Some (Some v) = sym p.before ∙ at in
          let s : holds.Slot p.was ≡ v = cc in s) (p.is, refl, p.kept),
    ))
    | inr ge ↦ (v, r.others k ge ∙ at, kept_refl v)
  ]

-- what a prepare that fails leaves is at rest
pub still_rests : (pages : ℕ) (noted : List ℕ) (old new : Row) → IsAtRest pages noted old
    → (d : ℕ → Bool) (counts : BTreeMap ℕ ℕ) → AreReserved d counts pages old new
    → IsAtRest pages noted new
still_rests pages noted old new rest d counts r = record {
  entries = reserved_entries pages d counts old new rest.entries r;
  orders = reserved_orders pages d counts noted old new rest.orders r;
  rests = by rest.rests;
} where
  by : IsBare pages old ⊎ ((g : Begin) × RestsAs g pages old)
      → IsBare pages new ⊎ ((g : Begin) × RestsAs g pages new)
  by (inl bare) = inl (bare.0, empty new (let a = r.size in let b = ap length bare.1 in omega arith))
    where
      empty : (row : Row) → length row ≡ 0 → row ≡ []
      empty [] e = refl
      empty (x ∷ row) e = absurd (let none : ⊥ = omega arith in none)
  by (inr (g, rests)) =
      inr (g, rests_on g pages old rests new (keeps_values pages d counts old new r))

-- ---- the workers

-- where there are actors the disk has a page
pub has_page : (pages : ℕ) (actors : List (List Op)) → (pages ≡ 0 → actors ≡ [])
    → 0 < length actors → 0 < pages
has_page zero actors none lt = absurd (let q = ap length (none refl) in let no : ⊥ = omega arith in no)
has_page (suc n) actors none lt = omega arith

none_over : {D : Type 0} (ws : List (Worker D)) (a : ℕ) (done : List Done)
    → slice_get (nothing_over ws) a ≡ Some done
    → done ≡ []
none_over [] a done e = absurd (cc)
none_over (w ∷ ws) zero done e = let q : Some (let ds : List Done = [] in ds) ≡ Some done = e in cc
none_over (w ∷ ws) (suc a) done e = none_over ws a done e

record HereAt {D : Type 0} (t : Terms) (backed : Bool) (actors : List (List Op)) (ws : List (Worker D))
    (a : ℕ) (l : Here) : Type 0 where
  ops : List Op
  worker : Worker D
  named : slice_get actors a ≡ Some ops
  there : slice_get ws a ≡ Some worker
  is : l ≡ here t.size backed ops worker []

here_at : {D : Type 0} (t : Terms) (backed : Bool) (actors : List (List Op)) (ws : List (Worker D))
    (a : ℕ) (l : Here) → slice_get (heres t backed actors ws (nothing_over ws)) a ≡ Some l
    → HereAt t backed actors ws a l
here_at t backed [] ws a l e = absurd (cc)
here_at t backed (ops ∷ more) [] a l e = absurd (cc)
here_at t backed (ops ∷ more) (w ∷ ws) zero l e =
    record {
      ops = ops;
      worker = w;
      named = refl;
      there = refl;
      is =
          (let q : Some (here t.size backed ops w []) ≡ Some l = e in cc);
    }
here_at t backed (ops ∷ more) (w ∷ ws) (suc a) l e = let h = here_at t backed more ws a l e in
    record { ops = h.ops; worker = h.worker; named = h.named; there = h.there; is = h.is }

as_many : {D : Type 0} (t : Terms) (backed : Bool) (actors : List (List Op)) (ws : List (Worker D))
    → length ws ≡ length actors → length (heres t backed actors ws (nothing_over ws)) ≡ length actors
as_many t backed [] ws e = refl
as_many t backed (ops ∷ more) [] e = absurd (let q : 0 ≡ suc (length more) = e in
    let none : ⊥ = omega arith in none)
as_many t backed (ops ∷ more) (w ∷ ws) e = ap suc (as_many t backed more ws (omega arith))

owed_is : {D : Type 0} (t : Terms) (backed : Bool) (p : ℕ) (actors : List (List Op)) (ws : List (Worker D))
    → length ws ≡ length actors
    → ((a : ℕ) (ops : List Op) (w : Worker D) → slice_get actors a ≡ Some ops
    → slice_get ws a ≡ Some w
    → todo_at t.size backed ops w.place ≡ program t.size backed 0 ops)
    → owed t.size (heres t backed actors ws (nothing_over ws)) p ≡ pieces_each t.size backed actors p
owed_is t backed p [] ws e todo = refl
owed_is t backed p (ops ∷ more) [] e todo = absurd (let q : 0 ≡ suc (length more) = e in
    let none : ⊥ = omega arith in none)
owed_is t backed p (ops ∷ more) (w ∷ ws) e todo =
    λ i. pieces_on t.size p (todo 0 ops w refl refl i)
    + owed_is t backed p more ws (omega arith)
    (λ a os v named there. todo (suc a) os v named there) i

-- ---- the state before the first turn

module _ {D : Type 0} (t : Terms) (backed : Bool) (actors : List (List Op)) (cells cells' : Row)
    (ws : List (Worker D))
    (limit : ℕ) (spare : Option (Spare D)) (counts : BTreeMap ℕ ℕ) (noted : List ℕ)
    (new : AreNewWorkers t.size backed t.chain actors ws)
    (counted : (p : ℕ) → p < t.size → count_at counts p ≡ counted_each t.size backed actors p)
    (r : AreReserved (λ p. true) counts t.size cells cells')
    (beyond : (k : ℕ) (e : EntryState) → t.size ≤ k
    → slice_get cells k ≡ Some (Some (holds.Slot e)) → ⊥) where
  abbrev now : Playing D
  now = record {
    terms = t;
    limit = limit;
    backed = backed;
    spare = spare;
    noted = noted;
    actors = actors;
    cells = cells';
    workers = ws;
  }

  abbrev locals : List Here
  locals = heres t backed actors ws (nothing_over ws)

  kept : AreKept backed actors ws (nothing_over ws)
  kept = record {
    count = length-map ws (λ (w : Worker D). (let ds : List Done = [] in ds));
    each = λ a ops w done n e f. subst (Keeps backed ops w) (sym (none_over ws a done f))
        (new.each a ops w n e).keeps;
  }

  orders : (k : ℕ) (e : EntryState) → slice_get cells' k ≡ Some (Some (holds.Slot e))
      → (e.order ≡ []) × (owed t.size locals k ≤ e.room)
  orders k e at = elim (cases_lt k t.size) [
    | inl lt ↦ (let p = r.each k lt in
        let q : p.is ≡ e = (let h : Some (Some (holds.Slot p.is)) ≡ Some (Some (holds.Slot e)) =
        sym p.after ∙ at in cc) in
        subst (λ (x : EntryState). (x.order ≡ []) × (owed t.size locals k ≤ x.room)) q (
          p.order refl,
          (let o = owed_is t backed k actors ws new.count
              (λ a ops w named there. (new.each a ops w named there).todo) in
              let m = counted k lt in
              let s = each_same t.size backed actors k in let room = p.room refl in omega arith),
        ))
    | inr ge ↦ absurd (beyond k e ge (sym (r.others k ge) ∙ at))
  ]

  begin : (a : ℕ) (l : Here) → slice_get locals a ≡ Some l → Begins t.size backed actors a l
  begin a l e =
      let h = here_at t backed actors ws a l e in
      let w = new.each a h.ops h.worker h.named h.there in
      subst (Begins t.size backed actors a) (sym h.is) record {
        who = w.who;
        ops = h.ops;
        named = h.named;
        at = ap at_by w.at;
        todo = w.todo;
        held = ap (held_by h.worker.place.page) w.at;
        done = refl;
        fresh = ap (λ c. fresh_of h.worker.scratch (stage_of c)) w.at;
        pin = ap pin_by w.at;
        owed = ap owed_by w.at;
        ahead = ap ahead_by w.at;
        behind = ap behind_by w.at;
        page = ap (page_by h.worker.scratch) w.at;
        fail = ap fail_by w.at;
      }

  abbrev first : State DiskHeld
  first = state_of now (nothing_over ws)

  is_set_up : IsSetUp t.size backed actors cells first
  is_set_up = record {
    row = keeps_values t.size (λ p. true) counts cells cells' r;
    orders = orders;
    count = as_many t backed actors ws new.count;
    begin = begin;
  }

  pub set_up_on : IsSetUpOn cells now
  set_up_on = record { dones = nothing_over ws; kept = kept; set_up = is_set_up }

  module _ (g : Begin) (rests : RestsAs g t.size cells) (work : IsWork actors)
      (time : IsTime t.clock cells) (chain : t.chain ≡ MOST_CHAIN) (next : RestGoesOn)
      (law : RequestsAreProper) where
    -- no page was touched after the phase's time
    times : (p : ℕ) → p < g.given.size → g.touched p ≤ t.clock
    times p lt =
        let e = entry_known g t.size cells rests p (let s = rests.size in omega arith) in
        let q = time p e.0 e.1 in let same = e.2 in omega arith

    begins_so : IsOf (begun g backed actors t.clock) now
    begins_so = record {
      goes_by = λ i. record {
        size = rests.size i;
        chain = (rests.chain ∙ sym chain) i;
        clock = t.clock;
      };
      backed = refl;
      actors = refl;
      some = rests.some;
      most = rests.most;
      proper = begins_proper law g rests.proper (begun g backed actors t.clock) work
          (λ p tag s old. refl) refl refl refl times
          (λ lt. let s = rests.size in let a = rests.some in omega arith)
          (let a = rests.size in let b = rests.most in let c = work.few in omega arith)
          (λ p lt. pieces_few g.given.size p backed actors work);
    }

    is_start : IsStart (begun g backed actors t.clock) first
    is_start = begins g t.size cells rests backed actors t.clock first is_set_up next

    pub prepared : IsPrepared (begun g backed actors t.clock) now
    prepared = record {
      of = begins_so;
      dones = nothing_over ws;
      kept = kept;
      start = is_start;
    }

    pub ruled : StartHasRule → HasRule (begun g backed actors t.clock) now
    ruled start = record {
      of = begins_so;
      dones = nothing_over ws;
      kept = kept;
      rule = start (begun g backed actors t.clock) first begins_so.proper is_start;
    }

  -- the phase can go on, also on a disk without pages
  pub may_go_on : (before : List ℕ) → IsAtRest t.size before cells → (t.size ≡ 0 → actors ≡ [])
      → IsWork actors → IsTime t.clock cells → t.chain ≡ MOST_CHAIN → AreCounted t.size counts noted
      → StartHasRule → RestGoesOn → RequestsAreProper → CanGoOn now
  may_go_on before rest none work time chain c start next law = record {
    fit = record {
      count = new.count;
      each =
          λ a ops w named there. (new.each a ops w named there).fit t.clock;
    };
    pieces = record {
      listed = c.listed;
      others = λ p lt off. sym (counted p lt)
          ∙ c.others p lt off;
    };
    ruled = by rest.rests;
  } where
    empty : (row : Row) → length row ≡ 0 → row ≡ []
    empty [] e = refl
    empty (x ∷ row) e = absurd (let no : ⊥ = omega arith in no)

    by : IsBare t.size cells ⊎ ((g : Begin) × RestsAs g t.size cells)
        → IsEmpty now ⊎ ((g : Begin) × HasRule g now)
    by (inl bare) = inl (
      (bare.0, empty cells' (let a = r.size in let b = ap length bare.1 in omega arith)),
      none bare.0,
    )
    by (inr (g, rests)) =
        inr (begun g backed actors t.clock, ruled g rests work time chain next law start)
