-- A row between two phases.
use Rattle.std.proofs.Common.{◌≡◌, ◌≢◌, ℕ, zero, suc, ◌+◌, ◌*◌, ◌/◌, ◌<◌, ◌≤◌, Bool, true, false, ◌&&◌, List, [], ◌∷◌, length, get_or, Option, Some, None, slice_get, slice_set, refl, sym, ap, ◌∙◌, subst, arith, inr, length-set}
use mathlib.Core.Logic.{dite}
use native.Mathlib.Decide.{ℕ_discrete}
use Rattle.std.proofs.lemmas.Option.{get_or_from_slice_get}
use Rattle.zr_base.specs.declared.op.Tag.{Tag}
use Rattle.zr_base.specs.declared.op.Op.{Op}
use Rattle.zr_base.specs.declared.limits.TheConstants.{MOST_PAGES}
use Rattle.mem_account.specs.Counters.{Counters, no_counts}
use Rattle.block_map.specs.BlockMap.{BlockMap}
use Rattle.backing_dev.specs.Dev.{DeviceState}
use Rattle.call_history.specs.Parts.{program}
use Rattle.plain_disk.specs.Idles.{may_write}
use Rattle.plain_disk.specs.Phases.{held_after, touched_by}
use Rattle.lock_row.specs.declared.names.Held.TheVariants as holds
use Rattle.lock_row.specs.declared.names.State.{State}
use Rattle.slot_entry.specs.declared.kept.Kept.{Kept}
use Rattle.slot_entry.specs.Entries.{EntryState, is_wb}
use Rattle.page_steps.specs.Pages.{new_class}
use Rattle.page_steps.specs.Steps.{DiskHeld, class_by, entry_in, plan_by}
use Rattle.joint_rule.specs.Begins.{Begin, finding, found_after, back_at, pieces_each, AreCarried, Proper}
use Rattle.joint_rule.specs.Ends.{back_in, idle_in, device_in, budget_in}
use Rattle.joint_rule.specs.Joint.{EntryFits, Sound}
use Rattle.joint_rule.specs.Laws.{RestGoesOn, FinishedIsAtRest, RequestsAreProper}
use Rattle.joint_rule.specs.Rule.{Rule, owed}
use Rattle.joint_rule.specs.Stages.{IsBack}
use Rattle.joint_rule.specs.Starts.{AtRest, IsMapOf, Renewed, slots, accounts, pools, maps, devices, IsStart}
use Rattle.zr_core.specs.Machines.{AllFinished, order_in, order_at, without_calls, without_orders, IsKept, KeepsValues, IsSetUp}
use Rattle.zr_core.specs.declared.limits.TheConstants.{MOST_CHAIN}
use Rattle.zr_core.specs.Noted.{HasAllOrders}
use Rattle.zr_core.specs.Rests.{HasEntries, RestsAs, IsAtRest, begun, with_account, with_budget, left, touched_in, account_in, account_of}
use Rattle.zr_core.proofs.Lists.{get_here, get_else}
use Rattle.zr_core.proofs.Blanks.{leaves_proper, proper_finding, proper_so}
use Rattle.zr_core.proofs.Maps.{blocks_kept, limit_kept}
use Rattle.zr_core.proofs.Matches.{Row, IsWhole, matched, emptied_long, emptied_at, was_at, was_whole, rows_same, order_is}

-- ---- values by their places

-- the value of a page's place is an entry
entry_by : (g : Begin) (j : ℕ) (v : DiskHeld) → j < g.given.size → Sound g j v
    → (e : EntryState) × (v ≡ holds.Slot e)
entry_by g j (holds.Slot e) lt is = (e, refl)
entry_by g j (holds.Class q) lt is = absurd (let e = is.0 in let none : ⊥ = omega arith in none)
entry_by g j (holds.Account c) lt is = absurd (let none : ⊥ = omega arith in none)
entry_by g j (holds.Blocks x) lt is = absurd (let none : ⊥ = omega arith in none)
entry_by g j (holds.Device x) lt is = absurd (let none : ⊥ = omega arith in none)

-- that after the pages and the classes is the account
account_by : (g : Begin) (j : ℕ) (v : DiskHeld) → j ≡ g.given.size + 255 → Sound g j v
    → (c : Counters) × (v ≡ holds.Account c)
account_by g j (holds.Slot e) at is = absurd (let p = is.page in let none : ⊥ = omega arith in none)
account_by g j (holds.Class q) at is =
    absurd (let e = is.0 in let c = is.1.class in let none : ⊥ = omega arith in none)
account_by g j (holds.Account c) at is = (c, refl)
account_by g j (holds.Blocks x) at is = absurd (let none : ⊥ = omega arith in none)
account_by g j (holds.Device x) at is = absurd (let none : ⊥ = omega arith in none)

-- the last two are the map of blocks and the device
blocks_by : (g : Begin) (j : ℕ) (v : DiskHeld) → j ≡ g.given.size + 256 → Sound g j v
    → (x : BlockMap) × (v ≡ holds.Blocks x)
blocks_by g j (holds.Slot e) at is = absurd (let p = is.page in let none : ⊥ = omega arith in none)
blocks_by g j (holds.Class q) at is =
    absurd (let e = is.0 in let c = is.1.class in let none : ⊥ = omega arith in none)
blocks_by g j (holds.Account c) at is = absurd (let none : ⊥ = omega arith in none)
blocks_by g j (holds.Blocks x) at is = (x, refl)
blocks_by g j (holds.Device x) at is =
    absurd (let e = is.0 in let none : ⊥ = omega arith in none)

device_by : (g : Begin) (j : ℕ) (v : DiskHeld) → j ≡ g.given.size + 257 → Sound g j v
    → (d : DeviceState) × (v ≡ holds.Device d)
device_by g j (holds.Slot e) at is = absurd (let p = is.page in let none : ⊥ = omega arith in none)
device_by g j (holds.Class q) at is =
    absurd (let e = is.0 in let c = is.1.class in let none : ⊥ = omega arith in none)
device_by g j (holds.Account c) at is = absurd (let none : ⊥ = omega arith in none)
device_by g j (holds.Blocks x) at is = absurd (let none : ⊥ = omega arith in none)
device_by g j (holds.Device x) at is = (x, refl)

-- a page that was on the device is there where no call came to it
and_true : (b : Bool) → b ≡ (b && true)
and_true true = refl
and_true false = refl

none_written : (backed : Bool) → may_write backed [] ≡ false
none_written true = refl
none_written false = refl

backed_still : (g : Begin) (j : ℕ) (k : Kept) → g.given.actors ≡ []
    → IsBack g k (back_at g j []) → g.back j ≡ is_wb k
backed_still g j k none is = and_true (g.back j) ∙ sym (is.only
    (ap (may_write g.given.backed) none ∙ none_written g.given.backed))

-- the mark of an entry without its order is the one in its place
mark_in : (row : Row) (j : ℕ) (e : EntryState)
    → slice_get (without_orders row) j ≡ Some (Some (holds.Slot e))
    → e.idle ≡ idle_in (get_or row j None)
mark_in row j e at = let u = was_at row j (holds.Slot e) at in by u.0 u.1 u.2 where
  by : (v : DiskHeld) → slice_get row j ≡ Some (Some v) → without_calls v ≡ holds.Slot e
      → e.idle ≡ idle_in (get_or row j None)
  by (holds.Slot f) here is =
      let same : e ≡ record f { order = []; room = 0 } = cc in
      ap (λ (x : EntryState). x.idle) same
      ∙ sym (ap idle_in (get_or_from_slice_get row j (Some (holds.Slot f)) None here))
  by (holds.Class q) here is = absurd (cc)
  by (holds.Account c) here is = absurd (cc)
  by (holds.Blocks x) here is = absurd (cc)
  by (holds.Device x) here is = absurd (cc)

-- a page that was touched before a time is touched at it or before
touched_before : (order : List Tag) (clock touched : ℕ) → touched ≤ clock
    → touched_by order clock touched ≤ clock
touched_before [] clock touched before = before
touched_before (tag ∷ tags) clock touched before = omega arith

get_or_none : (row : Row) (p : ℕ) → slice_get row p ≡ None → get_or row p None ≡ None
get_or_none [] p e = refl
get_or_none (x ∷ row) zero e = absurd (cc)
get_or_none (x ∷ row) (suc p) e = get_or_none row p e

module _ (g : Begin) (row : Row) (rest : AtRest g row) where
  sound_at : (k : ℕ) (v : DiskHeld) → slice_get row k ≡ Some (Some v) → Sound g k v
  sound_at k v at = (rest.home k v at).sound

  pub entry_there : (p : ℕ) → p < g.given.size
      → (e : EntryState) × (slice_get row p ≡ Some (Some (holds.Slot e)))
  entry_there p lt =
      let v = rest.whole p (let n = rest.size in omega arith) in
      let e = entry_by g p v.0 lt (sound_at p v.0 v.1) in
      (e.0, v.1 ∙ ap (λ (u : DiskHeld). Some (Some u)) e.1)

  pub account_there : (c : Counters)
      × (slice_get row (g.given.size + 255) ≡ Some (Some (holds.Account c)))
  account_there =
      let v = rest.whole (g.given.size + 255) (let n = rest.size in omega arith) in
      let c = account_by g (g.given.size + 255) v.0 refl (sound_at (g.given.size + 255) v.0 v.1) in
      (c.0, v.1 ∙ ap (λ (u : DiskHeld). Some (Some u)) c.1)

  pub blocks_there : (x : BlockMap)
      × (slice_get row (g.given.size + 256) ≡ Some (Some (holds.Blocks x)))
  blocks_there =
      let v = rest.whole (g.given.size + 256) (let n = rest.size in omega arith) in
      let x = blocks_by g (g.given.size + 256) v.0 refl (sound_at (g.given.size + 256) v.0 v.1) in
      (x.0, v.1 ∙ ap (λ (u : DiskHeld). Some (Some u)) x.1)

  pub device_there : (d : DeviceState)
      × (slice_get row (g.given.size + 257) ≡ Some (Some (holds.Device d)))
  device_there =
      let v = rest.whole (g.given.size + 257) (let n = rest.size in omega arith) in
      let d = device_by g (g.given.size + 257) v.0 refl (sound_at (g.given.size + 257) v.0 v.1) in
      (d.0, v.1 ∙ ap (λ (u : DiskHeld). Some (Some u)) d.1)

-- the value as the phase after finds it
abbrev IsNext : DiskHeld → DiskHeld → Type 0
IsNext (holds.Slot e) u =
    (f : EntryState) × (u ≡ holds.Slot f) × (f ≡ record e { order = f.order; room = f.room })
    × (f.order ≡ [])
IsNext (holds.Class q) u = u ≡ holds.Class q
IsNext (holds.Account c) u = (d : Counters) × (u ≡ holds.Account d)
    × (d ≡ record c { limit = d.limit; most = d.most }) × (c.pages ≤ c.most → c.pages ≤ d.most)
IsNext (holds.Blocks x) u = (y : BlockMap) × (u ≡ holds.Blocks y) × (y.states ≡ x.states)
IsNext (holds.Device x) u = u ≡ holds.Device x

-- ---- a disk at rest

entry_was : (v : DiskHeld) (e : EntryState) → without_calls v ≡ holds.Slot e
    → (f : EntryState) × (v ≡ holds.Slot f)
entry_was (holds.Slot f) e is = (f, refl)
entry_was (holds.Class q) e is = absurd (cc)
entry_was (holds.Account c) e is = absurd (cc)
entry_was (holds.Blocks x) e is = absurd (cc)
entry_was (holds.Device x) e is = absurd (cc)

module _ (g : Begin) (pages : ℕ) (cells : Row) (rests : RestsAs g pages cells) where
  pub rests_long : length cells ≡ pages + 258
  rests_long = let a = emptied_long cells in let b = rests.row.size in let c = rests.size in
      omega arith

  pub rests_whole : IsWhole cells
  rests_whole = was_whole cells rests.row.whole

  pub rests_entries : HasEntries pages cells
  rests_entries = record {
    size = (let n = rests_long in omega arith);
    each = λ p lt.
        let e = entry_there g (without_orders cells) rests.row p
        (let s = rests.size in omega arith) in
        let v = was_at cells p (holds.Slot e.0) e.1 in
        let f = entry_was v.0 e.0 v.2 in
        (f.0, v.1 ∙ ap (λ (u : DiskHeld). Some (Some u)) f.1);
  }

  -- an entry without its order is that of a page of the disk
  pub fits_so : (p : ℕ) (e : EntryState) → slice_get cells p ≡ Some (Some (holds.Slot e))
      → EntryFits g p (record e { order = []; room = 0 })
  fits_so p e at = (rests.row.home p (without_calls (holds.Slot e))
      (emptied_at cells p (Some (holds.Slot e)) at)).sound

  -- each page's entry was touched when the disk's page was
  pub entry_known : (p : ℕ) → p < pages
      → (e : EntryState) × (slice_get cells p ≡ Some (Some (holds.Slot e)))
      × (e.touched ≡ g.touched p)
  entry_known p lt = let e = rests_entries.each p lt in (e.0, e.1, (fits_so p e.0 e.1).touched)

  pub at_rest : (noted : List ℕ) → HasAllOrders pages noted cells → IsAtRest pages noted cells
  at_rest noted orders = record {
    entries = rests_entries;
    orders = orders;
    rests = inr (g, rests);
  }

  -- what differs in its orders alone is at rest too
  pub rests_on : (after : Row) → KeepsValues cells after → RestsAs g pages after
  rests_on after keeps =
      let same = rows_same cells after rests_whole keeps in
      let a = keeps.each (pages + 255) (holds.Account g.was) rests.account in
      let d = keeps.each (pages + 257) (holds.Device g.device) rests.device in
      let m = keeps.each (pages + 256) (holds.Blocks rests.map.0) rests.map.1 in record {
        size = rests.size;
        some = rests.some;
        most = rests.most;
        none = rests.none;
        chain = rests.chain;
        proper = rests.proper;
        row = subst (AtRest g) (sym same) rests.row;
        marks = λ k e at. rests.marks k e
            (sym (ap (λ (row : Row). slice_get row k) same) ∙ at);
        account = a.1 ∙ ap (λ (u : DiskHeld). Some (Some u)) a.2;
        device = d.1 ∙ ap (λ (u : DiskHeld). Some (Some u)) d.2;
        map = (
          rests.map.0,
          m.1 ∙ ap (λ (u : DiskHeld). Some (Some u)) m.2,
          rests.map.2,
        );
      }

  -- ---- what goes on from here

  module _ (h : Begin) (size : h.given.size ≡ g.given.size) (chain : h.chain ≡ g.chain)
      (touched : (j : ℕ) → h.touched j ≡ g.touched j) (blank : (p : ℕ) → h.blank p ≡ g.blank p)
      (back : (p : ℕ) → h.back p ≡ g.back p) (idle : (p : ℕ) → h.idle p ≡ g.idle p)
      (device : h.device ≡ g.device)
      (before : (s : ℕ) → h.given.before s ≡ g.given.before s) (next : RestGoesOn) (after : Row)
      (long : length after ≡ length cells)
      (each : (k : ℕ) (v : DiskHeld) → slice_get cells k ≡ Some (Some v)
      → (u : DiskHeld) × (slice_get after k ≡ Some (Some u)) × IsNext v u) where
    touched_was : (e : EntryState) (j : ℕ)
        → slice_get (without_orders cells) j ≡ Some (Some (without_calls (holds.Slot e)))
        → h.touched j ≡ e.touched
    touched_was e j at = touched j
        ∙ sym (rests.row.home j (without_calls (holds.Slot e)) at).sound.touched

    idle_was : (e : EntryState) (j : ℕ)
        → slice_get (without_orders cells) j ≡ Some (Some (without_calls (holds.Slot e)))
        → h.idle j ≡ e.idle
    idle_was e j at = idle j ∙ sym (rests.marks j (record e { order = []; room = 0 }) at)

    device_was : (x : DeviceState) (j : ℕ)
        → slice_get (without_orders cells) j ≡ Some (Some (holds.Device x)) → g.device ≡ x
    device_was x j at =
        let e : j ≡ pages + 257 =
        (let k = (rests.row.home j (holds.Device x) at).sound.0 in let s = rests.size in omega arith) in
        let q : Some (Some (holds.Device g.device)) ≡ Some (Some (holds.Device x)) =
        sym (emptied_at cells (pages + 257) (Some (holds.Device g.device)) rests.device)
        ∙ ap (slice_get (without_orders cells)) (sym e) ∙ at in cc

    renewed : (j : ℕ) (v u : DiskHeld)
        → slice_get (without_orders cells) j ≡ Some (Some (without_calls v)) → IsNext v u
        → Renewed g h j (without_calls v) u
    renewed j (holds.Slot e) u at is =
        slots (record e { order = []; room = 0 }) is.0 refl is.1
        record {
          kept = ap (λ (f : EntryState). f.kept) is.2;
          order = is.3;
          under = ap (λ (f : EntryState). f.under) is.2;
          idle = ap (λ (f : EntryState). f.idle) is.2;
          mark = idle_was e j at;
          touched = ap (λ (f : EntryState). f.touched) is.2;
          time = touched_was e j at;
          blank = blank j;
          back = back j ∙ backed_still g j e.kept rests.none
              (rests.row.home j (without_calls (holds.Slot e)) at).backs;
          before = λ k lt. before (8 * j + k);
        }
    renewed j (holds.Class q) u at is = pools q refl is
    renewed j (holds.Account c) u at is = accounts c is.0 refl is.1 is.2 is.3
    renewed j (holds.Blocks x) u at is = maps x is.0 refl is.1 is.2
    renewed j (holds.Device x) u at is = devices x refl is (device ∙ device_was x j at)

    pub goes_on : AtRest h after
    goes_on = next g h (without_orders cells) after record { size = size; chain = chain }
        (matched (Renewed g h) (without_orders cells) after
        (let a = emptied_long cells in omega arith) rests.row.whole
        (λ k v at.
        let x = was_at cells k v at in
        let u = each k x.0 x.1 in (
          u.0,
          u.1,
          subst (λ (y : DiskHeld). Renewed g h k y u.0) x.2
              (renewed k x.0 u.0 (emptied_at cells k (Some x.0) x.1) u.2),
        )))
        rests.row

  -- ---- a phase begins

  module _ (backed : Bool) (actors : List (List Op)) (now : ℕ) (w : State DiskHeld)
      (up : IsSetUp pages backed actors cells w) (next : RestGoesOn) where
    abbrev new : Begin
    new = begun g backed actors now

    next_is : (k : ℕ) (v u : DiskHeld) → slice_get w.row k ≡ Some (Some u) → IsKept v u
        → IsNext v u
    next_is k (holds.Slot e) u there is = (
      is.0,
      is.1,
      is.2,
      (up.orders k is.0 (there ∙ ap (λ (x : DiskHeld). Some (Some x)) is.1)).0,
    )
    next_is k (holds.Class q) u there is = is
    next_is k (holds.Account c) u there is = (c, is, refl, λ le. le)
    next_is k (holds.Blocks x) u there is = (x, is, refl)
    next_is k (holds.Device x) u there is = is

    begins_rest : AtRest new w.row
    begins_rest = goes_on new refl refl (λ j. refl) (λ p. refl) (λ p. refl) (λ p. refl) refl
        (λ s. refl) next w.row up.row.size
        (λ k v at. let u = up.row.each k v at in (u.0, u.1, next_is k v u.0 u.1 u.2))

    -- the account of the row that is set up
    account_is : (k : ℕ) (c : Counters) → slice_get w.row k ≡ Some (Some (holds.Account c))
        → c ≡ g.was
    account_is k c at =
        let is : k ≡ g.given.size + 255 = (begins_rest.home k (holds.Account c) at).sound in
        let u = up.row.each (pages + 255) (holds.Account g.was) rests.account in
        let e : k ≡ pages + 255 = (let s = rests.size in omega arith) in
        let q : Some (Some (holds.Account c)) ≡ Some (Some (holds.Account g.was)) = sym at
        ∙ ap (slice_get w.row) e
        ∙ u.1 ∙ ap (λ (x : DiskHeld). Some (Some x)) u.2 in cc

    -- and the device
    device_is : (k : ℕ) (d : DeviceState) → slice_get w.row k ≡ Some (Some (holds.Device d))
        → d ≡ g.device
    device_is k d at =
        let is = (begins_rest.home k (holds.Device d) at).sound.0 in
        let u = up.row.each (pages + 257) (holds.Device g.device) rests.device in
        let e : k ≡ pages + 257 = (let s = rests.size in omega arith) in
        let q : Some (Some (holds.Device d)) ≡ Some (Some (holds.Device g.device)) = sym at
        ∙ ap (slice_get w.row) e
        ∙ u.1 ∙ ap (λ (x : DiskHeld). Some (Some x)) u.2 in cc

    -- and the map of blocks
    map_is : (k : ℕ) (x : BlockMap) → slice_get w.row k ≡ Some (Some (holds.Blocks x))
        → IsMapOf new x
    map_is k x at =
        let is : k ≡ g.given.size + 256 = (begins_rest.home k (holds.Blocks x) at).sound in
        let u = up.row.each (pages + 256) (holds.Blocks rests.map.0) rests.map.1 in
        let e : k ≡ pages + 256 = (let s = rests.size in omega arith) in
        let q : Some (Some (holds.Blocks rests.map.0)) ≡ Some (Some (holds.Blocks x)) =
        ap (λ (y : DiskHeld). Some (Some y)) (sym u.2) ∙ sym u.1 ∙ ap (slice_get w.row) (sym e) ∙ at in
        let same : rests.map.0 ≡ x = cc in
        let m = rests.map.2 in
        subst (IsMapOf new) same (record { blocks = m.blocks; budget = m.budget; budgeted = m.budgeted })

    -- the row that is set up is at rest too
    set_up_rests : RestsAs g pages w.row
    set_up_rests = rests_on w.row up.row

    pub begins : IsStart new w
    begins = record {
      rest = begins_rest;
      tight = λ yes. absurd (cc);
      orders = λ k e at. let o = up.orders k e at in (
        o.0,
        subst (λ (n : ℕ). owed n w.locals k ≤ e.room) (sym rests.size) o.1,
      );
      marks = λ k e at. set_up_rests.marks k (record e { order = []; room = 0 })
          (emptied_at w.row k (Some (holds.Slot e)) at);
      backs = λ k e at. sym (backed_still g k e.kept rests.none
          (set_up_rests.row.home k (without_calls (holds.Slot e))
          (emptied_at w.row k (Some (holds.Slot e)) at)).backs);
      account = account_is;
      device = device_is;
      map = map_is;
      actors = λ a l at. let b = up.begin a l at in record {
        who = b.who;
        ops = b.ops;
        named = b.named;
        at = b.at;
        todo = b.todo ∙ ap (λ (n : ℕ). program n backed 0 b.ops) (sym rests.size);
        held = b.held;
        done = b.done;
        fresh = b.fresh;
        pin = b.pin;
        owed = b.owed;
        ahead = b.ahead;
        behind = b.behind;
        page = b.page;
        fail = b.fail;
      };
      count = up.count;
    }

  -- ---- another value at a place

  module _ (at : ℕ) (was now : DiskHeld) (there : slice_get cells at ≡ Some (Some was))
      (goes : IsNext was (without_calls now)) (after : Row)
      (is : after ≡ slice_set cells at (Some now)) where
    same_next : (v : DiskHeld) → IsNext v (without_calls v)
    same_next (holds.Slot e) = (record e { order = []; room = 0 }, refl, refl, refl)
    same_next (holds.Class q) = refl
    same_next (holds.Account c) = (c, refl, refl, λ le. le)
    same_next (holds.Blocks x) = (x, refl, refl)
    same_next (holds.Device x) = refl

    set_at : slice_get after at ≡ Some (Some now)
    set_at = ap (λ (row : Row). slice_get row at) is ∙ get_here cells at (Some now) (Some was) there

    set_else : (k : ℕ) → k ≢ at → slice_get after k ≡ slice_get cells k
    set_else k ne = ap (λ (row : Row). slice_get row k) is ∙ get_else cells at k (Some now) ne

    set_each : (k : ℕ) (v : DiskHeld) → slice_get cells k ≡ Some (Some v)
        → (u : DiskHeld) × (slice_get (without_orders after) k ≡ Some (Some u)) × IsNext v u
    set_each k v here = dite (ℕ_discrete k at)
        (λ same. (
          without_calls now,
          emptied_at after k (Some now) (ap (slice_get after) same ∙ set_at),
          subst (λ (x : DiskHeld). IsNext x (without_calls now))
              (let q : Some (Some was) ≡ Some (Some v) = sym there
              ∙ ap (slice_get cells) (sym same) ∙ here in
              let r : was ≡ v = cc in r)
              goes,
        ))
        (λ ne. (without_calls v, emptied_at after k (Some v) (set_else k ne ∙ here), same_next v))

    -- a mark is as before, where the other value isn't an entry's
    set_marks : ((e : EntryState) → without_calls now ≡ holds.Slot e → ⊥) → (k : ℕ) (e : EntryState)
        → slice_get (without_orders after) k ≡ Some (Some (holds.Slot e)) → e.idle ≡ g.idle k
    set_marks none k e here =
        let u = was_at after k (holds.Slot e) here in dite (ℕ_discrete k at)
        (λ same. absurd (none e (
        let q : Some (Some now) ≡ Some (Some u.0) = sym set_at ∙ ap (slice_get after) (sym same) ∙ u.1 in
        let r : now ≡ u.0 = cc in ap without_calls r ∙ u.2)))
        (λ ne. rests.marks k e (emptied_at cells k (Some u.0) (sym (set_else k ne) ∙ u.1)
        ∙ ap (λ (v : DiskHeld). Some (Some v)) u.2))

    set_long : length (without_orders after) ≡ length cells
    set_long = emptied_long after ∙ ap length is ∙ length-set cells at (Some now)

  -- another limit or maximum
  module _ (d : Counters) (only : d ≡ record g.was { limit = d.limit; most = d.most })
      (keeps : g.was.pages ≤ g.was.most → g.was.pages ≤ d.most) (next : RestGoesOn) (after : Row)
      (is : after ≡ slice_set cells (pages + 255) (Some (holds.Account d))) where
    goes : IsNext (holds.Account g.was) (holds.Account d)
    goes = (d, refl, only, keeps)

    pub changed : RestsAs (with_account g d) pages after
    changed = record {
      size = rests.size;
      some = rests.some;
      most = rests.most;
      none = rests.none;
      chain = rests.chain;
      proper = proper_so g d g.budget g.budgeted false rests.proper;
      row = goes_on (with_account g d) refl refl (λ j. refl) (λ p. refl) (λ p. refl) (λ p. refl) refl
          (λ s. refl) next (without_orders after)
          (set_long (pages + 255) (holds.Account g.was) (holds.Account d) rests.account goes after is)
          (set_each (pages + 255) (holds.Account g.was) (holds.Account d) rests.account goes after is);
      marks = set_marks (pages + 255) (holds.Account g.was) (holds.Account d) rests.account goes after
          is (λ e q. cc);
      account =
          set_at (pages + 255) (holds.Account g.was) (holds.Account d) rests.account goes after is;
      device =
          set_else (pages + 255) (holds.Account g.was) (holds.Account d) rests.account goes after is
          (pages + 257) (λ e. let none : ⊥ = omega arith in none) ∙ rests.device;
      map = let m = rests.map.2 in (
        rests.map.0,
        set_else (pages + 255) (holds.Account g.was) (holds.Account d) rests.account goes after is
            (pages + 256) (λ e. let none : ⊥ = omega arith in none) ∙ rests.map.1,
        record { blocks = m.blocks; budget = m.budget; budgeted = m.budgeted },
      );
    }

  -- another limit on writebacks, in the map of blocks
  module _ (budget : ℕ) (on : Bool) (next : RestGoesOn) (after : Row)
      (is : after ≡ slice_set cells (pages + 256)
      (Some (holds.Blocks (record rests.map.0 { budget = budget; enabled = on })))) where
    abbrev x : BlockMap
    x = rests.map.0

    abbrev y : BlockMap
    y = record x { budget = budget; enabled = on }

    maps_go : IsNext (holds.Blocks x) (holds.Blocks y)
    maps_go = (y, refl, refl)

    pub mapped : RestsAs (with_budget g budget on) pages after
    mapped = record {
      size = rests.size;
      some = rests.some;
      most = rests.most;
      none = rests.none;
      chain = rests.chain;
      proper = proper_so g g.was budget on g.tight rests.proper;
      row = goes_on (with_budget g budget on) refl refl (λ j. refl) (λ p. refl) (λ p. refl) (λ p. refl)
          refl (λ s. refl) next (without_orders after)
          (set_long (pages + 256) (holds.Blocks x) (holds.Blocks y) rests.map.1 maps_go after is)
          (set_each (pages + 256) (holds.Blocks x) (holds.Blocks y) rests.map.1 maps_go after is);
      marks = set_marks (pages + 256) (holds.Blocks x) (holds.Blocks y) rests.map.1 maps_go after is
          (λ e q. cc);
      account = set_else (pages + 256) (holds.Blocks x) (holds.Blocks y) rests.map.1 maps_go after is
          (pages + 255) (λ e. let none : ⊥ = omega arith in none) ∙ rests.account;
      device = set_else (pages + 256) (holds.Blocks x) (holds.Blocks y) rests.map.1 maps_go after is
          (pages + 257) (λ e. let none : ⊥ = omega arith in none) ∙ rests.device;
      map = (
        y,
        set_at (pages + 256) (holds.Blocks x) (holds.Blocks y) rests.map.1 maps_go after is,
        record { blocks = rests.map.2.blocks; budget = refl; budgeted = refl },
      );
    }

-- the account of a disk with pages
pub account_some : (limit pages : ℕ) (cells : Row) → 1 ≤ pages
    → account_of limit pages cells
    ≡ account_in (record no_counts { limit = limit }) (get_or cells (pages + 255) None)
account_some limit zero cells some = absurd (omega arith)
account_some limit (suc n) cells some = refl

-- ---- a phase ends

module _ (g : Begin) (w : State DiskHeld) (proper : Proper g) (rule : Rule g w)
    (finished : AllFinished w) (chain : g.chain ≡ MOST_CHAIN) (some : 1 ≤ g.given.size)
    (most : g.given.size ≤ MOST_PAGES) (rests : FinishedIsAtRest) (next : RestGoesOn)
    (law : RequestsAreProper) where
  -- the phase with what its calls have found
  abbrev gf : Begin
  gf = finding g rule.finds

  ends : AtRest gf w.row
  ends = rests g w rule (λ a l who. ap (λ ps. plan_by g.given.size ps l.at
      (class_by (entry_in l.held).kept) (new_class g.chain ps l.page (entry_in l.held).kept))
      (finished a l who))

  abbrev gone : Begin
  gone = left gf w.row

  gone_device : (x : DeviceState)
      → slice_get w.row (g.given.size + 257) ≡ Some (Some (holds.Device x)) → gone.device ≡ x
  gone_device x at = ap (device_in g.device)
      (get_or_from_slice_get w.row (g.given.size + 257) (Some (holds.Device x)) None at)

  gone_at : (j : ℕ) (v : DiskHeld) → slice_get w.row j ≡ Some (Some v)
      → Renewed gf gone j v (without_calls v)
  gone_at j (holds.Slot e) at =
      let order = order_is w.row j e at in
      slots e (record e { order = []; room = 0 }) refl refl record {
        kept = refl;
        order = refl;
        under = refl;
        idle = refl;
        mark = ap idle_in (get_or_from_slice_get w.row j (Some (holds.Slot e)) None at);
        touched = refl;
        time = ap touched_in (get_or_from_slice_get w.row j (Some (holds.Slot e)) None at);
        blank = ap (λ (o : List Tag). (found_after gf j o).blank) order;
        back = ap back_in (get_or_from_slice_get w.row j (Some (holds.Slot e)) None at);
        before = λ k lt. ap (λ (n : ℕ). held_after gf.given n (order_at w.row n) (8 * j + k))
            (let q : (8 * j + k) / 8 ≡ j = omega arith in q)
            ∙ ap (λ (o : List Tag). held_after gf.given j o (8 * j + k)) order;
      }
  gone_at j (holds.Class q) at = pools q refl refl
  gone_at j (holds.Account c) at = accounts c c refl refl refl (λ le. le)
  gone_at j (holds.Blocks x) at = maps x x refl refl refl
  gone_at j (holds.Device x) at = devices x refl refl
      (gone_device x (ap (slice_get w.row) (sym (ends.home j (holds.Device x) at).sound.0) ∙ at))

  carried : (p : ℕ) → AreCarried gf p (order_at w.row p)
  carried p = by (slice_get w.row p) refl where
    by_value : (v : DiskHeld) → slice_get w.row p ≡ Some (Some v)
        → AreCarried gf p (order_in (Some v))
    by_value (holds.Slot e) at = (ends.home p (holds.Slot e) at).sound.calls
    by_value (holds.Class q) at = tt
    by_value (holds.Account c) at = tt
    by_value (holds.Blocks x) at = tt
    by_value (holds.Device x) at = tt

    by_cell : (c : Option DiskHeld) → slice_get w.row p ≡ Some c → AreCarried gf p (order_in c)
    by_cell None at = tt
    by_cell (Some v) at = by_value v at

    by : (x : Option (Option DiskHeld)) → slice_get w.row p ≡ x → AreCarried gf p (order_at w.row p)
    by None is = subst (λ (c : Option DiskHeld). AreCarried gf p (order_in c))
        (sym (get_or_none w.row p is)) tt
    by (Some c) is = subst (λ (d : Option DiskHeld). AreCarried gf p (order_in d))
        (sym (get_or_from_slice_get w.row p c None is)) (by_cell c is)

  -- no page was touched after the phase's time
  gone_times : (p : ℕ) → p < g.given.size → gone.touched p ≤ g.clock
  gone_times p lt =
      let e = entry_there gf w.row ends p lt in
      let is = ap touched_in (get_or_from_slice_get w.row p (Some (holds.Slot e.0)) None e.1)
      ∙ (ends.home p (holds.Slot e.0) e.1).sound.touched in
      let before = proper.times p lt in
      let after = touched_before e.0.order g.clock (g.touched p) before in omega arith

  pub left_rests : RestsAs gone g.given.size w.row
  left_rests =
      let a = account_there gf w.row ends in
      let d = device_there gf w.row ends in
      let m = blocks_there gf w.row ends in record {
        size = refl;
        some = some;
        most = most;
        none = refl;
        chain = chain;
        proper = leaves_proper law gf (proper_finding g rule.finds proper rule.ruled.finds) gone
            (order_at w.row) refl refl refl carried (λ p. refl) (λ s. refl)
            (λ p t s old. refl) gone_times;
        row = next gf gone w.row (without_orders w.row) record { size = refl; chain = refl }
            (matched (Renewed gf gone) w.row (without_orders w.row) (emptied_long w.row) ends.whole
            (λ k v at. (without_calls v, emptied_at w.row k (Some v) at, gone_at k v at)))
            ends;
        marks = λ k e at. mark_in w.row k e at;
        account = a.1 ∙ ap (λ (c : Counters). Some (Some (holds.Account c)))
            (sym (account_some g.was.limit g.given.size w.row some
            ∙ ap (account_in (record no_counts { limit = g.was.limit }))
            (get_or_from_slice_get w.row (g.given.size + 255) (Some (holds.Account a.0)) None a.1)));
        device = d.1 ∙ ap (λ (x : DeviceState). Some (Some (holds.Device x)))
            (sym (gone_device d.0 d.1));
        map = (
          m.0,
          m.1,
          record {
            blocks = blocks_kept gf w rule.ruled finished ends m.0 m.1;
            budget = sym (ap (budget_in g.budget)
                (get_or_from_slice_get w.row (g.given.size + 256) (Some (holds.Blocks m.0)) None m.1));
            budgeted = limit_kept gf w rule.ruled finished ends m.0 m.1;
          },
        );
      }

  -- a page on which no piece has events has no order
  pub no_order : (p : ℕ) → p < g.given.size
      → pieces_each g.given.size g.given.backed g.given.actors p ≡ 0 → order_at w.row p ≡ []
  no_order p lt none =
      let e = entry_there gf w.row ends p lt in
      let few = (rule.ruled.told.in_row p (holds.Slot e.0) e.1).few in
      order_is w.row p e.0 e.1 ∙ nothing e.0.order (omega arith) where
        nothing : (order : List Tag) → length order ≤ 0 → order ≡ []
        nothing [] le = refl
        nothing (t ∷ ts) le = absurd (let no : ⊥ = omega arith in no)
