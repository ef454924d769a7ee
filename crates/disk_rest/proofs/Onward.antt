-- A row that stands for a rest, and what may follow: a phase, another limit, another limit on
-- writebacks, a later time, or a lower maximum.
use Rattle.std.proofs.Common.{◌≡◌, ◌≢◌, ℕ, ◌+◌, ◌<◌, ◌≤◌, Bool, List, [], length, Some, None, slice_get, slice_set, get_or-set_same, get_or-set_other, length-set, refl, sym, ap, ◌∙◌, subst, arith, inl, inr}
use Rattle.std.proofs.lemmas.Bool.{cases_eq}
use Rattle.std.proofs.lemmas.Option.{slice_get_within}
use Rattle.zr_base.specs.declared.op.Op.{Op}
use Rattle.mem_account.specs.Counters.{Counters}
use Rattle.backing_dev.specs.Dev.{DeviceState}
use Rattle.block_map.specs.BlockMap.{BlockMap}
use Rattle.plain_disk.specs.Rests.{Rest, Settings, frames_of, stats}
use Rattle.plain_disk.specs.Legal.{sets, lowered}
use Rattle.lock_row.specs.declared.names.Held.TheVariants as holds
use Rattle.lock_row.specs.declared.names.State.{State}
use Rattle.slot_entry.specs.Entries.{EntryState, is_wb}
use Rattle.page_steps.specs.Steps.{DiskHeld}
use Rattle.slot_entry.specs.Forms.{page_weight}
use Rattle.joint_rule.specs.Begins.{Begin}
use Rattle.joint_rule.specs.Joint.{AtHome, Sound}
use Rattle.joint_rule.specs.Laws.{RestGoesOn}
use Rattle.joint_rule.specs.Starts.{AtRest, IsMapOf, IsStart, Renewed, slots, accounts, pools, maps, devices}
use Rattle.joint_rule.specs.Ends.{begin_at, value_at, used_in, account_in, account_of}
use Rattle.disk_rest.specs.Rows.{Row, used_at, without_calls, without_orders, IsKept, KeepsValues}
use Rattle.disk_rest.specs.Resting.{IsPlain, StandsFor, IsSetUp}
use Rattle.disk_rest.proofs.Forms.{backed_still}
use Rattle.disk_rest.proofs.Places.{value_is}
use Rattle.disk_rest.proofs.Tight.{no_pool_loose}
use Rattle.disk_rest.proofs.Matches.{matched, value_there, was_at, was_slot, emptied_long, emptied_at}
use Rattle.disk_rest.proofs.Reports.{EntryTells, entry_tells, pool_tells, account_tells}

-- the rest where something else is set, at the same limit on chains and with the same blocks, and with
-- another greatest number of frames
abbrev changed : Rest → Settings → ℕ → Rest
changed r set most =
    record r { most = most; set = record set { chain = r.set.chain; backing = r.set.backing } }

no_less : (n : ℕ) → n ≤ n
no_less n = omega arith

-- what is plain stays so at a later time
later_plain : (r : Rest) (set : Settings) (most : ℕ) → IsPlain r → r.set.clock ≤ set.clock
    → IsPlain (changed r set most)
later_plain r set most plain later = record {
  sectors = plain.sectors;
  blanks = plain.blanks;
  times = λ p lt. let touched = plain.times p lt in omega arith;
  least = plain.least;
  most = plain.most;
}

-- ---- values that are kept

self_kept : (v : DiskHeld) → IsKept v v
self_kept (holds.Slot e) = (e, refl, refl)
self_kept (holds.Class x) = refl
self_kept (holds.Account x) = refl
self_kept (holds.Blocks x) = refl
self_kept (holds.Device x) = refl

-- a row keeps its values
row_kept : (row : Row) → KeepsValues row row
row_kept row = record { size = refl; each = λ k v at. (v, at, self_kept v) }

-- without its order a value is kept too
kept_still : (v u : DiskHeld) → IsKept v u → IsKept v (without_calls u)
kept_still (holds.Slot e) u is = (
  record is.0 { order = []; room = 0 },
  ap without_calls is.1,
  ap (λ (x : EntryState). record x { order = []; room = 0 }) is.2,
)
kept_still (holds.Class x) u is = ap without_calls is
kept_still (holds.Account x) u is = ap without_calls is
kept_still (holds.Blocks x) u is = ap without_calls is
kept_still (holds.Device x) u is = ap without_calls is

-- an entry that is kept was one, with its mark
mark_kept : (v : DiskHeld) (e : EntryState) (mark : Bool) → IsKept v (holds.Slot e)
    → ((x : EntryState) → v ≡ holds.Slot x → x.idle ≡ mark) → e.idle ≡ mark
mark_kept (holds.Slot x) e mark is was =
    let same : e ≡ is.0 = (let q = is.1 in cc) in
    ap (λ (y : EntryState). y.idle) (same ∙ is.2) ∙ was x refl
mark_kept (holds.Class x) e mark is was = absurd (cc)
mark_kept (holds.Account x) e mark is was = absurd (cc)
mark_kept (holds.Blocks x) e mark is was = absurd (cc)
mark_kept (holds.Device x) e mark is was = absurd (cc)

-- the value's order, if it has one, is empty
abbrev NoCalls : DiskHeld → Type 0
NoCalls u = (f : EntryState) → u ≡ holds.Slot f → f.order ≡ []

no_calls : (u : DiskHeld) → NoCalls (without_calls u)
no_calls u f e = (was_slot u f (sym e)).order

-- What a rest knows of a value: the device is its device, and an entry is marked as it says.
record Known (r : Rest) (k : ℕ) (v : DiskHeld) : Type 0 where
  pub device : (d : DeviceState) → v ≡ holds.Device d → r.device ≡ d
  pub mark : (e : EntryState) → v ≡ holds.Slot e → r.idle k ≡ e.idle

-- the device of a row that stands for a rest is the rest's
device_known : (r : Rest) (row : Row) → StandsFor r row → (k : ℕ) (v : DiskHeld)
    → slice_get row k ≡ Some (Some v) → AtHome (begin_at r []) k (without_calls v)
    → (d : DeviceState) → v ≡ holds.Device d → r.device ≡ d
device_known r row st k v at home d is =
    let P : DiskHeld → Type 0 = λ x. Sound (begin_at r []) k (without_calls x) in
    let place : k ≡ r.size + 257 = (subst P is home.sound).0 in
    let here : slice_get row k ≡ Some (Some (holds.Device d)) =
    at ∙ ap (λ (x : DiskHeld). Some (Some x)) is in
    let there : slice_get row k ≡ Some (Some (holds.Device r.device)) =
    ap (slice_get row) place ∙ st.device in
    cc

-- and so are its marks
known_at : (r : Rest) (row : Row) → StandsFor r row → (k : ℕ) (v : DiskHeld)
    → slice_get row k ≡ Some (Some v) → AtHome (begin_at r []) k (without_calls v) → Known r k v
known_at r row st k v at home = record {
  device = device_known r row st k v at home;
  mark = λ e is. sym (st.marks k e (at ∙ ap (λ (x : DiskHeld). Some (Some x)) is));
}

-- ---- rows that go on from one that stands for a rest

module _ (r : Rest) (set : Settings) (most : ℕ) (actors : List (List Op)) where
  abbrev g : Begin
  g = begin_at r []

  abbrev h : Begin
  h = begin_at (changed r set most) actors

  -- a value that is kept, with an empty order, is one with which the next phase begins
  renews : (k : ℕ) (v u : DiskHeld) → IsKept v u → NoCalls u → AtHome g k (without_calls v)
      → Known r k v
      → Renewed g h k (without_calls v) u
  renews k (holds.Slot e) u is none home known =
      slots (record e { order = []; room = 0 }) is.0 refl is.1
      (record {
        kept = ap (λ (x : EntryState). x.kept) is.2;
        order = none is.0 is.1;
        under = ap (λ (x : EntryState). x.under) is.2;
        idle = ap (λ (x : EntryState). x.idle) is.2;
        mark = known.mark e refl;
        touched = ap (λ (x : EntryState). x.touched) is.2;
        time = sym home.sound.touched;
        blank = refl;
        back = sym (backed_still r k e.kept [] refl home.backs);
        before = λ j lt. refl;
      })
  renews k (holds.Class x) u is none home known = pools x refl is
  renews k (holds.Account x) u is none home known = accounts x x refl is refl (λ le. le)
  renews k (holds.Blocks x) u is none home known = maps x x refl is refl
  renews k (holds.Device x) u is none home known = devices x refl is (known.device x refl)

  goes_on : (row ys : Row) → RestGoesOn → AtRest g (without_orders row) → length ys ≡ length row
      → ((k : ℕ) (v : DiskHeld) → slice_get row k ≡ Some (Some v) → AtHome g k (without_calls v)
      → (u : DiskHeld) × (slice_get ys k ≡ Some (Some u)) × Renewed g h k (without_calls v) u)
      → AtRest h ys
  goes_on row ys next rest long each =
      next g h (without_orders row) ys (record { size = refl; chain = refl })
      (matched (Renewed g h) (without_orders row) ys (let e = emptied_long row in omega arith)
      (λ k lt. let v = rest.whole k lt in let was = was_at row k v.0 v.1 in
      let u = each k was.value was.at (subst (AtHome g k) was.is (rest.home k v.0 v.1)) in record {
        old = without_calls was.value;
        new = u.0;
        was = emptied_at row k was.value was.at;
        is = u.1;
        so = u.2;
      })) rest

-- the map is that of the rest still, where no other number of writes is left and the limit on
-- writebacks is on or off as before
map_of : (r : Rest) (set : Settings) (most : ℕ) (actors more : List (List Op)) (x : BlockMap)
    → IsMapOf (begin_at r actors) x
    → IsMapOf (begin_at (changed r (record set { budget = r.set.budget; budgeted = r.set.budgeted }) most)
    more) x
map_of r set most actors more x is =
    record { blocks = is.blocks; budget = is.budget; budgeted = is.budgeted }

-- ---- the next phase

-- values that are kept have the used cells that the rest has
used_still : (r : Rest) (row ys : Row) → StandsFor r row → KeepsValues row ys → (k : ℕ) → k < 255
    → used_at r.size ys k ≡ r.used k
used_still r row ys st keeps k lt =
    let q = pool_tells r row st k lt in
    let u = keeps.each (r.size + k) (holds.Class q.pool) q.at in
    ap used_in (value_is ys (r.size + k) u.0 u.1) ∙ ap (λ (v : DiskHeld). used_in (Some v)) u.2
    ∙ q.used

module _ (r : Rest) (actors : List (List Op)) (row : Row) (w : State DiskHeld)
    (next : RestGoesOn) (st : StandsFor r row) (up : IsSetUp r actors row w) where
  next_rest : AtRest (begin_at r actors) w.row
  next_rest = goes_on r r.set r.most actors row w.row next st.rest up.row.size
      (λ k v at home. let u = up.row.each k v at in (
        u.0,
        u.1,
        renews r r.set r.most actors k v u.0 u.2
            (λ f e. (up.orders k f (u.1 ∙ ap (λ (x : DiskHeld). Some (Some x)) e)).0) home
            (known_at r row st k v at home),
      ))

  account_is : (k : ℕ) (c : Counters) → slice_get w.row k ≡ Some (Some (holds.Account c))
      → c ≡ stats page_weight r
  account_is k c e =
      let place : k ≡ r.size + 255 = (next_rest.home k (holds.Account c) e).sound in
      let now : slice_get w.row (r.size + 255) ≡ Some (Some (holds.Account c)) =
      subst (λ (j : ℕ). slice_get w.row j ≡ Some (Some (holds.Account c))) place e in
      let u = up.row.each (r.size + 255) _ (account_tells r row st) in
      let a = u.1 in let b = u.2 in cc

  device_is : (k : ℕ) (d : DeviceState) → slice_get w.row k ≡ Some (Some (holds.Device d))
      → d ≡ r.device
  device_is k d e =
      let place : k ≡ r.size + 257 = (next_rest.home k (holds.Device d) e).sound.0 in
      let now : slice_get w.row (r.size + 257) ≡ Some (Some (holds.Device d)) =
      subst (λ (j : ℕ). slice_get w.row j ≡ Some (Some (holds.Device d))) place e in
      let u = up.row.each (r.size + 257) _ st.device in
      let a = u.1 in let b = u.2 in cc

  map_is : (k : ℕ) (x : BlockMap) → slice_get w.row k ≡ Some (Some (holds.Blocks x))
      → IsMapOf (begin_at r actors) x
  map_is k x e =
      let place : k ≡ r.size + 256 = (next_rest.home k (holds.Blocks x) e).sound in
      let now : slice_get w.row (r.size + 256) ≡ Some (Some (holds.Blocks x)) =
      subst (λ (j : ℕ). slice_get w.row j ≡ Some (Some (holds.Blocks x))) place e in
      let u = up.row.each (r.size + 256) _ st.map.1 in
      let same : st.map.0 ≡ x = (let a = u.1 in let b = u.2 in cc) in
      subst (IsMapOf (begin_at r actors)) same (map_of r r.set r.most [] actors st.map.0 st.map.2)

  -- An entry is one that the row had, but for its order.
  record IsOld (k : ℕ) (e : EntryState) : Type 0 where
    pub old : EntryTells r row k
    pub is : e ≡ record old.entry { order = e.order; room = e.room }

  is_old : (k : ℕ) (e : EntryState) → slice_get w.row k ≡ Some (Some (holds.Slot e)) → IsOld k e
  is_old k e at =
      let old = entry_tells r row st k (next_rest.home k (holds.Slot e) at).sound.page in
      let u = up.row.each k (holds.Slot old.entry) old.at in
      let q : Some (Some (holds.Slot e)) ≡ Some (Some (holds.Slot u.2.0)) =
      sym at ∙ u.1 ∙ ap (λ (v : DiskHeld). Some (Some v)) u.2.1 in
      let same : e ≡ u.2.0 = cc in record {
        old = old;
        is = subst (λ (x : EntryState). x ≡ record old.entry { order = x.order; room = x.room })
            (sym same) u.2.2;
      }

  pub starts : IsStart (begin_at r actors) w
  starts = record {
    rest = next_rest;
    orders = up.orders;
    marks = λ k e at. let x = is_old k e at in ap (λ (y : EntryState). y.idle) x.is ∙ x.old.idle;
    backs = λ k e at. let x = is_old k e at in
        ap (λ (y : EntryState). is_wb y.kept) x.is ∙ x.old.back;
    account = account_is;
    device = device_is;
    map = map_is;
    actors = up.starts;
    count = up.count;
    tight = λ yes. no_pool_loose r w.row
        (λ k v at q is. let s = (next_rest.home k v at).sound in
        let f = subst (λ (x : DiskHeld). Sound (begin_at r actors) k x) is s in
        (f.0, f.1.class, f.1.per))
        (used_still r row w.row st up.row) yes;
  }

-- ---- other orders and a later time

module _ (r : Rest) (row ys : Row) (next : RestGoesOn) (st : StandsFor r row)
    (keeps : KeepsValues row ys) where
  account_still : account_of r.size ys ≡ stats page_weight r
  account_still =
      let u = keeps.each (r.size + 255) _ (account_tells r row st) in
      ap account_in (value_is ys (r.size + 255) u.0 u.1)
      ∙ ap (λ (v : DiskHeld). account_in (Some v)) u.2

  marks_still : (p : ℕ) (e : EntryState) → slice_get ys p ≡ Some (Some (holds.Slot e))
      → e.idle ≡ r.idle p
  marks_still p e at =
      let lt = slice_get_within ys p (Some (holds.Slot e)) at in
      let old = st.rest.whole p (let s = emptied_long row in let k = keeps.size in omega arith) in
      let o = was_at row p old.0 old.1 in
      let u = keeps.each p o.value o.at in
      let same : u.0 ≡ holds.Slot e = (let q = u.1 in cc) in
      mark_kept o.value e (r.idle p) (subst (IsKept o.value) same u.2)
      (λ x is. st.marks p x (o.at ∙ ap (λ (v : DiskHeld). Some (Some v)) is))

  abbrev at_time : ℕ → Settings
  at_time time = record r.set { clock = time }

  later_stands : (time : ℕ) → r.set.clock ≤ time
      → StandsFor (sets r (at_time time)) ys
  later_stands time later = record {
    plain = later_plain r (at_time time) r.most st.plain later;
    rest = goes_on r (at_time time) r.most [] row (without_orders ys) next st.rest
        (emptied_long ys ∙ keeps.size)
        (λ k v at home. let u = keeps.each k v at in (
          without_calls u.0,
          emptied_at ys k u.0 u.1,
          renews r (at_time time) r.most [] k v (without_calls u.0) (kept_still v u.0 u.2)
              (no_calls u.0) home (known_at r row st k v at home),
        ));
    marks = marks_still;
    used = used_still r row ys st keeps;
    account = account_still;
    device =
        let u = keeps.each (r.size + 257) _ st.device in
        u.1 ∙ ap (λ (x : DiskHeld). Some (Some x)) u.2;
    map =
        let u = keeps.each (r.size + 256) _ st.map.1 in (
          st.map.0,
          u.1 ∙ ap (λ (x : DiskHeld). Some (Some x)) u.2,
          map_of r (at_time time) r.most [] [] st.map.0 st.map.2,
        );
  }

  pub stands_still : StandsFor r ys
  stands_still = later_stands r.set.clock (no_less r.set.clock)

pub clock_stands : (r : Rest) (row : Row) (time : ℕ) → RestGoesOn → StandsFor r row
    → r.set.clock ≤ time → StandsFor (sets r (record r.set { clock = time })) row
clock_stands r row time next st later =
    later_stands r row row next st (row_kept row) time later

-- ---- another value at a place

module _ (row : Row) (k : ℕ) (now : DiskHeld) where
  there : (was : DiskHeld) → slice_get row k ≡ Some (Some was)
      → slice_get (slice_set row k (Some now)) k ≡ Some (Some now)
  there was at = value_there _ k now
      (get_or-set_same row k (Some now) None (slice_get_within row k (Some was) at))

  value_else : (i : ℕ) → i ≢ k → value_at (slice_set row k (Some now)) i ≡ value_at row i
  value_else i ne = get_or-set_other row k i (Some now) None ne

  stays : (i : ℕ) (v : DiskHeld) → i ≢ k → slice_get row i ≡ Some (Some v)
      → slice_get (slice_set row k (Some now)) i ≡ Some (Some v)
  stays i v ne e = value_there _ i v (value_else i ne ∙ value_is row i v e)

module _ (r : Rest) (row : Row) (set : Settings) (most k : ℕ) (was now : DiskHeld)
    (next : RestGoesOn) (st : StandsFor r row) (low : r.size + 255 ≤ k) (high : k < r.size + 257)
    (at : slice_get row k ≡ Some (Some was))
    (so : Renewed (begin_at r []) (begin_at (changed r set most) []) k (without_calls was)
    (without_calls now)) where
  abbrev ys : Row
  ys = slice_set row k (Some now)

  -- what the next phase finds at a place, for a value there
  abbrev Next : ℕ → DiskHeld → Type 0
  Next i v = (u : DiskHeld) × (slice_get (without_orders ys) i ≡ Some (Some u))
      × Renewed (begin_at r []) (begin_at (changed r set most) []) i (without_calls v) u

  change_each : (i : ℕ) (v : DiskHeld) → slice_get row i ≡ Some (Some v)
      → AtHome (begin_at r []) i (without_calls v) → Next i v
  change_each i v e home = elim (cases_eq i k) [
    | inl here ↦
        let same : was ≡ v = (let q = ap (slice_get row) here in cc) in
        subst (λ (x : ℕ × DiskHeld). Next x.0 x.1) (λ j. (sym here j, same j))
        (without_calls now, emptied_at ys k now (there row k now was at), so)
    | inr else ↦ (
      without_calls v,
      emptied_at ys i v (stays row k now i v else e),
      renews r set most [] i v (without_calls v)
          (kept_still v v (self_kept v)) (no_calls v) home (known_at r row st i v e home),
    )
  ]

  marks_same : ((e : EntryState) → now ≡ holds.Slot e → ⊥) → (p : ℕ) (e : EntryState)
      → slice_get ys p ≡ Some (Some (holds.Slot e)) → e.idle ≡ r.idle p
  marks_same never p e e_at = elim (cases_eq p k) [
    | inl here ↦
        absurd (never e (let q = ap (slice_get ys) here ∙ there row k now was at in cc))
    | inr else ↦ st.marks p e (value_there row p (holds.Slot e)
        (sym (value_else row k now p else) ∙ value_is ys p (holds.Slot e) e_at))
  ]

  -- the account or the map may be another
  change_stands : r.set.clock ≤ set.clock → ((e : EntryState) → now ≡ holds.Slot e → ⊥)
      → account_of r.size ys ≡ stats page_weight (changed r set most)
      → ((x : BlockMap) × (slice_get ys (r.size + 256) ≡ Some (Some (holds.Blocks x)))
      × IsMapOf (begin_at (changed r set most) []) x)
      → StandsFor (changed r set most) ys
  change_stands later never account map = record {
    plain = later_plain r set most st.plain later;
    rest = goes_on r set most [] row (without_orders ys) next st.rest
        (emptied_long ys ∙ length-set row k (Some now)) change_each;
    marks = marks_same never;
    used = λ c lt. ap used_in
        (value_else row k now (r.size + c) (λ e. let none : ⊥ = omega arith in none))
        ∙ st.used c lt;
    account = account;
    device = stays row k now (r.size + 257) (holds.Device r.device)
        (λ e. let none : ⊥ = omega arith in none) st.device;
    map = map;
  }

-- ---- another limit, or a lower maximum

module _ (r : Rest) (row : Row) (n most : ℕ) (next : RestGoesOn) (st : StandsFor r row)
    (keeps : frames_of r.set.chain r.used ≤ r.most → frames_of r.set.chain r.used ≤ most) where
  abbrev was : Counters
  was = stats page_weight r

  -- the account that is changed
  abbrev now : Counters
  now = record was { limit = n; most = most }

  abbrev with_limit : Settings
  with_limit = record r.set { limit = n }

  account_stands : StandsFor (changed r with_limit most)
      (slice_set row (r.size + 255) (Some (holds.Account now)))
  account_stands =
      let k = r.size + 255 in let new = holds.Account now in
      change_stands r row with_limit most k (holds.Account was) new next st (no_less k) (omega arith)
      (account_tells r row st) (accounts was now refl refl refl keeps) (no_less r.set.clock)
      (λ e is. cc)
      (ap account_in (value_is _ k new (there row k new (holds.Account was) (account_tells r row st)))) (
        st.map.0,
        stays row k new (r.size + 256) (holds.Blocks st.map.0)
            (λ e. let none : ⊥ = omega arith in none) st.map.1,
        map_of r with_limit most [] [] st.map.0 st.map.2,
      )

module _ (r : Rest) (row : Row) (c : Counters) (next : RestGoesOn) (st : StandsFor r row)
    (at : slice_get row (r.size + 255) ≡ Some (Some (holds.Account c))) where
  -- the row with what is made of its account
  abbrev with_account : (Counters → Counters) → Counters → Row
  with_account f x = slice_set row (r.size + 255) (Some (holds.Account (f x)))

  account_known : stats page_weight r ≡ c
  account_known = let there = account_tells r row st in cc

  pub limit_stands : (n : ℕ) → StandsFor (sets r (record r.set { limit = n }))
      (with_account (λ x. record x { limit = n }) c)
  limit_stands n = subst (λ (x : Counters). StandsFor (sets r (record r.set { limit = n }))
      (with_account (λ y. record y { limit = n }) x)) account_known
      (account_stands r row n r.most next st (λ le. le))

  pub max_stands : StandsFor (lowered r) (with_account (λ x. record x { most = x.pages }) c)
  max_stands = subst (λ (x : Counters). StandsFor (lowered r)
      (with_account (λ y. record y { most = y.pages }) x)) account_known
      (account_stands r row r.set.limit (frames_of r.set.chain r.used) next st
      (λ le. no_less (frames_of r.set.chain r.used)))

-- ---- another limit on writebacks

module _ (r : Rest) (row : Row) (n : ℕ) (on : Bool) (x : BlockMap) (next : RestGoesOn)
    (st : StandsFor r row)
    (at : slice_get row (r.size + 256) ≡ Some (Some (holds.Blocks x))) where
  abbrev with_budget : Settings
  with_budget = record r.set { budget = n; budgeted = on }

  -- the map that is changed
  abbrev map_now : BlockMap
  map_now = record x { budget = n; enabled = on }

  pub budget_stands : StandsFor (sets r with_budget)
      (slice_set row (r.size + 256) (Some (holds.Blocks map_now)))
  budget_stands =
      let same : st.map.0 ≡ x = (let q = st.map.1 in cc) in
      let k = r.size + 256 in let new = holds.Blocks map_now in
      change_stands r row with_budget r.most k (holds.Blocks x) new next st (omega arith) (omega arith)
      at (maps x map_now refl refl refl) (no_less r.set.clock) (λ e is. cc)
      (ap account_in (value_else row k new (r.size + 255)
      (λ e. let none : ⊥ = omega arith in none)) ∙ st.account) (
        map_now,
        there row k new (holds.Blocks x) at,
        record {
          blocks = ap (λ (y : BlockMap). length y.states) (sym same) ∙ st.map.2.blocks;
          budget = refl;
          budgeted = refl;
        },
      )
