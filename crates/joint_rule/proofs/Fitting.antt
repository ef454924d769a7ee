-- What an actor takes fits it.
use Rattle.joint_rule.proofs.Few.{counts_few, is_counted, measure_small, pages_few}
use Rattle.lock_row.specs.declared.names.Trip.{Trip}
use Rattle.lock_row.specs.declared.names.Step.{Step}
use Rattle.joint_rule.proofs.Trips.{holding}
use Rattle.joint_rule.proofs.Blockings.{held_is, held_there}
use Rattle.joint_rule.proofs.Arrivals.{some_mark}
use Rattle.joint_rule.proofs.Evictions.{gone_by}
use Rattle.bdi_page.specs.Packing.{IsPage}
use Rattle.std.proofs.Common.{◌≡◌, ◌+◌, ◌*◌, ◌-◌, ◌/◌, ◌≤◌, ◌<◌, ◌∷◌, ◌∙◌, ℕ, zero, suc, Bool, true, false, cond, eqb, List, [], map, length, sum_by, Option, Some, None, get_or, slice_get, refl, sym, ap, subst, arith, inl, inr}
use Rattle.zr_base.specs.declared.op.Op.TheVariants.{Compact, Discard, Idle, Read, Write, Writeback}
use Rattle.zr_base.specs.declared.op.Op.{Op}
use Rattle.plain_disk.specs.Phases.{touched_by}
use Rattle.joint_rule.proofs.Takes.{some_actor}
use Rattle.backing_dev.specs.Dev.{DeviceState}
use Rattle.block_map.specs.BlockMap.{BlockMap}
use Rattle.block_map.specs.declared.state.BlockState.TheVariants.{Owned, Held}
use Rattle.call_history.specs.Parts.{EndsSo, Follows, program}
use Rattle.call_history.specs.Shows.{tag_by}
use Rattle.call_history.specs.declared.part.Part.{Part}
use Rattle.class_pool.specs.Pool.{IsAtHome, IsLent, PoolState, objects, used_cells}
use Rattle.joint_rule.proofs.Balances.{counted_count, same_repaid}
use Rattle.joint_rule.proofs.Blocks.{block_there, owned_is}
use Rattle.joint_rule.proofs.Classes.{stands_high}
use Rattle.joint_rule.proofs.Facts.{Known}
use Rattle.joint_rule.proofs.Gets.{at_home, few_objects, some_use}
use Rattle.joint_rule.proofs.Gifts.{all, is_named, next_small, old_is, stage}
use Rattle.joint_rule.proofs.Keeps.{take_keeps}
use Rattle.joint_rule.proofs.Lookups.{can_repay, has_counted, object_is, pin_out}
use Rattle.joint_rule.proofs.Pages.{content_page, form_low, next_whole, image_form, image_len}
use Rattle.joint_rule.proofs.Pools.{bit, chain_low, ones, same_pin_is}
use Rattle.joint_rule.proofs.Rests.{no_held}
use Rattle.joint_rule.proofs.Stages.{OnDisk, old_low, on_disk, write_changes}
use Rattle.joint_rule.proofs.Sums.{get_here, gone, locals_le, row_le}
use Rattle.joint_rule.proofs.Places.{IsAccount, IsDevice, IsEntry, IsMap, IsPoolOf, account_kind, class_kind, device_kind, entry_kind, map_kind}
use Rattle.joint_rule.proofs.Tells.{once}
use Rattle.joint_rule.specs.Begins.{Begin, content, form_at, ground_of, piece_on, pieces_on, terms}
use Rattle.joint_rule.specs.Joint.{AtHome, IsActor, Joint, PoolFits, Sound}
use Rattle.joint_rule.specs.Rule.{OfOrder, Ruled, ShowsOrder, owed_by}
use Rattle.joint_rule.specs.Stages.{Changes, GoneBy, IsForm, IsPinned, IsRight, IsSmall, MayPin, Names, NoneOf, Stage, StageBy, locks_at, locks_by, MaySeeOther}
use Rattle.joint_rule.specs.Weights.{Backs, Count, HeldAll, Huges, PackedBytes, Packs, Sames, cell_weight, counter, counters, each_one, measure, none, out_weight, pages, pin_in, same_pin, shown, stored, BlockWeigh, device_size, on_blocks, use_at, used_from}
use Rattle.lock_row.specs.Totals.{by_option, held_sum, mass, total}
use Rattle.lock_row.specs.declared.names.At.{At}
use Rattle.lock_row.specs.declared.names.At.TheVariants.{Away, Backed, Failing, Inside, Moving, Old, Owing, Pinned, Seen, Shrunk, Start, Sweeping, Wanting, Scanning, Visiting}
use Rattle.lock_row.specs.declared.names.Compaction.{Compaction}
use Rattle.lock_row.specs.declared.names.LockNo.{LockNo}
use Rattle.lock_row.specs.declared.names.Pin.{Pin}
use Rattle.lock_row.specs.declared.names.Plan.TheVariants.{Take}
use Rattle.lock_row.specs.declared.names.State.{State}
use Rattle.mem_account.specs.Counters.{Counters, counted}
use Rattle.mem_account.specs.declared.weight.Weight.{Weight}
use Rattle.page_steps.specs.Compactions.{repaid}
use Rattle.page_steps.specs.Fits.{AsAccount, AsBlocks, AsDevice, AsPool, AsSlot, CanCharge, CanPay, CanPin, CanStore, FetchFits, FitsAt, FitsBy, FreeFits, HasPlace, IsKept, PinFits, PinnedFits, ReleaseFits, StageFits, StartFits, StoreFits, SweepFits, cell_of, FirstFits, ScanFits, HeldFits, LandFits, TripFits, VisitFits, WriteFits}
use Rattle.page_steps.specs.Givings.{old_weight}
use Rattle.page_steps.specs.Pages.{new_class, next_form, page_in, page_after}
use Rattle.page_steps.specs.Steps.{DiskHeld, Here, class_by, entry_in, lock_of, on, plan, plan_at, plan_by, slot, spot, start_plan, took, first_lock, entry_or, is_mark_of, taken_at, visited_at}
use Rattle.plain_disk.specs.Ends.{is_single}
use Rattle.size_class.specs.Classes.{class_size}
use Rattle.slot_entry.specs.Entries.{EntryState, is_obj}
use Rattle.slot_entry.specs.Forms.{Blank, PageForm, Pooled, Word, class_for, class_in, form_of, form_weight, object_class}
use Rattle.slot_entry.specs.declared.kept.Kept.{Kept}
use Rattle.slot_entry.specs.declared.kept.Stored.{Stored}
use Rattle.std.proofs.lemmas.Bool.{cases_Bool, or_from}
use Rattle.std.proofs.lemmas.List.{length-map}
use Rattle.std.proofs.lemmas.List.Sums.{sum_by-cons}
use Rattle.std.specs.Prelude.{Contains, ⊤}
use Rattle.zr_base.specs.Plain.{is_beyond, is_maintenance}
use Rattle.zr_base.specs.declared.op.Tag.{Tag}
use Rattle.zspage.specs.Cells.{UsedCell, header_size}
use Rattle.zspage.specs.Cells.{Fits as CellFits}
use Rattle.lock_row.specs.declared.names.LockNo.TheVariants as lock
use Rattle.lock_row.specs.declared.names.Step.TheVariants as step
use Rattle.lock_row.specs.declared.names.Held.TheVariants as holds
use Rattle.slot_entry.specs.declared.kept.Kept.TheVariants as kept
use Rattle.mem_account.specs.declared.weight.Weight.TheVariants as weight
use Rattle.mem_account.specs.declared.weight.Delta.TheVariants as delta

-- ---- kinds of values

as_account : (P : Counters → Type 0) (v : DiskHeld) → IsAccount v
    → ((c : Counters) → v ≡ holds.Account c → P c) → AsAccount P v
as_account P (holds.Slot e) i f = absurd i
as_account P (holds.Class p) i f = absurd i
as_account P (holds.Account c) i f = f c refl
as_account P (holds.Blocks x) i f = absurd i
as_account P (holds.Device x) i f = absurd i

as_slot : (P : EntryState → Type 0) (v : DiskHeld) → IsEntry v
    → ((e : EntryState) → v ≡ holds.Slot e → P e) → AsSlot P v
as_slot P (holds.Slot e) i f = f e refl
as_slot P (holds.Class p) i f = absurd i
as_slot P (holds.Account c) i f = absurd i
as_slot P (holds.Blocks x) i f = absurd i
as_slot P (holds.Device x) i f = absurd i

as_pool : (P : PoolState → Type 0) (v : DiskHeld) → IsPoolOf v
    → ((q : PoolState) → v ≡ holds.Class q → P q) → AsPool P v
as_pool P (holds.Slot e) i f = absurd i
as_pool P (holds.Class p) i f = f p refl
as_pool P (holds.Account c) i f = absurd i
as_pool P (holds.Blocks x) i f = absurd i
as_pool P (holds.Device x) i f = absurd i

as_map : (P : BlockMap → Type 0) (v : DiskHeld) → IsMap v
    → ((x : BlockMap) → v ≡ holds.Blocks x → P x) → AsBlocks P v
as_map P (holds.Slot e) i f = absurd i
as_map P (holds.Class p) i f = absurd i
as_map P (holds.Account c) i f = absurd i
as_map P (holds.Blocks x) i f = f x refl
as_map P (holds.Device d) i f = absurd i

as_device : (P : DeviceState → Type 0) (v : DiskHeld) → IsDevice v
    → ((d : DeviceState) → v ≡ holds.Device d → P d) → AsDevice P v
as_device P (holds.Slot e) i f = absurd i
as_device P (holds.Class p) i f = absurd i
as_device P (holds.Account c) i f = absurd i
as_device P (holds.Blocks x) i f = absurd i
as_device P (holds.Device d) i f = f d refl

is_slot : (v : DiskHeld) → IsEntry v → (e : EntryState) × (v ≡ holds.Slot e)
is_slot (holds.Slot e) i = (e, refl)
is_slot (holds.Class p) i = absurd i
is_slot (holds.Account c) i = absurd i
is_slot (holds.Blocks x) i = absurd i
is_slot (holds.Device x) i = absurd i

-- a page was touched at the phase's time at last
pub touched_low : (order : List Tag) (clock most was : ℕ) → was ≤ clock → clock ≤ most
    → touched_by order clock was ≤ most
touched_low [] clock most was old le = omega arith
touched_low (t ∷ ts) clock most was old le = le

-- ---- cells

count_le : (f : UsedCell → ℕ) (us : List UsedCell) (i : ℕ) (u d : UsedCell) → i < length us
    → get_or us i d ≡ u → f u ≤ sum_by f us
count_le f [] i u d lt e = absurd (omega arith)
count_le f (x ∷ xs) zero u d lt e = let s = sum_by-cons f x xs in let q : f x ≡ f u = ap f e in
    omega arith
count_le f (x ∷ xs) (suc i) u d lt e = let s = sum_by-cons f x xs in
    let r = count_le f xs i u d (omega arith) e in omega arith

-- ---- classes

packed_fits : (chain len : ℕ) → len ≤ 3256 → len + 8 ≤ class_size (class_for chain len)
unfolding class_for
packed_fits chain len le = let r = stands_high chain (254 - (len - 9) / 16) (omega arith) in
    omega arith

header_small : (len : ℕ) → header_size len ≤ 8
header_small len = elim (cases_Bool (eqb len 4096)) [
  | inl on ↦ rw on
      (omega arith)
  | inr off ↦ rw off (omega arith)
]

-- ---- what is taken

module _ (g : Begin) (ok : Known g) (w : State DiskHeld) (r : Ruled g w) (a : ℕ) (l : Here)
    (who : slice_get w.locals a ≡ Some l) (k : LockNo) (v : DiskHeld)
    (there : slice_get w.row (spot g.given.size k) ≡ Some (Some v))
    (what : plan (terms g) l ≡ Take k) where
  abbrev n : ℕ
  n = g.given.size

  abbrev m : Here
  m = took (terms g) l v

  abbrev after : State DiskHeld
  after = gone n w a l who k None m

  fit : IsActor g a l
  fit = r.joint.each.in_local a l who

  home : AtHome g (spot n k) v
  home = r.joint.each.in_row (spot n k) v there

  joint : Joint g after
  joint = take_keeps g ok w r.joint a l who k v what there

  who_after : slice_get after.locals a ≡ Some m
  who_after = get_here w.locals a m l who

  held_after_it : m.held ≡ (k, v) ∷ l.held
  held_after_it = ap (λ p. (lock_of p, v) ∷ l.held) what

  same_actors : length w.locals ≡ length g.given.actors
  same_actors = r.joint.actors

  -- a value at home weighs no more than all
  row_at_most : (f : ℕ → DiskHeld → ℕ) → f (spot n k) v ≤ total (spot n) f none w
  row_at_most f = let x = row_le n f w.row (spot n k) (Some v) there in omega arith

  module _ (p : Part) (rest : List Part) (todo : l.todo ≡ p ∷ rest) where
    disk : OnDisk n p
    disk = on_disk (EndsSo (ground_of g)) n g.given.backed fit.ops l.done p rest
        (subst (Follows (EndsSo (ground_of g)) (program n g.given.backed 0 fit.ops) l.done) todo fit.follows)

    plan_is : (at : At) (held : List (LockNo × DiskHeld)) → l.at ≡ at → l.held ≡ held
        → plan_at n at p (class_by (entry_in held).kept)
        (class_in g.chain (next_form p l.page (entry_in held).kept)) ≡ Take k
    plan_is at held at_is held_is = subst (λ (x : List Part × List (LockNo × DiskHeld) × At).
        plan_by n x.0 x.2 (class_by (entry_in x.1).kept)
        (new_class g.chain x.0 l.page (entry_in x.1).kept) ≡ Take k)
        (λ i. (todo i, held_is i, at_is i)) what

    taken_lock : (x : LockNo) → Take x ≡ Take k → k ≡ x
    taken_lock x e = cc

    -- ---- the first lock

    slot_fits : is_single n p.op ≡ false → k ≡ slot p.page → AsSlot HasPlace v
    slot_fits off k_is = as_slot HasPlace v
        (entry_kind g p.page (disk off).0 v (subst (λ (i : LockNo).
        Sound g (spot n i) v) k_is home.sound))
        (λ e v_is.
        let o : ShowsOrder g w.locals p.page e.order e.room =
        subst (λ (x : LockNo × DiskHeld). OfOrder (ShowsOrder g w.locals) (spot n x.0) x.1)
        (λ i. (k_is i, v_is i)) (r.told.in_row (spot n k) v there) in
        let one_piece = once n p off in
        let mine : owed_by n p.page l ≡ piece_on n p.page p + pieces_on n p.page rest =
        ap (pieces_on n p.page) todo in
        let all = locals_le n (owed_by n p.page) w.locals a l who in
        let s = o.spare in let f = o.few in let few = ok.proper.pieces p.page (disk off).0 in
        record { room = omega arith; few = omega arith })

    -- the pool of a class that is compacted
    sweep_fits : (c : ℕ) → c < 255 → k ≡ lock.Class c → SweepFits g.chain v
    sweep_fits c low k_is = as_pool (λ q. q.chain ≤ g.chain) v
        (class_kind g c low v (subst (λ (i : LockNo). Sound g (spot n i) v) k_is home.sound))
        (λ q v_is. chain_low g.chain q (subst (λ (x : LockNo × DiskHeld). Sound g (spot n x.0) x.1)
        (λ i. (k_is i, v_is i)) home.sound).1 ok.proper.least)

    any_account : k ≡ lock.Account → AsAccount (λ c. ⊤) v
    any_account k_is = as_account (λ c. ⊤) v (account_kind g v
        (subst (λ (i : LockNo). Sound g (spot n i) v) k_is home.sound)) (λ c e. tt)

    -- the entry of a page that may be marked
    scan_fits : (page : ℕ) → page < n → k ≡ slot page → ScanFits g.clock v
    scan_fits page low k_is = as_slot (λ e. e.touched ≤ g.clock) v
        (entry_kind g page low v (subst (λ (i : LockNo). Sound g (spot n i) v) k_is home.sound))
        (λ e v_is. let s = (subst (λ (x : LockNo × DiskHeld). Sound g (spot n x.0) x.1)
        (λ i. (k_is i, v_is i)) home.sound).touched in
        let t = touched_low e.order g.clock g.clock (g.touched page) (ok.proper.times page low)
        (omega arith) in omega arith)

    -- the entry of a page that a writeback takes
    trip_fits : (page : ℕ) → page < n → k ≡ slot page → TripFits v
    trip_fits page low k_is = as_slot (λ e. ⊤) v
        (entry_kind g page low v (subst (λ (i : LockNo). Sound g (spot n i) v) k_is home.sound))
        (λ e v_is. tt)

    first_fits : (op : Op) → k ≡ first_lock op → FirstFits (terms g) op v
    first_fits (Idle age) k_is =
        scan_fits 0 (ok.proper.some (some_actor g.given.actors a fit.ops fit.named)) k_is
    first_fits (Writeback mode) k_is =
        trip_fits 0 (ok.proper.some (some_actor g.given.actors a fit.ops fit.named)) k_is
    first_fits (Write start count stuff) k_is = sweep_fits 0 (omega arith) k_is
    first_fits (Read start count) k_is = sweep_fits 0 (omega arith) k_is
    first_fits (Discard start count) k_is = sweep_fits 0 (omega arith) k_is
    first_fits Compact k_is = sweep_fits 0 (omega arith) k_is

    start_by : (a b : Bool) → is_maintenance p.op ≡ a → is_beyond n p.op ≡ b
        → start_plan a b p ≡ Take k → StartFits (terms g) p.op a b v
    start_by true b a e what_is = first_fits p.op (taken_lock (first_lock p.op) what_is)
    start_by false true a b what_is = any_account (taken_lock lock.Account what_is)
    start_by false false a b what_is = slot_fits (or_from _ _ a b)
        (taken_lock (slot p.page) what_is)

    -- frames that a compaction gives back are charged
    shrunk_fits : (x : Compaction) → l.at ≡ Shrunk x → k ≡ lock.Account
        → AsAccount (λ c. l.owed ≤ c.pages) v
    shrunk_fits x at_is k_is = as_account (λ c. l.owed ≤ c.pages) v
        (account_kind g v (subst (λ (i : LockNo). Sound g (spot n i) v) k_is home.sound))
        (λ c v_is. can_repay g after joint a m who_after c l.held
        (held_after_it ∙ (λ i. (k_is i, v_is i) ∷ l.held))
        (ap (held_sum (spot n) pages) (no_held l.held (fit.locks ∙ (λ i. locks_by (todo i)
        (at_is i) (class_by (entry_in l.held).kept)
        (new_class g.chain (todo i) l.page (entry_in l.held).kept))))))

    -- ---- where the slot is held

    module _ (at : At) (at_is : l.at ≡ at) (page : ℕ) (in_disk : page < n) (locks_is : (c d : ℕ)
        → locks_at at p c d ≡ slot page ∷ []) where
      names_slot : map (λ (x : LockNo × DiskHeld). x.0) l.held ≡ slot page ∷ []
      names_slot = subst (λ (x : List Part × At). map (λ (y : LockNo × DiskHeld). y.0) l.held
          ≡ locks_by x.0 x.1 (class_by (entry_in l.held).kept)
          (new_class g.chain x.0 l.page (entry_in l.held).kept)) (λ i. (todo i, at_is i)) fit.locks
          ∙ locks_is (class_by (entry_in l.held).kept) (new_class g.chain (p ∷ rest) l.page
          (entry_in l.held).kept)

      held_slot : (xs : List (LockNo × DiskHeld)) → map (λ (x : LockNo × DiskHeld). x.0) xs
          ≡ slot page ∷ [] → HeldAll n (Sound g) xs
          → (e : EntryState) × (xs ≡ (slot page, holds.Slot e) ∷ [])
      held_slot [] e all = absurd (cc)
      held_slot (x ∷ y ∷ ys) e all = absurd (cc)
      held_slot (x ∷ []) e all =
          let x_is : x.0 ≡ slot page = cc in
          let s = is_slot x.1 (entry_kind g page in_disk x.1
          (subst (λ (i : LockNo). Sound g (spot n i) x.1) x_is all.0)) in
          (s.0, λ i. (x_is i, s.1 i) ∷ [])

      e : EntryState
      e = (held_slot l.held names_slot fit.sound).0

      held : l.held ≡ (slot page, holds.Slot e) ∷ []
      unfolding e held_slot
      held = (held_slot l.held names_slot fit.sound).1

      st : Stage g p e at l.fresh l.pin l.owed l.ahead l.behind l.page l.fail
      st = stage g ok w r.joint a l who p rest todo ((slot page, holds.Slot e) ∷ []) at held at_is

      next_plan : plan_at n at p (class_by e.kept) (class_in g.chain (next_form p l.page e.kept))
          ≡ Take k
      next_plan = plan_is at ((slot page, holds.Slot e) ∷ []) at_is held

      -- ---- a pool

      module _ (c : ℕ) (low : c < 255) (k_is : k ≡ lock.Class c) where
        pool_kind : IsPoolOf v
        pool_kind = class_kind g c low v (subst (λ (i : LockNo).
            Sound g (spot n i) v) k_is home.sound)

        module _ (q : PoolState) (v_is : v ≡ holds.Class q) where
          pool_sound : (n + c ≡ n + q.class) × PoolFits g.chain q
          pool_sound = subst (λ (x : LockNo × DiskHeld). Sound g (spot n x.0) x.1)
              (λ i. (k_is i, v_is i)) home.sound

          both_held : m.held ≡ (lock.Class c, holds.Class q) ∷ (slot page, holds.Slot e) ∷ []
          both_held = held_after_it ∙ (λ i. (k_is i, v_is i) ∷ held i)

      -- the pool of the entry's object
      module _ (o : Stored) (is : e.kept ≡ kept.Obj o) (form : IsForm g.chain
          (form_at g page e.order) e.kept) (k_is : k ≡ lock.Class o.class) (q : PoolState)
          (v_is : v ≡ holds.Class q) where
        low : o.class < 255
        low = let x = old_low g.chain (form_at g page e.order) e.kept form in
            let y = ap class_by is in omega arith

        two : m.held ≡ (lock.Class o.class, holds.Class q) ∷ (slot page, holds.Slot e) ∷ []
        two = both_held o.class low k_is q v_is

        is_home : NoneOf l.pin → IsAtHome q o.handle.0
        is_home free = at_home g after joint a m who_after page o q e two is free

        is_kept : (u : UsedCell) → Contains (used_cells q.zspages) u → u.handle ≡ o.handle.0
            → IsKept o u.bytes
        is_kept u in_it named_u =
            let b = object_is g after joint a m who_after page o q e two is u
            (λ f. count_le (cell_weight f) (used_cells q.zspages) in_it.0 u u
            (omega (arith, in_it.1)) in_it.2) named_u in
            let i = subst (IsForm g.chain (form_at g page e.order)) is form in record {
              len = image_len g page e.order o i ∙ sym (ap length b);
              page = content g page e.order;
              is_page = content_page g ok page e.order;
              form = image_form g page e.order o i ∙ ap (λ (x : List ℕ). Pooled x o.huge) (sym b);
            }

        is_lent : (x : Pin) → l.pin ≡ Some x → Names e.kept x → IsLent q x.handle (cell_of x)
        is_lent x e_pin of =
            let lt = pin_out g after joint a m who_after page o q e two is x e_pin of in
            let u = some_use (out_weight (λ y. bit (same_pin x y)) q.class)
            (used_cells q.zspages) lt in
            let out = out_of u.0.out (bit (same_pin x (pin_in q.class u.0))) u.2 in
            let same_one = same_pin_is x (pin_in q.class u.0)
            (bit_is (same_pin x (pin_in q.class u.0)) out.1) in (
              u.0,
              u.1,
              sym (ap (λ (y : Pin). y.handle) same_one),
              out.0,
              (λ i. cell_of (sym same_one i)),
            ) where
              out_of : (b : Bool) (i : ℕ) → 0 < cond b i 0 → (b ≡ true) × (0 < i)
              out_of true i lt = (refl, lt)
              out_of false i lt = absurd (omega arith)

              bit_is : (b : Bool) → 0 < bit b → b ≡ true
              bit_is true lt = refl
              bit_is false lt = absurd (omega arith)

      -- ---- by stages

      module _ (form : IsForm g.chain (form_at g page e.order) e.kept) where
        class_low : class_by e.kept < 255
        class_low = old_low g.chain (form_at g page e.order) e.kept form

        pin_fits : NoneOf l.pin → k ≡ lock.Class (class_by e.kept) → (x : Kept) → e.kept ≡ x
            → PinFits x v
        pin_fits free k_is kept.Empty is = tt
        pin_fits free k_is (kept.Same i) is = tt
        pin_fits free k_is (kept.Wb b) is = tt
        pin_fits free k_is (kept.Obj o) is =
            let k_o = k_is ∙ ap (λ (x : Kept). lock.Class (class_by x)) is in
            as_pool (CanPin o) v (pool_kind (class_by e.kept) class_low k_is)
            (λ q v_is. record {
              home = is_home o is form k_o q v_is free;
              kept = is_kept o is form k_o q v_is;
            })

        lent_fits : k ≡ lock.Class (class_by e.kept) → (x : Pin) → l.pin ≡ Some x → Names e.kept x
            → AsPool (λ q. IsLent q x.handle (cell_of x)) v
        lent_fits k_is x e_pin of = as_pool (λ q. IsLent q x.handle (cell_of x)) v
            (pool_kind (class_by e.kept) class_low k_is)
            (λ q v_is. by_kept e.kept refl of q v_is) where
              by_kept : (y : Kept) → e.kept ≡ y → Names y x → (q : PoolState) → v ≡ holds.Class q
                  → IsLent q x.handle (cell_of x)
              by_kept kept.Empty is of q v_is = absurd of
              by_kept (kept.Same i) is of q v_is = absurd of
              by_kept (kept.Wb b) is of q v_is = absurd of
              by_kept (kept.Obj o) is of q v_is = is_lent o is form (k_is
                  ∙ ap (λ (z : Kept). lock.Class (class_by z)) is) q v_is x e_pin
                  (subst (λ (z : Kept). Names z x) (sym is) of)

        pinned_fits : k ≡ lock.Class (class_by e.kept) → (y : Option Pin) → l.pin ≡ y
            → IsPinned e.kept y → PinnedFits y v
        pinned_fits k_is None e_pin i = absurd i
        pinned_fits k_is (Some x) e_pin i = lent_fits k_is x e_pin i

        free_fits : k ≡ lock.Class (class_by e.kept) → (y : Option Pin) → l.pin ≡ y
            → MayPin e.kept y → (x : Kept) → e.kept ≡ x → FreeFits x y v
        free_fits k_is y e_pin i kept.Empty is = tt
        free_fits k_is y e_pin i (kept.Same z) is = tt
        free_fits k_is y e_pin i (kept.Wb b) is = tt
        free_fits k_is None e_pin i (kept.Obj o) is = as_pool (λ q. IsAtHome q o.handle.0) v
            (pool_kind (class_by e.kept) class_low k_is)
            (λ q v_is. is_home o is form (k_is ∙ ap (λ (x : Kept). lock.Class (class_by x)) is) q
            v_is (subst NoneOf (sym e_pin) tt))
        free_fits k_is (Some x) e_pin i (kept.Obj o) is = lent_fits k_is x e_pin i

      -- the pool of the new object
      module _ (right : IsRight (MaySeeOther g p.page e.order) p.op p.page (page_in l.page e.kept)
          (content g p.page e.order))
          (changes : Changes p.op) where
        abbrev left_page : List ℕ
        left_page = page_after p (page_in l.page e.kept)

        bytes_fit : (bytes : List ℕ) (huge : Bool) (c : ℕ) → IsPage left_page
            → form_of left_page ≡ Pooled bytes huge → c ≡ object_class g.chain bytes huge
            → CellFits (length bytes) (class_size c)
        bytes_fit bytes true c whole f c_is =
            let b = ok.facts.huge_page left_page bytes whole f in
            let long : length bytes ≡ 4096 = ap length b ∙ whole.0 in
            let h : header_size (length bytes) ≡ 0 = ap header_size long in omega arith
        bytes_fit bytes false c whole f c_is =
            let s = ok.facts.packed_short left_page bytes whole f in
            let h = header_small (length bytes) in let x = packed_fits g.chain (length bytes) s in
            let y = ap class_size c_is in omega arith

        leaves_object : (bytes : List ℕ) (huge : Bool)
            → next_form p l.page e.kept ≡ Pooled bytes huge
            → IsPage left_page × (form_of left_page ≡ Pooled bytes huge)
        leaves_object = next_whole g ok p (tag_by l.actor p)
            (is_named g ok w r.joint a l who p rest todo) (MaySeeOther g p.page e.order)
            (page_in l.page e.kept) (content g p.page e.order) (content_page g ok p.page e.order)
            changes right

        store_fits : (f : PageForm) → next_form p l.page e.kept ≡ f
            → k ≡ lock.Class (class_in g.chain f) → StoreFits g.chain f v
        store_fits Blank f_is k_is = tt
        store_fits (Word i) f_is k_is = tt
        store_fits (Pooled bytes huge) f_is k_is = as_pool (CanStore g.chain (length bytes)) v
            (pool_kind (object_class g.chain bytes huge)
            (form_low g.chain (Pooled bytes huge)) k_is)
            (λ q v_is.
            let s = pool_sound (object_class g.chain bytes huge)
            (form_low g.chain (Pooled bytes huge)) k_is q v_is in
            let few = few_objects g w r.joint in
            let mine = row_at_most (stored each_one) in
            let is_q : stored each_one (spot n k) v ≡ sum_by (cell_weight (each_one q.class))
            (used_cells q.zspages) = ap (stored each_one (spot n k)) v_is in
            let len = ones (used_cells q.zspages) (cell_weight (each_one q.class)) (λ u. refl) in
            let object = leaves_object bytes huge f_is in
            let b = bytes_fit bytes huge q.class object.0 object.1
            (let z = s.0 in omega arith) in
            let lim = ok.proper.few in let acts = same_actors in record {
              pool = s.1.pool;
              few = omega arith;
              fits = (let z = s.1.size in omega arith);
              chain_fits = chain_low g.chain q s.1 ok.proper.least;
            })

      -- ---- the device and the blocks

      fetch_fits : k ≡ lock.Device → (x : Kept) → e.kept ≡ x → FetchFits x v
      fetch_fits k_is kept.Empty is = tt
      fetch_fits k_is (kept.Same w) is = tt
      fetch_fits k_is (kept.Obj o) is = tt
      fetch_fits k_is (kept.Wb b) is = as_device (λ d. b < d.blocks) v
          (device_kind g v (subst (λ (i : LockNo). Sound g (spot n i) v) k_is home.sound))
          (λ d v_is. block_there g after joint a m who_after b page e is d
          (held_after_it ∙ (λ i. (k_is i, v_is i) ∷ held i)))

      release_fits : k ≡ lock.Blocks → (x : Kept) → e.kept ≡ x → ReleaseFits x v
      release_fits k_is kept.Empty is = tt
      release_fits k_is (kept.Same w) is = tt
      release_fits k_is (kept.Obj o) is = tt
      release_fits k_is (kept.Wb b) is = as_map (λ x. slice_get x.states b ≡ Some Owned) v
          (map_kind g v (subst (λ (i : LockNo). Sound g (spot n i) v) k_is home.sound))
          (λ x v_is. owned_is g after joint a m who_after b page e is x
          (held_after_it ∙ (λ i. (k_is i, v_is i) ∷ held i)))

      -- ---- the account

      module _ (k_is : k ≡ lock.Account) where
        account_is : IsAccount v
        account_is = account_kind g v (subst (λ (i : LockNo). Sound g (spot n i) v) k_is home.sound)

        -- the account and the slot are held
        module _ (c : Counters) (v_is : v ≡ holds.Account c) where
          with_account : m.held ≡ (lock.Account, holds.Account c) ∷ (slot page, holds.Slot e) ∷ []
          with_account = held_after_it ∙ (λ i. (k_is i, v_is i) ∷ held i)

          account_few : (q : Count) → counter q c ≤ 4096 * (n + length w.locals)
          account_few q = let x = row_at_most (counters q) in
              let y = ap (counters q (spot n k)) v_is in let z = counts_few g ok w r.joint q in
              omega arith

        -- the account may count a page of such a weight
        pay_any : (new : Weight) → IsSmall new → GoneBy l.ahead e.kept → NoneOf l.behind
            → AsAccount (CanPay l.owed (old_weight l.ahead e.kept) new) v
        pay_any new small gone_by quiet = as_account _ v account_is (λ c v_is.
            let two = with_account c v_is in
            let known : (q : Count) → measure q (old_weight l.ahead e.kept) ≤ counter q c = λ q.
            (let x = has_counted g after joint a m who_after c
            ((slot page, holds.Slot e) ∷ []) two (λ i. refl) quiet q in
            let y = ap (held_sum (spot n) (shown q)) two in
            let z = old_is e.kept l.ahead gone_by q in omega arith) in
            let acts = same_actors in let lim = ok.proper.few in
            let bound : (q : Count) → counter q (counted (repaid c l.owed)
            (delta.Kept (old_weight l.ahead e.kept) new))
            ≤ 4096 * (n + length w.locals) + 4096 = λ q.
            (let x = counted_count l.owed (old_weight l.ahead e.kept) new c q (known q) in
            let y = measure_small q new small in
            let z = account_few c v_is q in omega arith) in
            let b0 = bound Sames in let b1 = bound Packs in let b2 = bound PackedBytes in
            let b3 = bound Huges in let b4 = bound Backs in record {
              pays = can_repay g after joint a m who_after c
                  ((slot page, holds.Slot e) ∷ []) two refl;
              old_one = is_counted (repaid c l.owed) (old_weight l.ahead e.kept)
                  (λ q. let x = known q in let y = same_repaid q c l.owed in omega arith);
              sizes = (omega arith, omega arith);
            })

    pay_fits : (in_disk : p.page < n) (at_is : l.at ≡ Owing) → k ≡ lock.Account
        → AsAccount (CanPay l.owed (old_weight l.ahead (e Owing at_is p.page in_disk (λ c d. refl)).kept)
        (form_weight (next_form p l.page (e Owing at_is p.page in_disk (λ c d. refl)).kept))) v
    pay_fits in_disk at_is k_is =
        let s = st Owing at_is p.page in_disk (λ c d. refl) in
        pay_any Owing at_is p.page in_disk (λ c d. refl) k_is _
        (next_small g ok w r.joint a l who p rest todo (e Owing at_is p.page in_disk (λ c d. refl))
        s.kind.0 s.right) s.counts.0 s.counts.1

    -- the account is taken beside a pool
    inside_fits : k ≡ lock.Account → AsAccount (CanCharge g.chain) v
    inside_fits k_is = as_account (CanCharge g.chain) v
        (account_kind g v (subst (λ (i : LockNo). Sound g (spot n i) v) k_is home.sound))
        (λ c v_is. let x = row_at_most pages in let y = ap (pages (spot n k)) v_is in
        let z = pages_few g ok w r.joint in let acts = same_actors in let lim = ok.proper.few in
        let ch = ok.proper.most in omega arith)

    -- ---- all stages

    module _ (at : At) (at_is : l.at ≡ at) where
      here : Stage g p (entry_in l.held) at l.fresh l.pin l.owed l.ahead l.behind l.page l.fail
      here = stage g ok w r.joint a l who p rest todo l.held at refl at_is

    -- ---- writebacks

    abbrev VisitsSo : Step → Trip → EntryState → Type 0
    VisitsSo s x y = VisitFits s x y l.pin l.owed l.ahead v

    none_pinned : (x : Option Pin) → NoneOf x → x ≡ None
    none_pinned None i = refl
    none_pinned (Some x) i = absurd i

    -- the locks that a step has
    step_locks : (s : Step) (x : Trip) (ks : List LockNo) → l.at ≡ Visiting s x
        → ((c d : ℕ) → locks_at (Visiting s x) p c d ≡ ks)
        → map (λ (y : LockNo × DiskHeld). y.0) l.held ≡ ks
    step_locks s x ks i is = subst (λ (x : List Part × At). map (λ (y : LockNo × DiskHeld). y.0) l.held
        ≡ locks_by x.0 x.1 (class_by (entry_in l.held).kept)
        (new_class g.chain x.0 l.page (entry_in l.held).kept)) (λ k. (todo k, i k)) fit.locks
        ∙ is (class_by (entry_in l.held).kept)
        (new_class g.chain (p ∷ rest) l.page (entry_in l.held).kept)

    -- the step after it
    next_at : (s : Step) (x : Trip) → l.at ≡ Visiting s x
        → m.at ≡ visited_at s x p.op (entry_or v (entry_in l.held)) l.fail
    next_at s x i = λ t. taken_at n (todo t) (i t) l.page (entry_or v (entry_in l.held)) l.fail

    -- the device to which a page is written has the block
    write_fits : (x : Trip) → l.at ≡ Visiting step.Flying x → k ≡ lock.Device → (block : Option ℕ)
        → x.block ≡ block → WriteFits block v
    write_fits x i k_is None is = tt
    write_fits x i k_is (Some b) is = as_device (λ d. b < d.blocks) v
        (device_kind g v (subst (λ (i : LockNo). Sound g (spot n i) v) k_is home.sound))
        (λ d v_is. held_there g after joint a m who_after step.Storing x (next_at step.Flying x i) b is
        (λ f. refl) d l.held (held_after_it ∙ (λ t. (k_is t, v_is t) ∷ l.held))
        (ap (held_sum (spot n) device_size)
        (no_held l.held (step_locks step.Flying x [] i (λ c d. refl)))))

    -- the map has the block as reserved
    map_fits : (s t : Step) (x : Trip) → l.at ≡ Visiting s x
        → m.at ≡ Visiting t x → ((f : BlockWeigh) → use_at f t x ≡ by_option (f 0) x.block)
        → ((f : BlockMap → ℕ) → held_sum (spot n) (on_blocks f) l.held ≡ 0) → k ≡ lock.Blocks
        → (block : Option ℕ) → x.block ≡ block → HeldFits block v
    map_fits s t x i now uses none_else k_is None is = tt
    map_fits s t x i now uses none_else k_is (Some b) is =
        as_map (λ y. slice_get y.states b ≡ Some Held) v
        (map_kind g v (subst (λ (i : LockNo). Sound g (spot n i) v) k_is home.sound))
        (λ y v_is. held_is g after joint a m who_after t x now b is y l.held
        (held_after_it ∙ (λ t. (k_is t, v_is t) ∷ l.held))
        (none_else (λ z. used_from (holding 1 b) 0 z.states)) uses)

    -- where its mark still stands, the page is in the pool
    land_fits : (x : Trip) → x.page < n → k ≡ slot x.page → LandFits x.block v
    land_fits x low k_is = as_slot (λ e. is_mark_of x.block e.under ≡ true → is_obj e.kept ≡ true) v
        (entry_kind g x.page low v (subst (λ (i : LockNo). Sound g (spot n i) v) k_is home.sound))
        (λ e v_is on. (subst (λ (y : LockNo × DiskHeld). AtHome g (spot n y.0) y.1)
        (λ i. (k_is i, v_is i)) home).marks.under_one (some_mark x.block e.under on))

    visit_fits : (x : Trip) (s : Step) → l.at ≡ Visiting s x → VisitsSo s x (entry_in l.held)
    visit_fits x step.Arriving i = trip_fits x.page (here (Visiting step.Arriving x) i).visits.trip.page
        (taken_lock (slot x.page) (plan_is (Visiting step.Arriving x) l.held i refl))
    visit_fits x step.Asking i = as_map (λ y. ⊤) v
        (map_kind g v (subst (λ (i : LockNo). Sound g (spot n i) v)
        (taken_lock lock.Blocks (plan_is (Visiting step.Asking x) l.held i refl)) home.sound))
        (λ y v_is. tt)
    visit_fits x step.Seen i =
        let low = (here (Visiting step.Seen x) i).visits.trip.page in
        let s = st (Visiting step.Seen x) i x.page low (λ c d. refl) in
        subst (λ (xs : List (LockNo × DiskHeld)). VisitsSo step.Seen x (entry_in xs))
        (sym (held (Visiting step.Seen x) i x.page low (λ c d. refl)))
        (pin_fits (Visiting step.Seen x) i x.page low (λ c d. refl) s.visits.step.0.page.stands s.pins
        (taken_lock _ (next_plan (Visiting step.Seen x) i x.page low (λ c d. refl))) _ refl)
    visit_fits x step.Pinned i =
        let low = (here (Visiting step.Pinned x) i).visits.trip.page in
        let s = st (Visiting step.Pinned x) i x.page low (λ c d. refl) in
        subst (λ (xs : List (LockNo × DiskHeld)). VisitsSo step.Pinned x (entry_in xs))
        (sym (held (Visiting step.Pinned x) i x.page low (λ c d. refl)))
        (pinned_fits (Visiting step.Pinned x) i x.page low (λ c d. refl)
        s.visits.step.0.page.stands
        (taken_lock _ (next_plan (Visiting step.Pinned x) i x.page low (λ c d. refl))) l.pin refl
        s.pins)
    visit_fits x step.Flying i = write_fits x i
        (taken_lock lock.Device (plan_is (Visiting step.Flying x) l.held i refl)) x.block refl
    visit_fits x step.Landing i = land_fits x (here (Visiting step.Landing x) i).visits.trip.page
        (taken_lock (slot x.page) (plan_is (Visiting step.Landing x) l.held i refl))
    visit_fits x step.Won i =
        let low = (here (Visiting step.Won x) i).visits.trip.page in
        let s = st (Visiting step.Won x) i x.page low (λ c d. refl) in
        subst (λ (xs : List (LockNo × DiskHeld)). VisitsSo step.Won x (entry_in xs))
        (sym (held (Visiting step.Won x) i x.page low (λ c d. refl)))
        (free_fits (Visiting step.Won x) i x.page low (λ c d. refl) s.visits.step.0.page.stands
        (taken_lock _ (next_plan (Visiting step.Won x) i x.page low (λ c d. refl))) None
        (none_pinned l.pin s.pins) tt _ refl)
    visit_fits x step.Backing i =
        let low = (here (Visiting step.Backing x) i).visits.trip.page in
        map_fits step.Backing step.Committing x i (next_at step.Backing x i) (λ f. refl)
        (λ f. ap (held_sum (spot n) (on_blocks f))
        (held (Visiting step.Backing x) i x.page low (λ c d. refl)))
        (taken_lock lock.Blocks (plan_is (Visiting step.Backing x) l.held i refl)) x.block refl
    visit_fits x step.Undoing i =
        map_fits step.Undoing step.Releasing x i (next_at step.Undoing x i) (λ f. refl)
        (λ f. ap (held_sum (spot n) (on_blocks f))
        (no_held l.held (step_locks step.Undoing x [] i (λ c d. refl))))
        (taken_lock lock.Blocks (plan_is (Visiting step.Undoing x) l.held i refl)) x.block refl
    visit_fits x step.Owing i =
        let low = (here (Visiting step.Owing x) i).visits.trip.page in
        let s = st (Visiting step.Owing x) i x.page low (λ c d. refl) in
        subst (λ (xs : List (LockNo × DiskHeld)). VisitsSo step.Owing x (entry_in xs))
        (sym (held (Visiting step.Owing x) i x.page low (λ c d. refl)))
        (pay_any (Visiting step.Owing x) i x.page low (λ c d. refl)
        (taken_lock lock.Account (next_plan (Visiting step.Owing x) i x.page low (λ c d. refl)))
        weight.Back (omega arith) (gone_by l.ahead _ s.counts.0) s.counts.1)
    visit_fits x s i = tt

    abbrev FitsAs : At → EntryState → Type 0
    FitsAs at x = FitsAt (terms g) at p x l.pin l.owed l.ahead l.page v

    fits_at : (at : At) → l.at ≡ at → FitsAs at (entry_in l.held)
    fits_at Start i = start_by (is_maintenance p.op) (is_beyond n p.op) refl refl
        (plan_is Start l.held i refl)
    fits_at (Scanning x) i = scan_fits x.page (here (Scanning x) i).scans.page
        (taken_lock (slot x.page) (plan_is (Scanning x) l.held i refl))
    fits_at (Sweeping x) i = sweep_fits x.class (here (Sweeping x) i).compacts.class
        (taken_lock (lock.Class x.class) (plan_is (Sweeping x) l.held i refl))
    fits_at (Shrunk x) i = shrunk_fits x i
        (taken_lock lock.Account (plan_is (Shrunk x) l.held i refl))
    fits_at Seen i =
        let off = (disk (here Seen i).begun).0 in let s = st Seen i p.page off (λ c d. refl) in
        subst (λ (xs : List (LockNo × DiskHeld)). FitsAs Seen (entry_in xs))
        (sym (held Seen i p.page off (λ c d. refl)))
        (pin_fits Seen i p.page off (λ c d. refl) s.stands s.pins
        (taken_lock _ (next_plan Seen i p.page off (λ c d. refl))) _ refl)
    fits_at Pinned i =
        let off = (disk (here Pinned i).begun).0 in let s = st Pinned i p.page off (λ c d. refl) in
        subst (λ (xs : List (LockNo × DiskHeld)). FitsAs Pinned (entry_in xs))
        (sym (held Pinned i p.page off (λ c d. refl)))
        (pinned_fits Pinned i p.page off (λ c d. refl) s.stands
        (taken_lock _ (next_plan Pinned i p.page off (λ c d. refl))) l.pin refl s.pins)
    fits_at Wanting i =
        let off = (disk (here Wanting i).begun).0 in let s = st Wanting i p.page off (λ c d. refl) in
        subst (λ (xs : List (LockNo × DiskHeld)). FitsAs Wanting (entry_in xs))
        (sym (held Wanting i p.page off (λ c d. refl)))
        (store_fits Wanting i p.page off (λ c d. refl) s.right (write_changes p.op s.kind.0) _ refl
        (taken_lock _ (next_plan Wanting i p.page off (λ c d. refl))))
    fits_at Inside i = inside_fits (taken_lock lock.Account (plan_is Inside l.held i refl))
    fits_at Old i =
        let off = (disk (here Old i).begun).0 in let s = st Old i p.page off (λ c d. refl) in
        subst (λ (xs : List (LockNo × DiskHeld)). FitsAs Old (entry_in xs))
        (sym (held Old i p.page off (λ c d. refl)))
        (free_fits Old i p.page off (λ c d. refl) s.stands (taken_lock _
        (next_plan Old i p.page off (λ c d. refl))) l.pin refl s.pins _ refl)
    fits_at Owing i =
        let off = (disk (here Owing i).begun).0 in
        subst (λ (xs : List (LockNo × DiskHeld)). FitsAs Owing (entry_in xs))
        (sym (held Owing i p.page off (λ c d. refl)))
        (pay_fits off i (taken_lock lock.Account (next_plan Owing i p.page off (λ c d. refl))))
    fits_at Away i =
        let off = (disk (here Away i).begun).0 in
        subst (λ (xs : List (LockNo × DiskHeld)). FitsAs Away (entry_in xs))
        (sym (held Away i p.page off (λ c d. refl)))
        (fetch_fits Away i p.page off (λ c d. refl) (taken_lock lock.Device
        (next_plan Away i p.page off (λ c d. refl))) _ refl)
    fits_at Failing i = any_account (taken_lock lock.Account (plan_is Failing l.held i refl))
    fits_at Backed i =
        let off = (disk (here Backed i).begun).0 in
        subst (λ (xs : List (LockNo × DiskHeld)). FitsAs Backed (entry_in xs))
        (sym (held Backed i p.page off (λ c d. refl)))
        (release_fits Backed i p.page off (λ c d. refl) (taken_lock lock.Blocks
        (next_plan Backed i p.page off (λ c d. refl))) _ refl)
    fits_at (Visiting s x) i = visit_fits x s i
    fits_at at i = tt

  fits_todo : (ps : List Part) → l.todo ≡ ps → FitsBy (terms g) l ps v
  fits_todo [] todo = tt
  fits_todo (p ∷ rest) todo = fits_at p rest todo l.at refl

  -- what the actor takes fits its stage
  pub stage_fits : StageFits (terms g) l v
  stage_fits = fits_todo l.todo refl

-- ---- a class that is compacted

module _ (g : Begin) (w : State DiskHeld) (j : Joint g w) (a : ℕ) (l : Here)
    (who : slice_get w.locals a ≡ Some l) (p : Part) (rest : List Part) (x : Compaction)
    (q : PoolState) (todo : l.todo ≡ p ∷ rest) (at : l.at ≡ Moving x)
    (held : l.held ≡ (lock.Class x.class, holds.Class q) ∷ []) where
  -- it is one of the disk's, and has few objects
  pub compacted_few : (x.class < 255) × (length (objects q) ≤ g.given.size + length w.locals)
  compacted_few =
      let st : Stage g p (entry_in l.held) (Moving x) l.fresh l.pin l.owed l.ahead l.behind l.page
      l.fail = subst (λ (y : List Part × At). StageBy g y.0 (entry_in l.held) y.1 l.fresh l.pin
      l.owed l.ahead l.behind l.page l.fail) (λ i. (todo i, at i)) (j.each.in_local a l who).stage in
      let few = few_objects g w j in
      let mine = locals_le g.given.size (mass (spot g.given.size) (stored each_one) none) w.locals a l
      who in
      let r = ap (held_sum (spot g.given.size) (stored each_one)) held in
      let len = ones (used_cells q.zspages) (cell_weight (each_one q.class)) (λ u. refl) in
      let all : length (objects q) ≡ length (used_cells q.zspages) = length-map _ _ in
      (st.compacts.class, omega arith)
