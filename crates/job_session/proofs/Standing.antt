-- What each item does to a row that stands for a rest.
use Rattle.std.proofs.Common.{◌≡◌, ℕ, ◌+◌, ◌<◌, List, [], Option, Some, slice_get, sym, ap, ◌∙◌, subst, arith}
use Rattle.std.proofs.lemmas.List.FromFn.{length-map-range_with_len, get_or-map-range_with_len}
use Rattle.std.proofs.lemmas.Option.{slice_get_within}
use Rattle.zr_base.specs.declared.op.Op.{Op}
use Rattle.zr_base.specs.Plain.{Finds}
use Rattle.mem_account.specs.Counters.{Counters, no_counts}
use Rattle.block_map.specs.BlockMap.{BlockMap}
use Rattle.backing_dev.specs.Dev.{DeviceState}
use Rattle.plain_disk.specs.Output.{OutLine}
use Rattle.plain_disk.specs.Rests.{Rest, is_backed}
use Rattle.plain_disk.specs.Phases.{IsPhase}
use Rattle.plain_disk.specs.Legal.{IsNew as IsNewRest}
use Rattle.call_history.specs.Histories.{HasSomeEach}
use Rattle.lock_row.specs.declared.names.Held.TheVariants as holds
use Rattle.lock_row.specs.declared.names.State.{State}
use Rattle.page_steps.specs.Steps.{DiskHeld, Here}
use Rattle.slot_entry.specs.Forms.{page_weight}
use Rattle.joint_rule.specs.Begins.{Proper, terms}
use Rattle.joint_rule.specs.Starts.{Starts, IsMapOf, IsNew}
use Rattle.joint_rule.specs.Laws.{StartHasRule, ReachedHasRule}
use Rattle.disk_rest.specs.Rows.{AreOrders}
use Rattle.joint_rule.specs.Ends.{begin_at, rest_after, new_rest}
use Rattle.disk_rest.specs.Resting.{StandsFor, IsSetUp}
use Rattle.disk_rest.specs.Laws.{PrintsPhase, LeavesRest, BeginsPhase, BeginsDisk}
use Rattle.zr_core.specs.declared.limits.TheConstants.{MOST_CHAIN}
use Rattle.zr_core.specs.Machines.{Begins, PhaseSteps, orders_of}
use Rattle.zr_core.specs.Machines.{IsSetUp as IsSetUpOn}
use Rattle.zr_core.specs.Rests.{new_disk}
use Rattle.zr_core.specs.Rows.{AreNew}

-- ---- a phase

module _ (r : Rest) (actors : List (List Op)) (row : List (Option DiskHeld)) where
  begins : (a : ℕ) (l : Here) → Begins r.size (is_backed r) actors a l → Starts (begin_at r actors) a l
  begins a l b = record {
    who = b.who;
    ops = b.ops;
    named = b.named;
    at = b.at;
    todo = b.todo;
    held = b.held;
    done = b.done;
    fresh = b.fresh;
    pin = b.pin;
    owed = b.owed;
    ahead = b.ahead;
    behind = b.behind;
    page = b.page;
    fail = b.fail;
  }

  set_up : (w : State DiskHeld) → IsSetUpOn r.size (is_backed r) actors row w → IsSetUp r actors row w
  set_up w s = record {
    row = record { size = s.row.size; each = s.row.each };
    orders = s.orders;
    starts = λ a l is. begins a l (s.begin a l is);
    count = s.count;
  }

  orders : (w : State DiskHeld) → AreOrders r.size w.row (orders_of r.size w.row)
  orders w = record {
    long = length-map-range_with_len _ 0 r.size;
    each = λ p lt. get_or-map-range_with_len _ 0 r.size p p [] lt (omega arith);
  }

  module _ (starts : StartHasRule) (reached : ReachedHasRule) (begin : BeginsPhase)
      (prints : PrintsPhase) (leaves : LeavesRest) (proper : Proper (begin_at r actors)) where
    -- a phase prints what the plain disk allows, and the row stands for the rest that it leaves, by what
    -- its calls have found
    pub phase_on : (turns : List ℕ) (lines : List OutLine) (after : List (Option DiskHeld))
        → StandsFor r row → HasSomeEach actors
        → PhaseSteps (terms (begin_at r actors)) (is_backed r) actors row turns lines after
        → (finds : ℕ → Finds) × IsPhase page_weight r actors lines (rest_after r actors finds after)
        × StandsFor (rest_after r actors finds after) after
    phase_on turns lines after stands some s =
        let rule = reached (begin_at r actors) s.start s.last proper
        (starts (begin_at r actors) s.start proper
        (begin r actors row s.start stands (set_up s.start s.is_set_up))) (turns, s.run) in
        let P : List OutLine × List (Option DiskHeld) → Type 0 =
        λ x. (finds : ℕ → Finds) × IsPhase page_weight r actors x.0 (rest_after r actors finds x.1)
        × StandsFor (rest_after r actors finds x.1) x.1 in
        subst P (λ i. (sym s.prints i, sym s.leaves i)) (
          rule.finds,
          prints r actors s.last (orders_of r.size s.last.row) proper rule s.finished some
              (orders s.last),
          leaves r actors s.last proper rule s.finished,
        )

-- ---- a new disk

-- what a value of a new disk is doesn't lean on the row before
new_value : (r : Rest) (n limit : ℕ) → r.set.chain ≡ MOST_CHAIN → (k : ℕ) (v : DiskHeld)
    → IsNew (new_disk n limit r.device) k v → IsNew (begin_at (new_rest n r.set r.device) []) k v
new_value r n limit chain k (holds.Slot e) is = is
new_value r n limit chain k (holds.Class p) is =
    subst (λ (c : ℕ). IsNew (record (new_disk n limit r.device) { chain = c }) k (holds.Class p))
    (sym chain) is
new_value r n limit chain k (holds.Account c) is = is
new_value r n limit chain k (holds.Blocks x) is = is
new_value r n limit chain k (holds.Device x) is = is

-- the account of a new disk is in its place
account_place : (n limit : ℕ) (device : DeviceState) (k : ℕ) (c : Counters)
    → IsNew (new_disk n limit device) k (holds.Account c) → k ≡ n + 255
account_place n limit device k c is = is.0

-- and so is its map of blocks
map_place : (n limit : ℕ) (device : DeviceState) (k : ℕ) (x : BlockMap)
    → IsNew (new_disk n limit device) k (holds.Blocks x) → k ≡ n + 256
map_place n limit device k x is = is.0

some_some : (v u : DiskHeld) → (◌≡◌ {A = Option (Option DiskHeld)} (Some (Some v)) (Some (Some u)))
    → v ≡ u
some_some v u is = cc

module _ (new : BeginsDisk) (r : Rest) (n limit : ℕ) (row : List (Option DiskHeld))
    (chain : r.set.chain ≡ MOST_CHAIN) (same : r.set.limit ≡ limit)
    (are : AreNew (new_disk n limit r.device) (n + 258) row)
    (account : slice_get row (n + 255)
    ≡ Some (Some (holds.Account (record no_counts { limit = limit }))))
    (blocks : BlockMap) (map : slice_get row (n + 256) ≡ Some (Some (holds.Blocks blocks)))
    (is_map : IsMapOf (begin_at r []) blocks) where
  limit_there : (k : ℕ) (c : Counters) → slice_get row k ≡ Some (Some (holds.Account c))
      → k < n + 258 → c.limit ≡ r.set.limit
  limit_there k c is lt =
      let there = are.each k lt in
      let v : there.0 ≡ holds.Account c = some_some there.0 (holds.Account c) (sym there.1 ∙ is) in
      let place = account_place n limit r.device k c
      (subst (IsNew (new_disk n limit r.device) k) v there.2) in
      let d : Counters = record no_counts { limit = limit } in
      let same_value = some_some (holds.Account c) (holds.Account d)
      (sym is ∙ ap (slice_get row) place ∙ account) in
      account_limit c d same_value ∙ sym same
    where
      account_limit : (c d : Counters) → (◌≡◌ {A = DiskHeld} (holds.Account c) (holds.Account d))
          → c.limit ≡ d.limit
      account_limit c d is = let e : c ≡ d = cc in ap (λ (x : Counters). x.limit) e

  map_on : (k : ℕ) (x : BlockMap) → slice_get row k ≡ Some (Some (holds.Blocks x))
      → k < n + 258 → IsMapOf (begin_at (new_rest n r.set r.device) []) x
  map_on k x is lt =
      let there = are.each k lt in
      let v : there.0 ≡ holds.Blocks x = some_some there.0 (holds.Blocks x) (sym there.1 ∙ is) in
      let place = map_place n limit r.device k x
      (subst (IsNew (new_disk n limit r.device) k) v there.2) in
      let same = some_some (holds.Blocks blocks) (holds.Blocks x)
      (sym map ∙ ap (slice_get row) (sym place) ∙ is) in
      subst (IsMapOf (begin_at (new_rest n r.set r.device) [])) (one_map blocks x same)
      (record { blocks = is_map.blocks; budget = is_map.budget; budgeted = is_map.budgeted })
    where
      one_map : (x y : BlockMap) → (◌≡◌ {A = DiskHeld} (holds.Blocks x) (holds.Blocks y)) → x ≡ y
      one_map x y is = cc

  pub disk_on : IsNewRest r n (new_rest n r.set r.device)
      × StandsFor (new_rest n r.set r.device) row
  disk_on =
      new r n row (omega (arith, chain)) (omega (arith, chain)) are.size
      (λ k lt.
      let there = are.each k (omega (arith, lt, are.size)) in
      (there.0, there.1, new_value r n limit chain k there.0 there.2))
      (λ k c is. limit_there k c is (within k (holds.Account c) is))
      (λ k x is. map_on k x is (within k (holds.Blocks x) is))
    where
      within : (k : ℕ) (v : DiskHeld) → slice_get row k ≡ Some (Some v) → k < n + 258
      within k v is =
          let lt = slice_get_within row k (Some v) is in
          omega (arith, lt, are.size)
