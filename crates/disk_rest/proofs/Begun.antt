-- The row of a new disk stands for it.
use Rattle.std.proofs.Common.{◌≡◌, ℕ, zero, ◌+◌, ◌≤◌, ◌<◌, [], length, Some, slice_get, refl, sym, ap, ◌∙◌, subst, arith}
use Rattle.std.proofs.lemmas.List.{get_or-replicate, length-replicate}
use Rattle.std.proofs.lemmas.Option.{slice_get_within}
use Rattle.zr_base.specs.Plain.{zero_sector, IsSector}
use Rattle.mem_account.specs.Counters.{Counters, no_counts}
use Rattle.backing_dev.specs.Dev.{DeviceState}
use Rattle.block_map.specs.BlockMap.{BlockMap}
use Rattle.class_pool.specs.Pool.{PoolState}
use Rattle.plain_disk.specs.Rests.{Rest, stats}
use Rattle.lock_row.specs.declared.names.Held.TheVariants as holds
use Rattle.page_steps.specs.Steps.{DiskHeld}
use Rattle.slot_entry.specs.Forms.{page_weight}
use Rattle.joint_rule.specs.Begins.{Begin}
use Rattle.joint_rule.specs.Laws.{NewIsAtRest, NewCountsNothing}
use Rattle.joint_rule.specs.Starts.{AtRest, IsMapOf}
use Rattle.joint_rule.specs.Starts.{IsNew as IsNewValue}
use Rattle.joint_rule.specs.Ends.{begin_at, used_in, account_in, account_of, new_rest}
use Rattle.joint_rule.specs.Weights.{used_each}
use Rattle.disk_rest.specs.Rows.{Row, used_at, without_calls, without_orders}
use Rattle.disk_rest.specs.Resting.{StandsFor}
use Rattle.disk_rest.proofs.Places.{pool_at, account_there, map_there, device_there, value_is}
use Rattle.disk_rest.proofs.Matches.{was_at, emptied_long, emptied_at}

zero_is : IsSector zero_sector
unfolding zero_sector
zero_is = (
  length-replicate 512 zero,
  λ k d lt.
      let n = length-replicate 512 zero in
      let e = get_or-replicate 512 k zero d (omega arith) in omega arith,
)

new_empties : (g : Begin) (k : ℕ) (v : DiskHeld) → IsNewValue g k v
    → IsNewValue g k (without_calls v)
new_empties g k (holds.Slot e) is =
    (is.0, is.1, refl, is.3, is.4, is.5, is.6, is.7, is.8)
new_empties g k (holds.Class x) is = is
new_empties g k (holds.Account x) is = is
new_empties g k (holds.Blocks x) is = is
new_empties g k (holds.Device x) is = is

module _ (r : Rest) (n : ℕ) (row : Row) (at_rest : NewIsAtRest)
    (counts : NewCountsNothing) (low : 4 ≤ r.set.chain) (high : r.set.chain ≤ 16)
    (long : length row ≡ n + 258)
    (new : (k : ℕ) → k < length row → (v : DiskHeld) × (slice_get row k ≡ Some (Some v))
    × IsNewValue (begin_at (new_rest n r.set r.device) []) k v)
    (limit : (k : ℕ) (c : Counters) → slice_get row k ≡ Some (Some (holds.Account c))
    → c.limit ≡ r.set.limit)
    (maps : (k : ℕ) (x : BlockMap) → slice_get row k ≡ Some (Some (holds.Blocks x))
    → IsMapOf (begin_at (new_rest n r.set r.device) []) x) where
  abbrev m : Rest
  m = new_rest n r.set r.device

  abbrev g : Begin
  g = begin_at m []

  value_new : (k : ℕ) (v : DiskHeld) → slice_get row k ≡ Some (Some v) → IsNewValue g k v
  value_new k v e =
      let lt = slice_get_within row k (Some v) e in let w = new k lt in
      let same : w.0 ≡ v = (let x = w.1 in cc) in subst (IsNewValue g k) same w.2

  rest : AtRest g row
  rest = at_rest g row long (λ k lt. let w = new k lt in (w.0, w.1)) value_new

  empty_rest : AtRest g (without_orders row)
  empty_rest = at_rest g (without_orders row) (emptied_long row ∙ long)
      (λ k lt. let e = emptied_long row in let w = new k (omega arith) in
      (without_calls w.0, emptied_at row k w.0 w.1))
      (λ k u e. let was = was_at row k u e in
      subst (IsNewValue g k) (sym was.is)
      (new_empties g k was.value (value_new k was.value was.at)))

  no_used : (k : ℕ) → k < 255 → used_at n row k ≡ []
  no_used k lt = let q = pool_at g row rest k lt in
      ap used_in (value_is row (n + k) (holds.Class q.pool) q.at)
      ∙ ap (λ (p : PoolState). used_each p.zspages)
      (value_new (n + k) (holds.Class q.pool) q.at).2

  nothing_yet_counted : account_of n row ≡ stats page_weight m
  nothing_yet_counted = let a = account_there g row rest in
      ap account_in (value_is row (n + 255) (holds.Account a.counters) a.at)
      ∙ (value_new (n + 255) (holds.Account a.counters) a.at).1
      ∙ ap (λ (l : ℕ). record no_counts { limit = l }) (limit (n + 255) a.counters a.at)
      ∙ sym (counts n r.set r.device)

  device_here : slice_get row (n + 257) ≡ Some (Some (holds.Device r.device))
  device_here = let d = device_there g row rest in
      d.at ∙ ap (λ (x : DeviceState). Some (Some (holds.Device x)))
      (value_new (n + 257) (holds.Device d.device) d.at).1

  pub begins : StandsFor m row
  begins = record {
    plain = record {
      sectors = λ s. zero_is;
      blanks = λ p k lt e. refl;
      times = λ p lt. omega arith;
      least = low;
      most = high;
    };
    rest = empty_rest;
    marks = λ p e at. (value_new p (holds.Slot e) at).4;
    used = no_used;
    account = nothing_yet_counted;
    device = device_here;
    map = let x = map_there g row rest in (x.map, x.at, maps (n + 256) x.map x.at);
  }
