-- Where a rest's classes are tight, no pool of the row is loose.
use Rattle.std.proofs.Common.{◌≡◌, ℕ, zero, suc, ◌+◌, ◌<◌, true, [], ◌∷◌, sum_by, Some, None, slice_get, refl, sym, ap, ◌∙◌, subst, arith}
use Rattle.std.specs.List.{range_with_len}
use Rattle.std.proofs.lemmas.Bool.{eqb-true}
use Rattle.std.proofs.lemmas.List.Sums.{sum_by-cons}
use Rattle.size_class.specs.Classes.{per_of}
use Rattle.class_pool.specs.Pool.{PoolState}
use Rattle.plain_disk.specs.Compactions.{loose, are_tight}
use Rattle.plain_disk.specs.Rests.{Rest}
use Rattle.lock_row.specs.declared.names.Held.TheVariants as holds
use Rattle.lock_row.specs.Totals.{row_sum}
use Rattle.page_steps.specs.Steps.{DiskHeld}
use Rattle.joint_rule.specs.Ends.{used_in}
use Rattle.joint_rule.specs.Weights.{used_each, loose_pools}
use Rattle.disk_rest.specs.Rows.{Row, used_at}
use Rattle.disk_rest.proofs.Places.{value_is}

-- a sum over a row of values that weigh nothing
pub row_none : (f : ℕ → DiskHeld → ℕ) (row : Row)
    → ((k : ℕ) (v : DiskHeld) → slice_get row k ≡ Some (Some v) → f k v ≡ 0)
    → row_sum f row ≡ 0
row_none f [] none = refl
row_none f (None ∷ xs) none =
    let p = row_none (λ j. f (suc j)) xs (λ k v e. none (suc k) v e) in omega arith
row_none f (Some x ∷ xs) none =
    let q = none 0 x refl in
    let p = row_none (λ j. f (suc j)) xs (λ k v e. none (suc k) v e) in omega arith

-- no part of a sum that is 0 is above 0
part_none : (f : ℕ → ℕ) (a n k : ℕ) → k < n → sum_by f (range_with_len a n) ≡ 0 → f (a + k) ≡ 0
part_none f a zero k lt e = absurd (omega arith)
part_none f a (suc n) zero lt e =
    let parts = sum_by-cons f a (range_with_len (a + 1) n) in
    ap f (let q : a + 0 ≡ a = omega arith in q) ∙ (let q : f a ≡ 0 = omega arith in q)
part_none f a (suc n) (suc k) lt e =
    let parts = sum_by-cons f a (range_with_len (a + 1) n) in
    ap f (let q : a + suc k ≡ a + 1 + k = omega arith in q)
    ∙ part_none f (a + 1) n k (omega arith) (omega arith)

module _ (r : Rest) (ys : Row)
    (home : (k : ℕ) (v : DiskHeld) → slice_get ys k ≡ Some (Some v)
    → (q : PoolState) → v ≡ holds.Class q
    → (k ≡ r.size + q.class) × (q.class < 255) × (q.per ≡ per_of r.set.chain q.class))
    (used : (k : ℕ) → k < 255 → used_at r.size ys k ≡ r.used k)
    (tight : are_tight r.set.chain r.used ≡ true) where
  abbrev loose_of : ℕ → ℕ
  loose_of k = loose (per_of r.set.chain k) (r.used k)

  none_loose : (k : ℕ) (v : DiskHeld) → slice_get ys k ≡ Some (Some v) → loose_pools k v ≡ 0
  none_loose k (holds.Slot e) at = refl
  none_loose k (holds.Class q) at =
      let h = home k (holds.Class q) at q refl in
      let there : slice_get ys (r.size + q.class) ≡ Some (Some (holds.Class q)) =
      subst (λ (j : ℕ). slice_get ys j ≡ Some (Some (holds.Class q))) h.0 at in
      let is : used_each q.zspages ≡ r.used q.class =
      sym (ap used_in (value_is ys (r.size + q.class) (holds.Class q) there)) ∙ used q.class h.1 in
      (λ i. loose (h.2 i) (is i))
      ∙ ap loose_of (let same : q.class ≡ 0 + q.class = omega arith in same)
      ∙ part_none loose_of 0 255 q.class h.1
      (eqb-true (sum_by loose_of (range_with_len 0 255)) 0 tight)
  none_loose k (holds.Account c) at = refl
  none_loose k (holds.Blocks x) at = refl
  none_loose k (holds.Device x) at = refl

  pub no_pool_loose : row_sum loose_pools ys ≡ 0
  no_pool_loose = row_none loose_pools ys none_loose
