-- The map of blocks on the row of a finished phase is as its rule says.
use Rattle.std.proofs.Common.{◌≡◌, ◌≢◌, ℕ, zero, suc, ◌+◌, Bool, true, false, cond, List, [], ◌∷◌, map, length, Some, None, slice_get, refl, sym, ap, ◌∙◌, arith}
use Rattle.block_map.specs.BlockMap.{BlockMap}
use Rattle.call_history.specs.declared.part.Part.{Part}
use Rattle.lock_row.specs.declared.names.Held.TheVariants as holds
use Rattle.lock_row.specs.declared.names.LockNo.{LockNo}
use Rattle.lock_row.specs.declared.names.State.{State}
use Rattle.lock_row.specs.Totals.{locals_sum, mass, row_sum, total}
use Rattle.page_steps.specs.Pages.{new_class}
use Rattle.page_steps.specs.Steps.{DiskHeld, Here, class_by, entry_in, spot}
use Rattle.joint_rule.specs.Begins.{Begin}
use Rattle.joint_rule.specs.Joint.{Sound}
use Rattle.joint_rule.specs.Rule.{Ruled}
use Rattle.joint_rule.specs.Stages.{locks_by}
use Rattle.joint_rule.specs.Starts.{AtRest}
use Rattle.joint_rule.specs.Weights.{none, on_blocks}
use Rattle.zr_core.specs.Machines.{AllFinished}
use Rattle.zr_core.proofs.Matches.{Row}

-- a sum over a row of values that weigh nothing
row_none : (f : ℕ → DiskHeld → ℕ) (row : Row)
    → ((k : ℕ) (v : DiskHeld) → slice_get row k ≡ Some (Some v) → f k v ≡ 0)
    → row_sum f row ≡ 0
row_none f [] none = refl
row_none f (None ∷ xs) none =
    let p = row_none (λ j. f (suc j)) xs (λ k v e. none (suc k) v e) in omega arith
row_none f (Some x ∷ xs) none =
    let q = none 0 x refl in
    let p = row_none (λ j. f (suc j)) xs (λ k v e. none (suc k) v e) in omega arith

-- a sum over a row of which one value alone weighs something
row_lone : (f : ℕ → DiskHeld → ℕ) (row : Row) (k : ℕ) (v : DiskHeld)
    → slice_get row k ≡ Some (Some v)
    → ((i : ℕ) (u : DiskHeld) → slice_get row i ≡ Some (Some u) → i ≢ k → f i u ≡ 0)
    → row_sum f row ≡ f k v
row_lone f [] k v at none = absurd (cc)
row_lone f (None ∷ xs) zero v at none = absurd (cc)
row_lone f (Some x ∷ xs) zero v at none =
    let rest = row_none (λ j. f (suc j)) xs
    (λ i u e. none (suc i) u e (λ z. let never : ⊥ = omega arith in never)) in
    let same : x ≡ v = cc in let here = ap (f 0) same in omega arith
row_lone f (None ∷ xs) (suc k) v at none =
    let rest = row_lone (λ j. f (suc j)) xs k v at
    (λ i u e ne. none (suc i) u e (λ z. ne (omega arith))) in omega arith
row_lone f (Some x ∷ xs) (suc k) v at none =
    let first = none 0 x refl (λ z. let never : ⊥ = omega arith in never) in
    let rest = row_lone (λ j. f (suc j)) xs k v at
    (λ i u e ne. none (suc i) u e (λ z. ne (omega arith))) in omega arith

no_held : (xs : List (LockNo × DiskHeld)) → map (λ (x : LockNo × DiskHeld). x.0) xs ≡ []
    → xs ≡ []
no_held [] e = refl
no_held (x ∷ xs) e = absurd (cc)

-- actors that hold nothing weigh nothing
nothing_held : (size : ℕ) (f : ℕ → DiskHeld → ℕ) (ls : List Here)
    → ((a : ℕ) (l : Here) → slice_get ls a ≡ Some l → l.held ≡ [])
    → locals_sum (mass (spot size) f none) ls ≡ 0
nothing_held size f [] each = refl
nothing_held size f (l ∷ ls) each =
    let rest = nothing_held size f ls (λ a. each (suc a)) in
    let here : mass (spot size) f none l ≡ 0 = rw (each 0 l refl) refl in omega arith

bit_tells : (a b : Bool) → cond {A = ℕ} a 1 0 ≡ cond b 1 0 → a ≡ b
bit_tells true true e = refl
bit_tells true false e = absurd (omega arith)
bit_tells false true e = absurd (omega arith)
bit_tells false false e = refl

module _ (g : Begin) (w : State DiskHeld) (rule : Ruled g w) (over : AllFinished w)
    (rest : AtRest g w.row) (x : BlockMap)
    (at : slice_get w.row (g.given.size + 256) ≡ Some (Some (holds.Blocks x))) where
  held_none : (a : ℕ) (l : Here) → slice_get w.locals a ≡ Some l → l.held ≡ []
  held_none a l e = no_held l.held ((rule.joint.each.in_local a l e).locks
      ∙ ap (λ (t : List Part). locks_by t l.at (class_by (entry_in l.held).kept)
      (new_class g.chain t l.page (entry_in l.held).kept)) (over a l e))

  elsewhere : (f : BlockMap → ℕ) (i : ℕ) (u : DiskHeld) → Sound g i u → i ≢ g.given.size + 256
      → on_blocks f i u ≡ 0
  elsewhere f i (holds.Slot e) s ne = refl
  elsewhere f i (holds.Class p) s ne = refl
  elsewhere f i (holds.Account c) s ne = refl
  elsewhere f i (holds.Blocks y) s ne = absurd (ne s)
  elsewhere f i (holds.Device d) s ne = refl

  sum_is : (f : BlockMap → ℕ) → total (spot g.given.size) (on_blocks f) none w ≡ f x
  sum_is f =
      let held = nothing_held g.given.size (on_blocks f) w.locals held_none in
      let lone = row_lone (on_blocks f) w.row (g.given.size + 256) (holds.Blocks x) at
      (λ i u at ne. elsewhere f i u (rest.home i u at).sound ne) in omega arith

  -- it has the blocks that the phase began with, and its limit is on or off as it was
  pub blocks_kept : length x.states ≡ g.blocks
  blocks_kept = sym (sum_is (λ y. length y.states)) ∙ rule.budget.size

  pub limit_kept : x.enabled ≡ g.budgeted
  limit_kept = bit_tells x.enabled g.budgeted
      (sym (sum_is (λ y. cond y.enabled 1 0)) ∙ rule.budget.on)
