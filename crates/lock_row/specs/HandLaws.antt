-- Why the hand over the row of one thread has the laws of hands. A law's proof cites no lemma
-- outside of specs/.
use Rattle.std.proofs.Common.{◌≡◌, ℕ, zero, suc, List, [], ◌∷◌, Option, Some, None, slice_get, slice_set, refl, sym, ap, ◌∙◌}
use Rattle.lock_row.specs.declared.names.LockNo.{LockNo}
use Rattle.lock_row.specs.Rows.{Row, place_in, cell}
use Rattle.lock_row.specs.Hands.{IsTaken, IsMissed}

-- a place has one thing
pub one_found : {A : Type 0} (x y : A) (c : Option A) → c ≡ Some x → c ≡ Some y → y ≡ x
one_found x y c e f = let q : Some y ≡ Some x = sym f ∙ e in cc

-- no local is told
pub not_told : {A B : Type 0} (l : A) → None ≡ Some l → B
not_told l e = absurd (cc)

set_here : {A : Type 0} (xs : List A) (i : ℕ) (x y : A) → slice_get xs i ≡ Some y
    → slice_get (slice_set xs i x) i ≡ Some x
set_here [] i x y e = absurd (cc)
set_here (z ∷ zs) zero x y e = refl
set_here (z ∷ zs) (suc i) x y e = set_here zs i x y e

module _ {V : Type 0} (before after : Row V) (k : LockNo) where
  -- what was taken is out
  pub taken_out : (v : V) → IsTaken before after k v → cell after k ≡ Some None
  taken_out v t = ap (λ (r : Row V). cell r k) t.out
      ∙ set_here before.cells (place_in before.names k) None (Some v) t.home

  -- a miss leaves each place as it was
  pub missed_out : (m : LockNo) → IsMissed before after k → cell before m ≡ Some None
      → cell after m ≡ Some None
  missed_out m t out = ap (λ (r : Row V). cell r m) t.same ∙ out
