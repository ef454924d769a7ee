-- Where the values of a row are.
use Rattle.std.specs.Prelude.{◌≡◌, ℕ, Some, None, slice_get}
use Rattle.lock_row.specs.declared.names.LockNo.{LockNo}
use Rattle.lock_row.specs.declared.names.Local.{Local}
use Rattle.lock_row.specs.declared.names.State.{State}

module _ {V : Type 0} (spot : LockNo → ℕ) where
  -- an actor holds the lock of this place
  abbrev pub Keeper : State V → ℕ → Type 0
  Keeper w k = (a : ℕ) × (l : Local V) × (i : ℕ) × (x : LockNo × V)
      × (slice_get w.locals a ≡ Some l) × (slice_get l.held i ≡ Some x) × (spot x.0 ≡ k)

  -- each value is in the row or with one actor
  pub record Exclusive (w : State V) : Type 0 where
    -- what is held is out
    pub out : (a i : ℕ) (l : Local V) (x : LockNo × V) → slice_get w.locals a ≡ Some l
        → slice_get l.held i ≡ Some x → slice_get w.row (spot x.0) ≡ Some None
    -- no two actors hold one lock
    pub alone : (a b i j : ℕ) (l m : Local V) (x y : LockNo × V) → slice_get w.locals a ≡ Some l
        → slice_get w.locals b ≡ Some m → slice_get l.held i ≡ Some x → slice_get m.held j ≡ Some y
        → spot x.0 ≡ spot y.0 → (a ≡ b) × (i ≡ j)
    -- what is out, someone holds
    pub keeper : (k : ℕ) → slice_get w.row k ≡ Some None → Keeper w k
