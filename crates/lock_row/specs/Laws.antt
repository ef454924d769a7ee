-- What an event of one actor does to the values of a row and to sums over them, and what is known
-- of names: statements that the laws claim.
use Rattle.std.specs.Prelude.{◌≡◌, ◌≢◌, ℕ, ◌+◌, ◌≤◌, List, ◌∷◌, length, Some, None, slice_get, slice_set}
use Rattle.lock_row.specs.declared.names.LockNo.{LockNo}
use Rattle.lock_row.specs.declared.names.Local.{Local}
use Rattle.lock_row.specs.declared.names.State.{State}
use Rattle.lock_row.specs.Rows.{IsDistinct, place_in}
use Rattle.lock_row.specs.Values.{Exclusive}
use Rattle.lock_row.specs.Totals.{mass, locals_sum, total}

module _ (V : Type 0) where
  -- where the actor a takes k's value v, each value is in the row or with one actor, as before
  abbrev pub TakingStaysApart : Type 0
  TakingStaysApart =
      (spot : LockNo → ℕ) (w : State V) (a : ℕ) (l : Local V) (k : LockNo) (v : V) (m : Local V)
      → slice_get w.locals a ≡ Some l → slice_get w.row (spot k) ≡ Some (Some v)
      → m.held ≡ (k, v) ∷ l.held
      → Exclusive spot w
      → Exclusive spot
      (record { row = slice_set w.row (spot k) None; locals = slice_set w.locals a m })

  -- the same where it gives k, whose value it held last, with the value v
  abbrev pub GivingStaysApart : Type 0
  GivingStaysApart =
      (spot : LockNo → ℕ) (w : State V) (a : ℕ) (l : Local V) (k : LockNo) (u v : V) (m : Local V)
      → slice_get w.locals a ≡ Some l → slice_get w.row (spot k) ≡ Some None
      → l.held ≡ (k, u) ∷ m.held
      → Exclusive spot w
      → Exclusive spot
      (record { row = slice_set w.row (spot k) (Some v); locals = slice_set w.locals a m })

  -- a taking leaves a sum over each value wherever it is and over all actors
  abbrev pub TakingKeepsTotal : Type 0
  TakingKeepsTotal =
      (spot : LockNo → ℕ) (f : ℕ → V → ℕ) (g : Local V → ℕ) (w : State V) (a : ℕ) (l : Local V)
      (k : LockNo) (v : V) (m : Local V)
      → slice_get w.locals a ≡ Some l → slice_get w.row (spot k) ≡ Some (Some v)
      → m.held ≡ (k, v) ∷ l.held
      → g m ≡ g l
      → total spot f g
      (record { row = slice_set w.row (spot k) None; locals = slice_set w.locals a m })
      ≡ total spot f g w

  -- a giving changes it by what it changes in the actor and in the value
  abbrev pub GivingMovesTotal : Type 0
  GivingMovesTotal =
      (spot : LockNo → ℕ) (f : ℕ → V → ℕ) (g : Local V → ℕ) (w : State V) (a : ℕ) (l : Local V)
      (k : LockNo) (v : V) (m : Local V)
      → slice_get w.locals a ≡ Some l → slice_get w.row (spot k) ≡ Some None
      → total spot f g
      (record { row = slice_set w.row (spot k) (Some v); locals = slice_set w.locals a m })
      + mass spot f g l
      ≡ total spot f g w + mass spot f g m + f (spot k) v

  -- a sum over actors changes by what one of them changes
  abbrev pub SumMoves : Type 0
  SumMoves = (g : Local V → ℕ) (ls : List (Local V)) (a : ℕ) (l m : Local V)
      → slice_get ls a ≡ Some l
      → locals_sum g (slice_set ls a m) + g l ≡ locals_sum g ls + g m

  -- each actor is at most the sum
  abbrev pub IsPartOfSum : Type 0
  IsPartOfSum = (g : Local V → ℕ) (ls : List (Local V)) (a : ℕ) (l : Local V)
      → slice_get ls a ≡ Some l
      → g l ≤ locals_sum g ls

-- a lock that stands among distinct names has its place there
abbrev pub NamesHavePlaces : Type 0
NamesHavePlaces = (names : List LockNo) (i : ℕ) (k : LockNo) → IsDistinct names
    → slice_get names i ≡ Some k → place_in names k ≡ i

-- one that doesn't has its place after them all
abbrev pub OthersHaveNone : Type 0
OthersHaveNone = (names : List LockNo) (k : LockNo) → ((i : ℕ) → slice_get names i ≢ Some k)
    → length names ≤ place_in names k
