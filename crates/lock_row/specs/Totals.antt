-- Sums over a row, over what actors hold, and over actors.
use Rattle.std.specs.Prelude.{ℕ, suc, ◌+◌, List, [], ◌∷◌, Option, Some, None}
use Rattle.lock_row.specs.declared.names.LockNo.{LockNo}
use Rattle.lock_row.specs.declared.names.Local.{Local}
use Rattle.lock_row.specs.declared.names.State.{State}

-- the weight of what there may be
abbrev pub by_option : {X : Type 0} → (X → ℕ) → Option X → ℕ
by_option f None = 0
by_option f (Some x) = f x

module _ {V : Type 0} where
  -- of the values at home; a weight is of a place and of the value there
  abbrev pub row_sum : (ℕ → V → ℕ) → List (Option V) → ℕ
  row_sum f [] = 0
  row_sum f (x ∷ xs) = by_option (f 0) x + row_sum (λ j. f (suc j)) xs

  -- of all actors
  abbrev pub locals_sum : (Local V → ℕ) → List (Local V) → ℕ
  locals_sum g [] = 0
  locals_sum g (l ∷ ls) = g l + locals_sum g ls

module _ {V : Type 0} (spot : LockNo → ℕ) where
  -- of the values that an actor holds
  abbrev pub held_sum : (ℕ → V → ℕ) → List (LockNo × V) → ℕ
  held_sum f [] = 0
  held_sum f (x ∷ xs) = f (spot x.0) x.1 + held_sum f xs

  -- an actor by the values that it holds, and by itself
  abbrev pub mass : (ℕ → V → ℕ) → (Local V → ℕ) → Local V → ℕ
  mass f g l = held_sum f l.held + g l

  -- each value wherever it is, and each actor
  abbrev pub total : (ℕ → V → ℕ) → (Local V → ℕ) → State V → ℕ
  total f g w = row_sum f w.row + locals_sum (mass f g) w.locals
