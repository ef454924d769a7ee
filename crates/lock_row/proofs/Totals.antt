-- Sums over a row and its actors: what an event does to them.
use Rattle.std.proofs.Common.{◌≡◌, ℕ, zero, suc, ◌+◌, ◌≤◌, List, [], ◌∷◌, Option, Some, None, slice_get, slice_set, ap, arith}
use Rattle.lock_row.specs.declared.names.LockNo.{LockNo}
use Rattle.lock_row.specs.declared.names.Local.{Local}
use Rattle.lock_row.specs.declared.names.State.{State}
use Rattle.lock_row.specs.Totals.{by_option, row_sum, held_sum, mass, locals_sum, total}

module _ {V : Type 0} where
  pub row_set : (f : ℕ → V → ℕ) (row : List (Option V)) (k : ℕ) (x y : Option V)
      → slice_get row k ≡ Some x
      → row_sum f (slice_set row k y) + by_option (f k) x ≡ row_sum f row + by_option (f k) y
  row_set f [] k x y e = absurd (cc)
  row_set f (z ∷ zs) zero x y e = let q : z ≡ x = cc in
      let r : by_option (f 0) z ≡ by_option (f 0) x = ap (by_option (f 0)) q in omega arith
  row_set f (z ∷ zs) (suc k) x y e = let r = row_set (λ j. f (suc j)) zs k x y e in omega arith

  pub locals_set : (g : Local V → ℕ) (ls : List (Local V)) (a : ℕ) (l m : Local V)
      → slice_get ls a ≡ Some l
      → locals_sum g (slice_set ls a m) + g l ≡ locals_sum g ls + g m
  locals_set g [] a l m e = absurd (cc)
  locals_set g (x ∷ xs) zero l m e = let q : x ≡ l = cc in let r : g x ≡ g l = ap g q in omega arith
  locals_set g (x ∷ xs) (suc a) l m e = let r = locals_set g xs a l m e in omega arith

  pub locals_le : (g : Local V → ℕ) (ls : List (Local V)) (a : ℕ) (l : Local V)
      → slice_get ls a ≡ Some l
      → g l ≤ locals_sum g ls
  locals_le g [] a l e = absurd (cc)
  locals_le g (x ∷ xs) zero l e = let q : x ≡ l = cc in let r : g x ≡ g l = ap g q in omega arith
  locals_le g (x ∷ xs) (suc a) l e = let r = locals_le g xs a l e in omega arith

module _ {V : Type 0} (spot : LockNo
    → ℕ) (w : State V) (a : ℕ) (l : Local V) (who : slice_get w.locals a ≡ Some l) where
  -- the state after an event
  abbrev pub gone : LockNo → Option V → Local V → State V
  gone k x m = record { row = slice_set w.row (spot k) x; locals = slice_set w.locals a m }

  pub total_take : (f : ℕ → V → ℕ) (g : Local V → ℕ) (k : LockNo) (v : V) (m : Local V)
      → slice_get w.row (spot k) ≡ Some (Some v) → m.held ≡ (k, v) ∷ l.held → g m ≡ g l
      → total spot f g (gone k None m) ≡ total spot f g w
  total_take f g k v m there held e =
      let r = row_set f w.row (spot k) (Some v) None there in
      let s = locals_set (mass spot f g) w.locals a l m who in
      let t : held_sum spot f m.held ≡ f (spot k) v + held_sum spot f l.held =
      ap (held_sum spot f) held in
      omega arith

  pub total_give : (f : ℕ → V → ℕ) (g : Local V → ℕ) (k : LockNo) (v : V) (m : Local V)
      → slice_get w.row (spot k) ≡ Some None
      → total spot f g (gone k (Some v) m) + mass spot f g l
      ≡ total spot f g w + mass spot f g m + f (spot k) v
  total_give f g k v m there = let r = row_set f w.row (spot k) None (Some v) there in
      let s = locals_set (mass spot f g) w.locals a l m who in omega arith
