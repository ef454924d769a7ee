-- The new object is at home, and the others stay there.
use Rattle.std.proofs.Common.{◌≡◌, ◌⊎◌, ◌++◌, ◌∷◌, [], ℕ, suc, zero, List, Option, Some, inl, inr, subst, rules}
use Rattle.zspage.specs.Cells.{entry}
use Rattle.class_pool.specs.Pool.{IsAtHome}
use Rattle.class_pool.proofs.pool.tests.Trial.add_one.Goals as goal

entry-pushed : {A : Type 0} (xs : List (Option A)) (x y : A) (k : ℕ)
    → entry (xs ++ Some x ∷ []) k ≡ Some y → (entry xs k ≡ Some y) ⊎ (x ≡ y)
entry-pushed [] x y zero is = inr (search rules)
entry-pushed [] x y (suc k) is = inl is
entry-pushed (o ∷ xs) x y zero is = inl is
entry-pushed (o ∷ xs) x y (suc k) is = entry-pushed xs x y k is

pub invariant_of-self-2 : goal.invariant_of-self-2
invariant_of-self-2 g c k h is =
    let handles = c.self.inside.handles.items in
    let pool = c.add.new.pool in
    elim (entry-pushed handles c.in_ok-handle.handle h k (rw c.in_ok-push.ensures.items at is)) [
      | inl was ↦ c.add.ensures.others h.0 (c.self.invariant k h was)
      | inr e ↦ subst (λ x. IsAtHome pool x.0) e c.in_ok-handle.ensures.home
    ]
