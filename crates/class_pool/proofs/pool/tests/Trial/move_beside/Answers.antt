-- The object is at home again, and the others are there still.
use Rattle.std.proofs.Common.{◌≡◌, ◌⊎◌, ◌<◌, ℕ, List, Option, Some, length, set, sym, ◌∙◌, ap, subst, inl, inr, rules}
use Rattle.std.proofs.lemmas.Bool.{cases_eq}
use Rattle.zspage.specs.Cells.{entry}
use Rattle.class_pool.specs.Pool.{IsAtHome}
use Rattle.class_pool.proofs.UseLaws.{entry-set_same, entry-set_other}
use Rattle.class_pool.proofs.pool.tests.Trial.move_beside.Goals as goal

entry-put : {A : Type 0} (xs : List (Option A)) (i k : ℕ) (x y : A) → i < length xs
    → entry (set xs i (Some x)) k ≡ Some y → (x ≡ y) ⊎ (entry xs k ≡ Some y)
entry-put xs i k x y low at =
    elim (cases_eq k i) [
      | inl e ↦
          let is : Some x ≡ Some y = sym (entry-set_same xs i (Some x) low)
          ∙ ap (λ n. entry (set xs i (Some x)) n) (sym e) ∙ at in inl (search rules)
      | inr other ↦ inr (sym (entry-set_other xs i k (Some x) other) ∙ at)
    ]

pub invariant_of-self-2 : goal.invariant_of-self-2
invariant_of-self-2 g c k h at =
    let after = c.move_beside.new.pool in
    elim (entry-put c.take-handle.new.handles.items c.args.number k c.take-handle.result h
    c.take-handle.ensures.within at) [
      | inl e ↦ subst (λ x. IsAtHome after x.0) e c.in_ok-beside.ensures.home
      | inr was ↦
          let other = c.take-handle.ensures.others k h was in
          c.move_beside.ensures.others h.0 other.1 (c.self.invariant k h other.0)
    ]
