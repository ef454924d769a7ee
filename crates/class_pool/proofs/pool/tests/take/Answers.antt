-- A handle that is on the list was there before, and is another one.
use Rattle.std.proofs.Common.{◌≡◌, ◌<◌, ℕ, List, Option, None, Some, length, sym, ◌∙◌, ap, inl, inr, arith}
use Rattle.std.proofs.Math.ListN.{set, length-set}
use Rattle.std.proofs.lemmas.Bool.{cases_eq}
use Rattle.zspage.specs.Cells.{entry}
use Rattle.class_pool.proofs.Ranks.{entry_within}
use Rattle.class_pool.proofs.UseLaws.{entry-set_same, entry-set_other}
use Rattle.class_pool.proofs.pool.tests.take.Goals as goal

entry-cleared : {A : Type 0} (xs : List (Option A)) (i k : ℕ) (x : A)
    → entry (set xs i None) k ≡ Some x → entry xs k ≡ Some x
entry-cleared xs i k x at =
    elim (cases_eq k i) [
      | inl e ↦
          let low : k < length (set xs i None) = entry_within (set xs i None) k x at in
          let none : entry (set xs i None) k ≡ None = ap (λ n. entry (set xs i None) n) e
          ∙ entry-set_same xs i None (omega (arith, low, e, length-set xs i None)) in
          absurd (cc (none, at))
      | inr other ↦ sym (entry-set_other xs i k None other) ∙ at
    ]

pub returns-clause-others : goal.returns-clause-others
returns-clause-others g c k h at =
    let now = c.deref-other-items.result.now in
    let here : entry now k ≡ Some h = ap (λ xs. entry xs k) c.deref-other-items.ensures.value
    ∙ at in
    let low : k < length now = entry_within now k h here in (
      entry-cleared c.args.handles.now.items c.args.number k h at,
      c.loop-other.invariant k h (omega (arith, low, c.loop-other-test.false)) here,
    )
