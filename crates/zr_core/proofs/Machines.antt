-- Runs of the machine, one after the other.
use Rattle.std.proofs.Common.{ℕ, List, [], ◌∷◌, ◌++◌, refl, sym, subst}
use Rattle.lock_row.specs.declared.names.State.{State}
use Rattle.page_steps.specs.Steps.{Terms, DiskHeld}
use Rattle.joint_rule.specs.Begins.{Begin, terms, Proper}
use Rattle.joint_rule.specs.Rule.{Rule}
use Rattle.joint_rule.specs.Laws.{TurnKeepsRule}
use Rattle.zr_core.specs.Machines.{OneTurn, Turns}

module _ (t : Terms) where
  pub run_on : (turns : List ℕ) (a : ℕ) (u v w : State DiskHeld) → Turns t turns u v
      → OneTurn t a v w
      → Turns t (turns ++ a ∷ []) u w
  run_on [] a u v w r x = (w, subst (λ (y : State DiskHeld). OneTurn t a y w) r x, refl)
  run_on (b ∷ rest) a u v w r x = (r.0, r.1, run_on rest a r.0 v w r.2 x)

  pub run_both : (xs ys : List ℕ) (u v w : State DiskHeld) → Turns t xs u v → Turns t ys v w
      → Turns t (xs ++ ys) u w
  run_both [] ys u v w r s = subst (λ (x : State DiskHeld). Turns t ys x w) r s
  run_both (a ∷ xs) ys u v w r s = (r.0, r.1, run_both xs ys r.0 v w r.2 s)

-- turns keep the joint rule
pub rule_run : TurnKeepsRule → (g : Begin) → Proper g → (turns : List ℕ) (w n : State DiskHeld)
    → Rule g w → Turns (terms g) turns w n → Rule g n
rule_run keeps g proper [] w n j r = subst (Rule g) (sym r) j
rule_run keeps g proper (a ∷ rest) w n j r =
    rule_run keeps g proper rest r.0 n (keeps g a w r.0 proper j r.1) r.2
