-- An object that a call doesn't speak of stays as it is, at home or out.
use Rattle.std.proofs.Common.{◌≡◌, ◌≢◌, ℕ, List, Option, Some, inl, inr, sym, ◌∙◌, Contains}
use Rattle.zspage.specs.Cells.{CellState, UsedCell}
use Rattle.class_pool.specs.Zspages.{Cells, use_at}
use Rattle.class_pool.specs.Pool.{PoolState, used_cells, IsAtHome, IsLent}
use Rattle.class_pool.proofs.UseLaws.{Changes, find_use, contains_use}
use Rattle.class_pool.proofs.IndexLaws.{same_place, moved}

-- the used cells of other handles stay
abbrev pub Keeps : List (Option Cells) → List (Option Cells) → ℕ → Type 0
Keeps zs zs' h = (u : UsedCell) → u.handle ≢ h → Contains (used_cells zs) u
    → Contains (used_cells zs') u

-- where one cell changes, and an object in it has that handle
pub keeps : (zs zs' : List (Option Cells)) (i j : ℕ) (o : Option UsedCell) (h : ℕ)
    → Changes zs zs' i j o
    → ((u : UsedCell) → use_at zs i j ≡ Some u → u.handle ≡ h) → Keeps zs zs' h
keeps zs zs' i j o h change own u other among =
    let at = find_use zs u among in
    contains_use zs' at.0 at.1 u
    (elim (same_place i j at.0 at.1) [
      | inl same ↦ absurd (other (own u (sym (moved zs i j at.0 at.1 same.0 same.1) ∙ at.2)))
      | inr apart ↦ change.others at.0 at.1 apart ∙ at.2
    ])

pub stays_home : (p q : PoolState) (k h : ℕ) → Keeps p.zspages q.zspages k → h ≢ k → IsAtHome p h
    → IsAtHome q h
stays_home p q k h keep other (u, among, same, home) =
    (u, keep u (λ e. other (sym same ∙ e)) among, same, home)

pub stays_lent : (p q : PoolState) (k h : ℕ) (cell : CellState) → Keeps p.zspages q.zspages k
    → h ≢ k
    → IsLent p h cell → IsLent q h cell
stays_lent p q k h cell keep other (u, among, same, out, is) =
    (u, keep u (λ e. other (sym same ∙ e)) among, same, out, is)
