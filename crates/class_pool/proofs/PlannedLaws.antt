-- What a plan says of the zspages that it names.
use Rattle.std.proofs.Common.{◌≡◌, ℕ, ◌+◌, ◌<◌, ◌≤◌, List, Option, Some, sym, ◌∙◌, ap, subst, arith, Contains}
use Rattle.std.proofs.lemmas.Bool.{ltb-true}
use Rattle.zspage.specs.Cells.{home_of, entry}
use Rattle.zs_plan.specs.declared.Row.{Row}
use Rattle.zs_plan.specs.Plan.{IsPlan}
use Rattle.class_pool.specs.Zspages.{Cells, AreWhole, HasRoom}
use Rattle.class_pool.specs.Rows.{row_of, rows}
use Rattle.class_pool.proofs.PlanLaws.{row_there}

-- the zspage of a row
pub row_cells : (zs : List (Option Cells)) (r : Row) (id : ℕ) → Contains (rows zs) r → r.id ≡ id
    → (cells : Cells) × (entry zs id ≡ Some cells) × (r ≡ row_of id cells)
row_cells zs r id among is =
    let there = row_there 0 zs r among in
    let number : 0 + there.0 ≡ id = sym (ap (λ q. q.id) there.3) ∙ is in
    let same : there.0 ≡ id = omega (arith, number) in (
      there.1,
      subst (λ k. entry zs k ≡ Some there.1) same there.2,
      there.3
          ∙ ap (λ k. row_of k there.1) number,
    )

pub plan_source : (per from to : ℕ) (zs : List (Option Cells)) → IsPlan per (rows zs) from to
    → (cells : Cells) × (entry zs from ≡ Some cells) × (1 ≤ home_of cells)
plan_source per from to zs plan =
    let s = plan.source in
    let at = row_cells zs s.0 from s.1.among s.2 in
    let some : 0 < home_of at.0 =
    ltb-true 0 (home_of at.0) (ap (λ r. r.movable) (sym at.2) ∙ s.1.fits.1) in
    (at.0, at.1, omega arith)

pub plan_room : (per from to : ℕ) (zs : List (Option Cells)) → AreWhole per zs
    → IsPlan per (rows zs) from to
    → HasRoom (entry zs to)
plan_room per from to zs whole plan =
    let d = plan.destination in
    let at = row_cells zs d.0 to d.1.among d.2 in
    subst HasRoom (sym at.1) (omega (arith, whole to at.0 at.1, ap (λ r. r.used) at.2, d.1.fits.1))
