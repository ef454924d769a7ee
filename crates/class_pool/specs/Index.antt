-- The index of a pool: the place of each live object, by its handle.
use Rattle.std.specs.Prelude.{ℕ, ◌≡◌, ◌+◌, ◌*◌, ◌<◌, ◌≤◌, ◌^◌, List, Option, Some, length}
use Rattle.zspage.specs.Cells.{UsedCell, used_of, entry}
use Rattle.class_pool.specs.declared.places.Place.{Place}
use Rattle.class_pool.specs.Zspages.{Cells, ZspagesState, AreFilled, AreWhole, use_at}
use Rattle.class_pool.specs.Pool.{PoolState, used_cells}

-- the pool of a class with these zspages
abbrev pub pool_of : ℕ → ZspagesState → PoolState
pool_of class z =
    record { class = class; size = z.size; chain = z.chain; per = z.per; zspages = z.zspages }

-- each handle in use has the place of its object, and each used cell is the place of its handle
pub record IsIndex (zspages : List (Option Cells)) (places : List (Option Place)) : Type 0 where
  pub found : (h : ℕ) (p : Place) → entry places h ≡ Some p
      → (u : UsedCell) × (use_at zspages p.zspage p.cell ≡ Some u) × (u.handle ≡ h)
  pub listed : (i j : ℕ) (u : UsedCell) → use_at zspages i j ≡ Some u
      → entry places u.handle ≡ Some (record { zspage = i; cell = j })

-- the places fit the zspages, and there are as many numbers as cells, but for at most one zspage
-- more
pub record Fit (z : ZspagesState) (places : List (Option Place)) : Type 0 where
  pub some : 1 ≤ z.per
  pub few : z.per ≤ 2048
  pub index : IsIndex z.zspages places
  pub whole : AreWhole z.per z.zspages
  pub numbers : used_of places ≡ length (used_cells z.zspages)
  pub enough : z.per * length z.zspages ≤ length places
  pub bounded : length places ≤ z.per * (length z.zspages + 1)
  pub short : length z.zspages < 2 ^ 32

-- beside that each zspage has a used cell, and these are counted
pub record IsPooled (used : ℕ) (z : ZspagesState) (places : List (Option Place)) : Type 0 where
  pub fit : Fit z places
  pub count : used ≡ length (used_cells z.zspages)
  pub filled : AreFilled z.zspages
