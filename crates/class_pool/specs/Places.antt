-- The places of the objects by their handles, as the code keeps them.
use Rattle.std.specs.Prelude.{ℕ, ◌≡◌, ◌<◌, List, Option, None, Some, length, slice_index}
use Rattle.zspage.specs.Cells.{entry}
use Rattle.class_pool.specs.declared.places.Place.{Place}

-- a free number has rank 1, a handle in use rank 0
abbrev pub place_rank : Option Place → ℕ
place_rank None = 1
place_rank (Some p) = 0

-- Each live handle has the place of its object, and no other has one.
pub record ArePlaces (items : List (Option Place)) (free : List ℕ) : Type 0 where
  pub ranked : length free ≡ length items
  pub ranks_are : (k : ℕ) → k < length items → slice_index free k ≡ place_rank (entry items k)
