-- What the calls of a pool do, as the machine says it.
use Rattle.std.proofs.Common.{◌≡◌, ℕ, zero, suc, true, false, List, [], ◌∷◌, Option, Some, None, Contains, refl, sym, ap, ◌∙◌, inl, inr, arith}
use Rattle.std.specs.Prelude.{slice_set, Result, Ok, Err, IfOk}
use Rattle.zr_base.specs.declared.page.Handle.{Handle}
use Rattle.std.proofs.lemmas.List.Elements.{Contains-append_left, Contains-append_right}
use Rattle.zspage.specs.Cells.{CellState, UsedCell, entry, IsStored, IsCellAt}
use Rattle.class_pool.specs.Zspages.{Cells}
use Rattle.class_pool.specs.Pool.{PoolState, PoolHasRoom, used_cells, used_cells_in, IsPlace, IsPool, IsFresh, with_cells, Stores, Makes}
use Rattle.page_steps.specs.Pools.{IsNeed, Adds, stored, made, Lends, Returns}

-- a pin lends the object's cell
pub lends : (q q' : PoolState) (handle : ℕ) (cell : CellState)
    → (id : ℕ) × (ix : ℕ) × (cells : Cells) × (u : UsedCell) × IsPlace q handle id ix cells u
    × (u.out ≡ false) × (u.cell ≡ cell) × IsStored handle u.bytes cell × IsCellAt q.size ix cell
    × (q' ≡ with_cells q id (slice_set cells ix (Some (record u { out = true }))))
    → IsPool q' → Lends q q' handle cell
lends q q' handle cell (id, ix, cells, u, place, home, is, kept, at, after) pool = record {
  id = id;
  ix = ix;
  cells = cells;
  object = u;
  place = place;
  home = home;
  is = is;
  stored = kept;
  after = after;
  pool = pool;
}

-- ---- an object at a place is live

Contains-next : {A : Type 0} (x : A) (xs : List A) (y : A) → Contains xs y → Contains (x ∷ xs) y
Contains-next x xs y (k, low, at) = (suc k, omega arith, at)

used_in : (cells : Cells) (ix : ℕ) (u : UsedCell) → entry cells ix ≡ Some u
    → Contains (used_cells_in cells) u
used_in [] ix u at = absurd (cc)
used_in (None ∷ cells) zero u at = absurd (cc)
used_in (None ∷ cells) (suc ix) u at = used_in cells ix u at
used_in (Some v ∷ cells) zero u at = (0, omega arith, cc)
used_in (Some v ∷ cells) (suc ix) u at =
    Contains-next v (used_cells_in cells) u (used_in cells ix u at)

used_at : (zspages : List (Option Cells)) (id ix : ℕ) (cells : Cells) (u : UsedCell)
    → entry zspages id ≡ Some cells → entry cells ix ≡ Some u → Contains (used_cells zspages) u
used_at [] id ix cells u there at = absurd (cc)
used_at (None ∷ zspages) zero ix cells u there at = absurd (cc)
used_at (None ∷ zspages) (suc id) ix cells u there at = used_at zspages id ix cells u there at
used_at (Some first ∷ zspages) zero ix cells u there at =
    let is : first ≡ cells = cc in
    Contains-append_left (used_cells_in first) (used_cells zspages) u
    (used_in first ix u (ap (λ (y : Cells). entry y ix) is ∙ at))
used_at (Some first ∷ zspages) (suc id) ix cells u there at =
    Contains-append_right (used_cells_in first) (used_cells zspages) u
    (used_at zspages id ix cells u there at)

pub place_there : (q : PoolState) (handle id ix : ℕ) (cells : Cells) (u : UsedCell)
    → IsPlace q handle id ix cells u → Contains (used_cells q.zspages) u
place_there q handle id ix cells u place = used_at q.zspages id ix cells u place.zspage place.cell

-- ---- calls of a pool

-- an unpin takes it back
pub returns : (q q' : PoolState) (handle : ℕ)
    → (id : ℕ) × (ix : ℕ) × (cells : Cells) × (u : UsedCell) × IsPlace q handle id ix cells u
    × (u.out ≡ true)
    × (q' ≡ with_cells q id (slice_set cells ix (Some (record u { out = false }))))
    → IsPool q' → Returns q q' handle
returns q q' handle (id, ix, cells, u, place, lent, after) pool = record {
  id = id;
  ix = ix;
  cells = cells;
  object = u;
  place = place;
  lent = lent;
  after = after;
  pool = pool;
}

-- an object goes into a free cell
pub stores : (q q' : PoolState) (handle : ℕ) (bytes : List ℕ) → PoolHasRoom q
    → (id : ℕ) × (ix : ℕ) × (cells : Cells) × (cell : CellState)
    × Stores q q' handle bytes id ix cells cell
    → IsFresh q handle → IsPool q' → (need : ℕ) × IsNeed q need × Adds q q' handle bytes need
stores q q' handle bytes room (id, ix, cells, cell, s) fresh pool =
    (0, inl (room, refl), stored id ix cells cell room refl s fresh pool)

-- or into a new zspage
pub makes : (q q' : PoolState) (handle : ℕ) (bytes : List ℕ) → (PoolHasRoom q → ⊥)
    → (id : ℕ) × (cell : CellState) × Makes q q' handle bytes id cell
    → IsFresh q handle → IsPool q' → (need : ℕ) × IsNeed q need × Adds q q' handle bytes need
makes q q' handle bytes full (id, cell, m) fresh pool =
    (q.chain, inr (full, refl), made id cell full refl m fresh pool)

pub makes_if : {E : Type 0} (q q' : PoolState) (bytes : List ℕ) (result : Result Handle E)
    → (PoolHasRoom q → ⊥)
    → IfOk result (λ h. (id : ℕ) × (cell : CellState) × Makes q q' h.0 bytes id cell)
    → IfOk result (λ h. IsFresh q h.0) → IsPool q'
    → IfOk result (λ h. (need : ℕ) × IsNeed q need × Adds q q' h.0 bytes need)
makes_if q q' bytes (Ok h) full place fresh pool = makes q q' h.0 bytes full place fresh pool
makes_if q q' bytes (Err e) full place fresh pool = tt

-- a new object needs one number of frames
pub need_is : (q : PoolState) (m n : ℕ) → IsNeed q m → IsNeed q n → m ≡ n
need_is q m n (inl (room, none)) (inl (room', none')) = none ∙ sym none'
need_is q m n (inl (room, none)) (inr (full, chain)) = absurd (full room)
need_is q m n (inr (full, chain)) (inl (room, none)) = absurd (full room)
need_is q m n (inr (full, chain)) (inr (full', chain')) = chain ∙ sym chain'
