-- The object's cell is copied while it is lent, and freed when it is back.
use Rattle.std.proofs.Common.{◌≡◌, ℕ, ◌<◌, Option, None, Some, true, false, length, refl, ap, sym, subst, ◌∙◌, inl, inr}
use Rattle.std.proofs.Math.ListN.{set}
use Rattle.zspage.specs.Cells.{CellState, UsedCell, IsStored, IsCellAt, IsLowestFree, entry}
use Rattle.zspage.specs.Movable.{IsLowestHome}
use Rattle.class_pool.specs.Zspages.{Cells, HasRoom}
use Rattle.class_pool.specs.Pool.{Frees, new_use}
use Rattle.class_pool.specs.Index.{pool_of, IsPooled}
use Rattle.class_pool.specs.Moves.{Move, Moves}
use Rattle.class_pool.proofs.Ranks.{entry_within}
use Rattle.class_pool.proofs.UseLaws.{entry-set_same, use_there}
use Rattle.class_pool.specs.declared.places.Place.{Place}
use Rattle.class_pool.proofs.IndexLaws.{place}
use Rattle.class_pool.proofs.MoveLaws.{with_zspage, restored, swapped, beside, changed_here, room_cells, shifted}
use Rattle.class_pool.proofs.pool.moves.move_object.Goals as goal
use Rattle.class_pool.proofs.pool.moves.move_object.Goals.{After-lowest_home-object, After-lend-cell, After-take_copy-at, After-back, After-put_cell-gone}

-- ---- the object that leaves

abbrev found : (c : After-lowest_home-object)
    → (u : UsedCell) × IsLowestHome c.requires.source.0 c.lowest_home-object.result.ix u
    × (c.lowest_home-object.result.handle.0 ≡ u.handle)
    × (c.lowest_home-object.result.len ≡ length u.bytes)
found c = c.lowest_home-object.ensures c.requires.source.0 c.requires.source.1

abbrev object : After-lend-cell → UsedCell
object c = (found (goal.at.After-lend-cell c).After-lowest_home-object).0

-- the zspage that lends its cell
abbrev lender : After-lend-cell → Cells
lender c = set c.requires.source.0 c.lowest_home-object.result.ix
    (Some (record (object c) { out = true }))

lent : (c : After-lend-cell)
    → ((object c).cell ≡ c.lend-cell.result)
    × IsStored (object c).handle (object c).bytes c.lend-cell.result
    × IsCellAt c.args.zspages.now.size c.lowest_home-object.result.ix c.lend-cell.result
    × (c.lend-cell.new.self ≡ with_zspage c.args.zspages.now c.args.from (Some (lender c)))
lent c =
    let is = found (goal.at.After-lend-cell c).After-lowest_home-object in
    c.lend-cell.ensures c.requires.source.0 is.0 c.requires.source.1 is.1.used

abbrev target : (c : After-lend-cell)
    → (cells : Cells) × (entry c.args.zspages.now.zspages c.args.to ≡ Some cells)
    × (entry c.lend-cell.new.self.zspages c.args.to ≡ Some cells)
target c =
    let cells = room_cells (entry c.args.zspages.now.zspages c.args.to) c.requires.room in (
      cells.0,
      cells.1,
      beside _ _ c.args.to c.args.from _ _ (λ e. c.requires.apart (sym e)) cells.1
          (lent c).3,
    )

pub take_copy-at-requires-clause-room : goal.take_copy-at-requires-clause-room
take_copy-at-requires-clause-room c =
    let here = (goal.at.take_copy-at-requires-clause-room c).After-lend-cell in
    subst HasRoom (sym (beside _ _ c.args.to c.args.from
    (entry c.args.zspages.now.zspages c.args.to) _
    (λ e. c.requires.apart (sym e)) refl (lent here).3)) c.requires.room

pub take_copy-at-requires-clause-size : goal.take_copy-at-requires-clause-size
take_copy-at-requires-clause-size c =
    let is = lent (goal.at.take_copy-at-requires-clause-size c).After-lend-cell in
    is.2.whole ∙ is.2.sized ∙ sym (ap (λ z. z.size) is.3)

stored : (c : After-lend-cell)
    → IsStored c.lowest_home-object.result.handle.0 (object c).bytes c.lend-cell.result
    × (length (object c).bytes ≡ c.lowest_home-object.result.len)
stored c =
    let is = found (goal.at.After-lend-cell c).After-lowest_home-object in
    (subst (λ h. IsStored h (object c).bytes c.lend-cell.result) (sym is.2) (lent c).1, sym is.3)

pub take_copy-at-requires-clause-stored : goal.take_copy-at-requires-clause-stored
take_copy-at-requires-clause-stored c =
    let here = (goal.at.take_copy-at-requires-clause-stored c).After-lend-cell in
    ((object here).bytes, (stored here).0, (stored here).1)

-- ---- the cell that it comes to

abbrev Copy : After-take_copy-at → Type 0
Copy c =
    let here = (goal.at.After-take_copy-at c).After-lend-cell in
    let u : UsedCell = object here in
    (cell : CellState) × IsLowestFree (target here).0 c.take_copy-at.result
    × IsStored u.handle u.bytes cell
    × IsCellAt c.args.zspages.now.size c.take_copy-at.result cell
    × (c.take_copy-at.new.self ≡ with_zspage c.lend-cell.new.self c.args.to
    (Some (set (target here).0 c.take_copy-at.result (Some (new_use u.handle u.bytes cell)))))

abbrev copy : (c : After-take_copy-at) → Copy c
copy c =
    let here = (goal.at.After-take_copy-at c).After-lend-cell in
    let u : UsedCell = object here in
    let is = found (goal.at.After-lend-cell here).After-lowest_home-object in
    let to = target here in
    let after = c.take_copy-at.ensures to.0 u.bytes to.2 (stored here).0 (stored here).1 in (
      after.0,
      after.1,
      subst (λ h. IsStored h u.bytes after.0) is.2 after.2,
      subst (λ n. IsCellAt n c.take_copy-at.result after.0) (ap (λ z. z.size) (lent here).3)
          after.3,
      after.4 ∙ ap (λ h. with_zspage c.lend-cell.new.self c.args.to
          (Some (set to.0 c.take_copy-at.result (Some (new_use h u.bytes after.0))))) is.2,
    )

-- the source is as it lent the cell
waiting : (c : After-take_copy-at)
    → entry c.take_copy-at.new.self.zspages c.args.from
    ≡ Some (lender (goal.at.After-take_copy-at c).After-lend-cell)
waiting c =
    let here = (goal.at.After-take_copy-at c).After-lend-cell in
    let lends : entry c.lend-cell.new.self.zspages c.args.from ≡ Some (lender here) =
    changed_here c.args.zspages.now _ c.args.from c.requires.source.0 (Some (lender here))
    c.requires.source.1
    (lent here).3 in
    beside c.lend-cell.new.self _ c.args.from c.args.to (Some (lender here)) _ c.requires.apart
    lends (copy c).4

-- the cell that lends
away : (c : After-lend-cell)
    → entry (lender c) c.lowest_home-object.result.ix ≡ Some (record (object c) { out = true })
away c =
    let is = found (goal.at.After-lend-cell c).After-lowest_home-object in
    entry-set_same c.requires.source.0 _ _ (entry_within c.requires.source.0 _ is.0 is.1.used)

pub back-requires : goal.back-requires
back-requires c =
    let steps = (goal.at.back-requires c).After-take_copy-at in
    let here = (goal.at.After-take_copy-at steps).After-lend-cell in (
      lender here,
      waiting steps,
      (
        record (object here) { out = true },
        away here,
        refl,
        (lent here).0,
      ),
    )

-- ---- the cell is back

-- the use of the cell that the object came to
abbrev new : After-take_copy-at → UsedCell
new c =
    let here = (goal.at.After-take_copy-at c).After-lend-cell in
    new_use (object here).handle (object here).bytes (copy c).0

abbrev taker : After-take_copy-at → Cells
taker c =
    set (target (goal.at.After-take_copy-at c).After-lend-cell).0 c.take_copy-at.result
    (Some (new c))

whole : (c : After-back)
    → c.back.new.self ≡ with_zspage c.args.zspages.now c.args.to
    (Some (taker (goal.at.After-back c).After-take_copy-at))
whole c =
    let steps = (goal.at.After-back c).After-take_copy-at in
    let here = (goal.at.After-take_copy-at steps).After-lend-cell in
    let is = found (goal.at.After-lend-cell here).After-lowest_home-object in
    restored c.args.zspages.now c.lend-cell.new.self c.take_copy-at.new.self c.back.new.self
    c.args.from c.args.to
    c.lowest_home-object.result.ix c.requires.source.0 (object here) (Some (taker steps))
    c.requires.apart
    c.requires.source.1 is.1.used is.1.home (lent here).3 (copy steps).4
    (c.back.ensures (lender here) (record (object here) { out = true }) (waiting steps) (away here))

whole_source : (c : After-back) → entry c.back.new.self.zspages c.args.from
    ≡ Some c.requires.source.0
whole_source c =
    beside c.args.zspages.now _ c.args.from c.args.to (Some c.requires.source.0) _ c.requires.apart
    c.requires.source.1
    (whole c)

pub put-requires : goal.put-requires
put-requires c =
    let is = found (goal.at.put-requires c).After-lowest_home-object in
    let pooled = c.requires.pooled.1 in
    let was = use_there c.args.zspages.now.zspages c.args.from c.lowest_home-object.result.ix
    c.requires.source.0
    c.requires.source.1 ∙ is.1.used in
    subst (λ h. h < length c.args.places.now) (sym is.2)
    (entry_within c.args.places.now is.0.handle (place c.args.from c.lowest_home-object.result.ix)
    (pooled.fit.index.listed c.args.from c.lowest_home-object.result.ix is.0 was))

pub put_cell-gone-requires : goal.put_cell-gone-requires
put_cell-gone-requires c =
    let is = found (goal.at.put_cell-gone-requires c).After-lowest_home-object in (
      c.requires.source.0,
      whole_source (goal.at.put_cell-gone-requires c).After-back,
      (is.0, is.1.used, is.1.home),
    )

-- ---- the move

-- where the source is this from now on
abbrev move : After-put_cell-gone → ℕ → Option Cells → Move
move c class left =
    let steps = (goal.at.After-put_cell-gone c).After-take_copy-at in
    let here = (goal.at.After-take_copy-at steps).After-lend-cell in
    record {
      from = c.args.from;
      ix = c.lowest_home-object.result.ix;
      source = c.requires.source.0;
      to = c.args.to;
      at = c.take_copy-at.result;
      target = (target here).0;
      object = object here;
      cell = (copy steps).0;
      between = pool_of class (with_zspage c.args.zspages.now c.args.from left);
    }

moves : (c : After-put_cell-gone) (class frames : ℕ) (left : Option Cells)
    → c.put_cell-gone.new.self ≡ with_zspage c.back.new.self c.args.from left
    → Frees (pool_of class c.args.zspages.now)
    (pool_of class (with_zspage c.args.zspages.now c.args.from left))
    c.args.from c.requires.source.0 c.lowest_home-object.result.ix frames
    → Moves (pool_of class c.args.zspages.now) (pool_of class c.put_cell-gone.new.self)
    (move c class left) frames
moves c class frames left is freed =
    let steps = (goal.at.After-put_cell-gone c).After-take_copy-at in
    let here = (goal.at.After-take_copy-at steps).After-lend-cell in
    record {
      apart = c.requires.apart;
      leaves = c.requires.source.1;
      lowest = (found (goal.at.After-lend-cell here).After-lowest_home-object).1;
      freed = freed;
      comes = (target here).1;
      free = (copy steps).1;
      stored = (copy steps).2;
      numbered = (copy steps).3;
      after = ap (pool_of class)
          (swapped c.args.zspages.now c.back.new.self c.put_cell-gone.new.self c.args.from c.args.to
          left
          (Some (taker steps)) c.requires.apart (whole (goal.at.After-put_cell-gone c).After-back)
          is);
    }

pooled : (c : After-put_cell-gone) (frames used : ℕ) (left : Option Cells)
    → Moves (pool_of 0 c.args.zspages.now) (pool_of 0 c.put_cell-gone.new.self) (move c 0 left)
    frames
    → IsPooled used c.args.zspages.now c.args.places.now
    → IsPooled used c.put_cell-gone.new.self c.put.new.self
pooled c frames used left moved was =
    let is = found (goal.at.After-put_cell-gone c).After-lowest_home-object in
    let at : Place = place c.args.to c.take_copy-at.result in
    subst (λ ps. IsPooled used c.put_cell-gone.new.self ps)
    (ap (λ h. set c.args.places.now h (Some at)) (sym is.2) ∙ sym c.put.ensures)
    (shifted 0 used c.args.zspages.now c.put_cell-gone.new.self c.args.places.now (move c 0 left)
    frames was moved).pooled

gone : (c : After-put_cell-gone) (class frames : ℕ) → c.put_cell-gone.result ≡ true
    → frames ≡ c.args.zspages.now.chain
    → Moves (pool_of class c.args.zspages.now) (pool_of class c.put_cell-gone.new.self)
    (move c class None) frames
gone c class frames given chain =
    let case = c.put_cell-gone.ensures.gone c.requires.source.0
    (whole_source (goal.at.After-put_cell-gone c).After-back) given in
    moves c class frames None case.1 (inl (case.0, refl, chain))

kept : (c : After-put_cell-gone) (class : ℕ) → c.put_cell-gone.result ≡ false
    → Moves (pool_of class c.args.zspages.now) (pool_of class c.put_cell-gone.new.self)
    (move c class (Some (set c.requires.source.0 c.lowest_home-object.result.ix None))) 0
kept c class given =
    let case = c.put_cell-gone.ensures.kept c.requires.source.0
    (whole_source (goal.at.After-put_cell-gone c).After-back) given in
    moves c class 0 (Some (set c.requires.source.0 c.lowest_home-object.result.ix None)) case.1
    (inr (case.0, refl, refl))

pub returns-then-gone-clause-pooled : goal.returns-then-gone-clause-pooled
returns-then-gone-clause-pooled c used was =
    let here = (goal.at.returns-then-gone-clause-pooled c).After-put_cell-gone in
    pooled here c.args.zspages.now.chain used None
    (gone here 0 c.args.zspages.now.chain c.if-gone.true refl) was

pub returns-else-gone-clause-pooled : goal.returns-else-gone-clause-pooled
returns-else-gone-clause-pooled c used was =
    let here = (goal.at.returns-else-gone-clause-pooled c).After-put_cell-gone in
    pooled here 0 used _ (kept here 0 c.if-gone.false) was

pub returns-then-gone-clause-moved : goal.returns-then-gone-clause-moved
returns-then-gone-clause-moved c class =
    let here = (goal.at.returns-then-gone-clause-moved c).After-put_cell-gone in
    let back = (goal.at.After-put_cell-gone here).After-back in
    let case = c.put_cell-gone.ensures.gone c.requires.source.0 (whole_source back)
    c.if-gone.true in
    let chain = c.chain.ensures ∙ ap (λ z. z.chain) case.1 ∙ ap (λ z. z.chain) (whole back) in
    (move here class None, refl, refl, gone here class c.chain.result c.if-gone.true chain)

pub returns-else-gone-clause-moved : goal.returns-else-gone-clause-moved
returns-else-gone-clause-moved c class =
    let here = (goal.at.returns-else-gone-clause-moved c).After-put_cell-gone in
    (move here class _, refl, refl, kept here class c.if-gone.false)
