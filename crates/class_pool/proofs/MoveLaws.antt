-- A move: the steps of the code as a change of two zspages, and what it leaves of a pool.
use Rattle.std.proofs.Common.{◌≡◌, ◌≢◌, ℕ, ◌<◌, List, Option, None, Some, true, false, length, map, refl, sym, ◌∙◌, ap, subst, inl, inr, arith, Contains}
use Rattle.std.proofs.Math.ListN.{set, length-set}
use Rattle.std.proofs.lemmas.Bool.{cases_eq}
use Rattle.std.proofs.lemmas.List.{set_comm, set-set, set-get_or}
use Rattle.std.proofs.lemmas.Option.{slice_get_within, get_or_from_slice_get}
use Rattle.zspage.specs.Cells.{CellState, UsedCell, entry}
use Rattle.class_pool.specs.declared.places.Place.{Place}
use Rattle.class_pool.specs.Zspages.{Cells, ZspagesState, HasRoom, use_at}
use Rattle.class_pool.specs.Pool.{PoolState, object_of, used_cells, IsAtHome, IsLent, new_use}
use Rattle.class_pool.specs.Index.{pool_of, IsPooled}
use Rattle.class_pool.specs.Moves.{Move, Moves, AreSame}
use Rattle.class_pool.proofs.Ranks.{entry_within}
use Rattle.class_pool.proofs.UseLaws.{Changes, changes_cell, changes_gone, entry-set_same, entry-set_other, use_there, find_use, contains_use}
use Rattle.class_pool.proofs.IndexLaws.{place, same_place, moved}
use Rattle.class_pool.proofs.HomeLaws.{Keeps, stays_home, stays_lent}
use Rattle.class_pool.proofs.PoolLaws.{IsAt, Parts, Freed, freed, Stored, stored, stored_fit}

-- ---- the steps of the code

-- zspages of which one is another
abbrev pub with_zspage : ZspagesState → ℕ → Option Cells → ZspagesState
with_zspage z id o = record z { zspages = set z.zspages id o }

-- a cell that was lent is back
back_same : (cells : Cells) (ix : ℕ) (u : UsedCell) → entry cells ix ≡ Some u → u.out ≡ false
    → set (set cells ix (Some (record u { out = true }))) ix (Some (record u { out = false }))
    ≡ cells
back_same cells ix u at home =
    let same : Some (record u { out = false }) ≡ entry cells ix =
    ap (λ b. Some (record u { out = b })) (sym home) ∙ sym at in
    set-set cells ix (Some (record u { out = true })) (Some (record u { out = false }))
    ∙ ap (set cells ix) same
    ∙ set-get_or cells ix None

-- a zspage is what it was before another one changed
beside_same : (zs : List (Option Cells)) (f t : ℕ) (x y : Option Cells) (cells : Cells) → f ≢ t
    → entry zs f ≡ Some cells → set (set (set zs f x) t y) f (Some cells) ≡ set zs t y
beside_same zs f t x y cells apart at =
    ap (λ xs. set xs f (Some cells)) (set_comm zs f t x y apart)
    ∙ set-set (set zs t y) f x (Some cells)
    ∙ ap (set (set zs t y) f) (sym (entry-set_other zs t f y apart ∙ at))
    ∙ set-get_or (set zs t y) f None

-- one zspage lends a cell, another one changes, and the cell comes back
pub restored : (z z1 z2 z3 : ZspagesState) (f t ix : ℕ) (cells : Cells) (u : UsedCell)
    (y : Option Cells)
    → f ≢ t → entry z.zspages f ≡ Some cells → entry cells ix ≡ Some u → u.out ≡ false
    → z1 ≡ with_zspage z f (Some (set cells ix (Some (record u { out = true }))))
    → z2 ≡ with_zspage z1 t y
    → z3 ≡ with_zspage z2 f
    (Some (set (set cells ix (Some (record u { out = true }))) ix
    (Some (record u { out = false }))))
    → z3 ≡ with_zspage z t y
restored z z1 z2 z3 f t ix cells u y apart at here home is1 is2 is3 =
    let lent : Cells = set cells ix (Some (record u { out = true })) in
    let back : Cells = set lent ix (Some (record u { out = false })) in
    let new : List (Option Cells) → ZspagesState = λ zs. record z { zspages = zs } in
    is3 ∙ ap (λ v. with_zspage v f (Some back)) is2
    ∙ ap (λ v. with_zspage (with_zspage v t y) f (Some back)) is1
    ∙ ap (λ cs. new (set (set (set z.zspages f (Some lent)) t y) f (Some cs)))
    (back_same cells ix u here home)
    ∙ ap new (beside_same z.zspages f t (Some lent) y cells apart at)

-- the two zspages may change in either order
pub swapped : (z z3 z4 : ZspagesState) (f t : ℕ) (x y : Option Cells) → f ≢ t
    → z3 ≡ with_zspage z t y
    → z4 ≡ with_zspage z3 f x → z4 ≡ with_zspage (with_zspage z f x) t y
swapped z z3 z4 f t x y apart is3 is4 =
    is4 ∙ ap (λ v. with_zspage v f x) is3
    ∙ ap (λ zs. record z { zspages = zs }) (set_comm z.zspages t f y x (λ e. apart (sym e)))

pub beside : (z z' : ZspagesState) (f t : ℕ) (o y : Option Cells) → f ≢ t → entry z.zspages f ≡ o
    → z' ≡ with_zspage z t y → entry z'.zspages f ≡ o
beside z z' f t o y apart at is =
    ap (λ v. entry v.zspages f) is ∙ entry-set_other z.zspages t f y apart ∙ at

pub changed_here : (z z' : ZspagesState) (f : ℕ) (cells : Cells) (y : Option Cells)
    → entry z.zspages f ≡ Some cells
    → z' ≡ with_zspage z f y → entry z'.zspages f ≡ y
changed_here z z' f cells y at is =
    ap (λ v. entry v.zspages f) is
    ∙ entry-set_same z.zspages f y (entry_within z.zspages f cells at)

pub room_cells : (o : Option Cells) → HasRoom o → (cells : Cells) × (o ≡ Some cells)
room_cells None room = absurd room
room_cells (Some cells) room = (cells, refl)

-- ---- a move frees a cell, and stores the object in another one

abbrev pub zspages_of : PoolState → ZspagesState
zspages_of p = record { size = p.size; chain = p.chain; per = p.per; zspages = p.zspages }

-- the use of the new cell
abbrev pub moved_use : Move → UsedCell
moved_use m = new_use m.object.handle m.object.bytes m.cell

pub record Shifted (used : ℕ) (z z' : ZspagesState) (places : List (Option Place)) (m : Move) : Type
    0 where
  pub pooled : IsPooled used z' (set places m.object.handle (Some (place m.to m.at)))
  pub same : AreSame (map object_of (used_cells z.zspages)) (map object_of (used_cells z'.zspages))
  pub here : Contains (used_cells z'.zspages) (moved_use m)
  pub keeps : Keeps z.zspages z'.zspages m.object.handle
  pub left : Changes z.zspages m.between.zspages m.from m.ix None
  pub come : Changes m.between.zspages z'.zspages m.to m.at (Some (moved_use m))
  pub was : use_at z.zspages m.from m.ix ≡ Some m.object
  pub free : use_at m.between.zspages m.to m.at ≡ None

-- the zspages without the object
between_is : (class : ℕ) (z z' : ZspagesState) (m : Move) (frames : ℕ)
    → Moves (pool_of class z) (pool_of class z') m frames
    → Parts z (zspages_of m.between) (place m.from m.ix) m.source
between_is class z z' m frames moves =
    elim moves.freed [
      | inl w ↦ inl (w.0, ap zspages_of w.1)
      | inr w ↦ inr (w.0, ap zspages_of w.1)
    ]

left_is : (z z' : ZspagesState) (p : Place) (cells : Cells) (u : UsedCell)
    → entry z.zspages p.zspage ≡ Some cells
    → entry cells p.cell ≡ Some u → Parts z z' p cells
    → Changes z.zspages z'.zspages p.zspage p.cell None
left_is z z' p cells u at here parts =
    elim parts [
      | inl w ↦ subst (λ v. Changes z.zspages v.zspages p.zspage p.cell None) (sym w.1)
          (changes_gone z.zspages p.zspage p.cell cells u at here w.0)
      | inr w ↦ subst (λ v. Changes z.zspages v.zspages p.zspage p.cell None) (sym w.1)
          (changes_cell z.zspages p.zspage p.cell cells None at (entry_within cells p.cell u here))
    ]

target_is : (z z' : ZspagesState) (p : Place) (cells : Cells) (t : ℕ) (target : Cells)
    → p.zspage ≢ t
    → entry z.zspages t ≡ Some target → Parts z z' p cells → entry z'.zspages t ≡ Some target
target_is z z' p cells t target apart at parts =
    elim parts [
      | inl w ↦ beside z z' t p.zspage (Some target) None (λ e. apart (sym e)) at w.1
      | inr w ↦ beside z z' t p.zspage (Some target) (Some (set cells p.cell None))
          (λ e. apart (sym e)) at w.1
    ]

pub shifted : (class used : ℕ) (z z' : ZspagesState) (places : List (Option Place)) (m : Move)
    (frames : ℕ)
    → IsPooled used z places → Moves (pool_of class z) (pool_of class z') m frames
    → Shifted used z z' places m
shifted class used z z' places m frames pooled moves =
    let u : UsedCell = m.object in
    let v : UsedCell = moved_use m in
    let mid : ZspagesState = zspages_of m.between in
    let parts : Parts z mid (place m.from m.ix) m.source = between_is class z z' m frames moves in
    let at : IsAt z.zspages (place m.from m.ix) u =
    record { cells = m.source; zspage = moves.leaves; cell = moves.lowest.used } in
    let gone : Freed used z mid places u =
    freed used z mid places (place m.from m.ix) u at pooled parts in
    let is : z' ≡ with_zspage mid m.to (Some (set m.target m.at (Some v))) =
    ap zspages_of moves.after in
    let there : entry mid.zspages m.to ≡ Some m.target =
    target_is z mid (place m.from m.ix) m.source m.to m.target moves.apart moves.comes parts in
    let was : use_at z.zspages m.from m.ix ≡ Some u =
    use_there z.zspages m.from m.ix m.source moves.leaves ∙ moves.lowest.used in
    let low : u.handle < length places =
    entry_within places u.handle (place m.from m.ix) (pooled.fit.index.listed m.from m.ix u was) in
    let put : Stored mid z' v =
    stored mid z' m.to m.at m.target v (λ k cs other. gone.pooled.filled k cs) there moves.free.free
    is in
    let some = contains_use z.zspages m.from m.ix u was in
    let cell : m.at < length m.target = slice_get_within m.target m.at None moves.free.free in
    record {
      pooled = record {
        fit = stored_fit mid z' (set places u.handle None)
            (set places u.handle (Some (place m.to m.at))) m.to m.at
            m.target v gone.pooled.fit there moves.free.free (rw length-set low)
            (entry-set_same places u.handle None low) is
            (sym (set-set places u.handle None (Some (place m.to m.at))));
        count = omega (arith, put.count, gone.pooled.count, pooled.count, some.1);
        filled = put.filled;
      };
      same = λ f. put.object f ∙ sym (gone.object f);
      here = put.here;
      keeps = λ w other among. put.keeps w other (gone.keeps w other among);
      left = left_is z mid (place m.from m.ix) m.source u moves.leaves moves.lowest.used parts;
      come = subst (λ x. Changes mid.zspages x.zspages m.to m.at (Some v)) (sym is)
          (changes_cell mid.zspages m.to m.at m.target (Some v) there cell);
      was = was;
      free = use_there mid.zspages m.to m.at m.target there
          ∙ get_or_from_slice_get m.target m.at None None moves.free.free;
    }

-- ---- what a move leaves of the other objects

-- an object at another place than the one that changes
still : (zs zs' : List (Option Cells)) (i j k l : ℕ) (o : Option UsedCell) (w : UsedCell)
    → Changes zs zs' i j o
    → (use_at zs i j ≡ Some w → ⊥) → use_at zs k l ≡ Some w → use_at zs' k l ≡ Some w
still zs zs' i j k l o w change other at =
    elim (same_place i j k l) [
      | inl same ↦ absurd (other (sym (moved zs i j k l same.0 same.1) ∙ at))
      | inr apart ↦ change.others k l apart ∙ at
    ]

pub out_stays : (used : ℕ) (z z' : ZspagesState) (places : List (Option Place)) (m : Move) (k l : ℕ)
    (w : UsedCell)
    → m.object.out ≡ false → Shifted used z z' places m → use_at z.zspages k l ≡ Some w
    → w.out ≡ true
    → use_at z'.zspages k l ≡ Some w
out_stays used z z' places m k l w home s at out =
    still m.between.zspages z'.zspages m.to m.at k l (Some (moved_use m)) w s.come
    (λ e. cc (e, s.free))
    (still z.zspages m.between.zspages m.from m.ix k l None w s.left (λ e.
    let both : Some m.object ≡ Some w = sym s.was ∙ e in
    let one : m.object ≡ w = cc in
    let here : w.out ≡ false = ap (λ x. x.out) (sym one) ∙ home in
    cc (here, out)) at)

pub all_home : (class used h : ℕ) (z z' : ZspagesState) (places : List (Option Place)) (m : Move)
    → Shifted used z z' places m → IsAtHome (pool_of class z) h → IsAtHome (pool_of class z') h
all_home class used h z z' places m s among =
    elim (cases_eq h m.object.handle) [
      | inl e ↦ (moved_use m, s.here, sym e, refl)
      | inr other ↦ stays_home (pool_of class z) (pool_of class z') m.object.handle h s.keeps other
          among
    ]

pub all_lent : (class used h : ℕ) (cell : CellState) (z z' : ZspagesState)
    (places : List (Option Place)) (m : Move)
    → IsPooled used z places → m.object.out ≡ false → Shifted used z z' places m
    → IsLent (pool_of class z) h cell → IsLent (pool_of class z') h cell
all_lent class used h cell z z' places m pooled home s (w, among, same, out, is) =
    elim (cases_eq h m.object.handle) [
      | inl e ↦
          let at = find_use z.zspages w among in
          let one : Some (place at.0 at.1) ≡ Some (place m.from m.ix) =
          sym (pooled.fit.index.listed at.0 at.1 w at.2) ∙ ap (λ n. entry places n) (same ∙ e)
          ∙ pooled.fit.index.listed m.from m.ix m.object s.was in
          let there : place at.0 at.1 ≡ place m.from m.ix = cc in
          let both : Some w ≡ Some m.object =
          sym at.2 ∙ ap (λ p. use_at z.zspages p.zspage p.cell) there ∙ s.was in
          let it : w ≡ m.object = cc in
          let here : w.out ≡ false = ap (λ x. x.out) it ∙ home in
          absurd (cc (here, out))
      | inr other ↦
          stays_lent (pool_of class z) (pool_of class z') m.object.handle h cell s.keeps other
          (w, among, same, out, is)
    ]
