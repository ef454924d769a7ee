-- What a move by the plan leaves of the rows: an object that moved does not move again.
use Rattle.std.proofs.Common.{◌≡◌, ◌≢◌, ℕ, ◌+◌, ◌<◌, ◌≤◌, ◌⊎◌, List, Option, None, Some, cond, length, refl, sym, ◌∙◌, ap, subst, inl, inr, arith}
use Rattle.std.proofs.Math.ListN.{set, length-set}
use Rattle.std.proofs.lemmas.List.Sums.{sum_by-set}
use Rattle.std.proofs.lemmas.Option.{slice_get_within, get_or_from_slice_get}
use Rattle.zspage.specs.Cells.{UsedCell, used_of, is_home, home_of, entry}
use Rattle.zs_plan.specs.declared.Row.{Row}
use Rattle.zs_plan.specs.Plan.{IsFuller, IsDestination, IsPlan, IsMove, GoesOn}
use Rattle.class_pool.specs.Zspages.{Cells, used_in, use_at}
use Rattle.class_pool.specs.Rows.{row_of, rows}
use Rattle.class_pool.specs.Pool.{PoolState, IsPool}
use Rattle.class_pool.specs.Moves.{Move, Moves}
use Rattle.class_pool.specs.Compaction.{IsSettled}
use Rattle.class_pool.proofs.Ranks.{entry_within}
use Rattle.class_pool.proofs.SumLaws.{one_of}
use Rattle.class_pool.proofs.UseLaws.{entry-set_same, entry-set_other, use_there}
use Rattle.class_pool.proofs.PlanLaws.{row_among, home_used}
use Rattle.class_pool.proofs.PlannedLaws.{row_cells}
use Rattle.class_pool.proofs.MoveLaws.{moved_use}

-- ---- the two zspages of a move

abbrev pub one_home : Option UsedCell → ℕ
one_home o = cond (is_home o) 1 0

abbrev pub home_in : Option Cells → ℕ
home_in None = 0
home_in (Some cells) = home_of cells

-- the zspage that the object came to
abbrev pub taker : Move → Cells
taker m = set m.target m.at (Some (moved_use m))

pub record Around (old new : PoolState) (m : Move) : Type 0 where
  pub left : Option Cells
  pub list : new.zspages ≡ set (set old.zspages m.from left) m.to (Some (taker m))
  pub per_is : new.per ≡ old.per
  pub from_is : entry new.zspages m.from ≡ left
  pub to_is : entry new.zspages m.to ≡ Some (taker m)
  pub others : (k : ℕ) → k ≢ m.from → k ≢ m.to → entry new.zspages k ≡ entry old.zspages k
  pub loses : used_in left + 1 ≡ used_of m.source
  pub loses_home : home_in left + 1 ≡ home_of m.source
  pub gains : used_of (taker m) ≡ used_of m.target + 1
  pub gains_home : home_of (taker m) ≡ home_of m.target + 1

around_by : (old new : PoolState) (m : Move) (left : Option Cells) → m.from ≢ m.to
    → entry old.zspages m.from ≡ Some m.source → entry old.zspages m.to ≡ Some m.target
    → entry m.target m.at ≡ None → m.at < length m.target
    → new.zspages ≡ set (set old.zspages m.from left) m.to (Some (taker m)) → new.per ≡ old.per
    → used_in left + 1 ≡ used_of m.source → home_in left + 1 ≡ home_of m.source → Around old new m
around_by old new m left apart from to free low is per loses loses_home =
    let zs : List (Option Cells) = old.zspages in
    let mid : List (Option Cells) = set zs m.from left in
    let within : m.to < length mid = rw length-set (entry_within zs m.to m.target to) in
    let gains = sum_by-set one_of m.target m.at (Some (moved_use m)) None low in
    let gains_home = sum_by-set one_home m.target m.at (Some (moved_use m)) None low in
    record {
      left = left;
      list = is;
      per_is = per;
      from_is = ap (λ xs. entry xs m.from) is
          ∙ entry-set_other mid m.to m.from (Some (taker m)) apart
          ∙ entry-set_same zs m.from left (entry_within zs m.from m.source from);
      to_is = ap (λ xs. entry xs m.to) is ∙ entry-set_same mid m.to (Some (taker m)) within;
      others = λ k off_from off_to.
          ap (λ xs. entry xs k) is ∙ entry-set_other mid m.to k (Some (taker m)) off_to
          ∙ entry-set_other zs m.from k left off_from;
      loses = loses;
      loses_home = loses_home;
      gains = omega (arith, gains, ap one_of free);
      gains_home = omega (arith, gains_home, ap one_home free);
    }

pub around : (old new : PoolState) (m : Move) (frames : ℕ) → Moves old new m frames
    → Around old new m
around old new m frames moves =
    let u : UsedCell = m.object in
    let low : m.ix < length m.source = entry_within m.source m.ix u moves.lowest.used in
    let loses = sum_by-set one_of m.source m.ix None None low in
    let loses_home = sum_by-set one_home m.source m.ix None None low in
    let one : one_home (entry m.source m.ix) ≡ 1 =
    ap one_home moves.lowest.used
    ∙ ap (λ b. one_home (Some (record u { out = b }))) moves.lowest.home in
    let some = ap one_of moves.lowest.used in
    let room : m.at < length m.target = slice_get_within m.target m.at None moves.free.free in
    let free : entry m.target m.at ≡ None =
    get_or_from_slice_get m.target m.at None None moves.free.free in
    elim moves.freed [
      | inl w ↦
          around_by old new m None moves.apart moves.leaves moves.comes free room
          (ap (λ p. p.zspages) moves.after ∙ ap (λ p. set p.zspages m.to (Some (taker m))) w.1)
          (ap (λ p. p.per) moves.after ∙ ap (λ p. p.per) w.1) (omega (arith, w.0))
          (omega (arith, w.0, home_used m.source, loses_home, one))
      | inr w ↦
          around_by old new m (Some (set m.source m.ix None)) moves.apart moves.leaves moves.comes
          free room
          (ap (λ p. p.zspages) moves.after ∙ ap (λ p. set p.zspages m.to (Some (taker m))) w.1)
          (ap (λ p. p.per) moves.after ∙ ap (λ p. p.per) w.1) (omega (arith, loses, some))
          (omega (arith, loses_home, one))
    ]

-- ---- the rows

pub same_some : {A : Type 0} (o : Option A) (x y : A) → o ≡ Some x → o ≡ Some y → x ≡ y
same_some o x y at also = let both : Some x ≡ Some y = sym at ∙ also in cc

-- the rows change as those of a move do
pub rows_move : (old new : PoolState) (m : Move) → entry old.zspages m.from ≡ Some m.source
    → entry old.zspages m.to ≡ Some m.target → m.from ≢ m.to → Around old new m
    → IsMove (rows old.zspages) (rows new.zspages) m.from m.to
rows_move old new m from to apart a = record {
  gained = λ e among is.
      let at = row_cells new.zspages e m.to among is in
      let same = same_some (entry new.zspages m.to) (taker m) at.0 a.to_is at.1 in (
        row_of m.to m.target,
        row_among m.to old.zspages m.target to,
        refl,
        ap (λ r. r.used) at.2 ∙ ap used_of (sym same) ∙ a.gains,
      );
  lost = λ e among is.
      let at = row_cells new.zspages e m.from among is in
      let same : a.left ≡ Some at.0 = sym a.from_is ∙ at.1 in (
        row_of m.from m.source,
        row_among m.from old.zspages m.source from,
        refl,
        ap (λ r. r.used + 1) at.2 ∙ ap (λ o. used_in o + 1) (sym same) ∙ a.loses,
      );
  others = λ e among off_to off_from.
      let at = row_cells new.zspages e e.id among refl in (
        row_of e.id at.0,
        row_among e.id old.zspages at.0 (sym (a.others e.id off_from off_to) ∙ at.1),
        refl,
        sym (ap (λ r. r.used) at.2),
      );
}

-- there is one destination
fuller_id : (r s : Row) → IsFuller r s → IsFuller s r → r.id ≡ s.id
fuller_id r s first second =
    elim first [
      | inl w ↦ elim second [ inl v ↦ absurd (omega arith) | inr v ↦ absurd (omega arith) ]
      | inr w ↦ elim second [ inl v ↦ absurd (omega arith) | inr v ↦ omega arith ]
    ]

pub one_destination : (per : ℕ) (rs : List Row) (r s : Row) → IsDestination per rs r
    → IsDestination per rs s
    → r.id ≡ s.id
one_destination per rs r s first second =
    fuller_id r s (first.before s second.among second.fits) (second.before r first.among first.fits)

-- the zspages that a plan names
pub record Planned (per : ℕ) (zs : List (Option Cells)) (m : Move) : Type 0 where
  pub source_some : 1 ≤ used_of m.source
  pub source_part : used_of m.source < per
  pub target_part : used_of m.target < per
  pub destination : IsDestination per (rows zs) (row_of m.to m.target)

pub planned : (per : ℕ) (zs : List (Option Cells)) (m : Move) → IsPlan per (rows zs) m.from m.to
    → entry zs m.from ≡ Some m.source → entry zs m.to ≡ Some m.target → Planned per zs m
planned per zs m plan from to =
    let s = row_cells zs plan.source.0 m.from plan.source.1.among plan.source.2 in
    let d = row_cells zs plan.destination.0 m.to plan.destination.1.among plan.destination.2 in
    let source = ap used_of (same_some (entry zs m.from) s.0 m.source s.1 from) in
    let target : plan.destination.0 ≡ row_of m.to m.target =
    d.2 ∙ ap (row_of m.to) (same_some (entry zs m.to) d.0 m.target d.1 to) in
    let fits = plan.source.1.fits.0 in
    let used = ap (λ r. r.used) s.2 in
    let dest : IsDestination per (rows zs) (row_of m.to m.target) =
    subst (λ r. IsDestination per (rows zs) r) target plan.destination.1 in
    record {
      source_some = omega (arith, fits.0, used, source);
      source_part = omega (arith, fits.1, used, source);
      target_part = dest.fits.1;
      destination = dest;
    }

-- ---- settled objects

-- the zspage that the object came to is full, or it is the destination
pub went : (old new : PoolState) (m : Move) → entry old.zspages m.from ≡ Some m.source
    → entry old.zspages m.to ≡ Some m.target → m.from ≢ m.to
    → GoesOn old.per (rows old.zspages) m.from m.to
    → Around old new m
    → (used_of (taker m) ≡ new.per)
    ⊎ IsDestination new.per (rows new.zspages) (row_of m.to (taker m))
went old new m from to apart goes a =
    rw a.per_is (goes (rows new.zspages) (row_of m.to (taker m))
    (rows_move old new m from to apart a)
    (row_among m.to new.zspages (taker m) a.to_is) refl)

pub settles : (old new : PoolState) (m : Move) (frames : ℕ) → Moves old new m frames
    → GoesOn old.per (rows old.zspages) m.from m.to → IsSettled new m.object.handle
settles old new m frames moves goes =
    let a = around old new m frames moves in
    let room : m.at < length m.target = slice_get_within m.target m.at None moves.free.free in (
      m.to,
      m.at,
      taker m,
      moved_use m,
      record {
        zspage = a.to_is;
        cell = entry-set_same m.target m.at (Some (moved_use m)) room;
        handle_is = refl;
      },
      went old new m moves.leaves moves.comes moves.apart goes a,
    )

-- no settled object moves
pub unsettled : (old new : PoolState) (m : Move) (frames : ℕ) → IsPool old → Moves old new m frames
    → IsPlan old.per (rows old.zspages) m.from m.to → IsSettled old m.object.handle → ⊥
unsettled old new m frames pool moves plan (id, ix, cells, u, at, done) =
    let p = planned old.per old.zspages m plan moves.leaves moves.comes in
    let here : use_at old.zspages id ix ≡ Some u = use_there old.zspages id ix cells at.zspage
    ∙ at.cell in
    let there : use_at old.zspages m.from m.ix ≡ Some m.object =
    use_there old.zspages m.from m.ix m.source moves.leaves ∙ moves.lowest.used in
    let same : id ≡ m.from =
    (pool.distinct id ix m.from m.ix u m.object here there at.handle_is).0 in
    let one : cells ≡ m.source =
    same_some (entry old.zspages id) cells m.source at.zspage (ap (entry old.zspages) same
    ∙ moves.leaves) in
    elim done [
      | inl full ↦ omega (arith, full, ap used_of one, p.source_part)
      | inr dest ↦
          moves.apart (sym same
          ∙ one_destination old.per (rows old.zspages) (row_of id cells) (row_of m.to m.target) dest
          p.destination)
    ]

-- a settled object stays so
pub stays_settled : (old new : PoolState) (m : Move) (frames h : ℕ) → Moves old new m frames
    → IsPlan old.per (rows old.zspages) m.from m.to → GoesOn old.per (rows old.zspages) m.from m.to
    → IsSettled old h → IsSettled new h
stays_settled old new m frames h moves plan goes (id, ix, cells, u, at, done) =
    let p = planned old.per old.zspages m plan moves.leaves moves.comes in
    let a = around old new m frames moves in
    elim done [
      | inl full ↦
          let off : (k : ℕ) (cs : Cells) → entry old.zspages k ≡ Some cs → used_of cs < old.per
          → id ≢ k =
          λ k cs is part e.
          let one = same_some (entry old.zspages id) cells cs at.zspage (ap (entry old.zspages) e
          ∙ is) in
          omega (arith, full, part, ap used_of one) in
          let still = a.others id (off m.from m.source moves.leaves p.source_part)
          (off m.to m.target moves.comes p.target_part) in (
            id,
            ix,
            cells,
            u,
            record { zspage = still ∙ at.zspage; cell = at.cell; handle_is = at.handle_is },
            inl (full ∙ sym a.per_is),
          )
      | inr dest ↦
          let same : id ≡ m.to =
          one_destination old.per (rows old.zspages) (row_of id cells) (row_of m.to m.target) dest
          p.destination in
          let one : cells ≡ m.target =
          same_some (entry old.zspages id) cells m.target at.zspage (ap (entry old.zspages) same
          ∙ moves.comes) in
          let here : entry m.target ix ≡ Some u = ap (λ (cs : Cells). entry cs ix) (sym one)
          ∙ at.cell in
          let free : entry m.target m.at ≡ None =
          get_or_from_slice_get m.target m.at None None moves.free.free in
          let off : ix ≢ m.at = λ e. let was = ap (entry m.target) e ∙ free in cc (was, here) in (
            m.to,
            ix,
            taker m,
            u,
            record {
              zspage = a.to_is;
              cell = entry-set_other m.target m.at ix (Some (moved_use m)) off ∙ here;
              handle_is = at.handle_is;
            },
            went old new m moves.leaves moves.comes moves.apart goes a,
          )
    ]
