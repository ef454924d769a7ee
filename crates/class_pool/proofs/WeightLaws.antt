-- What each call does to sums over the used cells, and to the frames of the zspages.
use Rattle.std.proofs.Common.{◌≡◌, ℕ, zero, suc, ◌+◌, ◌*◌, ◌≤◌, List, [], ◌∷◌, length, replicate, sum_by, Option, Some, None, refl, sym, ap, ◌∙◌, subst, arith, inl, inr, false, ◌≢◌}
use Rattle.std.specs.Prelude.{slice_set, slice_get}
use Rattle.std.proofs.lemmas.List.Sums.{sum_by-set, sum_by-cons}
use Rattle.zspage.specs.Cells.{CellState, UsedCell, used_of, entry}
use Rattle.class_pool.specs.Zspages.{Cells, put_at}
use Rattle.class_pool.specs.Pool.{PoolState, used_cells, HasOneMore, IsPlace, Stores, Makes, Frees, with_cells, new_use}
use Rattle.class_pool.specs.Laws.{frames_of}
use Rattle.class_pool.specs.Moves.{Move, Moves}
use Rattle.class_pool.proofs.Ranks.{entry_within}
use Rattle.class_pool.proofs.SumLaws.{at_use, one_of, sum_change, sum_gone, used_cells-put}
use Rattle.class_pool.proofs.PoolLaws.{fill_more, clear_more}
use Rattle.class_pool.proofs.UseLaws.{entry-put_same, entry-set_other}

module _ (zs : List (Option Cells)) (i : ℕ) (old : Cells) (at : entry zs i ≡ Some old) where
  same_used : (new : Cells) → used_of (slice_set zs i (Some new)) ≡ used_of zs
  same_used new = let s : one_of (entry zs i) ≡ 1 = ap one_of at in
      omega (arith, sum_by-set one_of zs i (Some new) None (entry_within zs i old at), s)

  less_used : used_of (slice_set zs i None) + 1 ≡ used_of zs
  less_used = let s : one_of (entry zs i) ≡ 1 = ap one_of at in
      omega (arith, sum_by-set one_of zs i None None (entry_within zs i old at), s)

more_used : (zs : List (Option Cells)) (i : ℕ) (new : Cells) → entry zs i ≡ None → i ≤ length zs
    → used_of (put_at zs i (Some new)) ≡ used_of zs + 1
more_used [] zero new at le = omega arith
more_used [] (suc i) new at le = absurd (omega arith)
more_used (None ∷ zs) zero new at le =
    omega (arith, sum_by-cons one_of (Some new) zs, sum_by-cons {X = Option Cells} one_of None zs)
more_used (Some c ∷ zs) zero new at le = absurd (cc)
more_used (o ∷ zs) (suc i) new at le =
    omega (
      arith,
      more_used zs i new at (omega arith),
      sum_by-cons one_of o (put_at zs i (Some new)),
      sum_by-cons one_of o zs,
    )

put_set : (zs : List (Option Cells)) (i : ℕ) (y z : Option Cells) → i ≤ length zs
    → slice_set (put_at zs i y) i z ≡ put_at zs i z
put_set [] zero y z le = refl
put_set [] (suc i) y z le = absurd (omega arith)
put_set (x ∷ zs) zero y z le = refl
put_set (x ∷ zs) (suc i) y z le =
    ap (λ (xs : List (Option Cells)). x ∷ xs) (put_set zs i y z (omega arith))

first_free : (n : ℕ) → 1 ≤ n → slice_get (replicate {A = Option UsedCell} n None) 0 ≡ Some None
first_free zero le = absurd (omega arith)
first_free (suc n) le = refl

times_more : (a b c : ℕ) → c ≡ a * (b + 1) → c ≡ a * b + a
times_more a b c e = omega arith

module _ (p : PoolState) where
  pub stored_weighs : (q : PoolState) (handle : ℕ) (bytes : List ℕ) (id ix : ℕ) (cells : Cells)
      (cell : CellState) → Stores p q handle bytes id ix cells cell
      → HasOneMore (used_cells p.zspages) (used_cells q.zspages) (new_use handle bytes cell)
      × (frames_of q ≡ frames_of p)
  stored_weighs q handle bytes id ix cells cell s =
      let u = new_use handle bytes cell in
      subst (λ (x : PoolState). HasOneMore (used_cells p.zspages) (used_cells x.zspages) u
      × (frames_of x ≡ frames_of p)) (sym s.after) (
        fill_more p.zspages id ix cells u s.zspage s.lowest.free,
        ap (λ (n : ℕ). p.chain * n)
            (same_used p.zspages id cells s.zspage (slice_set cells ix (Some u))),
      )

  pub made_weighs : (q : PoolState) (handle : ℕ) (bytes : List ℕ) (id : ℕ) (cell : CellState)
      → 1 ≤ p.per → Makes p q handle bytes id cell
      → HasOneMore (used_cells p.zspages) (used_cells q.zspages) (new_use handle bytes cell)
      × (frames_of q ≡ frames_of p + p.chain)
  made_weighs q handle bytes id cell some s =
      let u = new_use handle bytes cell in
      let empty : Cells = replicate p.per None in
      subst (λ (x : PoolState). HasOneMore (used_cells p.zspages) (used_cells x.zspages) u
      × (frames_of x ≡ frames_of p + p.chain)) (sym s.after) (
        (λ f.
            let a = fill_more (put_at p.zspages id (Some empty)) id 0 empty u
            (entry-put_same p.zspages id (Some empty) s.least.within) (first_free p.per some) f in
            let b = ap (λ (zs : List (Option Cells)). sum_by f (used_cells zs))
            (put_set p.zspages id (Some empty) (Some (slice_set empty 0 (Some u))) s.least.within) in
            let c = ap (sum_by f)
            (used_cells-put p.zspages id p.per s.least.within s.least.absent) in omega arith),
        times_more p.chain (used_of p.zspages) _ (ap (λ (n : ℕ). p.chain * n)
            (more_used p.zspages id (slice_set empty 0 (Some u)) s.least.absent s.least.within)),
      )

  pub freed_weighs : (q : PoolState) (handle id ix frames : ℕ) (cells : Cells) (u : UsedCell)
      → IsPlace p handle id ix cells u → Frees p q id cells ix frames
      → HasOneMore (used_cells q.zspages) (used_cells p.zspages) u
      × (frames_of q + frames ≡ frames_of p) × (frames ≤ p.chain)
  freed_weighs q handle id ix frames cells u at (inl last) =
      subst (λ (x : PoolState). HasOneMore (used_cells x.zspages) (used_cells p.zspages) u
      × (frames_of x + frames ≡ frames_of p) × (frames ≤ p.chain)) (sym last.1) (
        (λ f. sum_gone f p.zspages id ix cells u at.zspage at.cell last.0),
        (let e = ap (λ (k : ℕ). p.chain * k) (less_used p.zspages id cells at.zspage) in
            let z = last.2 in omega arith),
        (let z = last.2 in omega arith),
      )
  freed_weighs q handle id ix frames cells u at (inr more) =
      subst (λ (x : PoolState). HasOneMore (used_cells x.zspages) (used_cells p.zspages) u
      × (frames_of x + frames ≡ frames_of p) × (frames ≤ p.chain)) (sym more.1) (
        clear_more p.zspages id ix cells u at.zspage at.cell,
        (let e = ap (λ (k : ℕ). p.chain * k)
            (same_used p.zspages id cells at.zspage (slice_set cells ix None)) in
            let z = more.2 in omega arith),
        (let z = more.2 in omega arith),
      )

  module _ (handle id ix : ℕ) (cells : Cells) (u : UsedCell) where
    pub changed_weighs : (v : UsedCell) → IsPlace p handle id ix cells u
        → ((f : UsedCell → ℕ)
        → sum_by f (used_cells (with_cells p id (slice_set cells ix (Some v))).zspages) + f u
        ≡ sum_by f (used_cells p.zspages) + f v)
        × (frames_of (with_cells p id (slice_set cells ix (Some v))) ≡ frames_of p)
    changed_weighs v at = (
      (λ f.
          let a = sum_change f p.zspages id ix cells (Some v) at.zspage
          (entry_within cells ix u at.cell) in
          let b : at_use f (entry cells ix) ≡ f u = ap (at_use f) at.cell in omega arith),
      ap (λ (k : ℕ). p.chain * k)
          (same_used p.zspages id cells at.zspage (slice_set cells ix (Some v))),
    )

    pub part_weighs : IsPlace p handle id ix cells u → (f : UsedCell → ℕ)
        → f u ≤ sum_by f (used_cells p.zspages)
    part_weighs at f =
        let a = clear_more p.zspages id ix cells u at.zspage at.cell f in omega arith

-- ---- a move

-- a pool has another's numbers, and its zspages but for one
record Beside (p : PoolState) (id : ℕ) (q : PoolState) : Type 0 where
  class_is : q.class ≡ p.class
  size_is : q.size ≡ p.size
  chain_is : q.chain ≡ p.chain
  per_is : q.per ≡ p.per
  others : (k : ℕ) → k ≢ id → entry q.zspages k ≡ entry p.zspages k

beside : (p : PoolState) (id : ℕ) (o : Option Cells)
    → Beside p id (record p { zspages = slice_set p.zspages id o })
beside p id o = record {
  class_is = refl;
  size_is = refl;
  chain_is = refl;
  per_is = refl;
  others = λ k other. entry-set_other p.zspages id k o other;
}

freed_beside : (p q : PoolState) (id ix frames : ℕ) (cells : Cells)
    → Frees p q id cells ix frames → Beside p id q
freed_beside p q id ix frames cells (inl last) =
    subst (Beside p id) (sym last.1) (beside p id None)
freed_beside p q id ix frames cells (inr more) =
    subst (Beside p id) (sym more.1) (beside p id (Some (slice_set cells ix None)))

pub moved_weighs : (p q : PoolState) (m : Move) (frames : ℕ) → Moves p q m frames
    → ((f : UsedCell → ℕ) → sum_by f (used_cells q.zspages) + f m.object
    ≡ sum_by f (used_cells p.zspages) + f (new_use m.object.handle m.object.bytes m.cell))
    × (m.object.out ≡ false) × (frames_of q + frames ≡ frames_of p) × (frames ≤ p.chain)
    × (q.class ≡ p.class) × (q.size ≡ p.size) × (q.chain ≡ p.chain) × (q.per ≡ p.per)
moved_weighs p q m frames moves =
    let u = new_use m.object.handle m.object.bytes m.cell in
    let at : IsPlace p m.object.handle m.from m.ix m.source m.object =
    record { zspage = moves.leaves; cell = moves.lowest.used; handle_is = refl } in
    let left =
    freed_weighs p m.between m.object.handle m.from m.ix frames m.source m.object at moves.freed in
    let b = freed_beside p m.between m.from m.ix frames m.source moves.freed in
    let there : entry m.between.zspages m.to ≡ Some m.target =
    b.others m.to (λ e. moves.apart (sym e)) ∙ moves.comes in
    let come = fill_more m.between.zspages m.to m.at m.target u there moves.free.free in
    let list = ap (λ (x : PoolState). x.zspages) moves.after in
    let same = ap frames_of moves.after
    ∙ ap (λ (n : ℕ). m.between.chain * n)
    (same_used m.between.zspages m.to m.target there (slice_set m.target m.at (Some u))) in (
      (λ f.
          let now = ap (λ zs. sum_by f (used_cells zs)) list in
          let gone = left.0 f in
          let here = come f in omega arith),
      moves.lowest.home,
      (let before = left.1 in omega arith),
      left.2,
      ap (λ (x : PoolState). x.class) moves.after ∙ b.class_is,
      ap (λ (x : PoolState). x.size) moves.after ∙ b.size_is,
      ap (λ (x : PoolState). x.chain) moves.after ∙ b.chain_is,
      ap (λ (x : PoolState). x.per) moves.after ∙ b.per_is,
    )
