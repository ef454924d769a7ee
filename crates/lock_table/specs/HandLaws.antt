-- Why the hand of a table has the laws of hands. A law's proof cites no lemma outside of specs/.
use Rattle.std.proofs.Common.{◌≡◌, List, Option, Some, None, slice_get, sym, ap, ◌∙◌, subst}
use Rattle.lock_row.specs.declared.names.LockNo.{LockNo}
use Rattle.lock_row.specs.declared.names.Local.{Local}
use Rattle.lock_row.specs.Rules.{RowRule}
use Rattle.lock_table.specs.Sittings.{Ground, Sitting}
use Rattle.lock_table.specs.Hands.{HasLock, MayFind, moved, Takes, Misses, MayGive}

module _ {V : Type 0} (r : RowRule V) (h after : Sitting V) (k : LockNo) where
  -- what it has is out
  pub has_out : (x : Option V) → HasLock h k → MayFind r h k x → x ≡ None
  has_out x has f = let q : Some x ≡ Some None = sym f.cell
      ∙ f.reached.apart.out h.actor has.0 h.local (k, has.1) f.at has.2 in cc

  -- a missed lock leaves what it has
  pub missed_has : (m : LockNo) → Misses r h k after → HasLock h m → HasLock after m
  missed_has m miss has = subst (λ (g : Sitting V). HasLock g m) (sym miss.same) has

  pub missed_local : Misses r h k after → Some after.local ≡ Some h.local
  missed_local miss = ap (λ (g : Sitting V). Some g.local) miss.same

  module _ (next : Local V → V → Local V) (v : V) where
    -- what was taken it has
    pub took_has : Takes r h k next v after → HasLock after k
    took_has t = (
      0,
      v,
      ap (λ (g : Sitting V). slice_get g.local.held 0) t.moves
          ∙ ap (λ (xs : List (LockNo × V)). slice_get xs 0) t.has,
    )

    -- it gives what it has
    pub gives_has : (g : Ground) → MayGive r g h k next v → HasLock h k
    gives_has g may = let n = r.give_notes h.local k v (next h.local v) may.plan may.works in
        (0, n.last, ap (λ (xs : List (LockNo × V)). slice_get xs 0) n.held)

    -- the local that was named stands after an event
    pub moved_local : (l : Local V) → after ≡ moved r h k next v → Some h.local ≡ Some l
        → Some after.local ≡ Some (next l v)
    moved_local l moves e = let q : h.local ≡ l = cc in
        ap (λ (g : Sitting V). Some g.local) moves ∙ ap (λ (m : Local V). Some (next m v)) q
