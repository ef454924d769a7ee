-- What the events of a compaction do where its actor is the only one.
use Rattle.std.proofs.Common.{◌≡◌, ◌+◌, ◌-◌, ◌*◌, ◌≤◌, ◌<◌, ◌∷◌, ◌++◌, ◌∙◌, ◌==◌, ◌⊎◌, ℕ, zero, suc, Bool, true, false, cond, eqb, unwrap_or, List, [], length, sum_by, Option, Some, None, slice_get, slice_set, refl, sym, ap, subst, arith, inl, inr, ⊎_elim, Contains}
use Rattle.call_history.specs.Alone.{MoveNoneOver, moves_over, tight_over}
use Rattle.call_history.specs.Parts.{left_by}
use Rattle.call_history.specs.declared.part.Done.{Done}
use Rattle.call_history.specs.declared.part.Part.{Part}
use Rattle.call_history.specs.declared.part.PartEnd.TheVariants.{Whole}
use Rattle.class_pool.specs.Compaction.{IsNothingOut, MayMove}
use Rattle.class_pool.specs.Pool.{PoolState, objects, used_cells}
use Rattle.joint_rule.proofs.Calm.{still_push, moves_push, no_compaction, same_total, IsSwept}
use Rattle.joint_rule.proofs.Classes.{stands_between, stands_high, strange, strange_none}
use Rattle.joint_rule.proofs.Events.{IsStuck}
use Rattle.joint_rule.proofs.Facts.{Known}
use Rattle.joint_rule.proofs.Gifts.{all, none_pin, stage}
use Rattle.joint_rule.proofs.Balances.{none_fresh, shift_stored}
use Rattle.joint_rule.proofs.Pools.{Shifts, ones, sum_zero}
use Rattle.joint_rule.proofs.Sums.{get_set, gone, held_nothing, locals_le, row_le, row_none, row_nothing, total_mono, total_up_over}
use Rattle.joint_rule.proofs.Zspages.{each_used, empty_none, none_tight, tight_none, used_sum}
use Rattle.joint_rule.specs.Alone.{IsCalm, Sweeps, Within, below, compacting, is_calm, reached, spare}
use Rattle.joint_rule.specs.Begins.{Begin, form_at, image}
use Rattle.joint_rule.specs.Joint.{AtHome, Joint, Sound}
use Rattle.joint_rule.specs.Stages.{Stage}
use Rattle.joint_rule.specs.Weights.{HeldAll, Weigh, cell_weight, claims, each_one, fresh_claim, loose_pools, none, nothing, out_weight, outs, pinned, stored, used_each}
use Rattle.lock_row.specs.Totals.{held_sum, locals_sum, mass, total}
use Rattle.lock_row.specs.declared.names.At.TheVariants.{Moving, Shrinking, Sweeping}
use Rattle.lock_row.specs.declared.names.Compaction.{Compaction}
use Rattle.lock_row.specs.declared.names.LockNo.{LockNo}
use Rattle.lock_row.specs.declared.names.State.{State}
use Rattle.mem_account.specs.Counters.{Counters}
use Rattle.page_steps.specs.Compactions.{MovesOne, budget_in, moved_at, with_frames, with_move, with_next}
use Rattle.page_steps.specs.Steps.{DiskHeld, Here, entry_in, on, piece_over, spot}
use Rattle.plain_disk.specs.Compactions.{MovesNone, loose, moves_by}
use Rattle.size_class.specs.Classes.{stands_below, stands_of}
use Rattle.std.proofs.lemmas.Bool.{cases_eq, cases_lt, eqb-false, eqb-true, le-ltb, lt-ltb, ne_eqb}
use Rattle.std.proofs.lemmas.List.{length-map}
use Rattle.std.proofs.lemmas.List.Sums.{sum_by-cons}
use Rattle.zspage.specs.Cells.{UsedCell}
use Rattle.zr_base.specs.declared.op.Op.{Op}
use Rattle.zr_base.specs.declared.op.Op.TheVariants.{Compact, Discard, Idle, Read, Write, Writeback}
use Rattle.lock_row.specs.declared.names.LockNo.TheVariants as lock
use Rattle.lock_row.specs.declared.names.Held.TheVariants as holds
use Rattle.zr_base.specs.declared.op.OpEnd.TheVariants as ends

-- ---- small facts

part_le : (f : UsedCell → ℕ) (us : List UsedCell) (u : UsedCell) → Contains us u
    → f u ≤ sum_by f us
part_le f [] u (k, low, at) = absurd (omega arith)
part_le f (x ∷ us) u (zero, low, at) =
    let a = sum_by-cons f x us in let e : f x ≡ f u = ap f at in omega arith
part_le f (x ∷ us) u (suc k, low, at) =
    let a = sum_by-cons f x us in let r = part_le f us u (k, omega arith, at) in omega arith

not_out : (b : Bool) → cond {A = ℕ} b 1 0 ≡ 0 → b ≡ false
not_out true e = absurd (omega arith)
not_out false e = refl

same_pool : (q r : PoolState) → (let y : Option DiskHeld = Some (holds.Class q) in y)
    ≡ Some (holds.Class r) → q ≡ r
same_pool q r e = cc

-- a budget that comes from a pool is enough for it
budget_most : (b : Option ℕ) (q : PoolState) (n len : ℕ) → Within b q → MayMove q n → n ≤ len
    → n ≤ unwrap_or b len
budget_most None q n len h may le = le
budget_most (Some c) q n len h may le = h n may

none_left : (q : PoolState) (n : ℕ) → n ≤ 0 → MayMove q n → MayMove q 0
none_left q n le may = let e : n ≡ 0 = omega arith in subst (MayMove q) e may

-- what a compaction leaves that is over
compact_push : (op : Op) (a b n objects : ℕ) → op ≡ Compact
    → n ≤ objects → a ≤ objects → moves_by op (ends.Compacted a b) n ≤ objects
compact_push (Write start count stuff) a b n objects e x y = absurd (cc)
compact_push (Read start count) a b n objects e x y = absurd (cc)
compact_push (Discard start count) a b n objects e x y = absurd (cc)
compact_push (Idle age) a b n objects e x y = absurd (cc)
compact_push (Writeback mode) a b n objects e x y = absurd (cc)
compact_push Compact a b n objects e x y = omega arith

-- ---- objects of the classes below one

below_one : (c d : ℕ) → d < c → (h : ℕ) (b : List ℕ) → below c d h b ≡ 1
below_one c d lt h b = ap (λ (t : Bool). cond {A = ℕ} t 1 0) (lt-ltb d c lt)

below_none : (c d : ℕ) → c ≤ d → (h : ℕ) (b : List ℕ) → below c d h b ≡ 0
below_none c d le h b = ap (λ (t : Bool). cond {A = ℕ} t 1 0) (le-ltb d c le)

below_up : (c c' d : ℕ) → c ≤ c' → (h : ℕ) (b : List ℕ) → below c d h b ≤ below c' d h b
below_up c c' d le h b = elim (cases_lt d c) [
  | inl low ↦ let x = below_one c d low h b in let y = below_one c' d (omega arith) h b in
      omega arith
  | inr high ↦ let x = below_none c d high h b in omega arith
]

below_most : (c d : ℕ) (h : ℕ) (b : List ℕ) → below c d h b ≤ 1
below_most c d h b = elim (cases_lt d c) [
  | inl low ↦ let x = below_one c d low h b in omega arith
  | inr high ↦ let x = below_none c d high h b in omega arith
]

cells_up : (f h : UsedCell → ℕ) → ((u : UsedCell) → f u ≤ h u) → (us : List UsedCell)
    → sum_by f us ≤ sum_by h us
cells_up f h e [] = omega arith
cells_up f h e (u ∷ us) =
    let a = sum_by-cons f u us in let b = sum_by-cons h u us in let c = e u in
    let r = cells_up f h e us in omega arith

stored_up : (f h : Weigh) → ((c i : ℕ) (b : List ℕ) → f c i b ≤ h c i b)
    → (k : ℕ) (v : DiskHeld) → stored f k v ≤ stored h k v
stored_up f h e k (holds.Slot x) = omega arith
stored_up f h e k (holds.Class p) =
    cells_up (cell_weight (f p.class)) (cell_weight (h p.class))
    (λ u. e p.class u.handle u.bytes) (used_cells p.zspages)
stored_up f h e k (holds.Account x) = omega arith
stored_up f h e k (holds.Blocks x) = omega arith
stored_up f h e k (holds.Device x) = omega arith

module _ (g : Begin) (ok : Known g) (w : State DiskHeld) (j : Joint g w) (a : ℕ) (l : Here)
    (who : slice_get w.locals a ≡ Some l) (only : w.locals ≡ l ∷ []) (o : IsSwept g w l)
    (p : Part) (rest : List Part) (todo : l.todo ≡ p ∷ rest) (x : Compaction) where
  abbrev n : ℕ
  n = g.given.size

  any_held : (b : ℕ) (m : Here) → slice_get w.locals b ≡ Some m → HeldAll n (Sound g) m.held
  any_held b m e = (j.each.in_local b m e).sound

  any_home : (k : ℕ) (v : DiskHeld) → slice_get w.row k ≡ Some (Some v) → Sound g k v
  any_home k v e = (j.each.in_row k v e).sound

  -- more weights weigh more
  objects_up : (f h : Weigh) → ((c i : ℕ) (b : List ℕ) → f c i b ≤ h c i b)
      → total (spot n) (stored f) none w ≤ total (spot n) (stored h) none w
  objects_up f h e = total_mono n (Sound g) (stored f) (stored h) (λ k v s. stored_up f h e k v) w
      any_home any_held

  -- ---- a class in hand

  module _ (q : PoolState) (at : l.at ≡ Moving x)
      (held : l.held ≡ (lock.Class x.class, holds.Class q) ∷ []) where
    st : Stage g p (entry_in []) (Moving x) l.fresh l.pin l.owed l.ahead l.behind l.page l.fail
    st = stage g ok w j a l who p rest todo _ (Moving x) held at

    sound : Sound g (n + x.class) (holds.Class q)
    sound = (all g ok w j a l who p rest todo _ (Moving x) held at).0

    class_is : q.class ≡ x.class
    class_is = let s = sound.0 in omega arith

    s : Sweeps g w l x
    s = o.sweeps x (λ i. compacting (todo i) (at i))

    was_calm : IsCalm g w l.done
    was_calm = o.calm (λ i. is_calm (todo i) (at i))

    -- what the actor holds weighs as the pool
    in_hand : (f : ℕ → DiskHeld → ℕ) → mass (spot n) f none l ≡ f (n + x.class) (holds.Class q)
    in_hand f = let r = ap (held_sum (spot n) f) held in omega arith

    -- no cell of the pool is out
    nothing_out : IsNothingOut q
    nothing_out u among =
        let f : ℕ → DiskHeld → ℕ = outs (λ y. 1) in
        let eq = j.pins (λ y. 1) in
        let mine = locals_le n (mass (spot n) f none) w.locals a l who in
        let hand = in_hand f in
        let r = row_nothing n w.row in
        let z = ap (locals_sum (mass (spot n) nothing (pinned (λ y. 1)))) only in
        let h = held_nothing n l.held in
        let y = none_pin (λ y. 1) l.pin st.pins in
        let le = part_le (out_weight (λ y. 1) q.class) (used_cells q.zspages) u among in
        not_out u.out (omega arith)

    -- as many objects as the class has
    count_is : (f : Weigh) → ((h : ℕ) (b : List ℕ) → f q.class h b ≡ 1)
        → length (objects q) ≡ stored f (n + x.class) (holds.Class q)
    count_is f e = length-map _ _
        ∙ sym (ones (used_cells q.zspages) (cell_weight (f q.class)) (λ u. e u.handle u.bytes))

    -- the budget is enough
    enough : (i : ℕ) → MayMove q i → i ≤ length (objects q) → i ≤ budget_in x q
    enough i may le = budget_most x.budget q i (length (objects q)) (s.hand q held) may le

    -- where it moves nothing the class is tight
    stuck_rests : IsStuck x q → MayMove q 0
    stuck_rests (inl none) =
        let y = ok.facts.some_may q sound.1.pool in
        let le = enough y.0 y.1 y.2 in none_left q y.0 (omega arith) y.1
    stuck_rests (inr none) = ok.facts.none_may q sound.1.pool none

    stuck_tight : IsStuck x q → loose q.per (used_each q.zspages) ≡ 0
    stuck_tight stuck = tight_none q
        (ok.facts.rest_least q sound.1.pool (stuck_rests stuck) nothing_out).1

    -- its place is empty
    no_second : (i : ℕ) (r : PoolState) → slice_get w.row (n + x.class) ≡ Some None
        → slice_get w.row i ≡ Some (Some (holds.Class r)) → r.class ≡ x.class → ⊥
    no_second i r there at e =
        let z = (any_home i (holds.Class r) at).0 in
        let same : n + x.class ≡ i = omega arith in
        let z2 : slice_get w.row i ≡ Some None =
        subst (λ (b : ℕ). slice_get w.row b ≡ Some None) same there in cc

    -- ---- an object moves

    module _ (q' : PoolState) (u u' : UsedCell) (budget frames : ℕ) (sh : Shifts q q' u u' frames)
        (some : budget_in x q ≡ suc budget) (d : MovesOne q q' frames)
        (there : slice_get w.row (n + x.class) ≡ Some None) where
      abbrev after : Here
      after = on l (moved_at frames (with_move x budget)) [] l.fresh l.pin frames l.ahead l.behind
          l.page l.fail

      abbrev next : State DiskHeld
      next = gone n w a l who (lock.Class x.class) (Some (holds.Class q')) after

      -- the class wasn't tight
      not_tight : tight_over g.tight l.done ≡ true → ⊥
      not_tight t =
          let z = was_calm.tight t in
          let mine = locals_le n (mass (spot n) loose_pools none) w.locals a l who in
          let hand = in_hand loose_pools in
          ok.facts.tight_rests q d.move.from d.move.to (none_tight q (omega arith)) d.plan

      same_objects : (f : Weigh) → total (spot n) (stored f) none next
          ≡ total (spot n) (stored f) none w
      same_objects f = same_total g ok w a l who o (lock.Class x.class) (holds.Class q') after there
          (stored f) (let r = in_hand (stored f) in let t = shift_stored q q' u u' frames sh f in
          omega arith)

      still_enough : (i : ℕ) → MayMove q' i → i ≤ budget
      still_enough i may =
          let y = ok.facts.some_may q sound.1.pool in
          let lt = ok.facts.fewer_may q q' d.move frames y.0 i d.plan d.moves y.1 may in
          let le = enough y.0 y.1 y.2 in omega arith

      -- the objects of the class are more than it moves
      room : (b : Option ℕ) → unwrap_or b (length (objects q)) ≡ suc budget
          → x.moves + spare b
          ≤ total (spot n) (stored (below (reached b x.class))) none w
          → x.moves + 1 + budget ≤ total (spot n) (stored (below (x.class + 1))) none w
      room (Some b) e le = omega arith
      room None e le =
          let f : Weigh = below x.class in let h : Weigh = below (x.class + 1) in
          let up = total_up_over n (Sound g) (stored f) (stored h) none none
          (λ k v t. stored_up f h (λ c. below_up x.class (x.class + 1) c (omega arith)) k v) w
          any_home (λ b m at. by_held m.held (any_held b m at)) a l who in
          let c = class_is in
          let low = in_hand (stored f) in
          let high = in_hand (stored h) in
          let zero_low = sum_zero (cell_weight (f q.class))
          (λ u. below_none x.class q.class (omega arith) u.handle u.bytes) (used_cells q.zspages) in
          let len = count_is h (λ i b. below_one (x.class + 1) q.class (omega arith) i b) in
          omega arith
        where
          by_held : (xs : List (LockNo × DiskHeld)) → HeldAll n (Sound g) xs
              → held_sum (spot n) (stored (below x.class)) xs + 0
              ≤ held_sum (spot n) (stored (below (x.class + 1))) xs + 0
          by_held [] t = omega arith
          by_held (y ∷ ys) t =
              let r = by_held ys t.1 in
              let z = stored_up (below x.class) (below (x.class + 1))
              (λ c. below_up x.class (x.class + 1) c (omega arith)) (spot n y.0) y.1 in
              omega arith

      moves_on : (y : Compaction) → y ≡ with_move x budget → Sweeps g next after y
      moves_on y is = subst (Sweeps g next after) (sym is) (record {
        tight = λ k r at lt. ⊎_elim
            (λ t. absurd (
            let c = class_is in let c' = sh.alike.class in
            let c'' = ap (λ (i : PoolState). i.class) (same_pool q' r t.1) in
            let no : ⊥ = omega arith in no))
            (λ t. s.tight k r t.1 lt)
            (get_set w.row (n + x.class) k (Some (holds.Class q')) (Some (holds.Class r)) None there
            at);
        still = λ t. absurd (not_tight t);
        moves = let e = same_objects (below (x.class + 1)) in
            let r = room x.budget some s.moves in omega arith;
        home = λ r at i may. ⊎_elim
            (λ t. still_enough i (subst (λ (b : PoolState). MayMove b i) (sym (same_pool q' r t.1))
            may))
            (λ t. absurd (t.0 refl))
            (get_set w.row (n + x.class) (n + x.class) (Some (holds.Class q'))
            (Some (holds.Class r)) None there at);
        hand = λ r e. absurd (cc);
      })

      stage_is : (i : ℕ) (y : Compaction) → compacting (p ∷ rest) (moved_at i y) ≡ Some y
      stage_is zero y = refl
      stage_is (suc i) y = refl

      pub only_moves : IsSwept g next after
      only_moves = record {
        still = o.still;
        calm = λ c. record {
          tight = λ t. absurd (not_tight t);
          few = let e = same_objects each_one in let z = was_calm.few in omega arith;
        };
        sweeps = λ y e. moves_on y (
            let r : compacting l.todo (moved_at frames (with_move x budget))
            ≡ Some (with_move x budget) = ap (λ (ps : List Part).
            compacting ps (moved_at frames (with_move x budget))) todo
            ∙ stage_is frames (with_move x budget) in
            let z : Some y ≡ Some (with_move x budget) = sym e ∙ r in cc);
      }

    -- ---- nothing moves

    module _ (stuck : IsStuck x q) (there : slice_get w.row (n + x.class) ≡ Some None) (m : Here)
      where
        abbrev left : State DiskHeld
        left = gone n w a l who (lock.Class x.class) (Some (holds.Class q)) m

        same_left : m.held ≡ [] → (f : ℕ → DiskHeld → ℕ)
            → total (spot n) f none left ≡ total (spot n) f none w
        same_left e f = same_total g ok w a l who o (lock.Class x.class) (holds.Class q) m there f
            (let r = in_hand f in let t = ap (held_sum (spot n) f) e in omega arith)

        -- the classes up to this one are tight
        up_to : (k : ℕ) (r : PoolState) → slice_get left.row k ≡ Some (Some (holds.Class r))
            → (loose r.per (used_each r.zspages) ≡ 0)
            ⊎ ((x.class < r.class) × (slice_get w.row k ≡ Some (Some (holds.Class r))))
        up_to k r at = ⊎_elim
            (λ t. inl (subst (λ (b : PoolState). loose b.per (used_each b.zspages) ≡ 0)
            (same_pool q r t.1) (stuck_tight stuck)))
            (λ t. elim (cases_lt r.class x.class) [
              | inl low ↦ inl (s.tight k r t.1 low)
              | inr high ↦ inr (
                elim (cases_eq r.class x.class) [
                  | inl same ↦ absurd (no_second k r there t.1 same)
                  | inr other ↦ (let lt : x.class < r.class = omega arith in lt)
                ],
                t.1,
              )
            ])
            (get_set w.row (n + x.class) k (Some (holds.Class q)) (Some (holds.Class r)) None there at)

        -- ---- another class is left

        module _ (other : (x.class == 254) ≡ false) where
          abbrev d : ℕ
          d = 254 - (x.class + 1)

          few : x.class + 1 ≤ 254
          few = let c = st.compacts.class in let z = eqb-false x.class 254 other in
              elim (cases_eq x.class 254) [ inl e ↦ absurd (z e) | inr e ↦ omega arith ]

          up : x.class + 1 ≤ stands_below g.chain d
          up = let r = stands_high g.chain d (omega arith) in let z = few in omega arith

          -- no object is of a class that doesn't stand for itself
          none_strange : total (spot n) (stored (strange g.chain)) none w ≡ 0
          none_strange =
              let f : Weigh = strange g.chain in
              let z = row_none (claims g f) w.row (λ k v e. by_value k v (j.each.in_row k v e)) in
              let r = ap (held_sum (spot n) (claims g f)) held in
              let y = none_fresh f l.fresh st.made in
              let t = ap (locals_sum (mass (spot n) (claims g f) (fresh_claim f))) only in
              let eq = j.owners f in omega arith
            where
              by_value : (k : ℕ) (v : DiskHeld) → AtHome g k v → claims g (strange g.chain) k v ≡ 0
              by_value k (holds.Slot e) h = strange_none g.chain (form_at g k e.order) e.kept
                  (image g k e.order) h.stands
              by_value k (holds.Class i) h = refl
              by_value k (holds.Account i) h = refl
              by_value k (holds.Blocks i) h = refl
              by_value k (holds.Device i) h = refl

          -- so a class between two that do is empty, and tight
          between : (k : ℕ) (r : PoolState) → slice_get w.row k ≡ Some (Some (holds.Class r))
              → x.class < r.class → r.class < stands_below g.chain d
              → loose r.per (used_each r.zspages) ≡ 0
          between k r at high low =
              let z = few in
              let is = stands_between g.chain d r.class (omega arith) (omega arith) low in
              let ne : eqb (stands_of g.chain r.class) r.class ≡ false =
              ne_eqb (stands_of g.chain r.class) r.class (λ e. let no : ⊥ = omega arith in no) in
              let f : Weigh = strange g.chain in
              let one : (u : UsedCell) → cell_weight (f r.class) u ≡ 1 =
              λ u. ap (λ (t : Bool). cond {A = ℕ} t 0 1) ne in
              let le = row_le n (stored f) w.row k (Some (holds.Class r)) at in
              let none_here = none_strange in
              let sum = used_sum (cell_weight (f r.class)) one r.zspages in
              let pool = (any_home k (holds.Class r) at).1.pool in
              empty_none r.per (used_each r.zspages)
              (each_used r.per r.zspages pool.filled pool.whole) (omega arith)

          abbrev onward : Compaction
          onward = with_next g.chain x

          room_up : (b : Option ℕ) → x.moves + spare b
              ≤ total (spot n) (stored (below (reached b x.class))) none w
              → x.moves ≤ total (spot n) (stored (below (stands_below g.chain d))) none w
          room_up None le =
              let r = objects_up (below x.class) (below (stands_below g.chain d))
              (λ c. below_up x.class (stands_below g.chain d) c
              (let z = up in omega arith)) in omega arith
          room_up (Some b) le =
              let r = objects_up (below (x.class + 1)) (below (stands_below g.chain d))
              (λ c. below_up (x.class + 1) (stands_below g.chain d) c up) in omega arith

          goes_up : m ≡ on l (Sweeping onward) [] l.fresh l.pin l.owed l.ahead l.behind l.page l.fail
              → Sweeps g left m onward
          goes_up m_is = record {
            tight = λ k r at lt. ⊎_elim (λ t. t) (λ t. between k r t.1 t.0 lt) (up_to k r at);
            still = λ t. s.still (sym (ap (λ (y : Here). tight_over g.tight y.done) m_is) ∙ t);
            moves = let r = same_left (ap (λ (y : Here). y.held) m_is)
                (stored (below (stands_below g.chain d))) in
                let z = room_up x.budget s.moves in omega arith;
            home = λ r e. tt;
            hand = λ r e. tt;
          }

          pub only_sweeps : m ≡ on l (Sweeping onward) [] l.fresh l.pin l.owed l.ahead l.behind
              l.page l.fail → IsSwept g left m
          only_sweeps m_is = record {
            still = subst (λ (y : Here). MoveNoneOver g.tight y.done) (sym m_is) o.still;
            calm = λ c. subst (λ (y : Here). IsCalm g left y.done) (sym m_is) (record {
              tight = λ t. same_left (ap (λ (y : Here). y.held) m_is) loose_pools
                  ∙ was_calm.tight t;
              few = let r = same_left (ap (λ (y : Here). y.held) m_is) (stored each_one) in
                  let z = was_calm.few in omega arith;
            });
            sweeps = λ y e.
                let r : compacting m.todo m.at ≡ Some onward =
                ap (λ (i : Here). compacting i.todo i.at) m_is
                ∙ ap (λ (ps : List Part). compacting ps (Sweeping onward)) todo in
                let z : Some onward ≡ Some y = sym r ∙ e in
                let is : onward ≡ y = cc in subst (Sweeps g left m) is (goes_up m_is);
          }

        -- ---- it was the last

        module _ (last : (x.class == 254) ≡ true) (alone : slice_set w.locals a m ≡ m ∷ [])
            (m_is : m ≡ piece_over l p (Whole (ends.Compacted x.moves x.frames)) [] rest) where
          abbrev done : Done
          done = record { part = p; end = Whole (ends.Compacted x.moves x.frames); got = [] }

          held_none : m.held ≡ []
          held_none = ap (λ (y : Here). y.held) m_is

          place_tight : (k : ℕ) (v : DiskHeld) → slice_get left.row k ≡ Some (Some v)
              → loose_pools k v ≡ 0
          place_tight k (holds.Slot e) at = refl
          place_tight k (holds.Class r) at = ⊎_elim (λ t. t)
              (λ t. absurd (let c = (any_home k (holds.Class r) t.1).1.class in
              let e = eqb-true x.class 254 last in let lt = t.0 in let no : ⊥ = omega arith in no))
              (up_to k r at)
          place_tight k (holds.Account c) at = refl
          place_tight k (holds.Blocks c) at = refl
          place_tight k (holds.Device c) at = refl

          all_tight : total (spot n) loose_pools none left ≡ 0
          all_tight =
              let r = row_none loose_pools left.row place_tight in
              let t = ap (locals_sum (mass (spot n) loose_pools none)) alone in
              let z = ap (held_sum (spot n) loose_pools) held_none in omega arith

          room_all : (b : Option ℕ) → x.moves + spare b
              ≤ total (spot n) (stored (below (reached b x.class))) none w
              → x.moves ≤ total (spot n) (stored each_one) none w
          room_all b le = let r = objects_up (below (reached b x.class)) each_one
              (λ c. below_most (reached b x.class) c) in omega arith

          few_moves : moves_over 0 (l.done ++ done ∷ [])
              ≤ total (spot n) (stored each_one) none left
          few_moves =
              let e = moves_push 0 l.done done in
              let r = same_left held_none (stored each_one) in
              let z = compact_push p.op x.moves x.frames (moves_over 0 l.done)
              (total (spot n) (stored each_one) none w) st.begun was_calm.few
              (room_all x.budget s.moves) in omega arith

          still_end : tight_over g.tight l.done ≡ true → MovesNone (ends.Compacted x.moves x.frames)
          still_end t =
              let none_moved = s.still t in
              let f = st.compacts.frames in
              let z : g.chain * x.moves ≡ 0 = ap (λ (i : ℕ). g.chain * i) none_moved ∙ omega arith in
              (none_moved, (let e : x.frames ≡ 0 = omega arith in e))

          pub only_closes : IsSwept g left m
          only_closes = record {
            still = subst (λ (y : Here). MoveNoneOver g.tight y.done) (sym m_is)
                (still_push g.tight l.done done o.still still_end);
            calm = λ c. subst (λ (y : Here). IsCalm g left y.done) (sym m_is)
                (record { tight = λ t. all_tight; few = few_moves });
            sweeps = λ y e. absurd (
                let q : compacting m.todo m.at ≡ None = ap (λ (i : Here). compacting i.todo i.at) m_is
                ∙ no_compaction (left_by (Whole (ends.Compacted x.moves x.frames)) p.nr rest) in cc);
          }

  -- ---- frames are given back

  module _ (c c' : Counters) (at : l.at ≡ Shrinking x)
      (held : l.held ≡ (lock.Account, holds.Account c) ∷ [])
      (there : slice_get w.row (n + 255) ≡ Some None) (owed : ℕ) where
    abbrev paid : Here
    paid = on l (Sweeping (with_frames x owed)) [] l.fresh l.pin 0 l.ahead l.behind l.page l.fail

    abbrev settled : State DiskHeld
    settled = gone n w a l who lock.Account (Some (holds.Account c')) paid

    so : Sweeps g w l x
    so = o.sweeps x (λ i. compacting (todo i) (at i))

    calm_before : IsCalm g w l.done
    calm_before = o.calm (λ i. is_calm (todo i) (at i))

    same_settled : (f : ℕ → DiskHeld → ℕ) → ((k : ℕ) (y : Counters) → f k (holds.Account y) ≡ 0)
        → total (spot n) f none settled ≡ total (spot n) f none w
    same_settled f none_there = same_total g ok w a l who o lock.Account (holds.Account c') paid
        there f (let r = ap (held_sum (spot n) f) held in let z = none_there (n + 255) c in
        let z' = none_there (n + 255) c' in omega arith)

    was_there : (k : ℕ) (r : PoolState) → slice_get settled.row k ≡ Some (Some (holds.Class r))
        → slice_get w.row k ≡ Some (Some (holds.Class r))
    was_there k r e = ⊎_elim (λ t. absurd (let z = t.1 in cc)) (λ t. t.1)
        (get_set w.row (n + 255) k (Some (holds.Account c')) (Some (holds.Class r)) None there e)

    goes_back : Sweeps g settled paid (with_frames x owed)
    goes_back = record {
      tight = λ k r e lt. so.tight k r (was_there k r e) lt;
      still = so.still;
      moves = let r = same_settled (stored (below (reached x.budget x.class))) (λ k y. refl) in
          let z = so.moves in omega arith;
      home = λ r e. so.home r (was_there (n + x.class) r e);
      hand = λ r e. absurd (cc);
    }

    pub only_shrinks : IsSwept g settled paid
    only_shrinks = record {
      still = o.still;
      calm = λ e. record {
        tight = λ t. same_settled loose_pools (λ k y. refl) ∙ calm_before.tight t;
        few = let r = same_settled (stored each_one) (λ k y. refl) in let z = calm_before.few in
            omega arith;
      };
      sweeps = λ y e.
          let r = ap (λ (ps : List Part). compacting ps (Sweeping (with_frames x owed))) todo in
          let z : Some (with_frames x owed) ≡ Some y = sym r ∙ e in
          let is : with_frames x owed ≡ y = cc in subst (Sweeps g settled paid) is goes_back;
    }
