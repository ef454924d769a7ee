-- Each step on a lock's word keeps the rule of the table.
use Rattle.std.proofs.Common.{◌≡◌, ◌≢◌, ℕ, zero, suc, ◌+◌, ◌<◌, eqb, List, [], ◌∷◌, slice_index, set, Option, Some, None, slice_get, slice_set, sym, refl, ap, ◌∙◌, subst, inl, inr, arith, length-set, get_or-set_same, get_or-set_other, eq-eqb, ne_eqb}
use Rattle.std.proofs.lemmas.List.{set-get_or}
use Rattle.std.proofs.lemmas.Option.{slice_get_within}
use mathlib.Core.Logic.{dite}
use mathlib.Core.Option as maybe
use mathlib.Core.Option.{none, some, some-injective, some-ne-none}
use native.Mathlib.Decide.{ℕ_discrete}
use lib.ListN.{get_elem?}
use prog.Atomic.{either}
use Rattle.atomic_table.specs.Table.{keeps, takes, gives, step, stepped, Allows}
use Rattle.zr_base.specs.declared.op.Tag.{Tag}
use Rattle.lock_row.specs.declared.names.LockNo.{LockNo}
use Rattle.lock_row.specs.declared.names.Local.{Local}
use Rattle.lock_row.specs.declared.names.Plan.TheVariants.{Take, Give}
use Rattle.lock_row.specs.declared.names.State.{State}
use Rattle.lock_row.specs.Rules.{RowRule}
use Rattle.lock_table.specs.declared.view.View.{View}
use Rattle.lock_table.specs.declared.view.View.TheVariants.{Closed, Open}
use Rattle.lock_table.specs.declared.view.Seated.{Seated}
use Rattle.lock_table.specs.Phases.{Begins, IsReached, Holds, IsAt, Finds}
use Rattle.lock_table.specs.Tables.{Table, IsPlace, free, out, Stands, Knows, IsOpen, IsTable}
use Rattle.lock_table.specs.Plays.{alone, tried, gave}
use Rattle.lock_table.proofs.Lists.{get_here, get_else, set_here, set_else, set_again}
use Rattle.lock_table.specs.Laws.{Laws}
use Rattle.lock_table.proofs.Events.{reached_taken, reached_given}
use Rattle.lock_table.proofs.Moves.{Moves, take_moves, give_moves, begin_on, begin_more, begins_itself, held_one, home_one, all_know}

module _ {V : Type 0} (r : RowRule V) where
  closed_at : (id : ℕ) (start : State V) (xs : List (Seated V))
      → get_elem? (Closed ∷ []) id ≡ some (Open start xs) → ⊥
  closed_at zero start xs e = let same : Closed ≡ Open start xs = some-injective Closed
      (Open start xs) e in absurd (cc)
  closed_at (suc id) start xs e = some-ne-none (Open start xs) (sym e)

  -- a table with an open view is open
  pub opened : (values : List (Option V)) (s : Table V) (id : ℕ) (start : State V)
      (xs : List (Seated V)) → IsTable r values s → get_elem? s.views id ≡ some (Open start xs)
      → IsOpen r s
  opened values s id start xs (inl h) at =
      absurd (closed_at id start xs
      (subst (λ (vs : List (View V)). get_elem? vs id ≡ some (Open start xs)) h.views at))
  opened values s id start xs (inr h) at = h

  is_free : (s : Table V) (w : State V) (k : ℕ) → IsPlace r s.words s.homes w k
      → slice_index s.words k ≡ 0 → (v : V) × (get_elem? s.homes k ≡ some (some (Some v)))
      × (slice_get w.row k ≡ Some (Some v))
  is_free s w k (free v z h c) e = (v, h, c)
  is_free s w k (out a z h c b) e = absurd (omega arith)

  is_held : (s : Table V) (w : State V) (k : ℕ) → IsPlace r s.words s.homes w k
      → slice_index s.words k ≢ 0 → (a : ℕ) × (slice_get w.row k ≡ Some None) × Holds r w a k
  is_held s w k (free v z h c) ne = absurd (ne z)
  is_held s w k (out a z h c b) ne = (a, c, b)

  -- the table after an event of the actor that the seat id stands for
  module _ (s : Table V) (o : IsOpen r s) (id a n : ℕ) (m : Local V) (k : LockNo)
      (house : maybe.Option (Option V)) (cell : Option V) (view : View V) where
    abbrev P : ℕ
    P = r.spot k

    abbrev next : State V
    next = record { row = slice_set o.now.row P cell; locals = slice_set o.now.locals a m }

    abbrev table : Table V
    table = record {
      words = set s.words P n;
      homes = set s.homes P house;
      views =
          set s.views id view;
    }

    place_else : Moves r o.now next a P m → (j : ℕ) → j ≢ P → IsPlace r s.words s.homes o.now j
        → IsPlace r (set s.words P n) (set s.homes P house) next j
    place_else moves j ne (free v z h c) = free v (get_or-set_other s.words P j n 0 ne ∙ z)
        (set_else s.homes P j house ne ∙ h) (get_else o.now.row P j cell ne ∙ c)
    place_else moves j ne (out b z h c x) = out b (get_or-set_other s.words P j n 0 ne ∙ z)
        (set_else s.homes P j house ne ∙ h) (get_else o.now.row P j cell ne ∙ c)
        (moves.holds b j ne x)

    stays_open : IsReached r o.start next → Moves r o.now next a P m → o.owner a ≡ id
        → IsPlace r (set s.words P n) (set s.homes P house) next P
        → Knows r o.start next o.owner id view → IsOpen r table
    stays_open reached moves own here knows = record {
      start = o.start;
      now = next;
      owner = o.owner;
      reached = reached;
      wide = length-set s.words P n ∙ o.wide ∙ sym (length-set o.now.row P cell);
      deep = length-set s.homes P house ∙ o.deep ∙ sym (length-set o.now.row P cell);
      each_place = λ j below. dite (ℕ_discrete j P)
          (λ same. subst (IsPlace r (set s.words P n) (set s.homes P house) next) (sym same) here)
          (λ ne. place_else moves j ne
          (o.each_place j (let q = length-set o.now.row P cell in omega arith)));
      each_seat = all_know r o.now next a P m moves o.start o.owner id s.views view own knows
          o.each_seat;
    }

  module _ (laws : Laws V) (start : State V) (a : ℕ) (l : Local V) (seen : List (ℕ × List Tag))
      (k : LockNo) (s : Table V) (o : IsOpen r s) (id : ℕ) (same : start ≡ o.start)
      (h : Stands r o.now o.owner id (record { actor = a; local = l; seen = seen })) where
    abbrev Q : ℕ
    Q = r.spot k

    after_take : (l' : Local V) (v : V) (carried : List (ℕ × Option V)) → r.plan l ≡ Take k
        → l' ≡ r.took l v → slice_get o.now.row Q ≡ Some (Some v)
        → IsOpen r (stepped s Q (a + 1) id carried (alone start a l' ((Q, r.order v) ∷ seen))
        (takes Q (Some v)))
    after_take l' v carried plan named there =
        let next : State V =
        record { row = slice_set o.now.row Q None; locals = slice_set o.now.locals a l' } in
        let within = slice_get_within o.now.row Q (Some v) there in
        let reached : IsReached r o.start next =
        subst (λ (m : Local V). IsReached r o.start
        (record { row = slice_set o.now.row Q None; locals = slice_set o.now.locals a m }))
        (sym named)
        (reached_taken r laws o.start o.now o.reached a l k h.at v plan there) in
        let has : l'.held ≡ (k, v) ∷ l.held = ap (λ (m : Local V). m.held) named
        ∙ r.take_holds l k v plan in
        let moves = take_moves r o.now a l l' k v h.at there has in
        let mine : slice_get l'.held 0 ≡ Some (k, v) =
        ap (λ (ys : List (LockNo × V)). slice_get ys 0) has in
        let gone : slice_get next.row Q ≡ Some None = get_here o.now.row Q None (Some v) there in
        let new : (u : V) → IsAt r next Q u → Begins (r.order v) (r.order u) = λ u at.
        subst (λ (z : V). Begins (r.order v) (r.order z))
        (sym (held_one r next a l' k v reached.apart moves.mine mine gone u at))
        (begins_itself (r.order v)) in
        let sees = begin_more r next Q (r.order v) seen new
        (begin_on r o.now next a Q l' moves seen h.seen) in
        stays_open s o id a (a + 1) l' k none None (alone start a l' ((Q, r.order v) ∷ seen))
        reached moves h.own
        (out a (get_or-set_same s.words Q (a + 1) 0 (let q = o.wide in omega arith))
        (set_here s.homes Q none (let q = o.deep in omega arith)) gone
        (l', 0, (k, v), moves.mine, mine, refl))
        (same, (record { at = moves.mine; own = h.own; seen = sees }, tt, tt))

    after_give : (l' : Local V) (v : V) (carried : List (ℕ × Option V)) → r.plan l ≡ Give k
        → r.works l v l'
        → IsOpen r (stepped s Q 0 id ((Q, Some v) ∷ carried)
        (alone start a l' ((Q, r.order v) ∷ seen)) gives)
    after_give l' v carried plan work =
        let g = r.give_notes l k v l' plan work in
        let gone = o.reached.apart.out a 0 l (k, g.last) h.at
        (ap (λ (ys : List (LockNo × V)). slice_get ys 0) g.held) in
        let next : State V =
        record {
          row = slice_set o.now.row Q (Some v);
          locals =
              slice_set o.now.locals a l';
        } in
        let within = slice_get_within o.now.row Q None gone in
        let reached = reached_given r laws o.start o.now o.reached a l k h.at v l' plan gone
        work in
        let moves = give_moves r o.now a l l' k v h.at g.last gone g.held (g.tags, g.grown) in
        let back : slice_get next.row Q ≡ Some (Some v) = get_here o.now.row Q
        (Some v) None gone in
        let new : (u : V) → IsAt r next Q u → Begins (r.order v) (r.order u) = λ u at.
        subst (λ (z : V). Begins (r.order v) (r.order z))
        (sym (home_one r next (r.spot k) v reached.apart back u at))
        (begins_itself (r.order v)) in
        let sees = begin_more r next Q (r.order v) seen new
        (begin_on r o.now next a Q l' moves seen h.seen) in
        stays_open s o id a 0 l' k (some (Some v)) (Some v)
        (alone start a l' ((Q, r.order v) ∷ seen)) reached moves h.own
        (free v (get_or-set_same s.words Q 0 0 (let q = o.wide in omega arith))
        (set_here s.homes Q (some (Some v)) (let q = o.deep in omega arith)) back)
        (same, (record { at = moves.mine; own = h.own; seen = sees }, tt, tt))

  -- a step that changes nothing
  unchanged : (values : List (Option V)) (s : Table V) (id p n : ℕ) (view : View V)
      (carried : List (ℕ × Option V)) → IsTable r values s → get_elem? s.views id ≡ some view
      → slice_index s.words p ≡ n
      → IsTable r values (stepped s p n id carried view keeps)
  unchanged values s id p n view carried h seat is =
      let e : s.words ≡ set s.words p n =
      sym (ap (λ m. set s.words p m) (sym is) ∙ set-get_or s.words p 0) in
      let f : s.views ≡ set s.views id view = sym (set_again s.views id view seat) in
      subst (λ (q : List ℕ × List (View V)). IsTable r values
      (record { words = q.0; homes = s.homes; views = q.1 })) (λ i. (e i, f i)) h

  module _ (laws : Laws V) (values : List (Option V)) (slots id : ℕ) (start : State V) (a : ℕ)
      (l : Local V) (seen : List (ℕ × List Tag)) (k : LockNo) (next : Local V → V → Local V)
      (within : r.spot k < slots) where
    abbrev mine : View V
    mine = alone start a l seen

    module _ (s : Table V) (o : IsOpen r s) (seat : get_elem? s.views id ≡ some mine) where
      knows : (start ≡ o.start)
          × Stands r o.now o.owner id (record { actor = a; local = l; seen = seen })
      knows = let h = o.each_seat id mine seat in (h.0, h.1.0)

      abbrev finds : (x : Option V) → slice_get o.now.row (r.spot k) ≡ Some x
          → Finds r start a l seen (r.spot k) x
      finds x e = record {
        now = o.now;
        reached = subst (λ (u : State V). IsReached r u o.now)
            (sym knows.0) o.reached;
        at = knows.1.at;
        seen_begin = knows.1.seen;
        cell = e;
      }

    pub tries_allowed : (carried : List (ℕ × Option V)) → r.plan l ≡ Take k
        → ((v : V) → next l v ≡ r.took l v)
        → ((i : ℕ) (x : LockNo × V) → slice_get l.held i ≡ Some x → r.spot x.0 ≢ r.spot k)
        → Allows (IsTable r values) slots id (mine, carried) (r.spot k)
        (λ n. either (eqb n 0) (a + 1) n)
        (tried r next (step slots (r.spot k) 0 (a + 1) none) (mine, carried))
    tries_allowed carried plan named fresh s kept deep seat small =
        let p : ℕ = r.spot k in
        let o = opened values s id start _ kept seat in
        let h = knows s o seat in
        let place = o.each_place p (let q = o.deep in omega arith) in
        dite (ℕ_discrete (slice_index s.words p) 0)
        (λ zero_there.
        let f = is_free s o.now p place zero_there in
        let v = f.0 in
        let view = alone start a (next l v) ((p, r.order v) ∷ seen) in (
          view,
          takes p (Some v),
          f.1,
          inr (subst (λ b. IsOpen r
              (stepped s p (either b (a + 1) (slice_index s.words p)) id carried view
              (takes p (Some v)))) (sym (eq-eqb _ 0 zero_there))
              (after_take laws start a l seen k s o id h.0 h.1 (next l v) v carried plan
              (named v) f.2)),
          ((λ _. (v, refl, finds s o seat (Some v) f.2)), λ not. absurd (not zero_there)),
        ))
        (λ busy.
        let f = is_held s o.now p place busy in (
          mine,
          keeps,
          tt,
          subst (λ b. IsTable r values
              (stepped s p (either b (a + 1) (slice_index s.words p)) id carried mine keeps))
              (sym (ne_eqb _ 0 busy)) (unchanged values s id p _ mine carried kept seat refl),
          (
            (λ z. absurd (busy z)),
            λ _. (
              refl,
              record {
                found = finds s o seat None f.1;
                by = f.0;
                other = λ same. another s o seat fresh (subst (λ b. Holds r o.now b p) same f.2);
                holds = f.2;
              },
            ),
          ),
        ))
      where
        another : (s : Table V) (o : IsOpen r s) → get_elem? s.views id ≡ some mine
            → ((i : ℕ) (x : LockNo × V) → slice_get l.held i ≡ Some x → r.spot x.0 ≢ r.spot k)
            → Holds r o.now a (r.spot k) → ⊥
        another s o seat fresh (n, i, x, at, e, is) =
            let q : Some n ≡ Some l = sym at ∙ (knows s o seat).1.at in
            let z : n ≡ l = cc in
            fresh i x (subst (λ (m : Local V). slice_get m.held i ≡ Some x) z e) is

    pub gives_allowed : (carried : List (ℕ × Option V)) (v : V) → r.plan l ≡ Give k
        → r.works l v (next l v)
        → Allows (IsTable r values) slots id (mine, (r.spot k, Some v) ∷ carried) (r.spot k)
        (λ _. 0) (λ _. gave r next (step slots (r.spot k) 0 0 none)
        (mine, (r.spot k, Some v) ∷ carried) 0)
    gives_allowed carried v plan work s kept deep seat small =
        let o = opened values s id start _ kept seat in
        let h = knows s o seat in (
          alone start a (next l v) ((r.spot k, r.order v) ∷ seen),
          gives,
          tt,
          inr (after_give laws start a l seen k s o id h.0 h.1 (next l v) v carried plan work),
          refl,
        )
