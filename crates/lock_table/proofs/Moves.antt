-- What an event moves: who holds what, where the values are, and what the seats know.
use Rattle.std.proofs.Common.{◌≡◌, ◌≢◌, ℕ, zero, suc, List, [], ◌∷◌, ◌++◌, Option, Some, None, slice_get, slice_set, set, sym, refl, ap, ◌∙◌, subst, ⊎_elim, append_assoc, append-nil}
use mathlib.Core.Logic.{dite}
use mathlib.Core.Option.{some}
use native.Mathlib.Decide.{ℕ_discrete}
use lib.ListN.{get_elem?}
use Rattle.zr_base.specs.declared.op.Tag.{Tag}
use Rattle.lock_row.specs.declared.names.LockNo.{LockNo}
use Rattle.lock_row.specs.declared.names.Local.{Local}
use Rattle.lock_row.specs.declared.names.State.{State}
use Rattle.lock_row.specs.Rules.{RowRule}
use Rattle.lock_row.specs.Values.{Exclusive}
use Rattle.lock_table.specs.declared.view.View.{View}
use Rattle.lock_table.specs.declared.view.View.TheVariants.{Blank, Closed, Open}
use Rattle.lock_table.specs.declared.view.Seated.{Seated}
use Rattle.lock_table.specs.Phases.{Begins, Holds, IsAt, home, held, Begin}
use Rattle.lock_table.specs.Tables.{AllStand, Knows}
use Rattle.lock_table.proofs.Lists.{get_here, get_else, get_set, at_set}

pub begins_itself : (tags : List Tag) → Begins tags tags
begins_itself tags = ([], sym (append-nil tags))

pub begins_on : (xs ys zs : List Tag) → Begins xs ys → Begins ys zs → Begins xs zs
begins_on xs ys zs p q = (p.0 ++ q.0, q.1 ∙ (ap (λ w. w ++ q.0) p.1 ∙ append_assoc xs p.0 q.0))

module _ {V : Type 0} where
  first_held : (l : Local V) (xs : List (LockNo × V)) (x : LockNo × V) → l.held ≡ x ∷ xs
      → slice_get l.held 0 ≡ Some x
  first_held l xs x e = ap (λ (ys : List (LockNo × V)). slice_get ys 0) e

module _ {V : Type 0} (r : RowRule V) where
  -- one actor moves: others are where they were, and what they hold but the place p; a value that
  -- stands
  -- somewhere stood there, and its order only grew
  pub record Moves (now next : State V) (a p : ℕ) (m : Local V) : Type 0 where
    pub mine : slice_get next.locals a ≡ Some m
    pub others : (b : ℕ) → b ≢ a → slice_get next.locals b ≡ slice_get now.locals b
    pub holds : (b k : ℕ) → k ≢ p → Holds r now b k → Holds r next b k
    pub older : (k : ℕ) (v : V) → IsAt r next k v → (u : V) × IsAt r now k u
        × Begins (r.order u) (r.order v)

  module _ (now : State V) (a : ℕ) (l m : Local V) (k : LockNo) (v : V)
      (who : slice_get now.locals a ≡ Some l) where
    abbrev P : ℕ
    P = r.spot k

    -- the actor's own local
    same_local : (b : ℕ) (n : Local V) → b ≡ a → slice_get now.locals b ≡ Some n → n ≡ l
    same_local b n e at = let q : Some n ≡ Some l = sym at ∙ (ap (slice_get now.locals) e ∙ who) in
        cc

    module _ (x : Option V) where
      abbrev Next : State V
      Next = record { row = slice_set now.row P x; locals = slice_set now.locals a m }

      mine_after : slice_get (slice_set now.locals a m) a ≡ Some m
      mine_after = get_here now.locals a m l who

      -- who holds the place still does, where the actor's own locks stay its own
      holds_on : ((j : ℕ) → j ≢ P → (i : ℕ) (y : LockNo × V) → slice_get l.held i ≡ Some y
          → r.spot y.0 ≡ j → (h : ℕ) × (slice_get m.held h ≡ Some y))
          → (b j : ℕ) → j ≢ P → Holds r now b j → Holds r Next b j
      holds_on own b j ne (n, i, y, at, e, is) = dite (ℕ_discrete b a)
          (λ same.
          let o = own j ne i y
          (subst (λ (z : Local V). slice_get z.held i ≡ Some y) (same_local b n same at) e)
          is in
          (m, o.0, y, ap (slice_get (slice_set now.locals a m)) same ∙ mine_after, o.1, is))
          (λ other. (n, i, y, get_else now.locals a b m other ∙ at, e, is))

      older_on : (cell : Option V) → slice_get now.row P ≡ Some cell
          → ((j : ℕ) (u : V) → j ≡ P → x ≡ Some u → (w : V) × IsAt r now j w
          × Begins (r.order w) (r.order u))
          → ((i : ℕ) (y : LockNo) (u : V) → slice_get m.held i ≡ Some (y, u)
          → IsAt r now (r.spot y) u)
          → (j : ℕ) (u : V) → IsAt r Next j u → (w : V) × IsAt r now j w
          × Begins (r.order w) (r.order u)
      older_on cell there here own j u (home e) = ⊎_elim
          (λ s. here j u s.0 s.1)
          (λ o. (u, home o.1, begins_itself (r.order u)))
          (get_set now.row P j x (Some u) cell there e)
      older_on cell there here own j u (held b i n y at e is) = ⊎_elim
          (λ s. (
            u,
            subst (λ q. IsAt r now q u) is
                (own i y u (subst (λ (z : Local V). slice_get z.held i ≡ Some (y, u))
                (sym s.1) e)),
            begins_itself (r.order u),
          ))
          (λ o. (u, held b i n y o.1 e is, begins_itself (r.order u)))
          (get_set now.locals a b m n l who at)

    pub take_moves : slice_get now.row P ≡ Some (Some v) → m.held ≡ (k, v) ∷ l.held
        → (let next : State V =
        record { row = slice_set now.row P None; locals = slice_set now.locals a m } in
        Moves now next a P m)
    take_moves there has = record {
      mine = mine_after None;
      others = λ b ne. get_else now.locals a b m ne;
      holds = holds_on None
          (λ j ne i y e is. (
            suc i,
            ap (λ (ys : List (LockNo × V)). slice_get ys (suc i)) has
                ∙ e,
          ));
      older = older_on None (Some v) there (λ j u at e. absurd (cc))
          (λ i y u e. had i y u (sym (ap (λ (ys : List (LockNo × V)). slice_get ys i) has) ∙ e));
    } where
      had : (i : ℕ) (y : LockNo) (u : V) → slice_get ((k, v) ∷ l.held) i ≡ Some (y, u)
          → IsAt r now (r.spot y) u
      had zero y u e = let q : (k, v) ≡ (y, u) = cc in
          subst (λ (z : LockNo × V). IsAt r now (r.spot z.0) z.1) q (home there)
      had (suc i) y u e = held a i l y who e refl

    pub give_moves : (last : V) → slice_get now.row P ≡ Some None → l.held ≡ (k, last) ∷ m.held
        → Begins (r.order last) (r.order v)
        → (let next : State V =
        record { row = slice_set now.row P (Some v); locals = slice_set now.locals a m } in
        Moves now next a P m)
    give_moves last there has grown = record {
      mine = mine_after (Some v);
      others = λ b ne. get_else now.locals a b m ne;
      holds = holds_on (Some v)
          (λ j ne i y e is. left j ne i y
          (sym (ap (λ (ys : List (LockNo × V)). slice_get ys i) has) ∙ e) is);
      older = older_on (Some v) None there
          (λ j u at e. let q : v ≡ u = cc in (
            last,
            held a 0 l k who (first_held l m.held (k, last) has) (sym at),
            subst
                (λ z. Begins (r.order last) (r.order z)) q grown,
          ))
          (λ i y u e. held a (suc i) l y who
          (ap (λ (ys : List (LockNo × V)). slice_get ys (suc i)) has ∙ e) refl);
    } where
      left : (j : ℕ) → j ≢ P → (i : ℕ) (y : LockNo × V) → slice_get ((k, last) ∷ m.held) i ≡ Some y
          → r.spot y.0 ≡ j → (h : ℕ) × (slice_get m.held h ≡ Some y)
      left j ne zero y e is = let q : y ≡ (k, last) = cc in
          absurd (ne (sym is ∙ ap (λ (z : LockNo × V). r.spot z.0) q))
      left j ne (suc i) y e is = (i, e)

  same_value : (n m : Local V) (i : ℕ) (x y : LockNo × V) → n ≡ m → slice_get n.held i ≡ Some x
      → slice_get m.held i ≡ Some y → x.1 ≡ y.1
  same_value n m i x y same e f =
      let g : Some x ≡ Some y = sym e ∙ (ap (λ (o : Local V). slice_get o.held i) same ∙ f) in
      let h : x ≡ y = cc in
      ap (λ (z : LockNo × V). z.1) h

  -- the value of a place that an actor holds is the one that it holds
  pub held_one : (w : State V) (a : ℕ) (m : Local V) (k : LockNo) (v : V) → Exclusive r.spot w
      → slice_get w.locals a ≡ Some m → slice_get m.held 0 ≡ Some (k, v)
      → slice_get w.row (r.spot k) ≡ Some None → (u : V) → IsAt r w (r.spot k) u → u ≡ v
  held_one w a m k v apart at mine gone u (home e) =
      let q : Some None ≡ Some (Some u) = sym gone ∙ e in absurd (cc)
  held_one w a m k v apart at mine gone u (held b i n y e f is) =
      let one = apart.alone b a i 0 n m (y, u) (k, v) e at f mine is in
      let x : Some n ≡ Some m = sym e ∙ (ap (slice_get w.locals) one.0 ∙ at) in
      same_value n m i (y, u) (k, v) (cc) f (ap (slice_get m.held) one.1 ∙ mine)

  -- that of a place that is at home is the one there
  pub home_one : (w : State V) (p : ℕ) (v : V) → Exclusive r.spot w
      → slice_get w.row p ≡ Some (Some v) → (u : V) → IsAt r w p u → u ≡ v
  home_one w p v apart at u (home e) = let q : Some (Some u) ≡ Some (Some v) = sym e ∙ at in cc
  home_one w p v apart at u (held b i n y e f is) =
      let q : Some None ≡ Some (Some v) = sym (apart.out b i n (y, u) e f)
      ∙ (ap (slice_get w.row) is ∙ at) in absurd (cc)

  -- one more order is seen
  pub begin_more : (w : State V) (p : ℕ) (order : List Tag) (seen : List (ℕ × List Tag))
      → ((u : V) → IsAt r w p u → Begins order (r.order u))
      → Begin r seen w → Begin r ((p, order) ∷ seen) w
  begin_more w p order seen new old zero k tags v e at = let q : (p, order) ≡ (k, tags) = cc in
      subst (λ (z : ℕ × List Tag). IsAt r w z.0 v → Begins z.1 (r.order v)) q (new v) at
  begin_more w p order seen new old (suc i) k tags v e at = old i k tags v e at

  module _ (now next : State V) (a p : ℕ) (m : Local V) (moves : Moves now next a p m) where
    pub begin_on : (seen : List (ℕ × List Tag)) → Begin r seen now → Begin r seen next
    begin_on seen h i k tags v e at = let o = moves.older k v at in
        begins_on tags (r.order o.0) (r.order v) (h i k tags o.0 e o.1) o.2

    -- the actors of another seat stand as before
    stand_on : (owner : ℕ → ℕ) (seat : ℕ) → owner a ≢ seat → (xs : List (Seated V))
        → AllStand r now owner seat xs → AllStand r next owner seat xs
    stand_on owner seat away [] h = tt
    stand_on owner seat away (x ∷ xs) h = (
      record {
        at = moves.others x.actor (λ e. away (ap owner (sym e) ∙ h.0.own)) ∙ h.0.at;
        own = h.0.own;
        seen = begin_on x.seen h.0.seen;
      },
      h.1,
      stand_on owner seat away xs h.2,
    )

    know_on : (start : State V) (owner : ℕ → ℕ) (seat : ℕ) → owner a ≢ seat → (d : View V)
        → Knows r start now owner seat d → Knows r start next owner seat d
    know_on start owner seat away Blank h = tt
    know_on start owner seat away Closed h = h
    know_on start owner seat away (Open begun xs) h = (h.0, stand_on owner seat away xs h.1)

    -- every seat, after a step of the actor's
    pub all_know : (start : State V) (owner : ℕ → ℕ) (id : ℕ) (views : List (View V))
        (view : View V) → owner a ≡ id → Knows r start next owner id view
        → ((j : ℕ) (d : View V) → get_elem? views j ≡ some d → Knows r start now owner j d)
        → (j : ℕ) (d : View V) → get_elem? (set views id view) j ≡ some d
        → Knows r start next owner j d
    all_know start owner id views view own here each j d e = ⊎_elim
        (λ s. subst (λ (p : ℕ × View V). Knows r start next owner p.0 p.1)
        (λ i. (sym s.0 i, s.1 i)) here)
        (λ o. know_on start owner j (λ q. o.0 (sym q ∙ own)) d (each j d o.1))
        (at_set views id j view d e)
