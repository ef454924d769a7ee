-- What the steps of a hand owe and tell, over plain values.
use Rattle.std.proofs.Common.{◌≡◌, ◌≢◌, ℕ, ◌+◌, ◌<◌, eqb, List, ◌∷◌, Option, Some, None, sym, refl, ap, ◌∙◌, subst}
use mathlib.Core.Option.{none}
use prog.Atomic.{either}
use Rattle.atomic_table.specs.Table.{step, rest, Allows}
use Rattle.atomic_table.specs.Seated.{TableId}
use Rattle.lock_row.specs.declared.names.LockNo.{LockNo}
use Rattle.lock_row.specs.declared.names.Local.{Local}
use Rattle.lock_row.specs.Rules.{RowRule}
use Rattle.lock_table.specs.Laws.{Laws}
use Rattle.lock_table.specs.Phases.{Finds}
use Rattle.lock_table.specs.Tables.{IsTable}
use Rattle.lock_table.specs.Plays.{Mine, alone, Took, Missed, tried, gave}
use Rattle.lock_table.specs.Sittings.{Ground, Sitting, seated, actor_of, start_of, emptied}
use Rattle.lock_table.specs.Hands.{moved, MayTake, Takes, Misses, MayGive}
use Rattle.lock_table.proofs.Kept.{tries_allowed, gives_allowed}

first_is : {X : Type 0} (x y : X) (xs ys : List X) → x ∷ xs ≡ y ∷ ys → x ≡ y
first_is x y xs ys e = cc

some_is : {X : Type 0} (x y : X) → Some x ≡ Some y → x ≡ y
some_is x y e = cc

module _ {V : Type 0} (r : RowRule V) where
  -- the seat stands for this actor alone, and what it holds is out of its slots
  abbrev pub Sits : Sitting V → Mine V → Type 0
  Sits h me = me ≡ (alone h.start h.actor h.local h.seen, emptied r.spot h.local.held)

  -- how contracts see a seat
  abbrev pub seen_as : TableId → ℕ → Mine V → Sitting V
  seen_as id a me = record {
    id = id;
    start = start_of me.0;
    actor = a;
    local =
        (actor_of me.0).local;
    seen = (actor_of me.0).seen;
  }

  pub is_seen : (id : TableId) (a : ℕ) (h : Sitting V) (me : Mine V) → id ≡ h.id → a ≡ h.actor
      → Sits h me → seen_as id a me ≡ h
  is_seen id a h me e f sits = λ i.
      record {
        id = e i;
        start = start_of (sits i).0;
        actor = f i;
        local =
            (actor_of (sits i).0).local;
        seen = (actor_of (sits i).0).seen;
      }

  pub closes : (a : ℕ) (h : Sitting V) (me : Mine V) → a ≡ h.actor → Sits h me
      → me ≡ (
        alone (start_of me.0) a (actor_of me.0).local (actor_of me.0).seen,
        emptied r.spot
            (actor_of me.0).local.held,
      )
  closes a h me f sits =
      subst (λ (p : Mine V × ℕ).
      p.0 ≡ (
        alone (start_of p.0.0) p.1 (actor_of p.0.0).local (actor_of p.0.0).seen,
        emptied
            r.spot (actor_of p.0.0).local.held,
      ))
      (λ i. (sym sits i, sym f i)) refl

  module _ (h : Sitting V) (k : LockNo) (next : Local V → V → Local V) (slots at : ℕ)
      (here : at ≡ r.spot k) where
    pub may_try : (laws : Laws V) (values : List (Option V)) (id n : ℕ) (me : Mine V) (g : Ground)
        → Sits h me → MayTake r g h k next → at < slots → n ≡ h.actor + 1
        → Allows (IsTable r values) slots id me at (λ x. either (eqb x 0) n x)
        (tried r next (step slots at 0 n none) me)
    may_try laws values id n me g sits may within is =
        subst (λ (p : Mine V × ℕ × ℕ). p.1 < slots
        → Allows (IsTable r values) slots id p.0 p.1 (λ x. either (eqb x 0) p.2 x)
        (tried r next (step slots p.1 0 p.2 none) p.0))
        (λ i. (sym sits i, sym here i, sym is i))
        (λ below. tries_allowed r laws values slots id h.start h.actor h.local h.seen k next below
        (emptied r.spot h.local.held) may.plan may.named may.new)
        within

    abbrev GotIt : Mine V → Type 0
    GotIt me = Took r next h.start (seated h) (r.spot k) (emptied r.spot h.local.held) me

    module _ (n found : ℕ) (me me' : Mine V) (sits : Sits h me)
        (told : tried r next (step slots at 0 n none) me found me') where
      told_so : (found ≡ 0 → GotIt me')
          × (found ≢ 0 → Missed r next h.start (seated h) (r.spot k) (emptied r.spot h.local.held)
          me')
      told_so = subst (λ (p : Mine V × ℕ). tried r next (step slots p.1 0 n none) p.0 found me')
          (λ i. (sits i, here i)) told

      pub got_it : found ≡ 0 → GotIt me'
      got_it e = told_so.0 e

      -- the slot that was taken is in hand, with a value
      pub in_hand : (e : found ≡ 0) → me'.1 ≡ (at, Some (got_it e).0) ∷ rest me'.1
      in_hand e =
          let t = got_it e in
          let q : me'.1 ≡ (r.spot k, Some t.0) ∷ emptied r.spot h.local.held =
          ap (λ (m : Mine V). m.1) t.1 in
          q ∙ (λ i. (sym here i, Some t.0) ∷ rest (sym q i))

      pub out_of_it : (e : found ≡ 0) (x : Option V) → me'.1 ≡ (at, x) ∷ rest me'.1
          → x ≡ Some (got_it e).0
      out_of_it e x top = ap (λ (p : ℕ × Option V). p.1) (first_is _ _ _ _ (sym top ∙ in_hand e))

      pub missed_it : found ≢ 0 → (h' : Sitting V) → h' ≡ h → Misses r h k h'
      missed_it e h' same = record { held = (told_so.1 e).1; same = same }

      pub stayed : found ≢ 0 → Sits h me'
      stayed e = (told_so.1 e).0

      module _ (g : Ground) (may : MayTake r g h k next) (e : found ≡ 0) (x : Option V) (v : V)
          (me'' : Mine V)
          (top : me'.1 ≡ (at, x) ∷ rest me'.1) (after : me'' ≡ (me'.0, (at, None) ∷ rest me'.1))
          (is : x ≡ Some v) where
        same_value : (got_it e).0 ≡ v
        same_value = some_is (got_it e).0 v (sym (out_of_it e x top) ∙ is)

        has : (next h.local v).held ≡ (k, v) ∷ h.local.held
        has = ap (λ (l : Local V). l.held) (may.named v) ∙ r.take_holds h.local k v may.plan

        pub took_sits : Sits (moved r h k next v) me''
        took_sits =
            let t = got_it e in
            let q : me'' ≡ (
              alone h.start h.actor (next h.local t.0)
                  ((r.spot k, r.order t.0) ∷ h.seen),
              (at, None) ∷ emptied r.spot h.local.held,
            ) =
            after ∙ ap (λ (m : Mine V). let p : Mine V = (m.0, (at, None) ∷ rest m.1) in p) t.1 in
            q ∙ (λ i. (
              alone h.start h.actor (next h.local (same_value i))
                  ((r.spot k, r.order (same_value i)) ∷ h.seen),
              (here i, None) ∷ emptied r.spot
                  h.local.held,
            ))
            ∙ ap (λ (xs : List (LockNo × V)). let p : Mine V = (
              alone h.start h.actor (next h.local v) ((r.spot k, r.order v) ∷ h.seen),
              emptied
                  r.spot xs,
            ) in p) (sym has)

        pub took_it : (h' : Sitting V) → h' ≡ moved r h k next v → Takes r h k next v h'
        took_it h' moves = record {
          found = subst (λ (u : V). Finds r h.start h.actor h.local h.seen (r.spot k) (Some u))
              same_value (got_it e).2;
          has = has;
          moves = moves;
        }

    module _ (g : Ground) (v : V) (may : MayGive r g h k next v) (me : Mine V)
        (sits : Sits h me) where
      gives_last : me.1 ≡ (r.spot k, None) ∷ emptied r.spot (next h.local v).held
      gives_last = ap (λ (m : Mine V). m.1) sits
          ∙ ap (emptied r.spot) (r.give_notes h.local k v (next h.local v) may.plan may.works).held

      -- the slot that was taken last is the lock's, and is empty
      pub last_taken : me.1 ≡ (at, None) ∷ rest me.1
      last_taken = gives_last ∙ (λ i. (sym here i, None) ∷ rest (sym gives_last i))

      pub was_empty : (x : Option V) → me.1 ≡ (at, x) ∷ rest me.1 → x ≡ None
      was_empty x top = ap (λ (p : ℕ × Option V). p.1) (first_is _ _ _ _ (sym top ∙ last_taken))

      module _ (me' : Mine V) (after : me' ≡ (me.0, (at, Some v) ∷ rest me.1)) where
        put_in : me' ≡ (
          alone h.start h.actor h.local h.seen,
          (r.spot k, Some v) ∷ emptied r.spot
              (next h.local v).held,
        )
        put_in = after ∙ (λ i. ((sits i).0, (here i, Some v) ∷ rest (gives_last i)))

        pub may_give : (laws : Laws V) (values : List (Option V)) (id : ℕ) → at < slots
            → Allows (IsTable r values) slots id me' at (λ _. 0)
            (λ _. gave r next (step slots at 0 0 none) me' 0)
        may_give laws values id within =
            subst (λ (p : Mine V × ℕ). p.1 < slots
            → Allows (IsTable r values) slots id p.0 p.1 (λ _. 0)
            (λ _. gave r next (step slots p.1 0 0 none) p.0 0))
            (λ i. (sym put_in i, sym here i))
            (λ below. gives_allowed r laws values slots id h.start h.actor h.local h.seen k next
            below (emptied r.spot (next h.local v).held) v may.plan may.works)
            within

        pub gave_sits : (me'' : Mine V) → gave r next (step slots at 0 0 none) me' 0 me''
            → Sits (moved r h k next v) me''
        gave_sits me'' told = subst (λ (m : Mine V). gave r next (step slots at 0 0 none) m 0 me'')
            put_in told
