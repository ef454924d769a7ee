-- The opening of a table, and the dealing of its hands.
use Rattle.std.proofs.Common.{◌≡◌, ◌≢◌, ◌⊎◌, ℕ, zero, suc, ◌+◌, ◌<◌, eqb, cond, List, [], ◌∷◌, ◌++◌, map, length, slice_index, set, replicate, Option, Some, None, slice_get, sym, refl, ap, ◌∙◌, subst, inl, inr, ⊎_elim, arith, eq-eqb, ne_eqb, length-set, drop, append_assoc}
use Rattle.std.proofs.lemmas.List.{length-replicate, length-map}
use mathlib.Core.Option.{some, some-injective, some-ne-none}
use lib.ListN.{get_elem?}
use Rattle.atomic_table.specs.Table.{Splits}
use Rattle.atomic_table.specs.Seated.{TableId}
use Rattle.lock_row.specs.declared.names.LockNo.{LockNo}
use Rattle.lock_row.specs.declared.names.Local.{Local}
use Rattle.lock_row.specs.declared.names.State.{State}
use Rattle.lock_row.specs.Rules.{RowRule}
use Rattle.lock_row.specs.Values.{Exclusive}
use Rattle.lock_table.specs.declared.view.View.{View}
use Rattle.lock_table.specs.declared.view.View.TheVariants.{Blank, Closed, Open}
use Rattle.lock_table.specs.declared.view.Seated.{Seated}
use Rattle.lock_table.specs.Phases.{IsReached}
use Rattle.lock_table.specs.Tables.{free, AllStand, NotAmong, Knows, IsTable}
use Rattle.lock_table.specs.Sittings.{Sitting}
use Rattle.lock_table.specs.Grounds.{IsGround}
use Rattle.lock_table.specs.Starts.{all_home, MayBegin, CanOpen, fresh, fresh_from, newly, seats_from, first_of, others_of}
use Rattle.lock_table.proofs.Lists.{at_set, at_end}
use Rattle.lock_table.proofs.Kept.{opened}

zero_at : (n k : ℕ) → slice_index (replicate n 0) k ≡ 0
zero_at zero k = refl
zero_at (suc n) zero = refl
zero_at (suc n) (suc k) = zero_at n k

module _ {V : Type 0} where
  -- each cell has its value
  pub home_there : (values : List (LockNo × V)) (k : ℕ) → k < length (all_home values)
      → (v : V) × (get_elem? (map some (all_home values)) k ≡ some (some (Some v)))
      × (slice_get (all_home values) k ≡ Some (Some v))
  home_there [] k b = absurd (omega arith)
  home_there (x ∷ xs) zero b = (x.1, refl, refl)
  home_there (x ∷ xs) (suc k) b = home_there xs k (omega arith)

  never_out : (values : List (LockNo × V)) (k : ℕ) → slice_get (all_home values) k ≡ Some None → ⊥
  never_out [] k e = absurd (cc)
  never_out (x ∷ xs) zero e = absurd (cc)
  never_out (x ∷ xs) (suc k) e = never_out xs k e

  homes_length : (xs : List (Option V)) → length (map some xs) ≡ length xs
  homes_length [] = refl
  homes_length (x ∷ xs) = ap suc (homes_length xs)

  later : (a n : ℕ) (ls : List (Local V)) → a < n → NotAmong a (seats_from n ls)
  later a n [] h = tt
  later a n (l ∷ ls) h = ((λ e. absurd (omega arith)), later a (suc n) ls (omega arith))

module _ {V : Type 0} (r : RowRule V) where
  -- at the start each actor is where the start has it
  stand_from : (w : State V) (n : ℕ) (ls : List (Local V))
      → ((i : ℕ) (l : Local V) → slice_get ls i ≡ Some l → slice_get w.locals (i + n) ≡ Some l)
      → AllStand r w (λ _. 0) 0 (seats_from n ls)
  stand_from w n [] at = tt
  stand_from w n (l ∷ ls) at = (
    record {
      at = ap (slice_get w.locals) (let q : n ≡ 0 + n = omega arith in q)
          ∙ at 0 l refl;
      own = refl;
      seen = λ i k tags v e there. absurd (cc);
    },
    later n (suc n) ls (omega arith),
    stand_from w (suc n) ls
        (λ i m e. ap (slice_get w.locals) (let q : i + suc n ≡ suc i + n = omega arith in q)
        ∙ at (suc i) m e),
  )

  -- the start is reached
  start_reached : (start : State V) (values : List (LockNo × V)) (actors : ℕ)
      → MayBegin r start values actors → IsReached r start start
  start_reached start values actors b =
      record {
        may = b.may;
        turns = ([], refl);
        size = refl;
        actors = refl;
        apart =
            apart;
        tags = λ c. refl;
      }
    where
      none_held : {A : Type 0} (a i : ℕ) (l : Local V) (x : LockNo × V)
          → slice_get start.locals a ≡ Some l → slice_get l.held i ≡ Some x → A
      none_held a i l x at e = let q : slice_get [] i ≡ Some x =
          ap (λ (xs : List (LockNo × V)). slice_get xs i) (sym (b.free a l at)) ∙ e in absurd (cc)

      apart : Exclusive r.spot start
      apart = record {
        out = λ a i l x at e. none_held a i l x at e;
        alone = λ a b' i j l m x y at bt e f same. none_held a i l x at e;
        keeper = λ k e. absurd (never_out values k (ap (λ xs. slice_get xs k) (sym b.row) ∙ e));
      }

  one_view : (v w : View V) (id j : ℕ) (d : View V) → get_elem? (Closed ∷ []) id ≡ some w
      → get_elem? (set (Closed ∷ []) id v ++ Blank ∷ []) j ≡ some d → ((j ≡ 0) × (v ≡ d))
      ⊎ (Blank ≡ d)
  one_view v w zero zero d e f = inl (refl, some-injective v d f)
  one_view v w zero (suc zero) d e f = inr (some-injective Blank d f)
  one_view v w zero (suc (suc j)) d e f = absurd (some-ne-none d (sym f))
  one_view v w (suc id) j d e f = absurd (some-ne-none w (sym e))

  -- the first seat comes to stand for all actors
  pub opens : (values : List (LockNo × V)) (id actors : ℕ) (start : State V)
      → MayBegin r start values actors
      → Splits (IsTable r (all_home values)) id Closed (Open start (seats_from 0 start.locals))
      Blank
  opens values id actors start b s (inr o) at = absurd (o.each_seat id Closed at)
  opens values id actors start b s (inl h) at =
      let slots : List (Option V) = all_home values in
      let zeros : (k : ℕ) → slice_index s.words k ≡ 0 = λ k. ap (λ ws. slice_index ws k) h.words
      ∙ zero_at (length slots) k in
      let left : View V = Open start (seats_from 0 start.locals) in
      inr record {
        start = start;
        now = start;
        owner = λ _. 0;
        reached = start_reached start values actors b;
        wide = ap length h.words ∙ length-replicate (length slots) 0 ∙ ap length (sym b.row);
        deep = ap length h.homes ∙ homes_length slots ∙ ap length (sym b.row);
        each_place = λ k below. let t =
            home_there values k (subst (λ (xs : List (Option V)). k < length xs) b.row below) in
            free t.0 (zeros k) (ap (λ hs. get_elem? hs k) h.homes ∙ t.1)
            (ap (λ xs. slice_get xs k) b.row ∙ t.2);
        each_seat = λ j d seen. ⊎_elim
            (λ p. subst (λ (q : ℕ × View V). Knows r start start (λ _. 0) q.0 q.1)
            (λ i. (sym p.0 i, p.1 i)) (
              refl,
              stand_from start 0 start.locals
                  (λ i l e. ap (slice_get start.locals) (let q : i + 0 ≡ i = omega arith in q) ∙ e),
            ))
            (λ p. subst (Knows r start start (λ _. 0) j) p tt)
            (one_view left Closed id j d
            (subst (λ (vs : List (View V)). get_elem? vs id ≡ some Closed) h.views at)
            (subst (λ (vs : List (View V)). get_elem? (set vs id left ++ Blank ∷ []) j ≡ some d)
            h.views seen));
      }

  module _ (w : State V) (owner : ℕ → ℕ) (a new : ℕ) where
    owner' : ℕ → ℕ
    owner' b = cond (eqb b a) new (owner b)

    same_owner : (b : ℕ) → a ≢ b → owner' b ≡ owner b
    unfolding owner'
    same_owner b ne = ap (λ c. cond c new (owner b)) (ne_eqb b a (λ e. ne (sym e)))

    new_owner : owner' a ≡ new
    unfolding owner'
    new_owner = ap (λ c. cond c new (owner a)) (eq-eqb a a refl)

    moved : (seat : ℕ) (ys : List (Seated V)) → NotAmong a ys → AllStand r w owner seat ys
        → AllStand r w owner' seat ys
    moved seat [] n h = tt
    moved seat (y ∷ ys) n h = (
      record { at = h.0.at; own = same_owner y.actor n.0 ∙ h.0.own; seen = h.0.seen },
      h.1,
      moved seat ys n.1 h.2,
    )

    elsewhere : (seat : ℕ) (ys : List (Seated V)) → owner a ≢ seat → AllStand r w owner seat ys
        → NotAmong a ys
    elsewhere seat [] n h = tt
    elsewhere seat (y ∷ ys) n h = ((λ e. n (ap owner e ∙ h.0.own)), elsewhere seat ys n h.2)

    still_knows : (start : State V) (seat : ℕ) (d : View V) → owner a ≢ seat
        → Knows r start w owner seat d → Knows r start w owner' seat d
    still_knows start seat Blank n h = tt
    still_knows start seat Closed n h = h
    still_knows start seat (Open begun ys) n h = (h.0, moved seat ys (elsewhere seat ys n h.1) h.1)

  -- a seat gives its first actor away
  pub deals : (slots : List (Option V)) (id : ℕ) (start : State V) (x : Seated V)
      (xs : List (Seated V)) → Splits (IsTable r slots) id (Open start (x ∷ xs)) (Open start xs)
      (Open start (x ∷ []))
  deals slots id start x xs s kept at =
      let o = opened r slots s id start (x ∷ xs) kept at in
      let k = o.each_seat id (Open start (x ∷ xs)) at in
      let new : ℕ = length s.views in
      let owners : ℕ → ℕ = owner' o.now o.owner x.actor new in
      inr record {
        start = o.start;
        now = o.now;
        owner = owners;
        reached = o.reached;
        wide = o.wide;
        deep = o.deep;
        each_place = o.each_place;
        each_seat = λ j d seen. ⊎_elim
            (λ old. ⊎_elim
            (λ p. subst (λ (q : ℕ × View V). Knows r o.start o.now owners q.0 q.1)
            (λ i. (sym p.0 i, p.1 i)) (k.0, moved o.now o.owner x.actor new id xs k.1.1 k.1.2))
            (λ p. still_knows o.now o.owner x.actor new o.start j d (λ e. p.0 (sym e ∙ k.1.0.own))
            (o.each_seat j d p.1))
            (at_set s.views id j (Open start xs) d old))
            (λ p. subst (λ (q : ℕ × View V). Knows r o.start o.now owners q.0 q.1)
            (λ i. ((sym (length-set s.views id (Open start xs)) ∙ sym p.0) i, p.1 i)) (
              k.0,
              (
                record {
                  at = k.1.0.at;
                  own = new_owner o.now o.owner x.actor new;
                  seen =
                      k.1.0.seen;
                },
                tt,
                tt,
              ),
            ))
            (at_end (set s.views id (Open start xs)) (Open start (x ∷ [])) d j seen);
      }

  pub deals_at : (slots : List (Option V)) (id : ℕ) (start : State V) (x : Seated V)
      (xs : List (Seated V)) (v : View V) → v ≡ Open start (x ∷ xs)
      → Splits (IsTable r slots) id v (others_of v) (first_of v)
  deals_at slots id start x xs v e =
      subst (λ (m : View V). Splits (IsTable r slots) id m (others_of m) (first_of m)) (sym e)
      (deals slots id start x xs)

  pub opens_by : (slots : List (Option V)) (values : List (LockNo × V)) (id actors : ℕ)
      (start : State V) (v : View V) → slots ≡ all_home values → v ≡ Closed
      → MayBegin r start values actors
      → Splits (IsTable r slots) id v (Open start (seats_from 0 start.locals)) Blank
  opens_by slots values id actors start v same e b =
      subst (λ (p : List (Option V) × View V). Splits (IsTable r p.0) id p.1
      (Open start (seats_from 0 start.locals)) Blank)
      (λ i. (sym same i, sym e i)) (opens values id actors start b)

  named_at : (values : List (LockNo × V)) (i : ℕ) (k : LockNo)
      → slice_get (map (λ x. x.0) values) i ≡ Some k
      → (x : LockNo × V) × (slice_get values i ≡ Some x) × (x.0 ≡ k)
  named_at [] i k e = absurd (cc)
  named_at (x ∷ xs) zero k e = (x, refl, cc)
  named_at (x ∷ xs) (suc i) k e = named_at xs i k e

  -- a row of these parts
  pub grounded : (start : State V) (names : List LockNo) (words : List ℕ) (slots : List (Option V))
      (id : TableId)
      → CanOpen r start names words slots → id.words ≡ length words → id.slots ≡ length slots
      → IsGround r.spot id names
  grounded start names words slots id can wide deep =
      let n : length names ≡ length can.values = ap length can.names_are
      ∙ length-map can.values (λ (x : LockNo × V). x.0) in
      let w : length words ≡ length can.values = ap length can.words_are
      ∙ length-replicate (length can.values) 0 in
      let s : length slots ≡ length can.values = ap length can.slots_are
      ∙ length-map can.values (λ (x : LockNo × V). Some x.1) in
      record {
        some = (let z = can.some in omega arith);
        words = wide ∙ w ∙ sym n;
        slots = deep ∙ s ∙ sym n;
        placed = λ i k e. let x = named_at can.values i k
            (ap (λ ns. slice_get ns i) (sym can.names_are) ∙ e) in
            ap r.spot (sym x.2) ∙ can.placed i x.0 x.1;
      }

module _ {V : Type 0} where
  next_local : (ls : List (Local V)) (i : ℕ) → i < length ls
      → (l : Local V) × (drop i ls ≡ l ∷ drop (suc i) ls) × (slice_get ls i ≡ Some l)
  next_local [] i h = absurd (omega arith)
  next_local (l ∷ ls) zero h = (l, refl, refl)
  next_local (l ∷ ls) (suc i) h = next_local ls i (omega arith)

  -- the next actor of the start
  pub next_hand : (id : TableId) (start : State V) (ls : List (Local V)) (i : ℕ) → i < length ls
      → (l : Local V) × (slice_get ls i ≡ Some l)
      × (seats_from i (drop i ls) ≡ newly i l ∷ seats_from (i + 1) (drop (i + 1) ls))
      × (fresh_from id start i (drop i ls) ≡ fresh id start i l ∷ fresh_from id start (i + 1)
      (drop (i + 1) ls))
  next_hand id start ls i below =
      let n = next_local ls i below in
      let up : suc i ≡ i + 1 = omega arith in (
        n.0,
        n.2,
        ap (seats_from i) n.1 ∙ ap (λ j. newly i n.0 ∷ seats_from j (drop j ls)) up,
        ap (fresh_from id start i) n.1
            ∙ ap (λ j. fresh id start i n.0 ∷ fresh_from id start j (drop j ls)) up,
      )

  -- a hand more
  pub one_hand : (id : TableId) (start : State V) (ls : List (Local V)) (i : ℕ) (l : Local V)
      (hands whole : List (Sitting V))
      → fresh_from id start i (drop i ls) ≡ fresh id start i l ∷ fresh_from id start (i + 1)
      (drop (i + 1) ls) → hands ++ fresh_from id start i (drop i ls) ≡ whole
      → (hands ++ fresh id start i l ∷ []) ++ fresh_from id start (i + 1) (drop (i + 1) ls) ≡ whole
  one_hand id start ls i l hands whole e w = append_assoc hands (fresh id start i l ∷ [])
      (fresh_from id start (i + 1) (drop (i + 1) ls)) ∙ (ap (λ hs. hands ++ hs) (sym e) ∙ w)
