-- The joining of hands, and what the last seat knows of what is left.
use Rattle.std.proofs.Common.{◌≡◌, ◌≢◌, ℕ, zero, suc, ◌<◌, Bool, false, eqb, cond, take, get_or, get_or-set_other, ◌+◌, List, [], ◌∷◌, ◌++◌, map, length, set, Option, Some, slice_get, sym, refl, ap, ◌∙◌, subst, inr, ⊎_elim, arith, eq-eqb, ne_eqb}
use Rattle.std.proofs.lemmas.List.{map-append, take_more}
use Rattle.std.proofs.lemmas.Option.{slice_get_within, get_or_from_slice_get}
use mathlib.Core.Logic.{dite}
use native.Mathlib.Decide.{ℕ_discrete}
use mathlib.Core.Option.{some, some-injective, some-ne-none}
use lib.ListN.{get_elem?}
use Rattle.atomic_table.specs.Table.{Joins, Final, Seen}
use Rattle.lock_row.specs.declared.names.LockNo.{LockNo}
use Rattle.lock_row.specs.declared.names.Local.{Local}
use Rattle.lock_row.specs.declared.names.State.{State}
use Rattle.lock_row.specs.Rules.{RowRule}
use Rattle.lock_table.specs.declared.view.View.{View}
use Rattle.lock_table.specs.declared.view.View.TheVariants.{Blank, Closed, Open}
use Rattle.lock_table.specs.declared.view.Seated.{Seated}
use Rattle.std.specs.List.{sum_by}
use Rattle.std.proofs.lemmas.List.Sums.{sum_by-cons}
use Rattle.lock_row.specs.Totals.{row_sum, locals_sum, held_sum, mass}
use Rattle.lock_table.specs.Phases.{IsReached, Holds, told, noted}
use Rattle.lock_table.specs.Tables.{IsPlace, free, out, AllStand, Stands, NotAmong, Knows, IsOpen, IsTable}
use Rattle.lock_table.specs.Plays.{Mine, alone}
use Rattle.lock_table.specs.Sittings.{Ground, Sitting, seated, emptied}
use Rattle.lock_table.specs.Starts.{all_home}
use Rattle.lock_table.specs.Shut.{joined, AllHands, Left}
use Rattle.lock_table.proofs.Lists.{at_set, set_else}
use Rattle.lock_table.proofs.Kept.{opened}

-- ---- joining

module _ {V : Type 0} (r : RowRule V) where
  module _ (w : State V) (owner : ℕ → ℕ) (id other : ℕ) (apart : ¬ (other ≡ id)) where
    taken : ℕ → ℕ
    taken b = cond (eqb (owner b) other) id (owner b)

    was_other : (b : ℕ) → owner b ≡ other → taken b ≡ id
    unfolding taken
    was_other b e = ap (λ c. cond c id (owner b)) (eq-eqb (owner b) other e)

    was_not : (b j : ℕ) → owner b ≡ j → j ≢ other → taken b ≡ j
    unfolding taken
    was_not b j e n = ap (λ c. cond c id (owner b)) (ne_eqb (owner b) other (λ q. n (sym e ∙ q)))
        ∙ e

    still : (seat : ℕ) (xs : List (Seated V)) → seat ≢ other → AllStand r w owner seat xs
        → AllStand r w taken seat xs
    still seat [] n h = tt
    still seat (x ∷ xs) n h = (
      record { at = h.0.at; own = was_not x.actor seat h.0.own n; seen = h.0.seen },
      h.1,
      still
          seat xs n h.2,
    )

    not_here : (a : ℕ) (xs : List (Seated V)) → owner a ≡ other → AllStand r w owner id xs
        → NotAmong a xs
    not_here a [] e h = tt
    not_here a (x ∷ xs) e h = ((λ q. apart (sym e ∙ (ap owner q ∙ h.0.own))), not_here a xs e h.2)

    one_more : (y : Seated V) (xs : List (Seated V)) → AllStand r w owner id xs
        → Stands r w owner other y → AllStand r w taken id (y ∷ xs)
    one_more y xs h g = (
      record { at = g.at; own = was_other y.actor g.own; seen = g.seen },
      not_here y.actor xs g.own h,
      still id xs (λ q. apart (sym q)) h,
    )

    third : (start : State V) (j : ℕ) (d : View V) → j ≢ other → Knows r start w owner j d
        → Knows r start w taken j d
    third start j Blank n h = tt
    third start j Closed n h = h
    third start j (Open begun ys) n h = (h.0, still j ys n h.1)

  joins : (slots : List (Option V)) (id other : ℕ) (start begun : State V) (xs : List (Seated V))
      (y : Seated V)
      → Joins (IsTable r slots) id (Open start xs) other (Open begun (y ∷ []))
      (Open start (y ∷ xs)) Blank
  joins slots id other start begun xs y s kept at apart at' =
      let o = opened r slots s id start xs kept at in
      let both : View V = Open start (y ∷ xs) in
      let k = o.each_seat id (Open start xs) at in
      let k' = o.each_seat other (Open begun (y ∷ []))
      (sym (set_else s.views id other both apart) ∙ at') in
      let owners : ℕ → ℕ = taken o.now o.owner id other apart in
      inr record {
        start = o.start;
        now = o.now;
        owner = owners;
        reached = o.reached;
        wide = o.wide;
        deep = o.deep;
        each_place = o.each_place;
        each_seat = λ j d seen. ⊎_elim
            (λ p. subst (Knows r o.start o.now owners j) p.1 tt)
            (λ p. ⊎_elim
            (λ q. subst (λ (z : ℕ × View V). Knows r o.start o.now owners z.0 z.1)
            (λ i. (sym q.0 i, q.1 i))
            (k.0, one_more o.now o.owner id other apart y xs k.1 k'.1.0))
            (λ q. third o.now o.owner id other apart o.start j d p.0 (o.each_seat j d q.1))
            (at_set s.views id j both d p.1))
            (at_set (set s.views id both) other j Blank d seen);
      }

  pub joins_at : (slots : List (Option V)) (id other : ℕ) (start begun : State V)
      (xs : List (Seated V)) (y : Seated V) (v w : View V) → v ≡ Open start xs
      → w ≡ Open begun (y ∷ []) → Joins (IsTable r slots) id v other w (joined v w) Blank
  joins_at slots id other start begun xs y v w e f =
      subst (λ (p : View V × View V). Joins (IsTable r slots) id p.0 other p.1
      (joined p.0 p.1) Blank)
      (λ i. (sym e i, sym f i)) (joins slots id other start begun xs y)

-- ---- what is left

module _ {A : Type 0} where
  pub read_so : (xs : List A) (k : ℕ) (x : A) → get_elem? xs k ≡ some x → slice_get xs k ≡ Some x
  read_so [] k x e = absurd (some-ne-none x (sym e))
  read_so (y ∷ ys) zero x e = ap Some (some-injective y x e)
  read_so (y ∷ ys) (suc k) x e = read_so ys k x e

emptied_here : (filled : List Bool) (n : ℕ) → get_or (set filled n false) n false ≡ false
emptied_here [] n = refl
emptied_here (x ∷ xs) zero = refl
emptied_here (x ∷ xs) (suc n) = emptied_here xs n

-- the places up to n are empty, once the place n is
pub emptied_to : (filled : List Bool) (n k : ℕ) → (k < n → get_or filled k false ≡ false)
    → k < n + 1 → get_or (set filled n false) k false ≡ false
emptied_to filled n k h below = dite (ℕ_discrete k n)
    (λ same. ap (λ j. get_or (set filled n false) j false) same ∙ emptied_here filled n)
    (λ ne. get_or-set_other filled n k false false ne ∙ h (omega arith))

module _ {V : Type 0} where
  -- one value more is back
  pub one_taken : (names : List LockNo) (slots : List (Option V)) (back : List (LockNo × V))
      (n : ℕ) (d : LockNo) (v : V) → n < length names → n < length slots
      → get_elem? slots n ≡ some (Some v) → map (λ (x : LockNo × V). x.0) back ≡ take n names
      → all_home back ≡ take n slots
      → (map (λ (x : LockNo × V). x.0) (back ++ (get_or names n d, v) ∷ []) ≡ take (n + 1) names)
      × (all_home (back ++ (get_or names n d, v) ∷ []) ≡ take (n + 1) slots)
  one_taken names slots back n d v below within here e f = (
    map-append (λ (x : LockNo × V). x.0) back _ ∙ ap (λ ks. ks ++ get_or names n d ∷ []) e
        ∙ sym (take_more names n d below),
    map-append (λ (x : LockNo × V). Some x.1) back _ ∙ ap (λ vs. vs ++ Some v ∷ []) f
        ∙ sym (take_more slots n (Some v) within
        ∙ ap (λ x. take n slots ++ x ∷ [])
        (get_or_from_slice_get slots n (Some v) (Some v) (read_so slots n (Some v) here))),
  )

  abbrev AllSame : List (Option V) → List (Option V) → Type 0
  AllSame row slots = (k : ℕ) → k < length row → (v : V) × (slice_get row k ≡ Some (Some v))
      × (get_elem? slots k ≡ some (Some v))

  row_is : (row slots : List (Option V)) → length row ≡ length slots → AllSame row slots
      → row ≡ slots
  row_is [] [] n h = refl
  row_is [] (y ∷ ys) n h = absurd (omega arith)
  row_is (x ∷ xs) [] n h = absurd (omega arith)
  row_is (x ∷ xs) (y ∷ ys) n h =
      let z = h 0 (omega arith) in
      let e : x ≡ Some z.0 = (let q : Some x ≡ Some (Some z.0) = z.1 in cc) in
      let f : y ≡ Some z.0 = some-injective y (Some z.0) z.2 in
      λ i. (e ∙ sym f) i ∷ row_is xs ys (omega arith) (λ k b. h (suc k) (omega arith)) i

  nothing_held : (held : List (LockNo × V))
      → ((i : ℕ) (x : LockNo × V) → slice_get held i ≡ Some x → ⊥) → held ≡ []
  nothing_held [] h = refl
  nothing_held (x ∷ xs) h = absurd (h 0 x refl)

  home_sum : (g : V → ℕ) (values : List (LockNo × V))
      → row_sum (λ _ v. g v) (all_home values) ≡ sum_by (λ x. g x.1) values
  home_sum g [] = refl
  home_sum g (x ∷ xs) = ap (λ n. g x.1 + n) (home_sum g xs)
      ∙ sym (sum_by-cons (λ (y : LockNo × V). g y.1) x xs)

  held_none : (spot : LockNo → ℕ) (f : ℕ → V → ℕ) (ls : List (Local V))
      → ((a : ℕ) (l : Local V) → slice_get ls a ≡ Some l → l.held ≡ [])
      → locals_sum (mass spot f (λ _. 0)) ls ≡ 0
  held_none spot f [] h = refl
  held_none spot f (l ∷ ls) h =
      let e : held_sum spot f l.held ≡ 0 = ap (held_sum spot f) (h 0 l refl) in
      let t = held_none spot f ls (λ a m at. h (suc a) m at) in
      omega arith

  stand_at : (r : RowRule V) (w : State V) (owner : ℕ → ℕ) (seat i : ℕ) (hands : List (Sitting V))
      (h : Sitting V) → AllStand r w owner seat (map seated hands)
      → slice_get hands i ≡ Some h → Stands r w owner seat (seated h)
  stand_at r w owner seat i [] h s e = absurd (cc)
  stand_at r w owner seat zero (x ∷ xs) h s e = let q : x ≡ h = cc in
      subst (λ (y : Sitting V). Stands r w owner seat (seated y)) q s.0
  stand_at r w owner seat (suc i) (x ∷ xs) h s e = stand_at r w owner seat i xs h s.2 e

module _ {V : Type 0} (r : RowRule V) (values : List (Option V)) (id : ℕ) (g : Ground)
    (start : State V) (hands : List (Sitting V)) (all : AllHands g start hands)
    (v : View V) (words : List ℕ) (slots : List (Option V))
    (is : v ≡ Open start (map seated hands))
    (fin : Final (Seen (IsTable r values) id v) words slots) where
  seat : get_elem? fin.0.views id ≡ some (Open start (map seated hands))
  seat = fin.1.1 ∙ ap some is

  o : IsOpen r fin.0
  o = opened r values fin.0 id start (map seated hands) fin.1.0 seat

  knows : (start ≡ o.start) × AllStand r o.now o.owner id (map seated hands)
  knows = o.each_seat id (Open start (map seated hands)) seat

  -- nobody holds a place
  nobody_holds : (a k : ℕ) → Holds r o.now a k → ⊥
  nobody_holds a k (l, i, x, at, e, p) =
      let h = all.all a (let q = slice_get_within o.now.locals a l at in
      let n = o.reached.actors in let m = ap (λ (w : State V). length w.locals) knows.0 in
      omega arith) in
      let q : Some h.1.local ≡ Some l =
      sym (stand_at r o.now o.owner id h.0 hands h.1 knows.1 h.2).at
      ∙ (ap (slice_get o.now.locals) h.3 ∙ at) in
      let same : h.1.local ≡ l = cc in
      let none : slice_get [] i ≡ Some x = ap (λ (xs : List (LockNo × V)). slice_get xs i)
      (sym (all.free h.0 h.1 h.2) ∙ ap (λ (m : Local V). m.held) same) ∙ e in
      absurd (cc)

  idle : (a : ℕ) (l : Local V) → slice_get o.now.locals a ≡ Some l → l.held ≡ []
  idle a l at = nothing_held l.held (λ i x e. nobody_holds a (r.spot x.0) (l, i, x, at, e, refl))

  all_back : AllSame o.now.row slots
  all_back k below = back (o.each_place k below)
    where
      back : IsPlace r fin.0.words fin.0.homes o.now k
          → (u : V) × (slice_get o.now.row k ≡ Some (Some u)) × (get_elem? slots k ≡ some (Some u))
      back (free u z h c) = (u, c, fin.4 k (Some u) h)
      back (out a z h c b) = absurd (nobody_holds a k b)

  size : length o.now.row ≡ length slots
  size = sym o.deep ∙ fin.3

  -- each slot has its value
  pub slot_there : (k : ℕ) (x : Option V) → slice_get slots k ≡ Some x → (u : V) × (x ≡ Some u)
  slot_there k x e =
      let b = all_back k (let q = slice_get_within slots k x e in let n = size in omega arith) in
      let q : Some x ≡ Some (Some b.0) = sym e ∙ read_so slots k (Some b.0) b.2 in
      (b.0, cc)

  pub leaves : (left : List (LockNo × V)) → all_home left ≡ slots → Left r start hands left
  leaves left e = let back_row = row_is o.now.row slots size all_back ∙ sym e in record {
    now = o.now;
    reached = subst (λ (w : State V). IsReached r w o.now) (sym knows.0) o.reached;
    locals = λ i h at. (stand_at r o.now o.owner id i hands h knows.1 at).at;
    seen = λ i h at. (stand_at r o.now o.owner id i hands h knows.1 at).seen;
    row = back_row;
    tags = λ c.
        let t = o.reached.tags c in
        let f : ℕ → V → ℕ = λ _ v. sum_by c (r.order v) in
        let a : row_sum f o.now.row ≡ sum_by (λ x. sum_by c (r.order x.1)) left =
        ap (row_sum f) back_row ∙ home_sum (λ v. sum_by c (r.order v)) left in
        let b = held_none r.spot f o.now.locals idle in
        let s : told r c start ≡ told r c o.start = ap (told r c) knows.0 in
        let n : noted r c start ≡ noted r c o.start = ap (noted r c) knows.0 in
        omega arith;
  }

-- ---- the hands, the last first

at_seam : {A : Type 0} (xs ys : List A) (x : A) → slice_get (xs ++ x ∷ ys) (length xs) ≡ Some x
at_seam [] ys x = refl
at_seam (z ∷ xs) ys x = at_seam xs ys x

module _ {V : Type 0} (g : Ground) (start : State V) (hands : List (Sitting V))
    (all : AllHands g start hands) where
  -- each of them is of the row, from its start, and holds nothing
  pub hand_is : (front back : List (Sitting V)) (h : Sitting V) → hands ≡ front ++ h ∷ back
      → (h.id ≡ g.id) × (h.start ≡ start) × (h.local.held ≡ [])
  hand_is front back h e =
      let at : slice_get hands (length front) ≡ Some h = ap (λ hs. slice_get hs (length front)) e
      ∙ at_seam front back h in (
        all.own (length front) h at,
        all.one_start (length front) h at,
        all.free
            (length front) h at,
      )

  -- the last one's seat stands for its actor
  pub last_seat : (spot : LockNo → ℕ) (front : List (Sitting V)) (h : Sitting V) (me : Mine V)
      → hands ≡ front ++ h ∷ []
      → me ≡ (alone h.start h.actor h.local h.seen, emptied spot h.local.held)
      → me ≡ (Open start (map seated (h ∷ [])), [])
  last_seat spot front h me e sits = let i = hand_is front [] h e in
      sits ∙ (λ j. (Open (i.1 j) (seated h ∷ []), emptied spot (i.2 j)))

  -- where no hand is left, the seat stands for all
  pub none_left : (front gone : List (Sitting V)) (me : Mine V) → length front ≡ 0
      → hands ≡ front ++ gone → me ≡ (Open start (map seated gone), [])
      → me ≡ (Open start (map seated hands), [])
  none_left [] gone me n e is = is ∙ (λ i. (Open start (map seated (sym e i)), []))
  none_left (h ∷ front) gone me n e is = absurd (omega arith)
